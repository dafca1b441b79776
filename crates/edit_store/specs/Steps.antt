-- What single steps of the code ask. No promise of an entry point mentions this; nothing here has to be believed.
use Rattle.std.specs.Prelude.{ℕ, suc, ◌≤◌, ◌<◌, ◌^◌, ◌≡◌, List, ◌++◌, length, get_or, take, drop}
use Rattle.lists.specs.Lists.{build}
use Rattle.table.specs.declared.Row.{Row}
use Rattle.table.specs.Table.{most_rows, row_numbers}
use Rattle.area.specs.Area.{most_links, loads_begin, rows_begin, row_place, room, nodes_in, count_in}
use Rattle.edit_store.specs.Store.{step_for}

-- A step may be taken from every count, and gives what the rule gives.
pub record Steps {F : Type 0} (IsAlwaysCallable : F → Type 0) (post : F → ℕ → ℕ → Type 0) (step : F) (by : ℕ → ℕ) : Type 0 where
  pub ready : IsAlwaysCallable step
  pub gives : (x y : ℕ) → x < 2 ^ 16 → post step x y → y ≡ by x

-- The counts of all links after the links of a row's way are stepped.
unfoldable pub stepped_way : (by : ℕ → ℕ) → ℕ → Row → List ℕ → List ℕ
stepped_way by n r counts = build most_links (λ p. step_for by n r p (get_or counts p 0))

-- An area with the counts of a row's way stepped, on a ring of n nodes.
unfoldable pub way_stepped : (by : ℕ → ℕ) → ℕ → Row → List ℕ → List ℕ
way_stepped by n r s =
    take loads_begin s ++ (stepped_way by n r (take most_links (drop loads_begin s)) ++ drop rows_begin s)

-- An area with a row put at place i.
unfoldable pub row_put : ℕ → Row → List ℕ → List ℕ
row_put i r s = take (row_place i) s ++ (row_numbers r ++ drop (row_place (suc i)) s)

-- An area with room for one row more.
pub record Roomy (s : List ℕ) : Type 0 where
  pub whole : length s ≡ room
  pub on_ring : nodes_in s ≤ most_links
  pub more : count_in s < most_rows

-- An area with a row k.
pub record There (s : List ℕ) (k : ℕ) : Type 0 where
  pub whole : length s ≡ room
  pub on_ring : nodes_in s ≤ most_links
  pub few : count_in s ≤ most_rows
  pub first : 1 ≤ k
  pub last : k ≤ count_in s
