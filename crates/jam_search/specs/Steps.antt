-- What the search asks, and what its steps give. Nothing here has to be believed.
use Rattle.std.specs.Prelude.{ℕ, suc, ◌-◌, ◌≤◌, ◌<◌, Bool, cond, ◌&&◌, List, Option, None, Some, eqb, leb, length, get_or}
use Rattle.lists.specs.Lists.{build}
use Rattle.slack.specs.Slack.{Traffic, OnRing}
use Rattle.ring.specs.Ring.{distance}
use Rattle.jam.specs.Jam.{how_many}

-- What the search asks: cells on the ring, not too many of anything, and a place for each due slot.
pub record Searched (T : Traffic) (start : List ℕ) (size : ℕ) : Type 0 where
  pub ring : OnRing T start
  pub small : T.nodes ≤ 32
  pub few : length start ≤ 1024
  pub dues : (i : ℕ) → i < length start → get_or T.due i 0 < size
  pub short : size ≤ 1025

-- The first slot before which a cell with `left` links to go to node q must cross link p, if it has to cross it.
unfoldable pub end_of : (n q due left p : ℕ) → Option ℕ
end_of n q due left p = cond (leb (distance n p q) left) (Some (suc due - distance n p q)) None

-- Cell i has to cross link p, and the first slot before which it must is b.
unfoldable pub ends_at : Traffic → (start : List ℕ) → (p b i : ℕ) → Bool
ends_at T start p b i =
    leb (distance T.nodes p (get_or T.dst i 0)) (get_or start i 0)
    && eqb (suc (get_or T.due i 0) - distance T.nodes p (get_or T.dst i 0)) b

-- For each slot b below `size`, how many of the first i cells that is so of.
unfoldable pub ends : Traffic → (start : List ℕ) → (p size i : ℕ) → List ℕ
ends T start p size i = build size (λ b. how_many i (ends_at T start p b))
