-- What the functions that only read an area show.
--     load_there, load_none      the load of a link that the ring has, and of one that it hasn't
--     loads_part                 the loads are one part of the area
--     build_more                 one row more
--     listed_few, listed_many    the rows that are listed
-- Assumes nothing.
use mathlib.Core.Path.{◌≡◌, refl, ◌∙◌, ap, sym}
use mathlib.Core.List.{List, [], ◌∷◌, ◌++◌}
use Prim.Native.Nat.{ℕ, zero, suc, ◌+◌, ◌-◌, ◌≤◌, ◌<◌, min}
use native.Mathlib.Nat.{le_of_suc-le-suc}
use native.Mathlib.Omega.{arith}
use borrow.Rule.Slice.PartMut.{mid_of, mid_len}
use lib.ListN.{length, get_or, take, drop, get_or-eq_default}
use Rattle.std.proofs.lemmas.List.{take_all}
use lib.Seq.{get_or-take, get_or-drop}
use Rattle.lists.specs.Lists.{build}
use Rattle.lists.proofs.Build.{length-build, get_or_build, is_build}
use Rattle.table.specs.Table.{most_rows}
use Rattle.table.specs.Steps.{none}
use Rattle.area.specs.Area.{most_links, loads_begin, row_place, room}
use Rattle.area.specs.Steps.{most_listed}
use Rattle.area.proofs.RowNumbers.{row_by_ext}
use Rattle.area.specs.Area.{nodes_in, count_in, load_in, loads_in, row_in, rows_in}

module _ (s : List ℕ) (m : ℕ) (most : m ≡ min (nodes_in s) most_links) where
  pub load_there : (p : ℕ) → p < m → get_or s (loads_begin + p) 0 ≡ get_or (loads_in s) p 0
  unfolding loads_in load_in
  load_there p h = sym (get_or_build (min (nodes_in s) most_links) (load_in s) p 0 (omega arith))

  pub load_none : (p : ℕ) → m ≤ p → 0 ≡ get_or (loads_in s) p 0
  unfolding loads_in
  load_none p h =
      let many = length-build (min (nodes_in s) most_links) (load_in s) in
      sym (get_or-eq_default (loads_in s) 0 {n = p} (omega (arith, many)))

  pub loads_part : length s ≡ room → mid_of loads_begin (loads_begin + m - loads_begin) s ≡ loads_in s
  unfolding loads_in load_in
  loads_part whole =
      is_build (min (nodes_in s) most_links) (load_in s) 0 (mid_of loads_begin long s)
      (mid_len loads_begin (loads_begin + m) s (omega arith) ∙ omega arith) entry
    where
      long : ℕ
      long = loads_begin + m - loads_begin

      entry : (p : ℕ) → p < min (nodes_in s) most_links → get_or (mid_of loads_begin long s) p 0 ≡ load_in s p
      entry p h = get_or-take long (drop loads_begin s) p 0 (omega arith) ∙ get_or-drop loads_begin s p 0

-- One row more, put behind those built so far.
pub build_more {ℓ} : {A : Type ℓ} (i : ℕ) (f : ℕ → A) → build i f ++ (f i ∷ []) ≡ build (suc i) f
build_more zero f = refl
build_more {A} (suc i) f = ap {B = List A} (λ l. f 0 ∷ l) (build_more i (λ j. f (suc j)))

-- The first k of the entries that a rule builds.
take_build {ℓ} : {A : Type ℓ} (k n : ℕ) (f : ℕ → A) → k ≤ n → take k (build n f) ≡ build k f
take_build zero n f h = refl
take_build (suc k) zero f h = absurd (omega arith)
take_build {A} (suc k) (suc n) f h = ap {B = List A} (λ l. f 0 ∷ l) (take_build k n (λ j. f (suc j)) (le_of_suc-le-suc h))

-- The rows of an area that gives no more than a table may have, and those that are listed of one that gives more: past
-- the last place there is the row of four zeros.
module _ (s : List ℕ) where
  pub listed_few : count_in s ≤ most_rows → build (count_in s) (row_in s) ≡ take most_listed (rows_in s)
  unfolding rows_in
  listed_few few = sym (take_all most_listed (build (count_in s) (row_in s)) (omega (arith, length-build (count_in s) (row_in s))))

  past_last : length s ≡ room → row_in s most_rows ≡ none
  unfolding row_in
  past_last whole = row_by_ext _ (λ j. 0) (λ j l. get_or-eq_default s 0 {n = row_place most_rows + j} (omega arith))

  pub listed_many : (i : ℕ) → i ≡ most_rows → length s ≡ room → i < count_in s
      → build i (row_in s) ++ (none ∷ []) ≡ take most_listed (rows_in s)
  unfolding rows_in
  listed_many i e whole many =
      let last : row_in s i ≡ none = ap (row_in s) e ∙ past_last whole in
      rw (sym last) (build_more i (row_in s))
      ∙ sym (take_build (suc i) (count_in s) (row_in s) many)
      ∙ ap (λ (k : ℕ). take (suc k) (build (count_in s) (row_in s))) e
