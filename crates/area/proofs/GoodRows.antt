-- Lists of rows of which none is bad, and what that has to do with judging a table.
--     AllGood                          no row of the list is bad
--     good_append, good_split          two such lists in one, and the two parts of one
--     judged_good, good_judged         such a list is judged good, and one that is judged good is such a list
--     cells_few                        it has at most 64 cells a row
-- Assumes nothing.
use mathlib.Core.Path.{◌≡◌, refl, sym, subst}
use Prim.Native.Nat.{ℕ, suc, ◌*◌, ◌≤◌}
use native.Mathlib.Omega.{arith}
use mathlib.Core.List.{List, [], ◌∷◌, ◌++◌}
use lib.ListN.{length, take, drop, take-append-drop}
use Rattle.std.proofs.Common.{Result, Ok, Err}
use Rattle.lists.specs.Lists.{total}
use Rattle.table.specs.declared.Row.{Row}
use Rattle.table.specs.Table.{most_length, row_refusal, after_row, judge_rows, lengths, cells_in}
use Rattle.table.proofs.Judging.{never_good, good_row}

-- No row of the list is bad.
unfoldable pub AllGood : ℕ → List Row → Type 0
AllGood n [] = Unit
AllGood n (r ∷ rows) = (row_refusal n r ≡ Ok tt) × AllGood n rows

module _ (n : ℕ) where
  -- Rows of which none is bad are judged good.
  pub judged_good : (rows : List Row) (above : ℕ) → AllGood n rows → judge_rows n rows above ≡ Ok tt
  unfolding AllGood judge_rows after_row
  judged_good [] above g = refl
  judged_good (r ∷ rows) above g = rw g.0 (judged_good rows (suc above) g.1)

  -- Rows that are judged good have no bad one among them.
  pub good_judged : (rows : List Row) (above : ℕ) → judge_rows n rows above ≡ Ok tt → AllGood n rows
  unfolding AllGood judge_rows after_row
  good_judged [] above e = tt
  good_judged (r ∷ rows) above e = go (row_refusal n r) refl e (good_judged rows (suc above))
    where
      go : (v : Result Unit ℕ)
          → row_refusal n r ≡ v
          → after_row v (suc above) (judge_rows n rows (suc above)) ≡ Ok tt
          → (judge_rows n rows (suc above) ≡ Ok tt → AllGood n rows) → (row_refusal n r ≡ Ok tt) × AllGood n rows
      go (Ok _) f e rest = (f, rest e)
      go (Err _) f e rest = absurd (never_good _ e)

  -- Two lists without a bad row, one behind the other.
  pub good_append : (xs ys : List Row) → AllGood n xs → AllGood n ys → AllGood n (xs ++ ys)
  unfolding AllGood
  good_append [] ys g h = h
  good_append (r ∷ xs) ys g h = (g.0, good_append xs ys g.1 h)

  -- The two parts of a list without a bad row.
  good_parts : (xs ys : List Row) → AllGood n (xs ++ ys) → AllGood n xs × AllGood n ys
  unfolding AllGood
  good_parts [] ys g = (tt, g)
  good_parts (r ∷ xs) ys g = let both = good_parts xs ys g.1 in ((g.0, both.0), both.1)

  -- The rows above a place, and those from it on.
  pub good_split : (i : ℕ) (rows : List Row) → AllGood n rows → AllGood n (take i rows) × AllGood n (drop i rows)
  good_split i rows g = good_parts (take i rows) (drop i rows) (subst (AllGood n) (sym (take-append-drop i rows)) g)

  -- Rows of which none is bad have at most 64 cells each.
  pub cells_few : (rows : List Row) → AllGood n rows → cells_in rows ≤ most_length * length rows
  unfolding AllGood cells_in lengths total
  cells_few [] g = omega arith
  cells_few (r ∷ rows) g = omega (arith, (good_row n r g.0).len_most, cells_few rows g.1)
