-- The rows after an edit that nothing is wrong with.
--     count_after, rows_after_long      how many there are
--     few_after, good_after            they are few enough, and none is bad
-- Assumes nothing.
use mathlib.Core.Path.{◌≡◌}
use Prim.Native.Nat.{ℕ, suc, ◌-◌, ◌≤◌}
use native.Mathlib.Omega.{arith}
use mathlib.Core.List.{List, [], ◌∷◌}
use lib.ListN.{length, take, drop, length-append, length-drop}
use lib.Seq.{length-take-le}
use Rattle.table.specs.declared.Row.{Row}
use Rattle.table.specs.Table.{most_rows}
use Rattle.area.proofs.GoodRows.{AllGood, good_append, good_split}
use Rattle.edit_judge.specs.Judge.{Edit, Add, Change, Remove}
use Rattle.edit_judge.proofs.Refusals.{Fits}
use Rattle.edit_store.specs.Store.{rows_after}

-- The rows above row k.
above_long : (rows : List Row) (k : ℕ) → k ≤ length rows → length (take (k - 1) rows) ≡ k - 1
above_long rows k h = length-take-le (k - 1) rows (omega arith)

-- How many rows there are after an edit.
unfoldable pub count_after : ℕ → Edit → ℕ
count_after count (Add r) = suc count
count_after count (Change k r) = count
count_after count (Remove k) = count - 1

-- They are few enough.
count_few : (n count : ℕ) (e : Edit) → count ≤ most_rows → Fits n count e → count_after count e ≤ most_rows
unfolding Fits count_after
count_few n count (Add r) few h = h.0
count_few n count (Change k r) few h = few
count_few n count (Remove k) few h = omega arith

module _ (n : ℕ) (rows : List Row) where
  -- That many rows there are.
  pub rows_after_long : (e : Edit)
      → Fits n (length rows) e
      → length (rows_after rows e) ≡ count_after (length rows) e
  unfolding Fits rows_after count_after
  rows_after_long (Add r) h = omega (arith, length-append rows (r ∷ []))
  rows_after_long (Change k r) h =
      let both = length-append (take (k - 1) rows) (r ∷ drop k rows) in
      omega (arith, h.0.0, h.0.1, both, above_long rows k h.0.1, length-drop k rows)
  rows_after_long (Remove k) h =
      let both = length-append (take (k - 1) rows) (drop k rows) in
      omega (arith, h.0, h.1, both, above_long rows k h.1, length-drop k rows)

  -- The rows after an edit are still few enough.
  pub few_after : (e : Edit)
      → length rows ≤ most_rows
      → Fits n (length rows) e
      → length (rows_after rows e) ≤ most_rows
  few_after e few fits = omega (arith, rows_after_long e fits, count_few n (length rows) e few fits)

  -- No row is bad after an edit either.
  pub good_after : (e : Edit) → Fits n (length rows) e → AllGood n rows → AllGood n (rows_after rows e)
  unfolding Fits rows_after AllGood
  good_after (Add r) h g = good_append n rows (r ∷ []) g (h.1, tt)
  good_after (Change k r) h g =
      let above = (good_split n (k - 1) rows g).0 in
      good_append n (take (k - 1) rows) (r ∷ drop k rows) above (h.1, (good_split n k rows g).1)
  good_after (Remove k) h g =
      let above = (good_split n (k - 1) rows g).0 in
      good_append n (take (k - 1) rows) (drop k rows) above (good_split n k rows g).1
