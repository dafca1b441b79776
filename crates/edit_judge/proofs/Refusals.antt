-- What an edit, and a table, is like that nothing is wrong with.
--     neither                          where no refusal is the first of two, there is none
--     size_fits, size_of               the nodes and rows of an area that isn't refused by its sizes
--     number_fits                      a row number that is there
--     Fits, edit_fits                  an edit that isn't refused: there is room or the row is there, its row is good
--     judged_by_cells                  a table within its sizes that has no bad row is judged by its cells alone
-- Assumes nothing.
use mathlib.Core.Path.{◌≡◌, refl}
use Prim.Native.Nat.{ℕ, ◌≤◌, ◌<◌}
use native.Mathlib.Omega.{arith}
use mathlib.Core.Bool.{Bool, true, false, cond, ◌||◌}
use mathlib.Core.List.{List}
use borrow.Author.Tests.{eqb-false, ltb-false, le-ltb}
use lib.Dec.{eqb, ltb}
use lib.ListN.{length}
use Rattle.std.proofs.Common.{Result, Ok, Err}
use Rattle.table.specs.declared.Row.{Row}
use Rattle.table.specs.Table.{most_rows, most_cells, Verdict, refuse, row_refusal, cells_in, after_rows, judge_all, judge}
use Rattle.area.specs.Area.{most_links}
use Rattle.area.proofs.GoodRows.{AllGood, judged_good}
use Rattle.edit_judge.specs.Judge.{Edit, Add, Change, Remove, first_of, size_refusal, number_refusal, refusal_of}

-- Where no refusal is the first of two, there is none.
pub neither : (a b : Result Unit ℕ) → first_of a b ≡ Ok tt → (a ≡ Ok tt) × (b ≡ Ok tt)
unfolding first_of
neither (Ok _) b e = (refl, e)
neither (Err _) b e = absurd cc

-- At most 512 rows are refused no otherwise than none.
pub size_of : (n count : ℕ) → count ≤ most_rows → size_refusal n count ≡ size_refusal n 0
unfolding size_refusal
size_of n count few = rw (le-ltb most_rows count few)

-- Nodes and rows that no refusal holds of.
pub record Sized (n count : ℕ) : Type 0 where
  pub least : 2 ≤ n
  pub most : n ≤ most_links
  pub few : count ≤ most_rows

-- An area that isn't refused by its sizes has 2 to 32 nodes and at most 512 rows.
pub size_fits : (n count : ℕ) → size_refusal n count ≡ Ok tt → Sized n count
unfolding size_refusal
size_fits n count e = go (ltb n 2) refl (ltb most_links n) refl (ltb most_rows count) refl e
  where
    go : (a : Bool) → ltb n 2 ≡ a
        → (b : Bool) → ltb most_links n ≡ b
        → (c : Bool) → ltb most_rows count ≡ c
        → ◌≡◌ {A = Result Unit ℕ} (cond (a || b) (Err 1) (cond c (Err 2) (Ok tt))) (Ok tt)
        → Sized n count
    go true ea b eb c ec z = absurd cc
    go false ea true eb c ec z = absurd cc
    go false ea false eb true ec z = absurd cc
    go false ea false eb false ec z =
        record { least = ltb-false n 2 ea; most = ltb-false most_links n eb; few = ltb-false most_rows count ec }

-- A row number that is there.
pub number_fits : (count k : ℕ) → number_refusal count k ≡ Ok tt → (0 < k) × (k ≤ count)
unfolding number_refusal
number_fits count k e = go (eqb k 0) refl (ltb count k) refl e
  where
    go : (a : Bool) → eqb k 0 ≡ a
        → (b : Bool) → ltb count k ≡ b
        → ◌≡◌ {A = Result Unit ℕ} (cond (a || b) (Err 12) (Ok tt)) (Ok tt)
        → (0 < k) × (k ≤ count)
    go true ea b eb z = absurd cc
    go false ea true eb z = absurd cc
    go false ea false eb z = (omega (arith, eqb-false k 0 ea), ltb-false count k eb)

-- An edit of a table of n nodes and `count` rows that nothing is wrong with.
unfoldable pub Fits : (n count : ℕ) → Edit → Type 0
Fits n count (Add r) = (count < most_rows) × (row_refusal n r ≡ Ok tt)
Fits n count (Change k r) = ((0 < k) × (k ≤ count)) × (row_refusal n r ≡ Ok tt)
Fits n count (Remove k) = (0 < k) × (k ≤ count)

-- A table that has not 512 rows, and no more, has room for one.
room_left : (count : ℕ) → count ≤ most_rows → ◌≡◌ {A = Result Unit ℕ} (cond (eqb count most_rows) (Err 2) (Ok tt)) (Ok tt) → count < most_rows
room_left count few e = go (eqb count most_rows) refl e
  where
    go : (t : Bool) → eqb count most_rows ≡ t → ◌≡◌ {A = Result Unit ℕ} (cond t (Err 2) (Ok tt)) (Ok tt) → count < most_rows
    go true f z = absurd cc
    go false f z = omega (arith, eqb-false count most_rows f)

-- An edit that isn't refused fits, and the table's sizes do.
pub edit_fits : (n count : ℕ) (e : Edit) → refusal_of n count e ≡ Ok tt → Sized n count × Fits n count e
unfolding refusal_of Fits
edit_fits n count (Add r) h =
    let a = neither _ _ h in
    let b = neither _ _ a.1 in
    let sized = size_fits n count a.0 in
    (sized, (room_left count sized.few b.0, b.1))
edit_fits n count (Change k r) h =
    let a = neither _ _ h in
    let b = neither _ _ a.0 in
    (size_fits n count b.0, (number_fits count k b.1, a.1))
edit_fits n count (Remove k) h =
    let a = neither _ _ h in
    (size_fits n count a.0, number_fits count k a.1)

-- A table within its sizes that has no bad row is judged by its cells alone: it is good, or refused with 11.
pub judged_by_cells : (n : ℕ) (rows : List Row)
    → size_refusal n (length rows) ≡ Ok tt
    → AllGood n rows
    → judge n rows ≡ cond (ltb most_cells (cells_in rows)) (Err (refuse 11 0 0)) (Ok tt)
unfolding size_refusal judge judge_all after_rows
judged_by_cells n rows e g = go (ltb n 2 || ltb most_links n) (ltb most_rows (length rows)) e
  where
    cells : Verdict
    cells = cond (ltb most_cells (cells_in rows)) (Err (refuse 11 0 0)) (Ok tt)

    go : (a b : Bool)
        → ◌≡◌ {A = Result Unit ℕ} (cond a (Err 1) (cond b (Err 2) (Ok tt))) (Ok tt)
        → cond a (Err (refuse 1 0 0)) (cond b (Err (refuse 2 0 0)) (judge_all n rows)) ≡ cells
    go true b e = absurd cc
    go false true e = absurd cc
    go false false e = rw (judged_good n rows 0 g)
