-- A table is well-formed exactly if document 01's conditions hold of it, each in its own words.
--     well_formed_iff      well-formed, and the conditions on the nodes, the rows and their cells
-- Assumes nothing.
use mathlib.Core.Path.{◌≡◌, refl, ◌∙◌}
use mathlib.Core.Logic.{◌↔◌}
use Prim.Native.Nat.{ℕ, suc, ◌≤◌, ◌<◌}
use native.Mathlib.Omega.{arith}
use mathlib.Core.List.{List, [], ◌∷◌}
use borrow.Author.Tests.{lt-leb, ne_eqb, le-ltb}
use lib.ListN.{length, get_or}
use Rattle.table.specs.declared.Row.{Row}
use Rattle.std.specs.Prelude.{Ok}
use Rattle.table.specs.Table.{WellFormed, row_refusal, judge_rows, after_row, cells_in, most_cells, most_length, latest_due}
use Rattle.table.specs.Steps.{none}
use Rattle.table.proofs.Judging.{GoodRow, good_rows, all_few}
use Rattle.table.proofs.Whole.{sound, judge_each}

-- N is 2 to 32, there are at most 512 rows with at most 1,024 cells in all, and of each row the source and the
-- destination lie below N, the length is 1 to 64 and the due slot 1 to 1,024 (`GoodRow`).
pub record Conditions (n : ℕ) (rows : List Row) : Type 0 where
  pub nodes_least : 2 ≤ n
  pub nodes_most : n ≤ 32
  pub rows_most : length rows ≤ 512
  pub cells_most : cells_in rows ≤ most_cells
  pub each_row : (i : ℕ) → i < length rows → GoodRow n (get_or rows i none)

-- Nothing is wrong with a row of which the conditions hold.
nothing_wrong : (n : ℕ) (r : Row) → GoodRow n r → row_refusal n r ≡ Ok tt
unfolding row_refusal
nothing_wrong n r good =
    rw (
      lt-leb n r.src good.src_inside,
      lt-leb n r.dst good.dst_inside,
      ne_eqb r.len 0 (λ e. omega (arith, good.len_some)),
      le-ltb most_length r.len good.len_most,
      ne_eqb r.due 0 (λ e. omega (arith, good.due_some)),
      le-ltb latest_due r.due good.due_most,
    )

all_let_through : (n : ℕ) (rows : List Row) (above : ℕ) → ((i : ℕ) → i < length rows → GoodRow n (get_or rows i none))
    → judge_rows n rows above ≡ Ok tt
unfolding judge_rows after_row
all_let_through n [] above good = refl
all_let_through n (r ∷ rows) above good =
    rw (nothing_wrong n r (good 0 (omega arith)))
    (all_let_through n rows (suc above) (λ i l. good (suc i) (omega arith)))

-- A table is well-formed exactly if the conditions hold of it.
pub well_formed_iff : (n : ℕ) (rows : List Row) → WellFormed n rows ↔ Conditions n rows
well_formed_iff n rows = (
  λ well.
      let s = sound n rows well in
      record {
        nodes_least = s.least;
        nodes_most = s.most;
        rows_most = s.few;
        cells_most = s.cells;
        each_row = good_rows n rows 0 s.each;
      },
  λ c.
      judge_each n rows c.nodes_least c.nodes_most c.rows_most
      ∙ all_few n rows (all_let_through n rows 0 c.each_row) c.cells_most,
)
