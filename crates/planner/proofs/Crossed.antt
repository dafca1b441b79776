-- The sends of a table: counted over its rows they are those of its columns, and those of its cells.
--     few_crossed       no more than m times the cells, where no row has more than m links to go
--     cells_cross       each cell of a row crosses the row's links
--     table_crossed, sends_of_cells      the sends of a table, by its lengths and distances, and by its cells
-- Assumes nothing.
use mathlib.Core.Path.{◌≡◌, refl, ◌∙◌, sym}
use Prim.Native.Nat.{ℕ, zero, suc, ◌*◌, ◌≤◌}
use native.Mathlib.Nat.{le_refl, mul-le-mul, mul-add, mul_comm}
use native.Mathlib.Omega.{arith}
use mathlib.Core.List.{List, [], ◌∷◌}
use lib.ListN.{length, get_or}
use Rattle.lists.specs.Lists.{build, total}
use Rattle.lists.proofs.Sums.{total_joined, total_same}
use Rattle.table.specs.declared.Row.{Row}
use Rattle.table.specs.Table.{lengths, distances, sends_of}
use Rattle.cells.specs.Rows.{per_cell, laid_out, cell_links}
use Rattle.planner.specs.Planner.{freight_of}
use Rattle.planner.specs.Steps.{crossed}

-- The sum of a rule over all cells of rows, where it gives all cells of a row the same.
over_cells : (len : List ℕ) (f : ℕ → ℕ)
    → total (per_cell len (λ i j. f i)) ≡ total (build (length len) (λ i. get_or len i 0 * f i))
unfolding per_cell total
over_cells [] f = refl
over_cells (l ∷ ls) f =
    omega (
      arith,
      total_joined (build l (λ j. f 0)) (per_cell ls (λ i j. f (suc i))),
      total_same l (f 0),
      over_cells ls (λ i. f (suc i)),
    )

-- No more than m times the cells, where no row has more than m links to go.
pub few_crossed : (m : ℕ) (len : List ℕ) (links : ℕ → ℕ) → ((j : ℕ) → links j ≤ m)
    → (i : ℕ) → total (build i (λ j. get_or len j 0 * links j)) ≤ m * total len
unfolding total
few_crossed m len links near zero = omega arith
few_crossed m [] links near (suc i) = omega (arith, few_crossed m [] (λ j. links (suc j)) (λ j. near (suc j)) i)
few_crossed m (l ∷ ls) links near (suc i) =
    omega (
      arith,
      mul-le-mul (le_refl l) (near 0),
      few_crossed m ls (λ j. links (suc j)) (λ j. near (suc j)) i,
      mul-add m l (total ls),
      mul_comm m l,
    )

-- Each cell of a row crosses the row's links.
pub cells_cross : (len links : List ℕ) → total (laid_out len links) ≡ crossed len links
unfolding laid_out crossed
cells_cross len links = over_cells len (λ i. get_or links i 0)

-- The sends of a table, by its lengths and distances.
pub table_crossed : (n : ℕ) (rows : List Row) → sends_of n rows ≡ crossed (lengths rows) (distances n rows)
unfolding sends_of crossed lengths distances total
table_crossed n [] = refl
table_crossed n (r ∷ rows) = omega (arith, table_crossed n rows)

-- And by its cells.
pub sends_of_cells : (n : ℕ) (rows : List Row) → sends_of n rows ≡ total (cell_links (freight_of n rows))
unfolding cell_links
sends_of_cells n rows = table_crossed n rows ∙ sym (cells_cross (lengths rows) (distances n rows))
