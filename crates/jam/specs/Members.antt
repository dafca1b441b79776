-- The jam of a table, and how many of each row's cells are in it.
use Rattle.std.specs.Prelude.{ℕ, suc, ◌&&◌, List, Option, eqb, length, get_or}
use Rattle.lists.specs.Lists.{build}
use Rattle.cells.specs.Rows.{Freight, owners, cell_links}
use Rattle.cells.specs.Cells.{cell_traffic}
use Rattle.jam.specs.declared.Jam.{Jam}
use Rattle.jam.specs.Jam.{crosses_before, how_many, the_jam}

-- The jam of the cells of a table, if it has one.
unfoldable pub row_jam : Freight → (slots : ℕ) → Option Jam
row_jam F slots = the_jam (cell_traffic F) (cell_links F) slots

-- How many cells of row i must cross link p before slot b.
unfoldable pub of_row : Freight → (p b i : ℕ) → ℕ
of_row F p b i =
    how_many (length (cell_links F)) (λ c.
    eqb (get_or (owners F) c 0) (suc i) && crosses_before (cell_traffic F) (cell_links F) p b c)

-- That of each row, in row order.
unfoldable pub members_of : Freight → (p b : ℕ) → List ℕ
members_of F p b = build (length F.len) (of_row F p b)
