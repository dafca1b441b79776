-- How the rule sees rows of several cells: each cell is to it a row of its own, with its own due slot. A plan of cells
-- is then told in rows, and a row arrives with its last cell.
use Rattle.std.specs.Prelude.{ℕ, suc, pred, ◌-◌, ◌<◌, ◌≡◌, true, List, ◌∷◌, map, length, get_or, take}
use Rattle.lists.specs.Lists.{build, total}
use Rattle.slack.specs.Slack.{Traffic, traffic, plan_of, arrivals_of, is_late, stop_of}
use Rattle.slack.specs.declared.Stop.{Stop}
use Rattle.cells.specs.Rows.{Freight, per_cell, laid_out, owners, cell_links}

-- Cell j of l, counted from 1, is due l - j slots before its row; 0 where that would be before instant 0.
unfoldable pub dues_of : (len due : List ℕ) → List ℕ
dues_of len due = per_cell len (λ i j. get_or due i 0 - (get_or len i 0 - suc j))

unfoldable pub cell_dues : Freight → List ℕ
cell_dues F = dues_of F.len F.due

-- The traffic of all cells.
unfoldable pub cell_traffic : Freight → Traffic
cell_traffic F = traffic F.nodes (laid_out F.len F.dst) (cell_dues F)

-- The number of the row of the cell with that number, and 0 for 0, where each cell's owner is listed.
unfoldable pub owner_of : List ℕ → ℕ → ℕ
owner_of owner cell = get_or (0 ∷ owner) cell 0

-- A plan of cells, told in rows.
unfoldable pub told_by : (owner plan : List ℕ) → List ℕ
told_by owner plan = map (owner_of owner) plan

-- The rule's plan of a table, in rows.
unfoldable pub row_plan : Freight → ℕ → List ℕ
row_plan F slots = told_by (owners F) (plan_of (cell_traffic F) (cell_links F) slots)

-- Where a run of cells ends, told in rows: the instant, and the row of the lowest late cell, 0 where none is late.
unfoldable pub end_by : (owner : List ℕ) → Stop → Stop
end_by owner stop = record { row = owner_of owner stop.row; slot = stop.slot }

unfoldable pub row_stop : Freight → ℕ → Stop
row_stop F slots = end_by (owners F) (stop_of (cell_traffic F) (cell_links F) slots)

-- What is said of each row's last cell, the one before the next row's first, in a list that speaks of all cells.
unfoldable pub of_last_cells : (len cells : List ℕ) → List ℕ
of_last_cells len cells = build (length len) (λ i. get_or cells (pred (total (take (suc i) len))) 0)

-- Each row's delivery instant, in row order: that of its last cell.
unfoldable pub row_arrivals : Freight → ℕ → List ℕ
row_arrivals F slots = of_last_cells F.len (arrivals_of (cell_traffic F) (cell_links F) slots)

-- Row i is late at instant t: one of its cells is under way with a slack below zero.
unfoldable pub RowLate : Freight → (t : ℕ) → (left : List ℕ) → (i : ℕ) → Type 0
RowLate F t left i =
    (c : ℕ) × (c < length left) × (get_or (owners F) c 0 ≡ suc i) × (is_late (cell_traffic F) t left c ≡ true)
