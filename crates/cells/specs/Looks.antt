-- How many looks a run takes (document 02, Ask 7): one look is one undelivered cell at one instant at which the rule is
-- applied. A row of the traffic is a cell here.
use Rattle.std.specs.Prelude.{ℕ, zero, suc, ◌+◌, List}
use Rattle.slack.specs.Slack.{Traffic, state_at, stop_of}
use Rattle.optimal.specs.Schedule.{busy}
use Rattle.cells.specs.Rows.{Freight, cell_links}
use Rattle.cells.specs.Cells.{cell_traffic}

-- The looks at the first t instants: at each, the cells that have links to go.
unfoldable pub looks_to : Traffic → (start : List ℕ) → ℕ → ℕ
looks_to T start zero = 0
looks_to T start (suc t) = looks_to T start t + busy (state_at T start t)

-- The looks of a run, at all instants up to and with the one at which it ends; where it ends because every cell is
-- delivered, that one adds none.
unfoldable pub looks_of : Traffic → (start : List ℕ) → (slots : ℕ) → ℕ
looks_of T start slots = looks_to T start (suc (stop_of T start slots).slot.0)

-- The looks of a run of rows are those at their cells.
unfoldable pub row_looks : Freight → (slots : ℕ) → ℕ
row_looks F slots = looks_of (cell_traffic F) (cell_links F) slots
