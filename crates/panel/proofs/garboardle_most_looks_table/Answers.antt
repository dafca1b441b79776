-- `panel::garboardle_most_looks_table` meets its contract: what is said of the rows that are listed is said of all.
-- Assumes nothing.
use Rattle.area.specs.Area.{rows_in, nodes_in}
use Rattle.panel.proofs.Outcome.{listed_looks}
use Rattle.panel.proofs.garboardle_most_looks_table.Goals as goal

pub returns : goal.returns
returns c =
    let rows = rows_in c.args.table.now in
    listed_looks (nodes_in c.args.table.now) rows c.most_looks.result
    (rw (c.as_slice.ensures.value, c.list_rows-rows.ensures) at c.most_looks.ensures)
