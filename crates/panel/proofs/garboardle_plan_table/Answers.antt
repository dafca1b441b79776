-- `panel::garboardle_plan_table` meets its contract: what is planned of the rows that are listed is planned of all.
-- Assumes nothing.
use Rattle.area.specs.Area.{rows_in, nodes_in}
use Rattle.panel.proofs.Outcome.{listed_planned}
use Rattle.panel.proofs.garboardle_plan_table.Goals as goal

pub returns : goal.returns
returns c =
    let rows = rows_in c.args.table.now in
    listed_planned (nodes_in c.args.table.now) rows
    (rw (c.as_slice.ensures.value, c.list_rows-rows.ensures) at c.plan.ensures) c.into.ensures
