-- `edit_store::add_row` meets its contract: the way is counted in, the row put behind the last, the number of rows
-- raised.
-- Assumes nothing.
use Rattle.edit_store.proofs.Storing.{added}
use Rattle.edit_store.proofs.add_row.Goals as goal

pub returns : goal.returns
returns c =
    let a = c.args in
    added a.table.now a.row _ _ c.requires c.raise_loads.ensures c.put_row.ensures
