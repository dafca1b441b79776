-- `edit_store::change_row` meets its contract: the old way is counted out, the new one in, and the row put in its
-- place.
-- Assumes nothing.
use Rattle.edit_store.proofs.Storing.{changed}
use Rattle.edit_store.proofs.change_row.Goals as goal

pub returns : goal.returns
returns c =
    let a = c.args in
    changed a.table.now a.number c.requires a.row _ _ _ _ c.row_in-old.ensures
    c.lower_loads.ensures c.raise_loads.ensures c.put_row.ensures
