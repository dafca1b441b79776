-- `edit_store::put_row` meets its contract: the row's place is lent as one part of the area.
-- Assumes nothing.
use Rattle.edit_store.proofs.Storing.{row_put_lem}
use Rattle.edit_store.proofs.put_row.Goals as goal

pub returns : goal.returns
returns c =
    let a = c.args in
    row_put_lem a.i a.row a.table.now _ c.put_numbers.ensures
