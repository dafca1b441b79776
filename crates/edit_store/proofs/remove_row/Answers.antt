-- `edit_store::remove_row` meets its contract: the way is counted out, the gap closed, and the number of rows lowered.
-- Assumes nothing.
use mathlib.Core.Path.{refl}
use Rattle.edit_store.proofs.Storing.{removed}
use Rattle.edit_store.proofs.remove_row.Goals as goal

pub returns : goal.returns
returns c =
    let a = c.args in
    removed a.table.now a.number c.requires _ _ _ _ _ refl refl c.row_in-gone.ensures
    c.lower_loads.ensures c.close_gap.ensures
