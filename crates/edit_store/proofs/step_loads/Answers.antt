-- `edit_store::step_loads` meets its contract: the loads are lent as one part of the area.
-- Assumes nothing.
use Rattle.edit_store.proofs.Storing.{way_put}
use Rattle.edit_store.proofs.step_loads.Goals as goal

pub returns : goal.returns
returns g c =
    let a = c.args in
    way_put g.by a.nodes a.row a.table.now _ c.step_way.ensures
