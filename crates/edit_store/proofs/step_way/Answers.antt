-- `edit_store::step_way` meets its contract: the stretches of the way are stepped, and no other link.
-- Assumes nothing.
use Rattle.edit_store.proofs.Stepping.{way_ahead, way_round}
use Rattle.edit_store.proofs.step_way.Goals as goal

pub returns-then-row : goal.returns-then-row
returns-then-row g c =
    let a = c.args in
    way_ahead g.by a.nodes a.row a.load.now c.requires.1.1.0 c.requires.1.1.1 c.min-from.ensures
    c.min-to.ensures c.if-row.true c.step_all.ensures

pub returns-else-row : goal.returns-else-row
returns-else-row g c =
    let a = c.args in
    way_round g.by a.nodes a.row a.load.now c.requires.1.1.0 c.requires.1.1.1 c.min-from.ensures
    c.min-to.ensures c.if-row.false c.step_all-else-row.ensures c.step_all-else-row-2.ensures
