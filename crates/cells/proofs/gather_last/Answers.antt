-- `cells::gather_last` meets its contract: the first i rows have their last cell's number.
-- Assumes nothing.
use native.Mathlib.Omega.{arith}
use Rattle.table.specs.Steps.{none}
use Rattle.cells.proofs.Laying.{gathering_none, gathering_inside, gathering_more, gathering_all}
use Rattle.cells.proofs.gather_last.Goals as goal

pub loop-i-init : goal.loop-i-init
loop-i-init c = gathering_none _ _ _ c.requires.0 c.requires.1 c.requires.2

pub overflow_add-next : goal.overflow_add-next
overflow_add-next c = omega (arith, gathering_inside c.loop-i.invariant none (omega arith))

pub overflow_sub-arrivals : goal.overflow_sub-arrivals
overflow_sub-arrivals c = omega (arith, gathering_inside c.loop-i.invariant none (omega arith))

pub offset_bounds-stamps-next : goal.offset_bounds-stamps-next
offset_bounds-stamps-next c = omega (arith, gathering_inside c.loop-i.invariant none (omega arith))

pub bounds-stamps-next : goal.bounds-stamps-next
bounds-stamps-next c = omega (arith, gathering_inside c.loop-i.invariant none (omega arith))

pub loop-i-preserved : goal.loop-i-preserved
loop-i-preserved c = gathering_more c.loop-i.invariant none (omega arith)

pub returns : goal.returns
returns c = gathering_all c.loop-i.invariant (omega arith)
