-- `slot::pass_node_0` meets its contract: one figure is corrected, or none.
-- Assumes nothing.
use native.Mathlib.Omega.{arith}
use Rattle.slot.proofs.Turning.{turned_none, corrected}
use Rattle.slot.proofs.pass_node_0.Goals as goal

pub returns-then-row-eq0 : goal.returns-then-row-eq0
returns-then-row-eq0 c =
    let a = c.args in
    turned_none a.nodes a.slot.now a.figure.now c.if-row-eq0.true

pub returns : goal.returns
returns c = corrected c.requires c.if-row-eq0.false (omega arith)
