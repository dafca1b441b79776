-- `ring::node_at` meets its contract: each branch is one of the two laws of the turn past node 0.
-- Assumes nothing.
use native.Mathlib.Omega.{arith}
use Rattle.ring.specs.Ring.{standing}
use Rattle.ring.proofs.Turn.{short_of_zero, past_zero}
use Rattle.ring.proofs.node_at.Goals as goal

pub returns-then-left-to : goal.returns-then-left-to
unfolding standing
returns-then-left-to c =
    let a = c.args in
    omega (arith, short_of_zero a.nodes a.left.0 a.to.0 (omega arith) (omega arith))

pub returns-else-left-to : goal.returns-else-left-to
unfolding standing
returns-else-left-to c =
    let a = c.args in
    omega (arith, past_zero a.nodes a.left.0 a.to.0 (omega arith) (omega arith))
