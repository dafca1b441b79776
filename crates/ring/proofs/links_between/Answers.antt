-- `ring::links_between` meets its contract: each branch is one of the two laws of a distance.
-- Assumes nothing.
use native.Mathlib.Omega.{arith}
use Rattle.ring.proofs.Standing.{distance_ahead, distance_round}
use Rattle.ring.proofs.links_between.Goals as goal

pub returns-then-from-to : goal.returns-then-from-to
returns-then-from-to c =
    let a = c.args in
    omega (arith, distance_ahead a.nodes a.from.0 a.to.0 (omega arith) (omega arith))

pub returns-else-from-to : goal.returns-else-from-to
returns-else-from-to c =
    let a = c.args in
    omega (arith, distance_round a.nodes a.from.0 a.to.0 (omega arith) (omega arith))
