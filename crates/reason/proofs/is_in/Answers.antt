-- `reason::is_in` meets its contract: the slot and the links between fit in 16 bits.
-- Assumes nothing.
use native.Mathlib.Omega.{arith}
use Rattle.ring.proofs.Standing.{away}
use Rattle.reason.proofs.is_in.Goals as goal

pub overflow_add-result : goal.overflow_add-result
overflow_add-result c =
    let near = (away c.args.nodes c.args.jam.link.0 c.args.cell.dst.0 c.requires.0 c.requires.1).within in
    omega (arith, c.links_between-on.ensures, near, c.requires.2, c.requires.3)
