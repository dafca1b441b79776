-- `table::measure` meets its contract: after i turns the first i distances are written.
-- Assumes nothing.
use Rattle.std.proofs.Common.{◌≡◌, get_or}
use Rattle.lists.proofs.Filling.{filled}
use Rattle.ring.specs.Ring.{distance}
use Rattle.table.specs.Steps.{none}
use Rattle.table.proofs.measure.Given as goal

abbrev pub invariant-loop-i : goal.invariant-loop-i
invariant-loop-i l =
    l.left ≡ filled (λ j. distance l.nodes (get_or l.rows j none).src (get_or l.rows j none).dst) l.initial.left l.i
