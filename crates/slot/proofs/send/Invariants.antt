-- `slot::send` meets its contract: after p turns the rows that the first p links name have been moved and stamped.
-- Assumes nothing.
use mathlib.Core.Path.{◌≡◌}
use lib.ListN.{take}
use Rattle.slot.specs.Steps.{less, stamped}
use Rattle.slot.proofs.send.Given as goal

abbrev pub invariant-loop-row : goal.invariant-loop-row
invariant-loop-row l =
    (l.left ≡ less (take l.row-index l.slot) l.initial.left)
    × (l.arrivals ≡ stamped (take l.row-index l.slot) l.end l.initial.arrivals)
