-- `reason::mark` meets its contract: after i turns the counts are those of the first i cells.
-- Assumes nothing.
use mathlib.Core.Path.{◌≡◌}
use lib.ListN.{length}
use Rattle.slack.specs.Slack.{traffic_of, owners_in}
use Rattle.reason.specs.Steps.{marks_by}
use Rattle.reason.proofs.mark.Given as goal

abbrev pub invariant-loop-i : goal.invariant-loop-i
invariant-loop-i l =
    l.members
    ≡ marks_by (traffic_of l.cargo) (owners_in l.cargo.cells.now) l.left l.jam.link.0 l.jam.before.0 (length l.fn.members) l.i
