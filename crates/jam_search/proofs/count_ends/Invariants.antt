-- `jam_search::count_ends` meets its contract: after i turns the counts are those of the first i cells.
-- Assumes nothing.
use mathlib.Core.Path.{◌≡◌}
use lib.ListN.{length}
use Rattle.slack.specs.Slack.{traffic_of}
use Rattle.jam_search.specs.Steps.{ends}
use Rattle.jam_search.proofs.count_ends.Given as goal

abbrev pub invariant-loop-i : goal.invariant-loop-i
invariant-loop-i l = l.counts ≡ ends (traffic_of l.cargo) l.left l.link (length l.fn.counts) l.i
