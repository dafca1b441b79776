-- `jam_search::first_in` meets its contract: at slot b the link is overfull before none of the slots in front, and the
-- cells are those that must cross before them.
-- Assumes nothing.
use Rattle.slack.specs.Slack.{traffic_of}
use Rattle.jam_search.proofs.Searching.{Scanned}
use Rattle.jam_search.proofs.first_in.Given as goal

abbrev pub invariant-loop-b : goal.invariant-loop-b
invariant-loop-b l = Scanned (traffic_of l.cargo) l.left l.link l.slots l.b l.sum
