-- `jam_search::find_jam` meets its contract: after p turns `found` is the jam of fewest cells on the links below p.
-- Assumes nothing.
use mathlib.Core.Path.{◌≡◌}
use Rattle.slack.specs.Slack.{traffic_of}
use Rattle.jam.specs.Jam.{fewest_below}
use Rattle.jam_search.proofs.find_jam.Given as goal

abbrev pub invariant-loop-link : goal.invariant-loop-link
invariant-loop-link l = l.found ≡ fewest_below (traffic_of l.cargo) l.left l.slots l.link
