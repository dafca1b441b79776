-- `report::put_sends` meets its contract: the lines of the slots passed stand at their place.
use Rattle.std.proofs.Common.{◌/◌, length}
use Rattle.report.specs.Report.{send_lines}
use Rattle.report.proofs.Listing.{Unsent}
use Rattle.report.proofs.put_sends.Given as goal

abbrev pub invariant-loop-entries : goal.invariant-loop-entries
invariant-loop-entries l =
    Unsent l.nodes l.initial.area l.from (send_lines l.nodes (length l.plan / l.nodes) l.plan) l.area l.at l.entries-iterator
