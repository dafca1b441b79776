-- `report::put_arrives` meets its contract: the lines of the arrivals passed stand at their place.
use Rattle.std.proofs.Common.{drop}
use Rattle.report.specs.Report.{arrive_lines}
use Rattle.text.proofs.Putting.{Putting}
use Rattle.report.proofs.put_arrives.Given as goal

abbrev pub invariant-loop-arrival : goal.invariant-loop-arrival
invariant-loop-arrival l =
    Putting l.initial.area l.from (arrive_lines l.arrivals) l.area l.at (arrive_lines (drop l.arrival-index l.arrivals))
