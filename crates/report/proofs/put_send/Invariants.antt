-- `report::put_send` meets its contract: the key and the entries passed stand at their place.
use Rattle.std.proofs.Common.{drop}
use Rattle.report.specs.Report.{send_line, parted}
use Rattle.text.proofs.Putting.{Putting}
use Rattle.report.proofs.put_send.Given as goal

abbrev pub invariant-loop-i : goal.invariant-loop-i
invariant-loop-i l = Putting l.fn.area l.from (send_line l.entries) l.area l.at (parted (drop l.i l.entries))
