-- `cells::gather_last` meets its contract: the first i rows have their last cell's number.
-- Assumes nothing.
use Rattle.cells.proofs.Laying.{Gathering}
use Rattle.cells.proofs.gather_last.Given as goal

abbrev pub invariant-loop-i : goal.invariant-loop-i
invariant-loop-i l = Gathering l.rows l.stamps l.initial.arrivals l.i l.next l.arrivals
