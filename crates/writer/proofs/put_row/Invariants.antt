-- `writer::put_row` meets its contract: after j turns the first j lines stand at their place.
use Rattle.writer.proofs.Left.{Laid}
use Rattle.writer.proofs.put_row.Given as goal

abbrev pub invariant-loop-j : goal.invariant-loop-j
invariant-loop-j l = Laid l.initial.area l.at l.values l.area l.next l.j
