-- `writer::row_length` meets its contract: after j turns it is the length of the first j lines.
use Rattle.writer.proofs.Left.{Summed}
use Rattle.writer.proofs.row_length.Given as goal

abbrev pub invariant-loop-j : goal.invariant-loop-j
invariant-loop-j l = Summed l.values l.sum l.j
