-- `lines::row_at` meets its contract: as long as the lines passed are right, what is said of all is said of the rest.
use Rattle.text.specs.Text.{row_keys}
use Rattle.lines.proofs.Rows.{Reached}
use Rattle.lines.proofs.row_at.Given as goal

abbrev pub invariant-loop-j : goal.invariant-loop-j
invariant-loop-j l = Reached row_keys l.text l.values l.length l.j
