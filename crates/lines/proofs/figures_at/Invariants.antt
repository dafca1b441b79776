-- `lines::figures_at` meets its contract: the digits passed and the digits at the rest make the whole.
use Rattle.lines.proofs.Counting.{Read}
use Rattle.lines.proofs.figures_at.Given as goal

abbrev pub invariant-loop-i : goal.invariant-loop-i
invariant-loop-i l = Read l.text l.value l.i
