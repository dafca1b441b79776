-- `text::put_numeral` meets its contract: after j turns the first j digits stand at their place.
use Rattle.std.proofs.Common.{◌≡◌, length}
use lib.Seq.{paste}
use Rattle.text.specs.Text.{numeral}
use Rattle.text.proofs.put_numeral.Given as goal

abbrev pub invariant-loop-j : goal.invariant-loop-j
invariant-loop-j l = record { long : l.w ≡ length (numeral l.v); so : l.area ≡ paste l.initial.area l.at (numeral l.v) l.j }
