-- `text::digit` meets its contract: after so many turns, so many digits are off.
use Rattle.std.proofs.Common.{◌≡◌}
use Rattle.text.specs.Steps.{tenth}
use Rattle.text.proofs.digit.Given as goal

abbrev pub invariant-loop : goal.invariant-loop
invariant-loop l = l.rest ≡ tenth l.counter l.v
