-- `catalogue::lines_on` meets its contract: after so many turns so many lines are passed.
use Rattle.std.proofs.Common.{◌≡◌}
use Rattle.catalogue.specs.Steps.{lines_on}
use Rattle.catalogue.proofs.lines_on.Given as goal

abbrev pub invariant-loop : goal.invariant-loop
invariant-loop l = l.rest ≡ lines_on l.counter l.text
