-- `cells::tell_in_rows` meets its contract: the first entries name rows, the others cells as before.
-- Assumes nothing.
use Rattle.std.proofs.Common.{◌≡◌, ◌++◌, map, take, drop}
use Rattle.slack.specs.Slack.{owners_in}
use Rattle.cells.specs.Cells.{owner_of}
use Rattle.cells.proofs.tell_in_rows.Given as goal

abbrev pub invariant-loop-entry : goal.invariant-loop-entry
invariant-loop-entry l =
    l.plan ≡ map (owner_of (owners_in l.cells)) (take l.entry-index l.initial.plan) ++ drop l.entry-index l.initial.plan
