-- `table::last_due` meets its contract: after i turns the largest due slot of the first i rows is known.
-- Assumes nothing.
use Rattle.std.proofs.Common.{◌≡◌, take}
use Rattle.table.specs.Table.{last_due}
use Rattle.table.proofs.last_due.Given as goal

abbrev pub invariant-loop-row : goal.invariant-loop-row
invariant-loop-row l = l.last ≡ last_due (take l.row-index l.rows)
