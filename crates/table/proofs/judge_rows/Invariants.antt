-- `table::judge_rows` meets its contract: as long as the rows passed are good, the whole judgement is that of the rest.
-- Assumes nothing.
use Rattle.std.proofs.Common.{◌≡◌, drop}
use Rattle.table.specs.Table.{judge_rows}
use Rattle.table.proofs.judge_rows.Given as goal

abbrev pub invariant-loop-i : goal.invariant-loop-i
invariant-loop-i l = judge_rows l.nodes l.rows 0 ≡ judge_rows l.nodes (drop l.i l.rows) l.i
