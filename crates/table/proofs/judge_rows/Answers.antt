-- `table::judge_rows` meets its contract: as long as the rows passed are good, the whole judgement is that of the rest.
-- Assumes nothing.
use Rattle.std.proofs.Common.{arith, ◌∙◌, sym}
use Rattle.table.proofs.Judging.{judge_here, judge_next, judge_end}
use Rattle.table.proofs.judge_rows.Goals as goal

pub returns-in-Err : goal.returns-in-Err
returns-in-Err c =
    rw c.of_row.ensures (sym (c.loop-i.invariant ∙ judge_here c.args.nodes c.args.rows.now c.loop-i.i _ (omega arith) (sym c.in-Err.ensures)))

pub loop-i-preserved : goal.loop-i-preserved
loop-i-preserved c =
    c.loop-i.invariant ∙ judge_next c.args.nodes c.args.rows.now c.loop-i.i (omega arith) (sym c.in_default.ensures)

pub returns : goal.returns
returns c = sym (c.loop-i.invariant ∙ judge_end c.args.nodes c.args.rows.now c.loop-i.i (omega arith))
