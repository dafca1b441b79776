-- `planner::plan_good` meets its contract: the links of its rows are written down, and what the run came to is what is
-- answered.
-- Assumes nothing.
use mathlib.Core.Path.{◌∙◌, ap, sym}
use native.Mathlib.Omega.{arith}
use Rattle.table.specs.Table.{lengths}
use Rattle.planner.specs.Steps.{crossed}
use Rattle.planner.proofs.Answering.{ran_told, run_accepted, run_refused}
use Rattle.planner.proofs.Good.{links_front, measuring, runnable, measured_long, few_cells, rows_few}
use Rattle.planner.proofs.plan_good.Goals as goal

pub slice_bounds-links-end-2 : goal.slice_bounds-links-end-2
slice_bounds-links-end-2 c = sym (links_front c.args.nodes c.args.rows.now c.requires.0 _ c.zeros-links.ensures)

pub measure-requires : goal.measure-requires
measure-requires c =
    measuring c.args.nodes c.args.rows.now c.requires.0 _ (links_front c.args.nodes c.args.rows.now c.requires.0 _ c.zeros-links.ensures)

pub count_sends-sends-requires : goal.count_sends-sends-requires
count_sends-sends-requires c =
    (measured_long c.args.nodes c.args.rows.now c.measure.ensures, few_cells c.args.nodes c.args.rows.now c.requires.0)

pub run_rows-ending-requires : goal.run_rows-ending-requires
run_rows-ending-requires c =
    runnable c.args.nodes c.args.rows.now c.requires.0 c.measure.ensures c.requires.1

pub sum_up-requires : goal.sum_up-requires
sum_up-requires c = omega (arith, rows_few c.args.nodes c.args.rows.now c.requires.0)

pub returns-then-stop-eq0 : goal.returns-then-stop-eq0
returns-then-stop-eq0 c =
    let told = ran_told c.measure.ensures c.requires.1.plan_long c.run_rows-ending.ensures in
    let sends = c.count_sends-sends.ensures ∙ ap (crossed (lengths c.args.rows.now)) c.measure.ensures in
    run_accepted told c.if-stop-eq0.true _ sends _ c.greatest.ensures _ c.sum_up.ensures

pub returns-else-stop-eq0 : goal.returns-else-stop-eq0
returns-else-stop-eq0 c =
    run_refused (ran_told c.measure.ensures c.requires.1.plan_long c.run_rows-ending.ensures) c.if-stop-eq0.false
