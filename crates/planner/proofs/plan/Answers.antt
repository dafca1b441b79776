-- `planner::plan` meets its contract: what is turned away is refused, and what is planned is what is promised.
-- Assumes nothing.
use mathlib.Core.Path.{sym}
use Rattle.planner.proofs.Judged.{fronts, turned_away, let_through}
use Rattle.planner.proofs.plan.Goals as goal

pub slice_bounds-plan_good-end : goal.slice_bounds-plan_good-end
slice_bounds-plan_good-end c = (fronts c.in-Ok.ensures).plan_fits

pub slice_bounds-plan_good-end-in-Ok : goal.slice_bounds-plan_good-end-in-Ok
slice_bounds-plan_good-end-in-Ok c = (fronts c.in-Ok.ensures).plan_front

pub slice_bounds-plan_good-end-in-Ok-2 : goal.slice_bounds-plan_good-end-in-Ok-2
slice_bounds-plan_good-end-in-Ok-2 c = (fronts c.in-Ok.ensures).arrivals_fit

pub slice_bounds-plan_good-end-in-Ok-3 : goal.slice_bounds-plan_good-end-in-Ok-3
slice_bounds-plan_good-end-in-Ok-3 c = (fronts c.in-Ok.ensures).arrivals_front

pub plan_good-requires : goal.plan_good-requires
plan_good-requires c = let f = fronts c.in-Ok.ensures in (f.well_formed, f.just)

pub returns-in-Err : goal.returns-in-Err
returns-in-Err c = turned_away (sym c.in-Err.ensures)

pub returns-in-Ok : goal.returns-in-Ok
returns-in-Ok c = let_through (sym c.in-Ok.ensures) c.plan_good.ensures
