-- `report::respond_table` meets its contract: it plans the table, and writes what is printed for the answer.
use Rattle.report.proofs.Accepting.{answered, verdict_fits, arrivals_fit, arrivals_front, plan_fits, plan_front}
use Rattle.report.proofs.Accepting.{slotted, accepted_fits, refused_is, accepted_is}
use Rattle.report.proofs.respond_table.Goals as goal

pub put_verdict-requires : goal.put_verdict-requires
put_verdict-requires c = verdict_fits c.args.area.now c.in-Err.refusal c.requires

pub returns-in-Err : goal.returns-in-Err
returns-in-Err c =
    let k = answered c.zeros-schedule.ensures c.zeros-arrivals.ensures c.plan.ensures in
    rw (refused_is k c.in-Err.is) c.put_verdict.ensures

pub slice_bounds-arrivals-end : goal.slice_bounds-arrivals-end
slice_bounds-arrivals-end c =
    let k = answered c.zeros-schedule.ensures c.zeros-arrivals.ensures c.plan.ensures in
    arrivals_fit k c.in-Ok.is

pub slice_bounds-put_accepted-end : goal.slice_bounds-put_accepted-end
slice_bounds-put_accepted-end c =
    let k = answered c.zeros-schedule.ensures c.zeros-arrivals.ensures c.plan.ensures in
    arrivals_front k c.in-Ok.is

pub slice_bounds-schedule-end : goal.slice_bounds-schedule-end
slice_bounds-schedule-end c =
    let k = answered c.zeros-schedule.ensures c.zeros-arrivals.ensures c.plan.ensures in
    plan_fits k c.in-Ok.is c.last_due-slots.ensures

pub slice_bounds-put_accepted-end-in-Ok : goal.slice_bounds-put_accepted-end-in-Ok
slice_bounds-put_accepted-end-in-Ok c =
    let k = answered c.zeros-schedule.ensures c.zeros-arrivals.ensures c.plan.ensures in
    plan_front k c.in-Ok.is c.last_due-slots.ensures

pub put_accepted-requires : goal.put_accepted-requires
put_accepted-requires c =
    let k = answered c.zeros-schedule.ensures c.zeros-arrivals.ensures c.plan.ensures in
    let last = c.last_due-slots.ensures in
    (slotted k c.in-Ok.is last, accepted_fits k c.in-Ok.is last c.args.area.now c.requires)

pub returns-in-Ok : goal.returns-in-Ok
returns-in-Ok c =
    let k = answered c.zeros-schedule.ensures c.zeros-arrivals.ensures c.plan.ensures in
    rw (accepted_is k c.in-Ok.is c.last_due-slots.ensures) c.put_accepted.ensures
