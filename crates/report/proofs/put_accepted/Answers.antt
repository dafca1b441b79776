-- `report::put_accepted` meets its contract: verdict, last, arrive and send lines, one behind the other.
-- Assumes nothing.
use Rattle.std.proofs.Common.{◌/◌, length}
use Rattle.report.proofs.Verdict.{Printing, head_fits, last_fits, arrives_fit, sends_fit, accepted_put}
use Rattle.report.proofs.put_accepted.Goals as goal

pub put_verdict-second-requires : goal.put_verdict-second-requires
put_verdict-second-requires c =
    let a = c.args in
    let k : Printing a.area.now a.last a.arrivals.now a.nodes (length a.plan.now / a.nodes) a.plan.now = record { room = c.requires.1 } in
    rw c.of_table.ensures (head_fits k)

pub put_line-third-requires : goal.put_line-third-requires
put_line-third-requires c =
    let a = c.args in
    let k : Printing a.area.now a.last a.arrivals.now a.nodes (length a.plan.now / a.nodes) a.plan.now = record { room = c.requires.1 } in
    last_fits k (rw c.of_table.ensures at c.put_verdict-second.ensures)

pub put_arrives-fourth-requires : goal.put_arrives-fourth-requires
put_arrives-fourth-requires c =
    let a = c.args in
    let k : Printing a.area.now a.last a.arrivals.now a.nodes (length a.plan.now / a.nodes) a.plan.now = record { room = c.requires.1 } in
    arrives_fit k (rw c.of_table.ensures at c.put_verdict-second.ensures) c.put_line-third.ensures

pub put_sends-requires : goal.put_sends-requires
put_sends-requires c =
    let a = c.args in
    let k : Printing a.area.now a.last a.arrivals.now a.nodes (length a.plan.now / a.nodes) a.plan.now = record { room = c.requires.1 } in
    let head = rw c.of_table.ensures at c.put_verdict-second.ensures in
    (c.requires.0, sends_fit k head c.put_line-third.ensures c.put_arrives-fourth.ensures)

pub returns : goal.returns
returns c =
    let a = c.args in
    let k : Printing a.area.now a.last a.arrivals.now a.nodes (length a.plan.now / a.nodes) a.plan.now = record { room = c.requires.1 } in
    let head = rw c.of_table.ensures at c.put_verdict-second.ensures in
    accepted_put k head c.put_line-third.ensures c.put_arrives-fourth.ensures c.put_sends.ensures
