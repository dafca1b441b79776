-- `report::put_arrives` meets its contract: the lines of the arrivals passed stand at their place.
use Rattle.std.proofs.Common.{refl, arith}
use Rattle.text.proofs.Putting.{begun, all_put}
use Rattle.report.proofs.Lines.{no_arrive}
use Rattle.report.proofs.Listing.{arrive_fits, arrive_put}
use Rattle.report.proofs.put_arrives.Goals as goal

pub loop-arrival-init : goal.loop-arrival-init
loop-arrival-init c = begun c.args.area.now c.args.from _ _ c.requires refl

pub put_line-at-requires : goal.put_line-at-requires
put_line-at-requires c =
    let l = c.loop-arrival in
    arrive_fits c.args.arrivals.now l.arrival-index l.invariant (omega arith)

pub loop-arrival-preserved : goal.loop-arrival-preserved
loop-arrival-preserved c =
    let l = c.loop-arrival in
    arrive_put c.args.arrivals.now l.arrival-index l.invariant (omega arith) c.put_line-at.ensures

pub returns : goal.returns
returns c = all_put c.loop-arrival.invariant (no_arrive c.args.arrivals.now c.loop-arrival.arrival-index (omega arith))
