-- `report::put_sends` meets its contract: the lines of the slots passed stand at their place.
use Rattle.report.proofs.Listing.{none_sent, send_fits, send_put, all_sent}
use Rattle.report.proofs.put_sends.Goals as goal

pub loop-entries-init : goal.loop-entries-init
loop-entries-init c =
    rw c.into_iter-entries-iterator.ensures.into_iter_gives (none_sent c.args.area.now c.args.from c.requires.0
    c.requires.1 c.chunks-entries-items.ensures.rest c.chunks-entries-items.ensures.size)

pub put_send-at-requires : goal.put_send-at-requires
put_send-at-requires c = send_fits c.loop-entries.invariant _ c.next.ensures.steps c.in-Some.is

pub loop-entries-preserved : goal.loop-entries-preserved
loop-entries-preserved c =
    send_put c.loop-entries.invariant _ c.next.ensures.steps c.in-Some.is c.put_send-at.ensures

pub returns : goal.returns
returns c = all_sent c.loop-entries.invariant _ c.next.ensures.steps c.requires.0.some c.in-None.is
