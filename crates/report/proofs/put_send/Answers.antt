-- `report::put_send` meets its contract: the key and the entries passed stand at their place.
use Rattle.std.proofs.Common.{arith}
use Rattle.text.proofs.Putting.{all_put}
use Rattle.report.proofs.Lines.{no_entry}
use Rattle.report.proofs.Sending.{key_fits, key_put, entry_fits, entry_put}
use Rattle.report.proofs.put_send.Goals as goal

pub put_bytes-at-requires : goal.put_bytes-at-requires
put_bytes-at-requires c = key_fits c.args.area.now c.args.from c.args.entries.now c.requires

pub loop-i-init : goal.loop-i-init
loop-i-init c = key_put c.args.area.now c.args.from c.args.entries.now c.requires c.put_bytes-at.ensures

pub put_item-at-requires : goal.put_item-at-requires
put_item-at-requires c =
    let l = c.loop-i in
    entry_fits c.args.entries.now l.i l.invariant c.loop-i-test.true c.mark_behind.ensures

pub loop-i-preserved : goal.loop-i-preserved
loop-i-preserved c =
    let l = c.loop-i in
    entry_put c.args.entries.now l.i l.invariant c.loop-i-test.true c.mark_behind.ensures c.put_item-at.ensures

pub returns : goal.returns
returns c = all_put c.loop-i.invariant (no_entry c.args.entries.now c.loop-i.i (omega arith))
