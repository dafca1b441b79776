-- `text::put_item` meets its contract: the key, the numeral and the mark are written one behind the other.
-- Assumes nothing.
use Rattle.text.proofs.Pasting.{item_placed}
use Rattle.text.proofs.put_item.Goals as goal

pub returns : goal.returns
returns c =
    let s = c in
    let one = c.put_bytes-from in
    let two = c.put_numeral-end in
    item_placed s.args.area.now s.args.at s.args.key.now s.args.v s.args.mark s.requires
    one.result one.new.area one.ensures two.result two.new.area two.ensures
