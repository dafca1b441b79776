-- `area::link_load` meets its contract: one read, for a link that the ring has.
-- Assumes nothing.
use Rattle.area.proofs.Reading.{load_there, load_none}
use Rattle.area.proofs.link_load.Goals as goal

pub returns-then-p-links : goal.returns-then-p-links
returns-then-p-links c =
    let a = c.args in
    load_there a.table.now _ c.link_count-links.ensures a.link.0 c.if-p-links.true

pub returns : goal.returns
returns c =
    let a = c.args in
    load_none a.table.now _ c.link_count-links.ensures a.link.0 c.if-p-links.false
