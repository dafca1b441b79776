-- `area::busiest` meets its contract: the loads are lent as one part of the area.
-- Assumes nothing.
use borrow.Author.Rules.{rules}
use mathlib.Core.Path.{◌∙◌, ap}
use Rattle.area.proofs.Reading.{loads_part}
use Rattle.area.specs.Area.{busiest_in}
use Rattle.area.proofs.busiest.Goals as goal

pub returns : goal.returns
returns c =
    let s = c.args.table.now in
    let links = c.link_count-end.ensures in
    c.busiest_in.ensures ∙ ap busiest_in (loads_part s _ links (search rules))
