-- `writer::put_row` meets its contract: after j turns the first j lines stand at their place.
-- Assumes nothing.
use borrow.Author.Rules.{rules}
use Rattle.writer.proofs.Left.{none_laid, line_fits, more_laid, all_laid}
use Rattle.writer.proofs.put_row.Goals as goal

pub loop-j-init : goal.loop-j-init
loop-j-init c =
    let a = c.args in
    none_laid a.area.now a.at a.row c.values_of-values.result c.values_of-values.ensures c.requires

pub put_line-next-requires : goal.put_line-next-requires
put_line-next-requires c =
    let key = c.row_key in
    line_fits c.loop-j.invariant (search rules) key.result key.ensures

pub loop-j-preserved : goal.loop-j-preserved
loop-j-preserved c =
    let key = c.row_key in
    let p = c.put_line-next in
    let k = c.loop-j in
    more_laid k.invariant (search rules) key.result key.ensures p.result p.new.area p.ensures

pub returns : goal.returns
returns c =
    let v = c.values_of-values in
    all_laid c.loop-j.invariant c.args.row v.ensures (search rules)
