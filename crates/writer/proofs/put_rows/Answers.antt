-- `writer::put_rows` meets its contract: the lines of the rows passed stand at their place.
use Rattle.std.proofs.Common.{◌+◌, drop, get_or, refl, arith}
use Rattle.table.specs.Steps.{none}
use Rattle.text.specs.Text.{row_text, rows_text}
use Rattle.text.proofs.Putting.{begun, fits, put_on, all_put}
use Rattle.writer.proofs.Left.{rows_next_lem, no_rows}
use Rattle.writer.proofs.put_rows.Goals as goal

pub loop-row-init : goal.loop-row-init
loop-row-init c = begun c.args.area.now c.args.from _ _ c.requires refl

pub put_row-at-requires : goal.put_row-at-requires
put_row-at-requires c =
    let rows = c.args.rows.now in
    let i = c.loop-row.row-index in
    fits c.loop-row.invariant (row_text (get_or rows i none)) (rows_text (drop (i + 1) rows))
    (rows_next_lem rows i none (omega arith))

pub loop-row-preserved : goal.loop-row-preserved
loop-row-preserved c =
    let rows = c.args.rows.now in
    let i = c.loop-row.row-index in
    put_on c.loop-row.invariant (row_text (get_or rows i none)) (rows_text (drop (i + 1) rows))
    (rows_next_lem rows i none (omega arith)) c.put_row-at.ensures

pub returns : goal.returns
returns c = (all_put c.loop-row.invariant (no_rows c.args.rows.now c.loop-row.row-index (omega arith))).so
