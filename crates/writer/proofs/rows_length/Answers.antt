-- `writer::rows_length` meets its contract: the lines counted and those that are left make the whole.
use Rattle.std.proofs.Common.{◌+◌, length, drop, get_or, ap, length-append, arith}
use Rattle.table.specs.Steps.{none}
use Rattle.text.specs.Text.{row_text, rows_text}
use Rattle.text.proofs.Lengths.{rows_long}
use Rattle.writer.proofs.Left.{rows_next_lem, no_rows}
use Rattle.writer.proofs.rows_length.Goals as goal

pub overflow_add-sum : goal.overflow_add-sum
overflow_add-sum c =
    let rows = c.args.rows.now in
    let i = c.loop-row.row-index in
    let next = rows_next_lem rows i none (omega arith) in
    let parts = length-append (row_text (get_or rows i none)) (rows_text (drop (i + 1) rows)) in
    omega (arith, ap length next, parts, rows_long rows)

pub loop-row-preserved : goal.loop-row-preserved
loop-row-preserved c =
    let rows = c.args.rows.now in
    let i = c.loop-row.row-index in
    let next = rows_next_lem rows i none (omega arith) in
    let parts = length-append (row_text (get_or rows i none)) (rows_text (drop (i + 1) rows)) in
    omega (arith, ap length next, parts)

pub returns : goal.returns
returns c = omega (arith, ap length (no_rows c.args.rows.now c.loop-row.row-index (omega arith)))
