-- `writer::write` meets its contract: each return is one case of the definition.
use Rattle.std.proofs.Common.{◌≡◌, ◌+◌, length, arith}
use Rattle.text.specs.Text.{nodes_key, rows_key, line, rows_text, text_of}
use Rattle.text.proofs.Pasting.{three_placed}
use Rattle.writer.proofs.Outcomes.{many_rows, text_length, text_most, no_room, room}
use Rattle.writer.proofs.write.Goals as goal

pub returns-then-rows-gt512 : goal.returns-then-rows-gt512
returns-then-rows-gt512 c =
    many_rows c.args.nodes c.args.rows.now c.args.area.now c.if-rows-gt512.true c.of_table.ensures

pub overflow_add-head : goal.overflow_add-head
overflow_add-head c =
    omega (arith, text_most c.args.nodes c.args.rows.now c.args.area.now c.if-rows-gt512.false)

pub overflow_add-length : goal.overflow_add-length
overflow_add-length c =
    omega (arith, text_most c.args.nodes c.args.rows.now c.args.area.now c.if-rows-gt512.false)

pub returns-then-area-length : goal.returns-then-area-length
returns-then-area-length c =
    let a = c.args in
    no_room a.nodes a.rows.now a.area.now c.if-rows-gt512.false
    (omega (arith, text_length a.nodes a.rows.now a.area.now)) c.of_table-then-area-length.ensures

pub returns : goal.returns
returns c =
    let n = c.args.nodes in
    let rows = c.args.rows.now in
    let area = c.args.area.now in
    let p1 = c.put_line-second in
    let p2 = c.put_line-third in
    let long = text_length n rows area in
    let total : c.line_length.result + c.line_length-2.result + c.rows_length.result ≡ length (text_of n rows) =
    omega (arith, long) in
    let placed = three_placed area 0 (line nodes_key n) (line rows_key (length rows)) (rows_text rows)
    (omega (arith, long, c.if-area-length.false)) p1.result p1.new.area p1.ensures.0 p1.ensures.1
    p2.result p2.new.area p2.ensures.0 p2.ensures.1 c.put_rows.new.area c.put_rows.ensures in
    rw total (room n rows area c.if-rows-gt512.false (omega (arith, c.if-area-length.false)) placed)
