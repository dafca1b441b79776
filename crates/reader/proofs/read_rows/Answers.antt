-- `reader::read_rows` meets its contract: the rows passed are read, and what is left decides as the whole did.
use Rattle.std.proofs.Common.{rules, arith}
use Rattle.std.proofs.lemmas.List.{take_rest}
use Rattle.text.specs.Text.{row_keys}
use Rattle.lines.proofs.Rows.{row_lines}
use Rattle.lines.proofs.Passed.{row_broken, row_whole}
use Rattle.reader.proofs.Loading.{none_loaded, more_loaded, stopped_at, left_over, all_loaded}
use Rattle.reader.proofs.read_rows.Goals as goal

pub loop-i-init : goal.loop-i-init
loop-i-init c = none_loaded c.args.text.now _ _

-- The lines of the row that was seen stand at the front of what is left.
pub slice_bounds-rest-count : goal.slice_bounds-rest-count
slice_bounds-rest-count c =
    (row_whole c.loop-i.rest.now c.row_at.result c.row_at.ensures c.in-Ok.seen c.in-Ok.is).inside

pub slice_bounds-rest-start : goal.slice_bounds-rest-start
slice_bounds-rest-start c =
    (row_whole c.loop-i.rest.now c.row_at.result c.row_at.ensures c.in-Ok.seen c.in-Ok.is).inside

pub overflow_add-result : goal.overflow_add-result
overflow_add-result c =
    let broken = row_broken c.loop-i.rest.now c.row_at.result c.row_at.ensures c.in-Err.right c.in-Err.is in
    omega (arith, broken.0, c.loop-i.invariant.counted, row_lines.1, c.requires.0)

pub returns-in-Err : goal.returns-in-Err
returns-in-Err c =
    let broken = row_broken c.loop-i.rest.now c.row_at.result c.row_at.ensures c.in-Err.right c.in-Err.is in
    stopped_at c.loop-i.invariant c.loop-i-test.true c.in-Err.right broken

pub loop-i-preserved : goal.loop-i-preserved
unfolding row_keys
loop-i-preserved c =
    let seen = row_whole c.loop-i.rest.now c.row_at.result c.row_at.ensures c.in-Ok.seen c.in-Ok.is in
    rw (take_rest c.loop-i.rest.now c.in-Ok.seen.length)
    (more_loaded c.loop-i.invariant c.loop-i-test.true c.in-Ok.seen seen (omega (arith, c.requires.1)))

pub returns-then-not-is_empty : goal.returns-then-not-is_empty
returns-then-not-is_empty c = left_over c.loop-i.invariant (omega arith) (search rules)

pub returns : goal.returns
returns c = all_loaded c.loop-i.invariant (omega arith) (search rules)
