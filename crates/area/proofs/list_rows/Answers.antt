-- `area::list_rows` meets its contract: after i turns the first i rows are listed, and the row past the last place is
-- that of four zeros.
-- Assumes nothing.
use Rattle.std.proofs.Common.{◌≡◌, ◌<◌, length, ap, lit<, arith, ◌∙◌, add-one}
use Rattle.lists.proofs.Build.{length-build}
use Rattle.table.specs.Table.{most_rows}
use Rattle.area.specs.Area.{count_in, row_in}
use Rattle.area.proofs.Reading.{build_more, listed_few, listed_many}
use Rattle.area.proofs.list_rows.Goals as goal

pub push-requires : goal.push-requires
push-requires c =
    let l = c.loop-i in
    let few : length l.rows.items < 513 =
    omega (arith, ap length l.invariant, length-build l.i (row_in c.args.table.now), c.loop-i-test.true)
    in
    (lit< tt, few)

pub loop-i-preserved : goal.loop-i-preserved
loop-i-preserved c =
    let l = c.loop-i in
    c.push.ensures.items ∙ rw (l.invariant, c.row_in.ensures, add-one) (build_more l.i (row_in c.args.table.now))

pub returns-then-count-gt-MOST_ROWS : goal.returns-then-count-gt-MOST_ROWS
returns-then-count-gt-MOST_ROWS c =
    let l = c.loop-i in
    let all : l.i ≡ most_rows = omega arith in
    c.push-then-count-gt-MOST_ROWS.ensures.items
    ∙ rw l.invariant (listed_many c.args.table.now l.i all (omega arith) (omega arith))

pub returns-else-count-gt-MOST_ROWS : goal.returns-else-count-gt-MOST_ROWS
returns-else-count-gt-MOST_ROWS c =
    let l = c.loop-i in
    let all : l.i ≡ count_in c.args.table.now = omega arith in
    l.invariant ∙ rw all (listed_few c.args.table.now (omega arith))
