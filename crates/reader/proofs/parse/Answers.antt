-- `reader::parse` meets its contract: each return is one case of the definition.
use Rattle.std.proofs.Common.{◌≡◌, refl, ℕ, List, Option, Some}
use Rattle.std.proofs.lemmas.List.{take_rest}
use Rattle.text.specs.Text.{line_feed, nodes_key, rows_key}
use Rattle.lines.specs.declared.Item.{Item}
use Rattle.lines.specs.Items.{line_seen}
use Rattle.lines.proofs.Seen.{Seen, not_seen, seen_item}
use Rattle.reader.proofs.Heading.{first_wrong, second_wrong, too_many, too_short, line_wrong, all_read}
use Rattle.reader.proofs.parse.Goals as goal

-- What is known of a text whose first line is right, and of one whose second is right too.
first : (text : List ℕ) {item : Option Item} → item ≡ line_seen nodes_key text → {nodes : Item} → item ≡ Some nodes
    → Seen nodes_key line_feed text nodes
first text told good = seen_item nodes_key line_feed text _ told _ good

then : (text : List ℕ) {item : Option Item} → item ≡ line_seen rows_key text → {rows : Item} → item ≡ Some rows
    → Seen rows_key line_feed text rows
then text told good = seen_item rows_key line_feed text _ told _ good

pub returns-in_default : goal.returns-in_default
returns-in_default c =
    let text = c.args.text.now in
    rw c.of_row.ensures (first_wrong text c.args.lent
    (not_seen nodes_key line_feed text _ c.line_at.ensures c.in_default.is))

pub slice_bounds-second-count : goal.slice_bounds-second-count
slice_bounds-second-count c = (first c.args.text.now c.line_at.ensures c.in-Some.is).inside

pub slice_bounds-second-start : goal.slice_bounds-second-start
slice_bounds-second-start c = (first c.args.text.now c.line_at.ensures c.in-Some.is).inside

pub returns-in_default-line_at : goal.returns-in_default-line_at
returns-in_default-line_at c =
    let text = c.args.text.now in
    let one = first text c.line_at.ensures c.in-Some.is in
    let here = take_rest text c.in-Some.nodes.length in
    rw c.of_row-in_default-line_at.ensures (second_wrong text c.args.lent one here
    (not_seen rows_key line_feed _ _ c.line_at-2.ensures c.in_default-line_at.is))

pub returns-then-count-gt512 : goal.returns-then-count-gt512
returns-then-count-gt512 c =
    let text = c.args.text.now in
    let one = first text c.line_at.ensures c.in-Some.is in
    let here = take_rest text c.in-Some.nodes.length in
    let two = then _ c.line_at-2.ensures c.in-Some-line_at.is in
    rw c.of_table.ensures (too_many text c.args.lent one here two refl c.if-count-gt512.true)

pub returns-then-lent-count : goal.returns-then-lent-count
returns-then-lent-count c =
    let text = c.args.text.now in
    let one = first text c.line_at.ensures c.in-Some.is in
    let here = take_rest text c.in-Some.nodes.length in
    let two = then _ c.line_at-2.ensures c.in-Some-line_at.is in
    rw c.of_table-then-lent-count.ensures (too_short text c.args.lent one here two refl c.if-count-gt512.false
    c.if-lent-count.true)

pub slice_bounds-read_rows-count : goal.slice_bounds-read_rows-count
slice_bounds-read_rows-count c = (then _ c.line_at-2.ensures c.in-Some-line_at.is).inside

pub slice_bounds-read_rows-start : goal.slice_bounds-read_rows-start
slice_bounds-read_rows-start c = (then _ c.line_at-2.ensures c.in-Some-line_at.is).inside

pub returns-in-Ok : goal.returns-in-Ok
returns-in-Ok c =
    let text = c.args.text.now in
    let one = first text c.line_at.ensures c.in-Some.is in
    let here = take_rest text c.in-Some.nodes.length in
    let two = then _ c.line_at-2.ensures c.in-Some-line_at.is in
    let there = take_rest _ c.in-Some-line_at.rows.length in
    all_read text c.args.lent one here two there c.if-count-gt512.false c.if-lent-count.false _ c.in-Ok.ensures

pub returns-in-Err : goal.returns-in-Err
returns-in-Err c =
    let text = c.args.text.now in
    let one = first text c.line_at.ensures c.in-Some.is in
    let here = take_rest text c.in-Some.nodes.length in
    let two = then _ c.line_at-2.ensures c.in-Some-line_at.is in
    let there = take_rest _ c.in-Some-line_at.rows.length in
    rw c.of_row-in-Err.ensures (line_wrong text c.args.lent one here two there c.if-count-gt512.false
    c.if-lent-count.false c.in-Err.line c.in-Err.ensures)
