-- `lines::row_at` meets its contract: as long as the lines passed are right, what is said of all is said of the rest.
use Rattle.std.proofs.Common.{rules, arith, ◌≡◌, ℕ, List, Option, [], get_or, drop, length-drop}
use Rattle.std.proofs.lemmas.List.{take_rest}
use Rattle.text.specs.Text.{line_feed, row_keys}
use Rattle.lines.specs.declared.Item.{Item}
use Rattle.lines.specs.Items.{line_seen}
use Rattle.lines.proofs.Seen.{not_seen, seen_item}
use Rattle.lines.proofs.Rows.{none_reached, more_reached, answers_broken, answers_whole}
use Rattle.lines.proofs.row_at.Goals as goal

pub loop-j-init : goal.loop-j-init
unfolding row_keys
loop-j-init c = none_reached row_keys _ _ (search rules)

pub row_key-requires : goal.row_key-requires
unfolding row_keys
row_key-requires c = search rules

-- The line looked for is that of the next key, at the front of the bytes that are left.
looked_for : (text : List ℕ) (next j : ℕ) {key rest : List ℕ} {item : Option Item} → item ≡ line_seen key rest
    → key ≡ get_or row_keys j [] → rest ≡ drop next text → item ≡ line_seen (get_or row_keys j []) (drop next text)
looked_for text next j so k r = rw (← k, ← r) so

pub returns-in_default : goal.returns-in_default
unfolding row_keys
returns-in_default c =
    let k = c.loop-j in
    let seen = looked_for c.args.text.now k.length k.j c.line_at.ensures c.row_key.ensures (take_rest c.args.text.now k.length) in
    answers_broken k.invariant (search rules) (not_seen (get_or row_keys k.j []) line_feed _ _ seen c.in_default.is)

pub overflow_add-length : goal.overflow_add-length
overflow_add-length c =
    let text = c.args.text.now in
    let k = c.loop-j in
    let seen = looked_for c.args.text.now k.length k.j c.line_at.ensures c.row_key.ensures (take_rest text k.length) in
    let found = seen_item (get_or row_keys k.j []) line_feed (drop k.length text) _ seen _ c.in-Some.is in
    omega (arith, found.inside, length-drop k.length text)

pub loop-j-preserved : goal.loop-j-preserved
unfolding row_keys
loop-j-preserved c =
    let k = c.loop-j in
    let seen = looked_for c.args.text.now k.length k.j c.line_at.ensures c.row_key.ensures (take_rest c.args.text.now k.length) in
    let found = seen_item (get_or row_keys k.j []) line_feed (drop k.length c.args.text.now) _ seen _ c.in-Some.is in
    more_reached k.invariant (search rules) _ found

pub returns : goal.returns
unfolding row_keys
returns c = rw c.row_by.ensures (answers_whole c.loop-j.invariant (search rules))
