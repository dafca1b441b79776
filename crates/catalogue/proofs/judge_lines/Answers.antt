-- `catalogue::judge_lines` meets its contract: as long as the lines passed are right, the verdict is that of the rest.
-- Assumes nothing.
use Rattle.std.proofs.Common.{◌≡◌, ◌+◌, ◌<◌, length, drop, arith, ap, sym, ◌∙◌}
use borrow.Author.Tests.{eqb-true, eqb-false}
use Rattle.catalogue.specs.Catalogue.{keys, lines_verdict}
use Rattle.catalogue.specs.Steps.{lines}
use Rattle.catalogue.proofs.Keys.{keys_all}
use Rattle.catalogue.proofs.LineLemmas.{lines_bad, lines_good, lines_over, lines_extra}
use Rattle.catalogue.proofs.judge_lines.Goals as goal

pub returns-in-Err : goal.returns-in-Err
returns-in-Err c =
    let l = c.loop-i in
    let bad = lines_bad keys l.i _ (omega (arith, keys_all)) (sym c.line_refusal.ensures ∙ c.in-Err.is) in
    rw c.of_row.ensures (sym (l.invariant ∙ bad))

pub loop-i-preserved : goal.loop-i-preserved
loop-i-preserved c =
    let l = c.loop-i in
    let next = lines_good keys l.i _ (omega (arith, keys_all)) (sym c.line_refusal.ensures ∙ c.in_default.is) in
    l.invariant ∙ next ∙ ap (lines_verdict (drop (l.i + 1) keys) (l.i + 1)) (sym c.behind_line-rest.ensures)

pub returns-then-not-is_empty : goal.returns-then-not-is_empty
returns-then-not-is_empty c =
    let l = c.loop-i in
    let all : l.i ≡ lines = omega arith in
    let some : 0 < length l.rest.now = omega (arith, eqb-false (length l.rest.now) 0 (sym c.is_empty.ensures ∙ c.if-not-is_empty.true)) in
    rw c.of_row-then-not-is_empty.ensures (sym (l.invariant ∙ rw all (lines_extra keys lines _ (omega (arith, keys_all)) some)))

pub returns : goal.returns
returns c =
    let l = c.loop-i in
    let all : l.i ≡ lines = omega arith in
    let none : length l.rest.now ≡ 0 = eqb-true (length l.rest.now) 0 (sym c.is_empty.ensures ∙ c.if-not-is_empty.false) in
    sym (l.invariant ∙ rw all (lines_over keys lines _ (omega (arith, keys_all)) none))
