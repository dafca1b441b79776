-- `sentence::put_label` meets its contract: 33 for a field that isn't there, and else the string of its line.
-- Assumes nothing.
use Rattle.std.proofs.Common.{◌≡◌, ◌≤◌, false, arith, ◌∙◌}
use Rattle.catalogue.specs.Catalogue.{fields, is_in}
use Rattle.sentence.proofs.Putting.{no_field, is_field, label_string, without_string, with_string}
use Rattle.sentence.proofs.put_label.Goals.{then-field-eq0-via-then-field-eq0, then-field-eq0-via-else-field-eq0+then-field-gt-FIELDS}
use Rattle.sentence.proofs.put_label.Goals as goal

pub returns-then-field-eq0 : goal.returns-then-field-eq0
returns-then-field-eq0 c =
    let a = c.args in
    let none : is_in a.field fields ≡ false = elim c.then-field-eq0.branch [
      | then-field-eq0-via-then-field-eq0 w ↦ no_field a.field (λ l h. omega (arith, w.if-field-eq0.true))
      | then-field-eq0-via-else-field-eq0+then-field-gt-FIELDS w ↦
          no_field a.field (λ l h. omega (arith, w.if-field-gt-FIELDS.true))
    ]
    in
    without_string _ _ a.area.now none c.of_table.ensures

pub string-requires : goal.string-requires
string-requires c = omega arith

pub returns : goal.returns
returns c =
    let text = c.args.lines.text.now in
    let field = c.args.field in
    let some : 1 ≤ field = omega arith in
    let few : field ≤ 6 = omega arith in
    let string = c.string.ensures ∙ label_string text field some few in
    with_string _ _ c.args.area.now (is_field field some few) string c.put_string.ensures
