-- `sentence::put_sentence` meets its contract: 33 for a number without a string, and else its string with row and slot.
-- Assumes nothing.
use Rattle.std.proofs.Common.{◌≡◌, ℕ, Option, None, Some, Result, Ok, Err, refl, rules, arith, sym, ◌∙◌, ap}
use Rattle.std.specs.Prelude.{ok_or}
use Rattle.table.specs.declared.Refusal.{Refusal}
use Rattle.catalogue.specs.Catalogue.{numbers}
use Rattle.catalogue.proofs.Places.{place_found, place_missing}
use Rattle.sentence.proofs.Putting.{sentence-spoken, without_string, with_string}
use Rattle.sentence.proofs.put_sentence.Goals as goal

-- Where a place was missed, there is none, and the error is the one that was to be given for it; else it is the place.
missed : (o : Option ℕ) (why e : Refusal) (r : Result ℕ Refusal) → r ≡ ok_or o why → r ≡ Err e → (o ≡ None) × (e ≡ why)
missed None why e r h k = (refl, cc)
missed (Some x) why e r h k = absurd cc

met : (o : Option ℕ) (why : Refusal) (x : ℕ) (r : Result ℕ Refusal) → r ≡ ok_or o why → r ≡ Ok x → o ≡ Some x
met None why x r h k = absurd cc
met (Some y) why x r h k = cc

pub returns-in_err-place : goal.returns-in_err-place
returns-in_err-place c =
    let a = c.args in
    let (no_place, same) = missed _ _ _ _ c.ok_or.ensures.value c.in_err-place.was in
    let none = place_missing a.number numbers (sym c.place_of.ensures ∙ no_place) in
    let gives : c.from_residual.result ≡ Err c.in_err-place.field-0.0 = search rules in
    rw (gives, same) (without_string _ _ a.area.now none c.of_table.ensures)

pub string-requires : goal.string-requires
string-requires c =
    let here = met _ _ _ _ c.ok_or.ensures.value c.in_ok-place.was in
    let found = place_found c.args.number numbers (sym c.place_of.ensures ∙ here) in
    omega (arith, found.2)

pub returns : goal.returns
returns c =
    let a = c.args in
    let here = met _ _ _ _ c.ok_or.ensures.value c.in_ok-place.was in
    let found = place_found a.number numbers (sym c.place_of.ensures ∙ here) in
    let said =
    sentence-spoken a.lines.text.now a.number a.row a.slot c.in_ok-place.place c.string.ensures found.1 c.shown.ensures
    c.shown-2.ensures in
    with_string _ _ a.area.now found.0 said c.put_spoken.ensures
