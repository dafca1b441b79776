-- Bytes of a catalogue written into an area.
--     no_room, put_whole                               22, and else the bytes in the front of the area
--     spoken_long, spoken_pieces                       a string with a row and a slot: its length, and its three pieces
--     row_fits, slot_fits, spoken_put                  the three written one behind the other
--     in_list, not_in_list                             a number that has a string, and one that has none
--     is_field, no_field, label_string                 a field, and the string of its line
--     sentence-spoken                                  the sentence of an answer is its string with row and slot
--     not_a_catalogue                                  a text that is no catalogue
--     without_string, with_string                      a number without a string, and one that has one
-- Assumes nothing.
use mathlib.Core.Path.{◌≡◌, refl, ◌∙◌, ap, sym}
use mathlib.Core.Bool.{Bool, true, false, cond}
use mathlib.Core.List.{List, [], ◌∷◌, ◌++◌, append_assoc}
use Prim.Native.Nat.{ℕ, suc, ◌+◌, ◌-◌, ◌≤◌, ◌<◌}
use native.Mathlib.Omega.{arith, by_contra}
use native.Mathlib.Nat.{zero-add}
use borrow.Author.Tests.{lt-ltb, le-ltb}
use lib.Dec.{eqb}
use lib.ListN.{length, get_or, length-append}
use Rattle.lists.specs.Lists.{first_place}
use Rattle.lists.proofs.FirstPlace.{Stands, found_there, place_of}
use Rattle.table.specs.Table.{refuse}
use Rattle.table.specs.declared.Refusal.{Refusal}
use Rattle.std.proofs.Common.{Ok, Err}
use Rattle.text.specs.Text.{Writing, width, numeral, item}
use Rattle.text.specs.Steps.{pasted}
use Rattle.text.proofs.Numeral.{numeral-length}
use Rattle.text.proofs.Pasting.{two_fits, three_fits, three_placed}
use Rattle.catalogue.specs.Catalogue.{numbers, fields, keys, strings_in, verdict_on, is_in}
use Rattle.sentence.specs.Sentence.{spoken, sentence, label_of, room_for, after_verdict, area_after, Put}
use Rattle.sentence.specs.Steps.{Fitted, Found}
use Rattle.catalogue.proofs.Keys.{field_at}
use Rattle.catalogue.proofs.Strings.{label_at}

module _ (bytes area : List ℕ) where
  pub no_room : {r : Refusal} → r ≡ refuse 22 0 0 → length area < length bytes → Fitted bytes area (Err r) area
  unfolding room_for area_after
  no_room e h = record { answers = rw (e, lt-ltb (length area) (length bytes) h); fills = refl }

  pub put_whole : {n : ℕ} {area' : List ℕ} → n ≡ length bytes → length bytes ≤ length area
      → area' ≡ pasted area 0 bytes → Fitted bytes area (Ok n) area'
  unfolding room_for area_after pasted
  put_whole e h so =
      record {
        answers = rw (e, le-ltb (length area) (length bytes) h);
        fills = so ∙ rw (zero-add (length bytes));
      }

module _ (string : List ℕ) (row slot : ℕ) where
  pub spoken_long : length (spoken string row slot) ≡ length string + width row + width slot + 2
  unfolding spoken
  spoken_long = simp length-append (omega (arith, numeral-length row, numeral-length slot))

  pub spoken_pieces : string ++ (item (32 ∷ []) row 32 ++ numeral slot) ≡ spoken string row slot
  unfolding spoken
  spoken_pieces = ap (λ (r : List ℕ). string ++ (32 ∷ r)) (append_assoc (numeral row) (32 ∷ []) (numeral slot))

-- The three pieces written one behind the other.
module _ (string area : List ℕ) (row slot : ℕ) (fits : length (spoken string row slot) ≤ length area) where
  abbrev between : List ℕ
  between = item (32 ∷ []) row 32

  pieces : 0 + (length string + length between + length (numeral slot)) ≤ length area
  pieces =
      let long : length between ≡ length (numeral row) + 2 = simp length-append (omega arith) in
      omega (arith, spoken_long string row slot, numeral-length row, numeral-length slot)

  module _ (p₁ : ℕ) (area₁ : List ℕ) (one : (p₁ ≡ 0 + length string) × (area₁ ≡ pasted area 0 string)) where
    pub row_fits : p₁ + length between ≤ length area₁
    row_fits = two_fits area 0 string between (numeral slot) pieces p₁ area₁ one.0 one.1

    module _ (p₂ : ℕ) (area₂ : List ℕ) (two : (p₂ ≡ p₁ + length between) × (area₂ ≡ pasted area₁ p₁ between)) where
      pub slot_fits : p₂ + length (numeral slot) ≤ length area₂
      slot_fits =
          three_fits area 0 string between (numeral slot) pieces p₁ area₁ one.0 one.1 p₂ area₂ two.0 two.1

      pub spoken_put : {n : ℕ} {area₃ : List ℕ} → n ≡ length string + width row + width slot + 2
          → area₃ ≡ pasted area₂ p₂ (numeral slot) → Fitted (spoken string row slot) area (Ok n) area₃
      spoken_put {n} {area₃} e so =
          let here = three_placed area 0 string between (numeral slot) pieces p₁ area₁ one.0 one.1 in
          let put = here p₂ area₂ two.0 two.1 area₃ so ∙ ap (pasted area 0) (spoken_pieces string row slot) in
          put_whole (spoken string row slot) area (e ∙ sym (spoken_long string row slot)) fits put

-- Whether a list has a number, by its place.
module _ (x : ℕ) (list : List ℕ) where
  pub in_list : first_place x list < length list → is_in x list ≡ true
  unfolding is_in
  in_list h = lt-ltb (first_place x list) (length list) h

  pub not_in_list : length list ≤ first_place x list → is_in x list ≡ false
  unfolding is_in
  not_in_list h = le-ltb (first_place x list) (length list) h

-- The fields are counted from 1, so a number is one of them exactly if it is in that range.
field_place : (f : ℕ) → 1 ≤ f → f ≤ length fields → first_place f fields ≡ f - 1
field_place f l h =
    let here : get_or fields (f - 1) 0 ≡ f = field_at (f - 1) (omega arith) ∙ omega arith in
    let there : Stands f fields (f - 1) = record { inside = omega arith; here = here } in
    let first = place_of f fields (f - 1) there in
    omega (arith, field_at (first_place f fields) first.inside, first.here)

pub is_field : (f : ℕ) → 1 ≤ f → f ≤ length fields → is_in f fields ≡ true
is_field f l h = in_list f fields (omega (arith, field_place f l h))

pub no_field : (f : ℕ) → (1 ≤ f → f ≤ length fields → ⊥) → is_in f fields ≡ false
no_field f other = not_in_list f fields (by_contra (length fields) (first_place f fields) found)
  where
    found : first_place f fields < length fields → ⊥
    found h =
        let here : suc (first_place f fields) ≡ f = sym (field_at (first_place f fields) h) ∙ found_there f fields h in
        other (omega (arith, here)) (omega (arith, here))

module _ (text : List ℕ) where
  pub label_string : (f : ℕ) → 1 ≤ f → f ≤ length fields
      → get_or (strings_in keys text) (length numbers + f - 1) [] ≡ label_of text f
  unfolding label_of
  label_string f l h =
      let line : length numbers + (f - 1) ≡ length numbers + f - 1 = omega arith in
      sym (rw (field_place f l h) (label_at text (f - 1) ∙ ap (λ (k : ℕ). get_or (strings_in keys text) k []) line))

  pub sentence-spoken : (number row slot place : ℕ) {string : List ℕ} {row' slot' : ℕ}
      → string ≡ get_or (strings_in keys text) place [] → place ≡ first_place number numbers
      → row' ≡ cond (eqb number 0) 0 row → slot' ≡ cond (eqb number 0) 0 slot
      → spoken string row' slot' ≡ sentence text number row slot
  unfolding sentence
  sentence-spoken number row slot place e at r s = rw (e, at, r, s)

  -- A text that is no catalogue.
  module _ (found : Bool) (bytes area : List ℕ) where
    pub not_a_catalogue : {r : Refusal} → verdict_on text ≡ Err r → Put text found bytes area (Err r) area
    unfolding after_verdict area_after
    not_a_catalogue e = record { answers = rw e; fills = refl }

-- A number without a string, and bytes that are written if they fit.
module _ (found : Bool) (bytes area : List ℕ) where
  pub without_string : {r : Refusal} → found ≡ false → r ≡ refuse 33 0 0 → Found found bytes area (Err r) area
  unfolding after_verdict area_after
  without_string e so = record { answers = rw (e, so); fills = refl }

  pub with_string : {bytes₁ area' : List ℕ} {w : Writing} → found ≡ true → bytes₁ ≡ bytes
      → Fitted bytes₁ area w area' → Found found bytes area w area'
  unfolding after_verdict
  with_string e same f = record { answers = rw (e, sym same) f.answers; fills = rw (sym same) f.fills }
