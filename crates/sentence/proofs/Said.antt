-- What follows of what is said by an accepted catalogue, and of every outcome that fits the promise of an entry point.
--     accepted_ends_in_zeros      the sentence of acceptance ends in 0 and 0
--     two_fields_two_labels       two fields have two labels
--     one_sentence, one_label     two outcomes that fit a promise are equal
--     untouched                   a refusal leaves the area as it was
--     written_fits, written_taken what is written lies within the area
-- Assumes nothing.
use mathlib.Core.Path.{◌≡◌, refl, ◌∙◌, ap, sym}
use mathlib.Core.Bool.{Bool, true, false, cond}
use mathlib.Core.List.{List, [], ◌∷◌, ◌++◌}
use Prim.Native.Nat.{ℕ, ◌≤◌, ◌<◌}
use native.Mathlib.Omega.{arith}
use borrow.Author.Tests.{ltb-true, ltb-false}
use lib.Dec.{ltb}
use lib.ListN.{length, get_or, take, drop, length-append}
use lib.Seq.{length-take-le}
use Rattle.lists.specs.Lists.{first_place}
use Rattle.lists.proofs.FirstPlace.{found_there}
use Rattle.table.specs.Table.{Verdict, refuse}
use Rattle.table.specs.declared.Refusal.{Refusal}
use Rattle.std.proofs.Common.{Ok, Err}
use Rattle.text.specs.Text.{Writing, width, last_digits, numeral}
use Rattle.catalogue.specs.Catalogue.{fields, keys, strings_in, labels_in, verdict_on, is_in}
use Rattle.catalogue.proofs.Strings.{labels_long}
use Rattle.catalogue.proofs.Accepted.{distinct_labels}
use Rattle.sentence.specs.Sentence.{spoken, sentence, label_of, room_for, after_verdict, area_after, Put}
use Rattle.sentence.specs.Sentence.{SentencePut, LabelPut}

-- The place of a field among the fields, and that it is one of them.
abbrev place : ℕ → ℕ
place f = first_place f fields

abbrev IsField : ℕ → Type 0
IsField f = is_in f fields ≡ true

inside : (f : ℕ) → IsField f → place f < length fields
unfolding is_in
inside f e = ltb-true (place f) (length fields) e

-- Two fields stand at two places.
one_place : (f g : ℕ) → IsField f → IsField g → place f ≡ place g → f ≡ g
one_place f g in_f in_g e =
    let same = ap (λ (k : ℕ). get_or fields k 0) e in
    sym (found_there f fields (inside f in_f)) ∙ same ∙ found_there g fields (inside g in_g)

module _ (text : List ℕ) where
  -- Two fields of an accepted catalogue have two labels.
  pub two_fields_two_labels : verdict_on text ≡ Ok tt → (f g : ℕ) → is_in f fields ≡ true → is_in g fields ≡ true
      → (f ≡ g → ⊥) → label_of text f ≡ label_of text g → ⊥
  unfolding label_of
  two_fields_two_labels e f g in_f in_g other same = go (ltb (place f) (place g)) refl (ltb (place g) (place f)) refl
    where
      there : (x : ℕ) → IsField x → place x < length (labels_in text)
      there x t = rw (labels_long text) (inside x t)

      go : (x : Bool) → ltb (place f) (place g) ≡ x → (y : Bool) → ltb (place g) (place f) ≡ y → ⊥
      go true p y q = distinct_labels text e (place f) (place g) (ltb-true (place f) (place g) p) (there g in_g) same
      go false p true q =
          distinct_labels text e (place g) (place f) (ltb-true (place g) (place f) q) (there f in_f) (sym same)
      go false p false q =
          let below = ltb-false (place f) (place g) p in
          let above = ltb-false (place g) (place f) q in
          other (one_place f g in_f in_g (omega (arith, below, above)))

  -- The sentence of acceptance ends in 0 and 0, whatever row and slot are given.
  pub accepted_ends_in_zeros : (row slot : ℕ)
      → sentence text 0 row slot ≡ get_or (strings_in keys text) 0 [] ++ (32 ∷ 48 ∷ 32 ∷ 48 ∷ [])
  unfolding sentence spoken first_place numeral width last_digits
  accepted_ends_in_zeros row slot = refl

-- ---- one outcome
module _ {text : List ℕ} {found : Bool} {bytes area : List ℕ} where
  -- Two outcomes that fit one call are equal: the answer, and every byte of the area.
  one_put : {w₁ w₂ : Writing} {area₁ area₂ : List ℕ} → Put text found bytes area w₁ area₁
      → Put text found bytes area w₂ area₂ → (w₁ ≡ w₂) × (area₁ ≡ area₂)
  one_put a b =
      let same = a.answers ∙ sym b.answers in
      (same, a.fills ∙ ap (λ (w : Writing). area_after w bytes area) same ∙ sym b.fills)

  -- A refused sentence or label leaves the area as it was.
  pub untouched : {r : Refusal} {area' : List ℕ} → Put text found bytes area (Err r) area' → area' ≡ area
  unfolding area_after
  untouched p = p.fills

-- How many bytes a writing comes to.
written : Writing → ℕ
written (Ok k) = k
written (Err r) = 0

-- It is those that were to be written, or none.
few_written : (v : Verdict) (found : Bool) (bytes : List ℕ) (lent : ℕ)
    → written (after_verdict v found bytes lent) ≤ length bytes
unfolding written after_verdict room_for
few_written (Err r) found bytes lent = omega arith
few_written (Ok _) false bytes lent = omega arith
few_written (Ok _) true bytes lent = go (ltb lent (length bytes))
  where
    go : (b : Bool) → written (cond b (Err (refuse 22 0 0)) (Ok (length bytes))) ≤ length bytes
    go true = omega arith
    go false = omega arith

-- What is written lies within the area, as a caller needs that lends it on.
module _ {text : List ℕ} {found : Bool} {bytes area area' : List ℕ} {w : Writing} {k : ℕ}
    (p : Put text found bytes area w area') (e : w ≡ Ok k) where
  pub written_fits : k ≤ length area'
  unfolding written area_after
  written_fits =
      let few = few_written (verdict_on text) found bytes (length area) in
      let long = ap length p.fills ∙ ap (λ (w : Writing). length (area_after w bytes area)) e in
      omega (arith, ap written (sym e ∙ p.answers), few, long, length-append bytes (drop (length bytes) area))

  pub written_taken : k ≡ length (take k area')
  written_taken = sym (length-take-le k area' written_fits)

-- One call has one sentence, and one label.
module _ {text area area₁ area₂ : List ℕ} {w₁ w₂ : Writing} where
  pub one_sentence : (number row slot : ℕ) → SentencePut text number row slot area w₁ area₁
      → SentencePut text number row slot area w₂ area₂ → (w₁ ≡ w₂) × (area₁ ≡ area₂)
  one_sentence number row slot a b = one_put a b

  pub one_label : (field : ℕ) → LabelPut text field area w₁ area₁ → LabelPut text field area w₂ area₂
      → (w₁ ≡ w₂) × (area₁ ≡ area₂)
  one_label field a b = one_put a b
