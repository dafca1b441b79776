-- What follows of every catalogue that is accepted, and of the numbers that have a sentence.
--     accepted_iff       a catalogue is accepted exactly if it is just its lines in order and no two labels are equal
--     its_strings        its strings are those of the lines
--     distinct_labels    no two labels of an accepted text are equal
--     numbers_ascend     the numbers that have a sentence ascend
-- Assumes nothing.
use mathlib.Core.Path.{◌≡◌, refl, ◌∙◌, ap, sym}
use mathlib.Core.Logic.{◌↔◌}
use mathlib.Core.Bool.{Bool, true, false, ◌&&◌}
use mathlib.Core.List.{List, [], ◌∷◌}
use Prim.Native.Nat.{ℕ, zero, suc, ◌<◌}
use native.Mathlib.Omega.{arith}
use borrow.Author.Tests.{ltb-true}
use lib.Dec.{ltb}
use lib.ListN.{length, get_or, drop, length-drop}
use Rattle.std.proofs.Common.{Ok, Err, Option, Some, None}
use Rattle.table.specs.Table.{Verdict}
use Rattle.lists.proofs.Truth.{differ}
use Rattle.catalogue.specs.Catalogue.{numbers, fields, keys, Distinct, IsCatalogue, lines_verdict, strings_in}
use Rattle.catalogue.specs.Catalogue.{labels_in, first_repeat, after_lines, verdict_on}
use Rattle.catalogue.proofs.Keys.{key_plain, keys_all}
use Rattle.catalogue.proofs.Cutting.{AllPlain, strings_counted, lines_stand, lines_found}
use Rattle.catalogue.proofs.Labels.{distinct_none, none_distinct}
use Rattle.catalogue.proofs.Strings.{labels_long}

-- ---- which catalogues are accepted
-- A catalogue's labels are those strings that stand behind the ones of the answers.
labels_counted : (strings : List (List ℕ)) → length strings ≡ length keys
    → length (drop (length numbers) strings) ≡ length fields
labels_counted strings e = omega (arith, length-drop (length numbers) strings, e, keys_all)

plain_keys : AllPlain keys
plain_keys i h = key_plain i (omega (arith, keys_all))

module _ (text : List ℕ) where
  -- An accepted text's lines are right, and no label repeats an earlier one.
  record Right : Type 0 where
    lines : lines_verdict keys 0 text ≡ Ok tt
    labels : first_repeat (labels_in text) (length fields) 0 ≡ None

  both : verdict_on text ≡ Ok tt → Right
  unfolding verdict_on after_lines
  both e = go (lines_verdict keys 0 text) refl (first_repeat (labels_in text) (length fields) 0) refl e
    where
      go : (v : Verdict) → lines_verdict keys 0 text ≡ v
          → (o : Option ℕ) → first_repeat (labels_in text) (length fields) 0 ≡ o
          → after_lines v o ≡ Ok tt → Right
      go (Err r) q o f e = absurd cc
      go (Ok _) q None f e = record { lines = q; labels = f }
      go (Ok _) q (Some k) f e = absurd cc

  -- No two labels of an accepted text are equal.
  pub distinct_labels : verdict_on text ≡ Ok tt → Distinct (labels_in text)
  distinct_labels e = none_distinct (labels_in text) (rw (labels_long text) (both e).labels)

  is_catalogue : verdict_on text ≡ Ok tt → IsCatalogue text
  unfolding labels_in
  is_catalogue e =
      let lines = lines_stand keys 0 text plain_keys (both e).lines in
      record {
        strings = strings_in keys text;
        counted = strings_counted keys text;
        each = lines.1;
        so = lines.0;
        distinct = distinct_labels e;
      }

  -- The lines of a catalogue are right, and the strings in them are its strings.
  module _ (c : IsCatalogue text) where
    abbrev read_back : (lines_verdict keys 0 text ≡ Ok tt) × (strings_in keys text ≡ c.strings)
    read_back =
        let found = lines_found keys c.strings 0 plain_keys c.counted c.each in
        (ap (lines_verdict keys 0) c.so ∙ found.0, ap (strings_in keys) c.so ∙ found.1)

    -- The strings that sentences and labels are made of are those of the lines.
    pub its_strings : strings_in keys text ≡ c.strings
    its_strings = read_back.1

    is_accepted : verdict_on text ≡ Ok tt
    unfolding verdict_on after_lines labels_in
    is_accepted =
        let labels = drop (length numbers) c.strings in
        let none : first_repeat labels (length fields) 0 ≡ None =
        rw (sym (labels_counted c.strings c.counted)) (distinct_none labels c.distinct) in
        rw (read_back.0, its_strings, none)

  -- A catalogue is accepted exactly if it is just its lines in order and no two labels are equal.
  pub accepted_iff : (verdict_on text ≡ Ok tt) ↔ IsCatalogue text
  accepted_iff = (is_catalogue, is_accepted)

-- ---- the numbers that have a sentence
-- Each entry of a list is below the next.
ascending : List ℕ → Bool
ascending [] = true
ascending (x ∷ []) = true
ascending (x ∷ y ∷ rest) = ltb x y && ascending (y ∷ rest)

-- The entry at a place is below the next.
abbrev Below : List ℕ → ℕ → Type 0
Below xs i = get_or xs i 0 < get_or xs (suc i) 0

ascends : (xs : List ℕ) (i : ℕ) → ascending xs ≡ true → suc i < length xs → Below xs i
unfolding ascending
ascends [] i e h = absurd (omega arith)
ascends (x ∷ []) i e h = absurd (omega arith)
ascends (x ∷ y ∷ rest) i e h = go (ltb x y) refl e i h (ascends (y ∷ rest))
  where
    go : (b : Bool) → ltb x y ≡ b → (b && ascending (y ∷ rest)) ≡ true → (i : ℕ) → suc i < length (x ∷ y ∷ rest)
        → ((k : ℕ) → ascending (y ∷ rest) ≡ true → suc k < length (y ∷ rest) → Below (y ∷ rest) k)
        → Below (x ∷ y ∷ rest) i
    go false f e i h more = absurd (differ e)
    go true f e zero h more = ltb-true x y f
    go true f e (suc i) h more = more i e (omega arith)

-- The numbers that have a sentence ascend.
pub numbers_ascend : (i : ℕ) → suc i < length numbers → get_or numbers i 0 < get_or numbers (suc i) 0
unfolding ascending
numbers_ascend i h = ascends numbers i refl h
