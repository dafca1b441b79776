-- A list that is filled from the front by a rule, one store a turn: after i turns it is `build i f ++ drop i d`.
--     filled_more, filled_all                   one store more; at the end
--     filled_whole                              at the end, the length told by an equation
--     filled_long                               it keeps its length
--     filled_past                               what stands past the stores is as it came
-- Assumes nothing.
use mathlib.Core.Path.{◌≡◌, refl, ◌∙◌, ap, sym}
use Prim.Native.Nat.{ℕ, zero, suc, ◌+◌, ◌-◌, ◌≤◌, ◌<◌}
use native.Mathlib.Nat.{not-suc-le-zero}
use native.Mathlib.Numerals.{add-one}
use native.Mathlib.Omega.{arith}
use mathlib.Core.List.{List, [], ◌∷◌, ◌++◌, append-nil}
use lib.ListN.{length, get_or, set, drop, length-append, length-drop, drop_of_length-le}
use lib.Seq.{get_or-append-add, get_or-drop}
use Rattle.lists.specs.Lists.{build}
use Rattle.lists.proofs.Build.{length-build}

module _ {ℓ} {A : Type ℓ} where
  abbrev pub filled : (ℕ → A) → List A → ℕ → List A
  filled f d i = build i f ++ drop i d

  filled-suc : (f : ℕ → A) (d : List A) (i : ℕ) → i < length d → set (filled f d i) i (f i) ≡ filled f d (suc i)
  filled-suc f [] i h = absurd (not-suc-le-zero h)
  filled-suc f (x ∷ d) zero h = refl
  filled-suc f (x ∷ d) (suc i) h = ap {B = List A} (λ l. f 0 ∷ l) (filled-suc (λ j. f (suc j)) d i (omega arith))

  pub filled_more : (f : ℕ → A) (d : List A) (i : ℕ) → i < length d → set (filled f d i) i (f i) ≡ filled f d (i + 1)
  filled_more f d i h = rw add-one (filled-suc f d i h)

  pub filled_long : (f : ℕ → A) (d : List A) (i : ℕ) → i ≤ length d → length (filled f d i) ≡ length d
  filled_long f d i h = length-append (build i f) (drop i d) ∙ omega (arith, length-build i f, length-drop i d)

  pub filled_all : (f : ℕ → A) (d : List A) → filled f d (length d) ≡ build (length d) f
  filled_all f d = rw (drop_of_length-le d {i = length d} (omega arith), append-nil)

  pub filled_whole : (f : ℕ → A) (d : List A) (i n : ℕ) → i ≡ n → length d ≡ n → filled f d i ≡ build n f
  filled_whole f d i n e h = rw (e, sym h) (filled_all f d)

  pub filled_past : (f : ℕ → A) (d : List A) (i j : ℕ) (e : A) → i ≤ j → get_or (filled f d i) j e ≡ get_or d j e
  filled_past f d i j e h =
      let sum : j ≡ length (build i f) + (j - i) = omega (arith, length-build i f) in
      let back : i + (j - i) ≡ j = omega arith in
      ap (λ (k : ℕ). get_or (filled f d i) k e) sum ∙ get_or-append-add (build i f) (drop i d) (j - i) e
      ∙ get_or-drop i d (j - i) e ∙ ap (λ (k : ℕ). get_or d k e) back
