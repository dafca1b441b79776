-- Labels compared.
--     same_true, same_self            strings that are the same are equal, and a string is the same as itself
--     same_std                        so std says it too
--     distinct_none, none_distinct    no two labels are equal exactly if none repeats an earlier one
-- Assumes nothing.
use mathlib.Core.Path.{◌≡◌, refl, ◌∙◌, ap, sym}
use Rattle.std.proofs.Common.{Some, None, nat_eq}
use Rattle.std.specs.Cmp.Lexicographic.{pointwise}
use mathlib.Core.Bool.{Bool, true, false, cond, ◌&&◌, ◌||◌}
use mathlib.Core.List.{List, [], ◌∷◌}
use Prim.Native.Nat.{ℕ, zero, suc, ◌+◌, ◌≤◌, ◌<◌}
use native.Mathlib.Nat.{not-suc-le-zero}
use native.Mathlib.Decide.{dec_le}
use native.Mathlib.Omega.{arith}
use borrow.Author.Tests.{eq-eqb, eqb-true}
use lib.Dec.{eqb}
use lib.ListN.{length, get_or, take}
use lib.Seq.{length-take-le, get_or-take}
use Rattle.lists.proofs.Truth.{differ}
use Rattle.catalogue.specs.Catalogue.{Distinct, same, among, first_repeat}

-- Strings that are the same are equal.
pub same_true : (a b : List ℕ) → same a b ≡ true → a ≡ b
unfolding same
same_true [] [] e = refl
same_true [] (y ∷ b) e = absurd (differ e)
same_true (x ∷ a) [] e = absurd (differ e)
same_true (x ∷ a) (y ∷ b) e = go (eqb x y) refl e (same_true a b)
  where
    go : (t : Bool) → eqb x y ≡ t → (t && same a b) ≡ true → (same a b ≡ true → a ≡ b) → x ∷ a ≡ y ∷ b
    go false f e rest = absurd (differ e)
    go true f e rest = cc (eqb-true x y f, rest e)

-- A string is the same as itself.
pub same_self : (a : List ℕ) → same a a ≡ true
unfolding same
same_self [] = refl
same_self (x ∷ a) = rw (eq-eqb x x refl) (same_self a)

-- Strings are the same as std says it of two slices.
pub same_std : (a b : List ℕ) → same a b ≡ pointwise nat_eq a b
unfolding same
same_std [] [] = refl
same_std [] (y ∷ b) = refl
same_std (x ∷ a) [] = refl
same_std (x ∷ a) (y ∷ b) = ap (λ (t : Bool). eqb x y && t) (same_std a b)

-- A string that no entry equals isn't among them, and one that isn't among them equals none.
none_among : (s : List ℕ) (ts : List (List ℕ)) → ((i : ℕ) → i < length ts → get_or ts i [] ≡ s → ⊥) → among s ts ≡ false
unfolding among
none_among s [] other = refl
none_among s (t ∷ ts) other = go (same s t) refl (none_among s ts (λ i h. other (suc i) (omega arith)))
  where
    go : (b : Bool) → same s t ≡ b → among s ts ≡ false → (b || among s ts) ≡ false
    go true f rest = absurd (other 0 (omega arith) (sym (same_true s t f)))
    go false f rest = rest

among_none : (s : List ℕ) (ts : List (List ℕ)) (i : ℕ) → among s ts ≡ false → i < length ts → get_or ts i [] ≡ s → ⊥
unfolding among
among_none s [] i e h q = not-suc-le-zero h
among_none s (t ∷ ts) zero e h q = let all : true ≡ false = rw (q, same_self s) at e in differ (sym all)
among_none s (t ∷ ts) (suc i) e h q = go (same s t) e (λ f. among_none s ts i f (omega arith) q)
  where
    go : (b : Bool) → (b || among s ts) ≡ false → (among s ts ≡ false → ⊥) → ⊥
    go true f rest = differ (sym f)
    go false f rest = rest f

module _ (labels : List (List ℕ)) where
  -- The m labels from place k on repeat no earlier one.
  abbrev New : (m k : ℕ) → Type 0
  New m k = (j : ℕ) → k ≤ j → j < k + m → among (get_or labels j []) (take j labels) ≡ false

  none_repeats : (m k : ℕ) → New m k → first_repeat labels m k ≡ None
  unfolding first_repeat
  none_repeats zero k new = refl
  none_repeats (suc m) k new =
      let more : New m (suc k) = λ j l h. new j (omega arith) (omega arith) in
      rw (new k (omega arith) (omega arith)) (none_repeats m (suc k) more)

  repeats_none : (m k : ℕ) → first_repeat labels m k ≡ None → New m k
  unfolding first_repeat
  repeats_none zero k e = λ j l h. absurd (omega arith)
  repeats_none (suc m) k e = go (among (get_or labels k []) (take k labels)) refl e (repeats_none m (suc k))
    where
      go : (b : Bool) → among (get_or labels k []) (take k labels) ≡ b
          → cond b (Some k) (first_repeat labels m (suc k)) ≡ None → (first_repeat labels m (suc k) ≡ None → New m (suc k))
          → New (suc m) k
      go true f e rest = absurd cc
      go false f e rest = λ j l h. here j l h (dec_le j k)
        where
          here : (j : ℕ) → k ≤ j → j < k + suc m → Dec (j ≤ k) → among (get_or labels j []) (take j labels) ≡ false
          here j l h (yes u) = let so : j ≡ k = omega arith in rw so f
          here j l h (no u) = rest e j (omega (arith, u)) (omega arith)

  -- Labels of which no two are equal have none that repeats an earlier one.
  pub distinct_none : Distinct labels → first_repeat labels (length labels) 0 ≡ None
  distinct_none d =
      none_repeats (length labels) 0 (λ j l h. none_among (get_or labels j []) (take j labels) (λ i u q. other j h i u q))
    where
      other : (j : ℕ) → j < 0 + length labels → (i : ℕ) → i < length (take j labels)
          → get_or (take j labels) i [] ≡ get_or labels j [] → ⊥
      other j h i u q =
          let long : length (take j labels) ≡ j = length-take-le j labels (omega arith) in
          d i j (omega arith) (omega arith) (sym (get_or-take j labels i [] (omega arith)) ∙ q)

  -- And the other way round.
  pub none_distinct : first_repeat labels (length labels) 0 ≡ None → Distinct labels
  none_distinct e i j l h q =
      let long : length (take j labels) ≡ j = length-take-le j labels (omega arith) in
      let new = repeats_none (length labels) 0 e j (omega arith) (omega arith) in
      among_none (get_or labels j []) (take j labels) i new (omega arith) (get_or-take j labels i [] l ∙ q)
