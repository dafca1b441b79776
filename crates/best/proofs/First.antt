-- The first number that passes a test.
--     first_then        what is told of the number that is found
--     first_is          the number that passes and has none before it is found
--     first_none        where none passes, none is found
-- Assumes nothing.
use mathlib.Core.Path.{◌≡◌, refl, ◌∙◌, ap, sym}
use Prim.Native.Nat.{ℕ, zero, suc, ◌+◌, ◌≤◌, ◌<◌}
use native.Mathlib.Omega.{arith}
use native.Mathlib.Decide.{ℕ_discrete, dec_lt}
use mathlib.Core.Bool.{Bool, true, false, cond}
use Rattle.cells.specs.Rows.{first_that}

module _ (test : ℕ → Bool) where
  -- Number r is the first from i on that passes, and lies below i + m.
  pub record First (m i r : ℕ) : Type 0 where
    pub from : i ≤ r
    pub below : r < i + m
    pub passes : test r ≡ true
    pub none_before : (j : ℕ) → i ≤ j → j < r → test j ≡ false

  pub first_then : (m i r : ℕ) → first_that test m i ≡ suc r → First m i r
  unfolding first_that
  first_then zero i r e = absurd (omega arith)
  first_then (suc m) i r e = go (test i) refl e (first_then m (suc i) r)
    where
      go : (b : Bool) → test i ≡ b → cond b (suc i) (first_that test m (suc i)) ≡ suc r
          → (first_that test m (suc i) ≡ suc r → First m (suc i) r) → First (suc m) i r
      go true f h more =
          let s : i ≡ r = omega arith in
          record {
            from = omega arith;
            below = omega arith;
            passes = ap test (sym s) ∙ f;
            none_before = λ j k l. absurd (omega arith);
          }
      go false f h more =
          record {
            from = omega (arith, (more h).from);
            below = omega (arith, (more h).below);
            passes = (more h).passes;
            none_before = λ j k l. before j k l (dec_lt i j);
          }
        where
          before : (j : ℕ) → i ≤ j → j < r → Dec (i < j) → test j ≡ false
          before j k l (yes d) = (more h).none_before j d l
          before j k l (no d) = let s : j ≡ i = omega arith in ap test s ∙ f

  pub first_is : (m i r : ℕ) → First m i r → first_that test m i ≡ suc r
  unfolding first_that
  first_is zero i r f = absurd (omega (arith, f.from, f.below))
  first_is (suc m) i r f = go (ℕ_discrete i r) (first_is m (suc i) r)
    where
      go : Dec (i ≡ r) → (First m (suc i) r → first_that test m (suc i) ≡ suc r)
          → cond (test i) (suc i) (first_that test m (suc i)) ≡ suc r
      go (yes e) more = rw (ap test e ∙ f.passes, e)
      go (no e) more =
          rw (f.none_before i (omega arith) (omega (arith, f.from)))
          (more (record {
            from = omega (arith, f.from);
            below = omega (arith, f.below);
            passes = f.passes;
            none_before = λ j k l. f.none_before j (omega arith) l;
          }))

  pub first_none : (m i : ℕ) → ((j : ℕ) → i ≤ j → j < i + m → test j ≡ false) → first_that test m i ≡ 0
  unfolding first_that
  first_none zero i h = refl
  first_none (suc m) i h =
      rw (h i (omega arith) (omega arith)) (first_none m (suc i) (λ j k l. h j (omega arith) (omega arith)))
