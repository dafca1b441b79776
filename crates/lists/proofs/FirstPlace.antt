-- The first place of a number in a list, and that the largest entry has one.
--     place_fits                            the first place is in the list or directly behind it
--     found_there                           the number stands at its first place, where that is in the list
--     not_before                            it doesn't stand before
--     place_of                              so a number that the list has stands at its first place
--     largest_there                         the largest entry of a list that isn't empty is one of its entries
-- Assumes nothing.
use mathlib.Core.Path.{◌≡◌, refl, ◌∙◌, sym}
use Prim.Native.Nat.{ℕ, zero, suc, ◌≤◌, ◌<◌}
use native.Mathlib.Nat.{le_of_suc-le-suc, not-suc-le-zero}
use native.Mathlib.Decide.{dec_le}
use native.Mathlib.Omega.{arith, by_contra}
use mathlib.Core.Bool.{Bool, true, false, cond}
use mathlib.Core.List.{List, [], ◌∷◌}
use borrow.Author.Tests.{eqb-true, eqb-false}
use lib.Dec.{eqb}
use lib.ListN.{length, get_or}
use Rattle.lists.specs.Lists.{largest, first_place}

-- The first place is in the list or directly behind it.
pub place_fits : (x : ℕ) (l : List ℕ) → first_place x l ≤ length l
unfolding first_place
place_fits x [] = omega arith
place_fits x (y ∷ l) = go (eqb x y) (place_fits x l)
  where
    go : (b : Bool) → first_place x l ≤ length l → cond {A = ℕ} b 0 (suc (first_place x l)) ≤ suc (length l)
    go true h = omega arith
    go false h = omega arith

-- A place in a list, and the number that stands there.
pub record Stands (x : ℕ) (xs : List ℕ) (i : ℕ) : Type 0 where
  pub inside : i < length xs
  pub here : get_or xs i 0 ≡ x

module _ (x : ℕ) where
  -- A number stands at its first place, where that is in the list.
  pub found_there : (xs : List ℕ) → first_place x xs < length xs → get_or xs (first_place x xs) 0 ≡ x
  unfolding first_place
  found_there [] h = absurd (not-suc-le-zero h)
  found_there (y ∷ ys) h = go (eqb x y) refl h (found_there ys)
    where
      go : (b : Bool) → eqb x y ≡ b → cond b 0 (suc (first_place x ys)) < suc (length ys)
          → (first_place x ys < length ys → get_or ys (first_place x ys) 0 ≡ x)
          → get_or (y ∷ ys) (cond b 0 (suc (first_place x ys))) 0 ≡ x
      go true f h rest = sym (eqb-true x y f)
      go false f h rest = rest (omega arith)

  -- It doesn't stand before.
  pub not_before : (xs : List ℕ) (i : ℕ) → i < first_place x xs → get_or xs i 0 ≡ x → ⊥
  unfolding first_place
  not_before [] i h e = omega arith
  not_before (y ∷ ys) i h e = go (eqb x y) refl i h e (not_before ys)
    where
      go : (b : Bool) → eqb x y ≡ b → (i : ℕ) → i < cond b 0 (suc (first_place x ys)) → get_or (y ∷ ys) i 0 ≡ x
          → ((j : ℕ) → j < first_place x ys → get_or ys j 0 ≡ x → ⊥) → ⊥
      go true f i h e rest = omega arith
      go false f zero h e rest = eqb-false x y f (sym e)
      go false f (suc j) h e rest = rest j (le_of_suc-le-suc h) e

  -- A number that the list has stands at its first place.
  pub place_of : (xs : List ℕ) (i : ℕ) → Stands x xs i → Stands x xs (first_place x xs)
  place_of xs i s =
      let first : first_place x xs ≤ i = by_contra (first_place x xs) i (λ q. not_before xs i q s.here) in
      let in_list : first_place x xs < length xs = omega (arith, s.inside) in
      record { inside = in_list; here = found_there xs in_list }

-- The largest entry of a list that isn't empty is one of its entries.
pub largest_there : (xs : List ℕ) → 0 < length xs → (i : ℕ) × Stands (largest xs) xs i
unfolding largest
largest_there [] some = absurd (omega arith)
largest_there (x ∷ []) some = (0, record { inside = omega arith; here = omega arith })
largest_there (x ∷ y ∷ ys) some = go (dec_le (largest (y ∷ ys)) x) (largest_there (y ∷ ys) (omega arith))
  where
    go : Dec (largest (y ∷ ys) ≤ x) → ((i : ℕ) × Stands (largest (y ∷ ys)) (y ∷ ys) i) → (i : ℕ)
        × Stands (largest (x ∷ y ∷ ys)) (x ∷ y ∷ ys) i
    go (yes l) rest = (0, record { inside = omega arith; here = omega arith })
    go (no l) rest =
        (suc rest.0, record { inside = omega (arith, rest.1.inside); here = rest.1.here ∙ omega arith })
