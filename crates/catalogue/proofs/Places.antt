-- Where std finds the first entry that passes a test, and the place of a number in a list.
--     first_found, first_missing      what std's answer says of the number of entries before it
--     place_found, place_missing      a number stands at its first place, or the list does not have it
-- Assumes nothing.
use Rattle.std.proofs.Common.{◌≡◌, ℕ, ◌<◌, Bool, true, false, cond, not, List, length, eqb, nat_eq, nat_lt, Some, None, refl, ap, arith}
use Rattle.std.specs.List.{position, position_or_len}
use Rattle.std.proofs.lemmas.List.Recursion.{is_position_or_len}
use Rattle.std.proofs.lemmas.List.Sums.{prefix_len-le-length}
use borrow.Author.Tests.{ltb-true, ltb-false, lt-ltb, le-ltb}
use Rattle.lists.specs.Lists.{first_place}
use Rattle.catalogue.specs.Catalogue.{is_in}

module _ {X : Type 0} (p : X → Bool) (xs : List X) where
  abbrev before : ℕ
  before = position_or_len p xs

  -- As many entries stand before the one that is found.
  pub first_found : {i : ℕ} → position p xs ≡ Some i → (before ≡ i) × (i < length xs)
  first_found {i} e = go (nat_lt before (length xs)) refl e
    where
      go : (b : Bool) → nat_lt before (length xs) ≡ b → cond b (Some before) None ≡ Some i → (before ≡ i) × (i < length xs)
      go true f e = let same : before ≡ i = cc in (same, omega (arith, ltb-true before (length xs) f))
      go false f e = absurd cc

  -- Where none is found, all of them.
  pub first_missing : position p xs ≡ None → before ≡ length xs
  first_missing e = go (nat_lt before (length xs)) refl e
    where
      go : (b : Bool) → nat_lt before (length xs) ≡ b → cond b (Some before) None ≡ None → before ≡ length xs
      go true f e = absurd cc
      go false f e = omega (arith, ltb-false before (length xs) f, prefix_len-le-length (λ x. not (p x)) xs)

module _ (x : ℕ) (xs : List ℕ) where
  place_is : first_place x xs ≡ position_or_len (λ y. nat_eq x y) xs
  unfolding first_place
  place_is =
      is_position_or_len (first_place x) (λ y. nat_eq x y) refl
      (λ y ys. ap (λ (k : ℕ). cond (eqb x y) 0 k) (omega arith)) xs

  -- A number that is found stands at its first place in the list.
  pub place_found : {k : ℕ} → position (λ y. nat_eq x y) xs ≡ Some k
      → (is_in x xs ≡ true) × (k ≡ first_place x xs) × (k < length xs)
  unfolding is_in
  place_found {k} e =
      let found = first_found (λ y. nat_eq x y) xs e in (
        lt-ltb (first_place x xs) (length xs) (omega (arith, place_is, found.0, found.1)),
        omega (arith, place_is, found.0),
        found.1,
      )

  -- A number that is not found is not in the list.
  pub place_missing : position (λ y. nat_eq x y) xs ≡ None → is_in x xs ≡ false
  unfolding is_in
  place_missing e =
      le-ltb (first_place x xs) (length xs) (omega (arith, place_is, first_missing (λ y. nat_eq x y) xs e))
