-- The laws of `build n f`, the list f 0, .., f (n - 1).
--     length-build, get_or_build      its length and its entries
--     build_ext                     two rules that agree below n give one list
--     build_of                      every list is built by its own entries
--     set-build                     one entry set
--     build_const                   a rule that gives one value
-- Assumes nothing.
use mathlib.Core.Path.{◌≡◌, refl, ◌∙◌, ap, sym}
use Prim.Native.Nat.{ℕ, zero, suc, ◌<◌}
use native.Mathlib.Nat.{not-suc-le-zero, le_of_suc-le-suc}
use native.Mathlib.Omega.{arith}
use mathlib.Core.Bool.{Bool, true, false}
use mathlib.Core.List.{List, ◌∷◌, map}
use lib.Dec.{eqb}
use lib.ListN.{length, get_or, set, replicate, length-set}
use lib.Seq.{ext_get_or, get_or-set_same, get_or-set_other}
use Rattle.lists.specs.Lists.{build}

module _ {ℓ} {A : Type ℓ} where
  pub length-build : (n : ℕ) (f : ℕ → A) → length (build n f) ≡ n
  length-build zero f = refl
  length-build (suc n) f = ap suc (length-build n (λ i. f (suc i)))

  pub get_or_build : (n : ℕ) (f : ℕ → A) (i : ℕ) (d : A) → i < n → get_or (build n f) i d ≡ f i
  get_or_build zero f i d h = absurd (not-suc-le-zero h)
  get_or_build (suc n) f zero d h = refl
  get_or_build (suc n) f (suc i) d h = get_or_build n (λ j. f (suc j)) i d (le_of_suc-le-suc h)

  pub build_ext : (n : ℕ) (f g : ℕ → A) → ((i : ℕ) → i < n → f i ≡ g i) → build n f ≡ build n g
  build_ext zero f g h = refl
  build_ext (suc n) f g h =
      cc (h 0 (omega arith), build_ext n (λ i. f (suc i)) (λ i. g (suc i)) (λ i l. h (suc i) (omega arith)))

  pub build_of : (n : ℕ) (d : A) (xs : List A) → length xs ≡ n → build n (λ i. get_or xs i d) ≡ xs
  build_of n d xs e =
      ext_get_or d (build n (λ i. get_or xs i d)) xs (length-build n (λ i. get_or xs i d) ∙ sym e)
      (λ i h. get_or_build n (λ j. get_or xs j d) i d (small i h))
    where
      small : (i : ℕ) → i < length (build n (λ j. get_or xs j d)) → i < n
      small i h = omega (arith, length-build n (λ j. get_or xs j d))

  -- a list whose entries are f's is built by f
  pub is_build : (n : ℕ) (f : ℕ → A) (d : A) (xs : List A) → length xs ≡ n → ((i : ℕ) → i < n → get_or xs i d ≡ f i)
      → xs ≡ build n f
  is_build n f d xs e h = sym (build_of n d xs e) ∙ build_ext n (λ i. get_or xs i d) f h

  pub build_const : (n : ℕ) (a : A) → build n (λ i. a) ≡ replicate n a
  build_const zero a = refl
  build_const (suc n) a = ap {B = List A} (λ l. a ∷ l) (build_const n a)

-- one entry set: the rule that gives v at j and what it gave elsewhere
pub set-build : (n : ℕ) (f g : ℕ → ℕ) (j : ℕ) → ((i : ℕ) → i < n → (i ≡ j → ⊥) → g i ≡ f i)
    → set (build n f) j (g j) ≡ build n g
set-build n f g j other =
    is_build n g 0 (set (build n f) j (g j)) (length-set (build n f) j (g j) ∙ length-build n f)
    (λ i h. go i h (eqb i j) refl)
  where
    go : (i : ℕ) → i < n → (b : Bool) → eqb i j ≡ b → get_or (set (build n f) j (g j)) i 0 ≡ g i
    go i h true e =
        let s : i ≡ j = borrow.Author.Tests.eqb-true i j e in
        let l : j < length (build n f) = omega (arith, length-build n f) in
        rw (s, get_or-set_same (build n f) j (g j) 0 l)
    go i h false e =
        get_or-set_other (build n f) j i (g j) 0 (borrow.Author.Tests.eqb-false i j e) ∙ get_or_build n f i 0 h
        ∙ sym (other i h (borrow.Author.Tests.eqb-false i j e))

-- a rule applied to each entry
pub map-build {ℓ ℓ'} : {A : Type ℓ} {B : Type ℓ'} (n : ℕ) (g : A → B) (f : ℕ → A)
    → map g (build n f) ≡ build n (λ i. g (f i))
map-build zero g f = refl
map-build {B} (suc n) g f = ap {B = List B} (λ l. g (f 0) ∷ l) (map-build n g (λ i. f (suc i)))
