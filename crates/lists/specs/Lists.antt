-- Plain lists of numbers, as contracts speak of them.
use Rattle.std.specs.Prelude.{ℕ, zero, suc, ◌+◌, max, cond, List, [], ◌∷◌, eqb}

-- The list f 0, f 1, .., f (n - 1).
abbrev pub build {ℓ} : {A : Type ℓ} → ℕ → (ℕ → A) → List A
build zero f = []
build (suc n) f = f zero ∷ build n (λ i. f (suc i))

-- The sum of all entries.
unfoldable pub total : List ℕ → ℕ
total [] = 0
total (x ∷ xs) = x + total xs

-- The largest entry, 0 for an empty list.
unfoldable pub largest : List ℕ → ℕ
largest [] = 0
largest (x ∷ xs) = max x (largest xs)

-- The first place of a number, and the list's length where it has none.
unfoldable pub first_place : ℕ → List ℕ → ℕ
first_place x [] = 0
first_place x (y ∷ ys) = cond (eqb x y) 0 (suc (first_place x ys))
