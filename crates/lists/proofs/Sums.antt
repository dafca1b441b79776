-- Sums of lists that rules build, and of two lists one behind the other.
--     total_joined                  of two lists
--     total_both, total_times       of two rules added, and of a rule taken m times
--     total_same                    of a rule that gives the same number everywhere
--     total_last                    of one entry more
-- Assumes nothing.
use mathlib.Core.Path.{◌≡◌, ◌∙◌, ap, sym}
use Prim.Native.Nat.{ℕ, zero, suc, ◌+◌, ◌*◌}
use native.Mathlib.Nat.{suc-mul, mul-zero, mul-add}
use native.Mathlib.Numerals.{add-one}
use native.Mathlib.Omega.{arith}
use mathlib.Core.List.{List, [], ◌∷◌, ◌++◌}
use Rattle.lists.specs.Lists.{build, total}

-- The sum of two lists is the sum of their sums.
pub total_joined : (xs ys : List ℕ) → total (xs ++ ys) ≡ total xs + total ys
unfolding total
total_joined [] ys = omega arith
total_joined (x ∷ xs) ys = omega (arith, total_joined xs ys)

-- The sum of two rules is the sum of their sums.
pub total_both : (n : ℕ) (f g : ℕ → ℕ) → total (build n (λ i. f i + g i)) ≡ total (build n f) + total (build n g)
unfolding total
total_both zero f g = omega arith
total_both (suc n) f g = omega (arith, total_both n (λ i. f (suc i)) (λ i. g (suc i)))

-- A rule that gives the same number everywhere.
pub total_same : (n m : ℕ) → total (build n (λ i. m)) ≡ n * m
unfolding total
total_same zero m = omega arith
total_same (suc n) m = omega (arith, total_same n m, suc-mul n m)

-- A rule taken m times.
pub total_times : (n m : ℕ) (f : ℕ → ℕ) → total (build n (λ i. m * f i)) ≡ m * total (build n f)
unfolding total
total_times zero m f = omega (arith, mul-zero m)
total_times (suc n) m f =
    let rest = total_times n m (λ i. f (suc i)) in
    ap (λ (k : ℕ). m * f 0 + k) rest ∙ sym (mul-add m (f 0) (total (build n (λ i. f (suc i)))))

total-suc : (n : ℕ) (f : ℕ → ℕ) → total (build (suc n) f) ≡ total (build n f) + f n
unfolding total
total-suc zero f = omega arith
total-suc (suc n) f = omega (arith, total-suc n (λ i. f (suc i)))

-- One entry more.
pub total_last : (n : ℕ) (f : ℕ → ℕ) → total (build (n + 1) f) ≡ total (build n f) + f n
total_last n f = rw add-one (total-suc n f)
