-- The sum of a list, one entry further on, and what bounds its entries.
--     total_more                    of the first i + 1 entries, from those of the first i
--     total_below                   a sum of entries that are each at most m
--     at_most_largest               no entry is above the largest
--     largest_below                 entries that are each at most m
-- Assumes nothing.
use mathlib.Core.Path.{◌≡◌}
use Prim.Native.Nat.{ℕ, zero, suc, ◌+◌, ◌*◌, ◌≤◌, ◌<◌}
use native.Mathlib.Nat.{not-suc-le-zero, le_of_suc-le-suc}
use native.Mathlib.Omega.{arith}
use native.Mathlib.Numerals.{add-one}
use mathlib.Core.List.{List, [], ◌∷◌}
use lib.ListN.{length, get_or, take}
use Rattle.lists.specs.Lists.{total, largest}

total-suc : (xs : List ℕ) (i : ℕ) → i < length xs → total (take (suc i) xs) ≡ total (take i xs) + get_or xs i 0
unfolding total
total-suc [] i h = absurd (not-suc-le-zero h)
total-suc (x ∷ xs) zero h = omega arith
total-suc (x ∷ xs) (suc i) h = omega (arith, total-suc xs i (le_of_suc-le-suc h))

pub total_more : (xs : List ℕ) (i : ℕ) → i < length xs → total (take (i + 1) xs) ≡ total (take i xs) + get_or xs i 0
total_more xs i h = rw add-one (total-suc xs i h)

pub total_below : (m : ℕ) (xs : List ℕ) → ((i : ℕ) → i < length xs → get_or xs i 0 ≤ m) → total xs ≤ m * length xs
unfolding total
total_below m [] h = omega arith
total_below m (x ∷ xs) h =
    omega (arith, h 0 (omega arith), total_below m xs (λ i l. h (suc i) (omega arith)))

pub at_most_largest : (xs : List ℕ) (i : ℕ) → get_or xs i 0 ≤ largest xs
unfolding largest
at_most_largest [] i = omega arith
at_most_largest (x ∷ xs) zero = omega arith
at_most_largest (x ∷ xs) (suc i) = omega (arith, at_most_largest xs i)

pub largest_below : (m : ℕ) (xs : List ℕ) → ((i : ℕ) → i < length xs → get_or xs i 0 ≤ m) → largest xs ≤ m
unfolding largest
largest_below m [] h = omega arith
largest_below m (x ∷ xs) h = omega (arith, h 0 (omega arith), largest_below m xs (λ i l. h (suc i) (omega arith)))
