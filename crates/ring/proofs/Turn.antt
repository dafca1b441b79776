-- The remainder (q + n - p) % n, of which distances and places are made, without the remainder: it is q - p short of
-- node 0 and q + n - p past it.
-- Assumes nothing.
use mathlib.Core.Path.{◌≡◌, ◌∙◌, ap}
use Prim.Native.Nat.{ℕ, ◌+◌, ◌-◌, ◌%◌, ◌≤◌, ◌<◌}
use native.Mathlib.Nat.{mod-eq_of_lt, add-mod_right, mod-lt}
use native.Mathlib.Omega.{arith}

pub short_of_zero : (n p q : ℕ) → p ≤ q → q < n → (q + n - p) % n ≡ q - p
short_of_zero n p q before inside =
    let e : q + n - p ≡ (q - p) + n = omega arith in
    let l : q - p < n = omega arith in
    ap (λ (x : ℕ). x % n) e ∙ add-mod_right (q - p) n ∙ mod-eq_of_lt l

pub past_zero : (n p q : ℕ) → q < p → p ≤ n → (q + n - p) % n ≡ q + n - p
past_zero n p q beyond inside =
    let l : q + n - p < n = omega arith in
    mod-eq_of_lt l

pub on_ring : (n p q : ℕ) → q < n → (q + n - p) % n < n
on_ring n p q inside =
    let l : 0 < n = omega arith in
    mod-lt (q + n - p) l
