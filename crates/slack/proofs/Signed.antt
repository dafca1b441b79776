-- Slack is a signed number. Here each of its tests is turned into a test of natural numbers, and its range is bounded,
-- so that no later proof meets a sign.
--     slack_below_zero      slack is below 0 where the due slot lies before t + left
--     slack_compared        which of two slacks is less, at one instant
--     slack_range           slack fits 32 signed bits where its parts fit 16 bits
-- Assumes nothing.
use mathlib.Core.Path.{◌≡◌, refl, ◌∙◌, ap, sym}
use Prim.Native.Nat.{ℕ, zero, suc, ◌+◌, ◌-◌, ◌≤◌, ◌<◌, ◌^◌}
use native.Mathlib.Omega.{arith}
use mathlib.Core.Bool.{Bool, true, false}
use borrow.Author.Tests.{ltb-true, ltb-false, lt-ltb, le-ltb}
use lib.Dec.{ltb}
use lib.IntN.{ℤ, pos, negsuc, ◌-ℤ◌, sub_ℕ}
use lib.Signed.{lt_z, mag}
use Rattle.slack.specs.Slack.{slack_of}

-- the difference of two natural numbers, below zero and not
pub below : (a b : ℕ) → a < b → sub_ℕ a b ≡ negsuc (b - suc a)
below a b l = rw (lt-ltb a b l)

pub above : (a b : ℕ) → b ≤ a → sub_ℕ a b ≡ pos (a - b)
above a b l = rw (le-ltb a b l)

-- one more natural number taken away
pub less_of_pos : (a b : ℕ) → pos a -ℤ pos b ≡ sub_ℕ a b
less_of_pos a zero =
    let e : a + 0 ≡ a - 0 = omega arith in
    ap pos e ∙ sym (above a 0 (omega arith))
less_of_pos a (suc b) = refl

less_of_neg : (a b : ℕ) → negsuc a -ℤ pos b ≡ negsuc (a + b)
less_of_neg a zero =
    let e : suc a - 1 ≡ a + 0 = omega arith in
    below 0 (suc a) (omega arith) ∙ ap negsuc e
less_of_neg a (suc b) =
    let e : suc (a + b) ≡ a + suc b = omega arith in
    ap negsuc e

pub less_of_difference : (a b c : ℕ) → sub_ℕ a b -ℤ pos c ≡ sub_ℕ a (b + c)
less_of_difference a b c = go (ltb a b) refl (ltb a (b + c)) refl
  where
    go : (x : Bool) → ltb a b ≡ x → (y : Bool) → ltb a (b + c) ≡ y → sub_ℕ a b -ℤ pos c ≡ sub_ℕ a (b + c)
    go true e y f =
        let l : a < b = ltb-true a b e in
        let s : b - suc a + c ≡ b + c - suc a = omega arith in
        ap (λ z. z -ℤ pos c) (below a b l) ∙ less_of_neg (b - suc a) c ∙ ap negsuc s
        ∙ sym (below a (b + c) (omega arith))
    go false e true f =
        let l : b ≤ a = ltb-false a b e in
        let m : a < b + c = ltb-true a (b + c) f in
        let s : c - suc (a - b) ≡ b + c - suc a = omega arith in
        ap (λ z. z -ℤ pos c) (above a b l) ∙ less_of_pos (a - b) c ∙ below (a - b) c (omega arith) ∙ ap negsuc s
        ∙ sym (below a (b + c) m)
    go false e false f =
        let l : b ≤ a = ltb-false a b e in
        let m : b + c ≤ a = ltb-false a (b + c) f in
        let s : a - b - c ≡ a - (b + c) = omega arith in
        ap (λ z. z -ℤ pos c) (above a b l) ∙ less_of_pos (a - b) c ∙ above (a - b) c (omega arith) ∙ ap pos s
        ∙ sym (above a (b + c) m)

-- Slack is the due slot less the sum of the instant and the links to go.
pub slack_is : (due t left : ℕ) → slack_of due t left ≡ sub_ℕ due (t + left)
unfolding slack_of
slack_is due t left = ap (λ z. z -ℤ pos left) (less_of_pos due t) ∙ less_of_difference due t left

difference_below_zero : (a b : ℕ) → lt_z (sub_ℕ a b) (pos 0) ≡ ltb a b
difference_below_zero a b = go (ltb a b) refl
  where
    go : (x : Bool) → ltb a b ≡ x → lt_z (sub_ℕ a b) (pos 0) ≡ ltb a b
    go true e = ap (λ z. lt_z z (pos 0)) (below a b (ltb-true a b e)) ∙ sym e
    go false e = ap (λ z. lt_z z (pos 0)) (above a b (ltb-false a b e)) ∙ le-ltb (a - b) 0 (omega arith) ∙ sym e

pub differences_compared : (a b c d : ℕ) → lt_z (sub_ℕ a b) (sub_ℕ c d) ≡ ltb (a + d) (c + b)
differences_compared a b c d = go (ltb a b) refl (ltb c d) refl (ltb (a + d) (c + b)) refl
  where
    crosswise : Bool
    crosswise = ltb (a + d) (c + b)

    same : (x y : ℤ) → sub_ℕ a b ≡ x → sub_ℕ c d ≡ y → lt_z (sub_ℕ a b) (sub_ℕ c d) ≡ lt_z x y
    same x y e f = rw (e, f)

    test : (m n : ℕ) (z : Bool) → crosswise ≡ z → (a + d < c + b → m < n) → (c + b ≤ a + d → n ≤ m)
        → ltb m n ≡ crosswise
    test m n true e f g = lt-ltb m n (f (ltb-true (a + d) (c + b) e)) ∙ sym e
    test m n false e f g = le-ltb m n (g (ltb-false (a + d) (c + b) e)) ∙ sym e

    go : (x : Bool) → ltb a b ≡ x → (y : Bool) → ltb c d ≡ y → (z : Bool) → crosswise ≡ z
        → lt_z (sub_ℕ a b) (sub_ℕ c d) ≡ crosswise
    go true e true f z h =
        let l : a < b = ltb-true a b e in
        let m : c < d = ltb-true c d f in
        same (negsuc (b - suc a)) (negsuc (d - suc c)) (below a b l) (below c d m)
        ∙ test (d - suc c) (b - suc a) z h (λ u. omega arith) (λ u. omega arith)
    go true e false f z h =
        let l : a < b = ltb-true a b e in
        let m : d ≤ c = ltb-false c d f in
        same (negsuc (b - suc a)) (pos (c - d)) (below a b l) (above c d m) ∙ sym (lt-ltb (a + d) (c + b) (omega arith))
    go false e true f z h =
        let l : b ≤ a = ltb-false a b e in
        let m : c < d = ltb-true c d f in
        same (pos (a - b)) (negsuc (d - suc c)) (above a b l) (below c d m) ∙ sym (le-ltb (a + d) (c + b) (omega arith))
    go false e false f z h =
        let l : b ≤ a = ltb-false a b e in
        let m : d ≤ c = ltb-false c d f in
        same (pos (a - b)) (pos (c - d)) (above a b l) (above c d m)
        ∙ test (a - b) (c - d) z h (λ u. omega arith) (λ u. omega arith)

-- Slack is below zero just where the due slot lies before t + left.
pub slack_below_zero : (due t left : ℕ) → lt_z (slack_of due t left) (pos 0) ≡ ltb due (t + left)
slack_below_zero due t left = ap (λ z. lt_z z (pos 0)) (slack_is due t left) ∙ difference_below_zero due (t + left)

-- At one instant the instant itself does not count: slack is compared crosswise.
pub slack_compared : (d₁ l₁ d₂ l₂ t : ℕ) → lt_z (slack_of d₁ t l₁) (slack_of d₂ t l₂) ≡ ltb (d₁ + l₂) (d₂ + l₁)
slack_compared d₁ l₁ d₂ l₂ t =
    ap (λ z. lt_z z (slack_of d₂ t l₂)) (slack_is d₁ t l₁) ∙ ap (λ z. lt_z (sub_ℕ d₁ (t + l₁)) z) (slack_is d₂ t l₂)
    ∙ differences_compared d₁ (t + l₁) d₂ (t + l₂) ∙ go (ltb (d₁ + l₂) (d₂ + l₁)) refl
  where
    go : (x : Bool) → ltb (d₁ + l₂) (d₂ + l₁) ≡ x → ltb (d₁ + (t + l₂)) (d₂ + (t + l₁)) ≡ ltb (d₁ + l₂) (d₂ + l₁)
    go true e =
        let l : d₁ + l₂ < d₂ + l₁ = ltb-true (d₁ + l₂) (d₂ + l₁) e in
        lt-ltb (d₁ + (t + l₂)) (d₂ + (t + l₁)) (omega arith) ∙ sym e
    go false e =
        let l : d₂ + l₁ ≤ d₁ + l₂ = ltb-false (d₁ + l₂) (d₂ + l₁) e in
        le-ltb (d₁ + (t + l₂)) (d₂ + (t + l₁)) (omega arith) ∙ sym e

pub difference_range : (a b m : ℕ) → a < m → b < m → mag (sub_ℕ a b) < m
difference_range a b m k l = go (ltb a b) refl
  where
    go : (x : Bool) → ltb a b ≡ x → mag (sub_ℕ a b) < m
    go true e = rw (below a b (ltb-true a b e)) (omega arith)
    go false e = rw (above a b (ltb-false a b e)) (omega arith)

-- The code computes slack in an i32, of parts that are u16: it fits.
pub slack_range : (due t left : ℕ) → due < 2 ^ 16 → t < 2 ^ 16 → left < 2 ^ 16 → mag (slack_of due t left) < 2 ^ 31
slack_range due t left a b c =
    rw (slack_is due t left) (difference_range due (t + left) (2 ^ 31) (omega arith) (omega arith))
