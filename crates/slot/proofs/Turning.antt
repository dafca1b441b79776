-- The figure of one row corrected: the row that the last link carries has passed node 0.
--     sum_fits, is_sum           a figure and the number of nodes, added up in the bits of an i32
--     turned_none, turned_one    the last link is idle; it carries row i
-- Assumes nothing.
use mathlib.Core.Path.{◌≡◌, refl, ◌∙◌}
use mathlib.Core.Bool.{Bool, true, false, cond}
use mathlib.Core.List.{List}
use Prim.Native.Nat.{ℕ, zero, suc, ◌-◌, ◌<◌, ◌^◌}
use native.Mathlib.Omega.{arith}
use borrow.Author.Tests.{eq-eqb, ne_eqb, eqb-true, eqb-false}
use borrow.Author.Rules.{sfits_of}
use mir.Syntax.{w32}
use mir.Val.{SFits, to_z, of_z}
use mir.Facts.{to_z-of_z}
use lib.Dec.{eqb}
use lib.IntN.{ℤ, pos, negsuc, ◌+ℤ◌}
use lib.Signed.{mag}
use lib.ListN.{length, get_or, set, length-set}
use lib.Seq.{get_or-set_same, get_or-set_other}
use Rattle.lists.proofs.Build.{is_build}
use Rattle.slot.specs.Steps.{turned, Turning}
use Rattle.slack.proofs.Bits.{whole}
use Rattle.slack.proofs.Signed.{difference_range}

sum_range : (x : ℤ) (n : ℕ) → mag x < 2 ^ 30 → n < 2 ^ 16 → mag (x +ℤ pos n) < 2 ^ 31
sum_range (pos a) n h k = omega arith
sum_range (negsuc a) n h k = difference_range n (suc a) (2 ^ 31) (omega arith) (omega arith)

module _ (x : ℤ) (n : ℕ) (h : mag x < 2 ^ 30) (k : n < 2 ^ 16) where
  as_they_are : to_z w32 (of_z w32 x) +ℤ to_z w32 n ≡ x +ℤ pos n
  as_they_are = rw (to_z-of_z (sfits_of {w = w32} {z = x} (omega arith)), whole n k)

  pub sum_fits : SFits w32 (to_z w32 (of_z w32 x) +ℤ to_z w32 n)
  sum_fits = sfits_of (rw as_they_are (sum_range x n h k))

  pub is_sum : to_z w32 (of_z w32 (to_z w32 (of_z w32 x) +ℤ to_z w32 n)) ≡ x +ℤ pos n
  is_sum = to_z-of_z sum_fits ∙ as_they_are

module _ (n : ℕ) (slot : List ℕ) (figures : List ℤ) where
  -- what the last link carries
  abbrev last : ℕ
  last = get_or slot (n - 1) 0

  abbrev after : ℕ → ℤ
  after i = cond (eqb last (suc i)) (get_or figures i (pos 0) +ℤ pos n) (get_or figures i (pos 0))

  pub turned_none : last ≡ 0 → figures ≡ turned n slot figures
  unfolding turned
  turned_none e =
      is_build (length figures) after (pos 0) figures refl (λ i h. rw (ne_eqb last (suc i) (λ q. omega arith)))

  pub turned_one : (i : ℕ) (v : ℤ) → last ≡ suc i → i < length figures → v ≡ get_or figures i (pos 0) +ℤ pos n
      → set figures i v ≡ turned n slot figures
  unfolding turned
  turned_one i v e h so =
      is_build (length figures) after (pos 0) (set figures i v) (length-set figures i v) (λ j l. go j (eqb j i) refl)
    where
      go : (j : ℕ) (b : Bool) → eqb j i ≡ b → get_or (set figures i v) j (pos 0) ≡ after j
      go j true q =
          let same : j ≡ i = eqb-true j i q in
          rw (same, get_or-set_same figures i v (pos 0) h, eq-eqb last (suc i) e) so
      go j false q =
          let differs = eqb-false j i q in
          get_or-set_other figures i j v (pos 0) differs ∙ rw (ne_eqb last (suc j) (λ z. differs (omega arith)))

-- The same of a figure list that `pass_node_0` is handed, for the row that the last link names.
module _ {n : ℕ} {slot : List ℕ} {figures : List ℤ} (k : Turning n slot figures)
    (held : get_or slot (n - 1) 0 ≡ 0 → ⊥) where
  abbrev row : ℕ
  row = get_or slot (n - 1) 0 - 1

  number : get_or slot (n - 1) 0 ≡ suc row
  number = some (get_or slot (n - 1) 0) held
    where
      some : (x : ℕ) → (x ≡ 0 → ⊥) → x ≡ suc (x - 1)
      some zero not = absurd (not refl)
      some (suc x) not = omega arith

  inside : row < length figures
  inside = omega (arith, number, k.names)

  -- the figure and the number of nodes, as the code adds them up
  abbrev sum : ℤ
  sum = to_z w32 (of_z w32 (get_or figures row (pos 0))) +ℤ to_z w32 n

  pub correction_fits : n < 2 ^ 16 → SFits w32 sum
  correction_fits h = sum_fits (get_or figures row (pos 0)) n (k.small row inside) h

  pub corrected : n < 2 ^ 16 → set figures row (to_z w32 (of_z w32 sum)) ≡ turned n slot figures
  corrected h =
      turned_one n slot figures row _ number inside (is_sum (get_or figures row (pos 0)) n (k.small row inside) h)
