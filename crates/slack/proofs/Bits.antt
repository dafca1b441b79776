-- Slack as the code computes it, in the bits of an i32: no difference overflows, and what comes out is the slack.
-- Assumes nothing.
use mathlib.Core.Path.{◌≡◌, ◌∙◌}
use Prim.Native.Nat.{ℕ, ◌<◌, ◌^◌}
use native.Mathlib.Omega.{arith}
use mir.Syntax.{w32}
use mir.Val.{SFits, to_z, of_z}
use mir.Facts.{to_z-of_z, to_z_pos}
use borrow.Author.Rules.{sfits_of}
use mathlib.Core.Bool.{◌&&◌}
use borrow.Author.Tests.{lt-ltb}
use lib.Dec.{ltb}
use lib.Signed.{lt_z, mag}
use lib.IntN.{ℤ, pos, ◌-ℤ◌}
use Rattle.slack.specs.Slack.{slack_of}
use Rattle.slack.proofs.Signed.{less_of_pos, difference_range, slack_range}

-- a number of 16 bits, read as an i32
pub whole : (x : ℕ) → x < 2 ^ 16 → to_z w32 x ≡ pos x
whole x h = to_z_pos w32 (omega arith)

module _ (due t left : ℕ) (hd : due < 2 ^ 16) (ht : t < 2 ^ 16) (hl : left < 2 ^ 16) where
  -- due - t fits
  pub first_fits : SFits w32 (to_z w32 due -ℤ to_z w32 t)
  first_fits =
      sfits_of (rw (whole due hd, whole t ht, less_of_pos due t)
      (difference_range due t (2 ^ 31) (omega arith) (omega arith)))

  both : to_z w32 (of_z w32 (to_z w32 due -ℤ to_z w32 t)) -ℤ to_z w32 left ≡ slack_of due t left
  unfolding slack_of
  both = rw (to_z-of_z first_fits, whole due hd, whole t ht, whole left hl)

  -- and so does that less the links to go
  pub second_fits : SFits w32 (to_z w32 (of_z w32 (to_z w32 due -ℤ to_z w32 t)) -ℤ to_z w32 left)
  second_fits = sfits_of (rw both (slack_range due t left hd ht hl))

  pub is_slack : to_z w32 (of_z w32 (to_z w32 (of_z w32 (to_z w32 due -ℤ to_z w32 t)) -ℤ to_z w32 left))
      ≡ slack_of due t left
  is_slack = to_z-of_z second_fits ∙ both

-- the test of a computed slack against zero, for a row under way
pub below_zero : (left : ℕ) (z s : ℤ) → 0 < left → mag z < 2 ^ 31 → z ≡ s
    → lt_z (to_z w32 (of_z w32 z)) (pos 0) ≡ (ltb 0 left && lt_z s (pos 0))
below_zero left z s under_way_lem fits e =
    rw (to_z-of_z (sfits_of {w = w32} {z = z} fits), e, lt-ltb 0 left under_way_lem)
