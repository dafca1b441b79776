-- The front of a working list, lent, written and lent again.
--     cleared_length                    how long a list of equal entries is
--     front_long                        how long its front is
--     front_again, front_fits           the front once it was written, and that it lies in the list
--     front_as_long                     it is as long as it was
-- Assumes nothing.
use mathlib.Core.Path.{◌≡◌, ◌∙◌, ap, sym}
use mathlib.Core.List.{List, ◌++◌}
use Prim.Native.Nat.{ℕ, ◌≤◌}
use native.Mathlib.Omega.{arith}
use lib.ListN.{length, take, drop, replicate, length-append, length-replicate}
use lib.Seq.{length-take-le, take_at}

module _ {ℓ} {A : Type ℓ} where
  pub cleared_length : (m : ℕ) (a : A) (places : List A) → places ≡ replicate m a → length places ≡ m
  cleared_length m a places e = ap length e ∙ length-replicate m a

  pub front_long : (m k : ℕ) (a : A) (places : List A) → places ≡ replicate m a → k ≤ m → k ≡ length (take k places)
  front_long m k a places e h = sym (length-take-le k places (rw (cleared_length m a places e) h))

  -- The first k places of a list were lent, and written.
  pub record Front (k : ℕ) (places written : List A) : Type ℓ where
    pub lent : k ≡ length (take k places)
    pub kept : length written ≡ length (take k places)

  module _ {k : ℕ} {places written : List A} (f : Front k places written) where
    written_long : length written ≡ k
    written_long = f.kept ∙ sym f.lent

    pub front_again : take k (written ++ drop k places) ≡ written
    front_again = take_at written (drop k places) k written_long

    pub front_fits : k ≤ length (written ++ drop k places)
    front_fits = omega (arith, written_long, length-append written (drop k places))

    pub front_as_long : k ≡ length (take k (written ++ drop k places))
    front_as_long = sym (ap length front_again ∙ written_long)
