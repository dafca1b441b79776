-- Two tests joined by && or ||: what the joined test's outcome says of each.
-- Assumes nothing.
use mathlib.Core.Path.{◌≡◌, refl, sym}
use Prim.Native.Nat.{ℕ}
use native.Mathlib.Omega.{arith}
use mathlib.Core.Bool.{Bool, true, false, ◌&&◌, ◌||◌}

pub differ : false ≡ true → ⊥
differ e = let z : ◌≡◌ {A = ℕ} 0 1 = cc in omega arith

pub both_hold : (x y : Bool) → x && y ≡ true → (x ≡ true) × (y ≡ true)
both_hold true y e = (refl, e)
both_hold false y e = absurd (differ e)

pub neither : (x y : Bool) → x || y ≡ false → (x ≡ false) × (y ≡ false)
neither true y e = absurd (differ (sym e))
neither false y e = (refl, e)

pub not_both : (x y : Bool) → x && y ≡ false → x ≡ true → y ≡ false
not_both true y e h = e
not_both false y e h = absurd (differ h)
