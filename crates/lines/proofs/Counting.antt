-- The digits at the front of a text, byte by byte, as `figures_at` reads them.
-- Assumes nothing.
use mathlib.Core.Path.{◌≡◌, refl, ◌∙◌}
use mathlib.Core.Bool.{Bool, true, false, ◌&&◌}
use mathlib.Core.List.{List, [], ◌∷◌}
use Prim.Native.Nat.{ℕ, zero, suc, ◌+◌, ◌-◌, ◌*◌, ◌^◌, ◌≤◌, ◌<◌, min}
use native.Mathlib.Nat.{pow-suc}
use native.Mathlib.Numerals.{add-one}
use native.Mathlib.Omega.{arith}
use borrow.Author.Tests.{le-leb, ltb-true, ltb-false}
use lib.Dec.{leb, ltb}
use lib.ListN.{length, get_or, drop, drop_of_length-le}
use lib.Seq.{drop-cons}
use Rattle.text.specs.Text.{is_digit, digits_at, extended}
use Rattle.lines.specs.Items.{figures_in}

nothing_there : (k : ℕ) → digits_at k [] ≡ []
unfolding digits_at
nothing_there zero = refl
nothing_there (suc k) = refl

-- after i digits, which say `value`, the rest of the digits say the rest
pub record Read (text : List ℕ) (value i : ℕ) : Type 0 where
  pub few : i ≤ 5
  pub there : i ≤ length text
  pub small : value < 10 ^ i
  pub says : extended 0 (digits_at 5 text) ≡ extended value (digits_at (5 - i) (drop i text))
  pub many : length (digits_at 5 text) ≡ i + length (digits_at (5 - i) (drop i text))

pub none_read : (text : List ℕ) → Read text 0 0
none_read text =
    record { few = omega arith; there = omega arith; small = omega arith; says = refl; many = omega arith }

module _ {text : List ℕ} {value i : ℕ} (k : Read text value i) where
  stopped : digits_at (5 - i) (drop i text) ≡ [] → record { value = value; count = i } ≡ figures_in text
  unfolding figures_in extended
  stopped e =
      let v : extended 0 (digits_at 5 text) ≡ value = k.says ∙ rw e in
      let m : length (digits_at 5 text) ≡ i = k.many ∙ rw e (omega arith) in
      rw (v, m)

  pub ended : min (length text) 5 ≤ i → record { value = value; count = i } ≡ figures_in text
  unfolding digits_at
  ended h = go (ltb i 5) refl
    where
      go : (b : Bool) → ltb i 5 ≡ b → record { value = value; count = i } ≡ figures_in text
      go true e =
          let out : length text ≤ i = omega (arith, ltb-true i 5 e, k.there) in
          stopped (rw (drop_of_length-le text out) (nothing_there (5 - i)))
      go false e =
          let none : 5 - i ≡ 0 = omega (arith, ltb-false i 5 e) in
          stopped (rw none)

  module _ (more : i < 5) (here : i < length text) where
    no_digit : (leb 48 (get_or text i 0) && leb (get_or text i 0) 57) ≡ false
        → digits_at (5 - i) (drop i text) ≡ []
    unfolding digits_at
    no_digit e = let left : 5 - i ≡ suc (4 - i) = omega arith in rw (left, drop-cons text i 0 here, e)

    pub no_more : is_digit (get_or text i 0) ≡ false → record { value = value; count = i } ≡ figures_in text
    no_more e = stopped (no_digit e)

    pub further : 48 ≤ get_or text i 0 → get_or text i 0 ≤ 57
        → Read text (value * 10 + (get_or text i 0 - 48)) (i + 1)
    unfolding digits_at extended
    further l h =
        let left : 5 - i ≡ suc (5 - (i + 1)) = omega arith in
        let next : i + 1 ≡ suc i = omega arith in
        let digit : digits_at (5 - i) (drop i text) ≡ get_or text i 0 ∷ digits_at (5 - (i + 1))
        (drop (i + 1) text) =
        rw (
          left,
          next,
          drop-cons text i 0 here,
          le-leb 48 (get_or text i 0) l,
          le-leb (get_or text i 0) 57 h,
        ) in
        let ten : 10 ^ (i + 1) ≡ 10 ^ i * 10 = rw add-one (pow-suc 10 i) in
        record {
          few = omega arith;
          there = omega arith;
          small = omega (arith, k.small, ten);
          says = k.says
              ∙ rw digit;
          many = k.many ∙ rw digit (omega arith);
        }
