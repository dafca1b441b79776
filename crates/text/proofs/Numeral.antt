-- Digits and numerals.
--     Digits                        every byte of a list is a digit
--     numeral-length, width_most    a numeral has five digits at most
--     numeral_digits                a numeral is digits only, so no line feed stands in it (no_line_feed)
--     numeral_value                 a numeral says the number that it is the numeral of
--     numeral_again                 digits that are as many as their number has are its numeral
--     numeral_once                  two numbers with the same numeral are the same
--     no_leading_zero               only the numeral of 0 begins with the digit 0
--     digits_read, digits_are, digits_stand, digits_most   the digits at the front of some bytes
-- Assumes nothing.
use mathlib.Core.Path.{◌≡◌, refl, ◌∙◌, ap, sym}
use mathlib.Core.Bool.{Bool, true, false, cond, ◌&&◌}
use mathlib.Core.List.{List, [], ◌∷◌, ◌++◌, append-nil}
use Prim.Native.Nat.{ℕ, zero, suc, ◌+◌, ◌-◌, ◌*◌, ◌/◌, ◌%◌, ◌≤◌, ◌<◌}
use native.Mathlib.Nat.{not-suc-le-zero, le_of_suc-le-suc}
use native.Mathlib.Omega.{arith}
use borrow.Author.Tests.{ltb-true, ltb-false, leb-true, le-leb}
use lib.Dec.{ltb, leb}
use lib.ListN.{length, get_or, drop, length-append}
use lib.Seq.{append_snoc}
use Rattle.text.specs.Text.{width, last_digits, numeral, is_digit, digits_at, extended}

abbrev pub Digits : List ℕ → Type 0
Digits [] = Unit {0}
Digits (d ∷ ds) = (48 ≤ d) × (d ≤ 57) × Digits ds

digits_join : (xs ys : List ℕ) → Digits xs → Digits ys → Digits (xs ++ ys)
digits_join [] ys p q = q
digits_join (x ∷ xs) ys p q = (p.0, p.1, digits_join xs ys p.2 q)

pub last_length : (k v : ℕ) → length (last_digits k v) ≡ k
unfolding last_digits
last_length zero v = refl
last_length (suc k) v =
    length-append (last_digits k (v / 10)) ((48 + v % 10) ∷ []) ∙ omega (arith, last_length k (v / 10))

last_digits_lem : (k v : ℕ) → Digits (last_digits k v)
unfolding last_digits
last_digits_lem zero v = tt
last_digits_lem (suc k) v =
    digits_join (last_digits k (v / 10)) ((48 + v % 10) ∷ []) (last_digits_lem k (v / 10)) (omega arith, omega arith, tt)

pub extended_join : (v : ℕ) (xs ys : List ℕ) → extended v (xs ++ ys) ≡ extended (extended v xs) ys
unfolding extended
extended_join v [] ys = refl
extended_join v (x ∷ xs) ys = extended_join (v * 10 + (x - 48)) xs ys

-- a number has at most k digits: nothing is left of it after k divisions by ten
abbrev Few : ℕ → ℕ → Type 0
Few zero v = v ≡ 0
Few (suc k) v = Few k (v / 10)

last_value : (k v : ℕ) → Few k v → extended 0 (last_digits k v) ≡ v
unfolding last_digits extended
last_value zero v h = sym h
last_value (suc k) v h =
    extended_join 0 (last_digits k (v / 10)) ((48 + v % 10) ∷ []) ∙ omega (arith, last_value k (v / 10) h)

-- the last digits of a number that digits extend are those digits
last_again : (ds : List ℕ) (j v n : ℕ) → n ≡ length ds + j → Digits ds
    → last_digits n (extended v ds) ≡ last_digits j v ++ ds
unfolding extended last_digits
last_again [] j v n e p = let same : n ≡ j = omega arith in rw (same, append-nil)
last_again (d ∷ ds) j v n e p =
    let at : (v * 10 + (d - 48)) / 10 ≡ v = omega arith in
    let of : 48 + (v * 10 + (d - 48)) % 10 ≡ d = omega arith in
    last_again ds (suc j) (v * 10 + (d - 48)) n (omega arith) p.2 ∙ rw (at, of, append_snoc)

pub width_most : (v : ℕ) → width v ≤ 5
unfolding width
width_most v = go (ltb v 10) (ltb v 100) (ltb v 1000) (ltb v 10000)
  where
    go : (a b c d : Bool) → cond a 1 (cond b 2 (cond c 3 (cond d 4 5))) ≤ 5
    go true b c d = omega arith
    go false true c d = omega arith
    go false false true d = omega arith
    go false false false true = omega arith
    go false false false false = omega arith

width_few : (v : ℕ) → v < 100000 → Few (width v) v
unfolding width
width_few v h = go (ltb v 10) (ltb v 100) (ltb v 1000) (ltb v 10000) refl refl refl refl
  where
    go : (a b c d : Bool) → ltb v 10 ≡ a → ltb v 100 ≡ b → ltb v 1000 ≡ c → ltb v 10000 ≡ d
        → Few (cond a 1 (cond b 2 (cond c 3 (cond d 4 5)))) v
    go true b c d e f g i = omega (arith, ltb-true v 10 e)
    go false true c d e f g i = omega (arith, ltb-true v 100 f)
    go false false true d e f g i = omega (arith, ltb-true v 1000 g)
    go false false false true e f g i = omega (arith, ltb-true v 10000 i)
    go false false false false e f g i = omega arith

pub numeral-length : (v : ℕ) → length (numeral v) ≡ width v
unfolding numeral
numeral-length v = last_length (width v) v

pub numeral_digits : (v : ℕ) → Digits (numeral v)
unfolding numeral
numeral_digits v = last_digits_lem (width v) v

pub numeral_value : (v : ℕ) → v < 100000 → extended 0 (numeral v) ≡ v
unfolding numeral
numeral_value v h = last_value (width v) v (width_few v h)

pub numeral_again : (ds : List ℕ) → Digits ds → length ds ≡ width (extended 0 ds) → numeral (extended 0 ds) ≡ ds
unfolding numeral last_digits
numeral_again ds p e = last_again ds 0 0 (width (extended 0 ds)) (omega (arith, e)) p

pub numeral_once : (v w : ℕ) → v < 100000 → w < 100000 → numeral v ≡ numeral w → v ≡ w
numeral_once v w h l e = sym (numeral_value v h) ∙ ap (extended 0) e ∙ numeral_value w l

pub no_leading_zero : (v : ℕ) → v < 100000 → get_or (numeral v) 0 0 ≡ 48 → v ≡ 0
unfolding numeral width last_digits
no_leading_zero v h =
    go (ltb v 10) (ltb v 100) (ltb v 1000) (ltb v 10000) refl refl refl refl
  where
    go : (a b c d : Bool) → ltb v 10 ≡ a → ltb v 100 ≡ b → ltb v 1000 ≡ c → ltb v 10000 ≡ d
        → get_or (last_digits (cond a 1 (cond b 2 (cond c 3 (cond d 4 5)))) v) 0 0 ≡ 48 → v ≡ 0
    go true b c d e f g i z = omega (arith, ltb-true v 10 e)
    go false true c d e f g i z = omega (arith, ltb-false v 10 e, ltb-true v 100 f)
    go false false true d e f g i z = omega (arith, ltb-false v 100 f, ltb-true v 1000 g)
    go false false false true e f g i z = omega (arith, ltb-false v 1000 g, ltb-true v 10000 i)
    go false false false false e f g i z = omega (arith, ltb-false v 10000 i)

-- no line feed stands among digits
pub no_line_feed : (ds : List ℕ) (i : ℕ) → Digits ds → get_or ds i 0 ≡ 10 → ⊥
no_line_feed [] i p e = omega arith
no_line_feed (d ∷ ds) zero p e = omega arith
no_line_feed (d ∷ ds) (suc i) p e = no_line_feed ds i p.2 e

-- the digits at the front of some bytes, up to a mark that is none
pub digits_read : (k : ℕ) (ds : List ℕ) (mark : ℕ) (r : List ℕ) → is_digit mark ≡ false → Digits ds → length ds ≤ k
    → digits_at k (ds ++ (mark ∷ r)) ≡ ds
unfolding digits_at
digits_read zero [] mark r n p h = refl
digits_read zero (d ∷ ds) mark r n p h = absurd (not-suc-le-zero h)
digits_read (suc k) [] mark r n p h = rw n
digits_read (suc k) (d ∷ ds) mark r n p h =
    rw (le-leb 48 d p.0, le-leb d 57 p.1, digits_read k ds mark r n p.2 (le_of_suc-le-suc h))

pub digits_are : (k : ℕ) (bytes : List ℕ) → Digits (digits_at k bytes)
unfolding digits_at
digits_are zero bytes = tt
digits_are (suc k) [] = tt
digits_are (suc k) (b ∷ bs) = go (leb 48 b) (leb b 57) refl refl (digits_are k bs)
  where
    go : (x y : Bool) → leb 48 b ≡ x → leb b 57 ≡ y → Digits (digits_at k bs)
        → Digits (cond (x && y) (b ∷ digits_at k bs) [])
    go true true e f p = (leb-true 48 b e, leb-true b 57 f, p)
    go true false e f p = tt
    go false y e f p = tt

pub digits_stand : (k : ℕ) (bytes : List ℕ) → bytes ≡ digits_at k bytes ++ drop (length (digits_at k bytes)) bytes
unfolding digits_at
digits_stand zero bytes = refl
digits_stand (suc k) [] = refl
digits_stand (suc k) (b ∷ bs) = go (leb 48 b && leb b 57) (digits_stand k bs)
  where
    go : (x : Bool) → bs ≡ digits_at k bs ++ drop (length (digits_at k bs)) bs
        → b ∷ bs ≡ cond x (b ∷ digits_at k bs) [] ++ drop (length (cond x (b ∷ digits_at k bs) [])) (b ∷ bs)
    go true e = ap {B = List ℕ} (λ l. b ∷ l) e
    go false e = refl

pub digits_most : (k : ℕ) (bytes : List ℕ) → length (digits_at k bytes) ≤ k
unfolding digits_at
digits_most zero bytes = omega arith
digits_most (suc k) [] = omega arith
digits_most (suc k) (b ∷ bs) = go (leb 48 b && leb b 57) (digits_most k bs)
  where
    go : (x : Bool) → length (digits_at k bs) ≤ k → length (cond x (b ∷ digits_at k bs) []) ≤ suc k
    go true e = omega arith
    go false e = omega arith
