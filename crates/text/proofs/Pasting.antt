-- Bytes written into an area, and the digits of a numeral.
--     tenth_suc, numeral_byte     the digits of a number one by one
--     put_more, put_all, byte_placed           bytes written one by one, and one byte alone
--     pasted_none, pasted_length, pasted_more  nothing written, and a piece behind another
--     two_fits, three_fits, three_placed   three pieces written one behind the other
--     mark_fits, item_placed   the three pieces of a number behind a key
-- Assumes nothing.
use mathlib.Core.Path.{◌≡◌, refl, ◌∙◌, ap, sym}
use mathlib.Core.List.{List, [], ◌∷◌, ◌++◌, append_assoc, append-nil}
use Prim.Native.Nat.{ℕ, zero, suc, ◌+◌, ◌-◌, ◌/◌, ◌%◌, ◌≤◌, ◌<◌}
use native.Mathlib.Nat.{not-suc-le-zero}
use native.Mathlib.Omega.{arith}
use native.Mathlib.Numerals.{add-one}
use mathlib.Core.Bool.{Bool, true, false}
use borrow.Author.Tests.{ltb-true, ltb-false}
use lib.Dec.{ltb}
use lib.ListN.{length, get_or, take, drop, set, length-append, length-drop, take-append-drop, get_or-append}
use lib.Seq.{paste, paste-zero, paste-suc, take-length, take_at, drop_at, drop-drop, length-take-le, get_or_at}
use Rattle.text.specs.Text.{width, last_digits, numeral, item}
use Rattle.text.specs.Steps.{tenth, pasted}
use Rattle.text.proofs.Numeral.{last_length}

pub tenth_suc : (k v : ℕ) → tenth (suc k) v ≡ tenth k v / 10
unfolding tenth
tenth_suc zero v = refl
tenth_suc (suc k) v = tenth_suc k (v / 10)

-- the digit with k - 1 - i digits behind it
last_at : (k v i : ℕ) → i < k → get_or (last_digits k v) i 0 ≡ 48 + tenth (k - 1 - i) v % 10
unfolding last_digits tenth
last_at zero v i h = absurd (not-suc-le-zero h)
last_at (suc k) v i h = go (ltb i k) refl (last_at k (v / 10) i)
  where
    go : (b : Bool) → ltb i k ≡ b → (i < k → get_or (last_digits k (v / 10)) i 0 ≡ 48 + tenth (k - 1 - i) (v / 10) % 10)
        → get_or (last_digits k (v / 10) ++ ((48 + v % 10) ∷ [])) i 0 ≡ 48 + tenth (suc k - 1 - i) v % 10
    go true e rec =
        let less : i < k = ltb-true i k e in
        let shift : suc k - 1 - i ≡ suc (k - 1 - i) = omega arith in
        let short : i < length (last_digits k (v / 10)) = omega (arith, last_length k (v / 10)) in
        get_or-append (last_digits k (v / 10)) ((48 + v % 10) ∷ []) 0 i short ∙ rec less ∙ rw shift
    go false e rec =
        let last : k ≡ i = omega (arith, ltb-false i k e) in
        let none : suc k - 1 - i ≡ 0 = omega arith in
        rw none (get_or_at (last_digits k (v / 10)) (48 + v % 10) [] 0 i (last_length k (v / 10) ∙ last))

-- a byte of a numeral, where w is its length
pub numeral_byte : (v j w : ℕ) → w ≡ width v → j < w → 48 + tenth (w - 1 - j) v % 10 ≡ get_or (numeral v) j 0
unfolding numeral
numeral_byte v j w e h = sym (last_at (width v) v j (omega arith) ∙ rw e)

module _ (area : List ℕ) (at : ℕ) where
  pub pasted_all : (bytes : List ℕ) → paste area at bytes (length bytes) ≡ pasted area at bytes
  unfolding pasted
  pasted_all bytes = rw (take-length bytes)

  module _ (xs : List ℕ) (fits : at + length xs ≤ length area) where
    head_length : length (take at area ++ xs) ≡ at + length xs
    head_length = length-append (take at area) xs ∙ ap (λ (n : ℕ). n + length xs) (length-take-le at area (omega arith))

    pub pasted_length : length (pasted area at xs) ≡ length area
    unfolding pasted
    pasted_length =
        length-append (take at area ++ xs) (drop (at + length xs) area)
        ∙ omega (arith, head_length, length-drop (at + length xs) area)

    pub pasted_more : (ys : List ℕ) → pasted (pasted area at xs) (at + length xs) ys ≡ pasted area at (xs ++ ys)
    unfolding pasted
    pasted_more ys =
        let front : take (at + length xs) (pasted area at xs) ≡ take at area ++ xs =
        take_at (take at area ++ xs) (drop (at + length xs) area) (at + length xs) head_length in
        let back : drop (at + length xs) (pasted area at xs) ≡ drop (at + length xs) area =
        drop_at (take at area ++ xs) (drop (at + length xs) area) (at + length xs) head_length in
        let rest : drop (at + length xs + length ys) (pasted area at xs) ≡ drop (at + length xs + length ys) area =
        sym (drop-drop (length ys) (at + length xs) (pasted area at xs)) ∙ ap (drop (length ys)) back
        ∙ drop-drop (length ys) (at + length xs) area in
        let sum : at + length (xs ++ ys) ≡ at + length xs + length ys = omega (arith, length-append xs ys) in
        rw (front, rest, sum) (ap (λ (l : List ℕ). l ++ drop (at + length xs + length ys) area)
        (append_assoc (take at area) xs ys))

-- a loop that writes bytes one by one
module _ (area₀ : List ℕ) (at : ℕ) (bytes : List ℕ) (fits : at + length bytes ≤ length area₀) where
  pub put_more : (j : ℕ) (area : List ℕ) (b : ℕ) → j < length bytes → b ≡ get_or bytes j 0 → area ≡ paste area₀ at bytes j
      → set area (at + j) b ≡ paste area₀ at bytes (j + 1)
  put_more j area b h e so = rw (so, e, add-one j) (paste-suc area₀ at bytes j 0 (omega arith) h)

  pub put_all : (j : ℕ) (area : List ℕ) → j ≡ length bytes → area ≡ paste area₀ at bytes j
      → area ≡ pasted area₀ at bytes
  put_all j area e so = so ∙ rw e (pasted_all area₀ at bytes)

pub byte_placed : (area : List ℕ) (at b : ℕ) → at < length area → set area at b ≡ pasted area at (b ∷ [])
byte_placed area at b h =
    let here : at + 0 ≡ at = omega arith in
    put_all area at (b ∷ []) (omega arith) 1 (set area at b) refl
    (rw here at (put_more area at (b ∷ []) (omega arith) 0 area b (omega arith) refl (paste-zero area at (b ∷ []))))

pub pasted_none : (area : List ℕ) (at : ℕ) → area ≡ pasted area at []
unfolding pasted
pasted_none area at =
    let none : at + 0 ≡ at = omega arith in
    sym (rw (none, append-nil) (take-append-drop at area))

module _ (area₀ : List ℕ) (at : ℕ) (a b d : List ℕ) (fits : at + (length a + length b + length d) ≤ length area₀) where
  one_fits : at + length a ≤ length area₀
  one_fits = omega arith

  module _ (p₁ : ℕ) (area₁ : List ℕ) (place₁ : p₁ ≡ at + length a) (so₁ : area₁ ≡ pasted area₀ at a) where
    long₁ : length area₁ ≡ length area₀
    long₁ = ap length so₁ ∙ pasted_length area₀ at a one_fits

    pub two_fits : p₁ + length b ≤ length area₁
    two_fits = omega (arith, long₁)

    module _ (p₂ : ℕ) (area₂ : List ℕ) (place₂ : p₂ ≡ p₁ + length b) (so₂ : area₂ ≡ pasted area₁ p₁ b) where
      long₂ : length area₂ ≡ length area₀
      long₂ = ap length so₂ ∙ pasted_length area₁ p₁ b two_fits ∙ long₁

      pub three_fits : p₂ + length d ≤ length area₂
      three_fits = omega (arith, long₂)

      joined : area₂ ≡ pasted area₀ at (a ++ b)
      joined = so₂ ∙ rw (so₁, place₁) (pasted_more area₀ at a one_fits b)

      pub three_placed : (area₃ : List ℕ) → area₃ ≡ pasted area₂ p₂ d → area₃ ≡ pasted area₀ at (a ++ (b ++ d))
      three_placed area₃ so₃ =
          let place : p₂ ≡ at + length (a ++ b) = omega (arith, length-append a b) in
          so₃ ∙ rw (joined, place) (pasted_more area₀ at (a ++ b) (omega (arith, length-append a b)) d)
          ∙ ap (pasted area₀ at) (append_assoc a b d)

-- a number behind a key is three pieces: the key, the numeral and the mark
module _ (area₀ : List ℕ) (at : ℕ) (key : List ℕ) (v mark : ℕ)
    (fits : at + length (item key v mark) ≤ length area₀) where
  item-length : length (item key v mark) ≡ length key + length (numeral v) + 1
  item-length = simp length-append (omega arith)

  pieces_fit : at + (length key + length (numeral v) + 1) ≤ length area₀
  pieces_fit = omega (arith, item-length)

  module _ (p₁ : ℕ) (area₁ : List ℕ) (one : (p₁ ≡ at + length key) × (area₁ ≡ pasted area₀ at key)) where
    module _ (p₂ : ℕ) (area₂ : List ℕ)
        (two : (p₂ ≡ p₁ + length (numeral v)) × (area₂ ≡ pasted area₁ p₁ (numeral v))) where
      pub mark_fits : p₂ < length area₂
      mark_fits =
          omega (
            arith,
            three_fits area₀ at key (numeral v) (mark ∷ []) pieces_fit p₁ area₁ one.0 one.1 p₂ area₂
                two.0 two.1,
          )

      pub item_placed : (p₂ + 1 ≡ at + length (item key v mark))
          × (set area₂ p₂ mark ≡ pasted area₀ at (item key v mark))
      item_placed = (
        omega (arith, item-length, one.0, two.0),
        three_placed area₀ at key (numeral v) (mark ∷ []) pieces_fit p₁ area₁ one.0 one.1 p₂ area₂ two.0
            two.1 (set area₂ p₂ mark) (byte_placed area₂ p₂ mark mark_fits),
      )
