-- A number behind a key, up to its mark: where it stands exactly so. A line is the case of a line feed.
--     item-length, line-length     how long it is
--     item_found, line_found       a text that begins with an item is seen to, with its number and the rest
--     item_stands, line_stands     an item that is seen stands there: the text is that item and the rest
--     item_iff, line_iff           so an item is good exactly if the text is an item of a value up to 65,535 and a rest
-- Assumes nothing.
use mathlib.Core.Path.{◌≡◌, refl, ◌∙◌, ap}
use mathlib.Core.Bool.{true, false}
use mathlib.Core.Logic.{◌↔◌}
use mathlib.Core.List.{List, ◌∷◌, ◌++◌, append_assoc}
use Prim.Native.Nat.{ℕ, ◌+◌, ◌≤◌}
use native.Mathlib.Omega.{arith}
use borrow.Author.Tests.{le-leb, leb-true}
use lib.Dec.{leb}
use lib.ListN.{length, drop, length-append}
use lib.Seq.{drop-append_seam}
use Rattle.lists.proofs.Truth.{both_hold}
use Rattle.text.specs.Text.{line_feed, greatest_value, width, numeral, item, line, starts, is_digit, item_value}
use Rattle.text.specs.Text.{item_good, item_rest, line_value, line_good, line_rest}
use Rattle.text.proofs.Numeral.{numeral-length, numeral_digits, numeral_value, width_most, digits_read}
use Rattle.text.proofs.Front.{starts_self, starts_true}

-- an item has its key, its digits and its mark
pub item-length : (key : List ℕ) (v mark : ℕ) → length (item key v mark) ≡ length key + width v + 1
item-length key v mark = simp (length-append, numeral-length) (omega arith)

pub line-length : (key : List ℕ) (v : ℕ) → length (line key v) ≡ length key + width v + 1
unfolding line
line-length key v = item-length key v line_feed

-- the bytes behind the key
behind : (key : List ℕ) (v mark : ℕ) (rest : List ℕ)
    → drop (length key) (item key v mark ++ rest) ≡ numeral v ++ (mark ∷ rest)
behind key v mark rest =
    ap (drop (length key)) (simp append_assoc) ∙ drop-append_seam key (numeral v ++ (mark ∷ rest))

module _ (key : List ℕ) (v mark : ℕ) (rest : List ℕ) (no_digit : is_digit mark ≡ false)
    (small : v ≤ greatest_value) where
  abbrev here : List ℕ
  here = item key v mark ++ rest

  found_value : item_value key here ≡ v
  unfolding item_value
  found_value =
      rw (
        behind key v mark rest,
        digits_read 5 (numeral v) mark rest no_digit (numeral_digits v)
            (rw (numeral-length v) (width_most v)),
      )
      (numeral_value v (omega arith))

  found_good : item_good key mark here ≡ true
  unfolding item_good
  found_good = rw (found_value, le-leb v greatest_value small) (starts_self (item key v mark) rest)

  found_rest : item_rest key mark here ≡ rest
  unfolding item_rest
  found_rest = rw found_value (drop-append_seam (item key v mark) rest)

  pub item_found : (item_good key mark here ≡ true) × (item_value key here ≡ v) × (item_rest key mark here ≡ rest)
  item_found = (found_good, found_value, found_rest)

pub line_found : (key : List ℕ) (v : ℕ) (rest : List ℕ) → v ≤ greatest_value
    → (line_good key (line key v ++ rest) ≡ true) × (line_value key (line key v ++ rest) ≡ v)
    × (line_rest key (line key v ++ rest) ≡ rest)
unfolding line
line_found key v rest = item_found key v line_feed rest refl

pub item_stands : (key : List ℕ) (mark : ℕ) (text : List ℕ) → item_good key mark text ≡ true
    → (item_value key text ≤ greatest_value) × (text ≡ item key (item_value key text) mark ++ item_rest key mark text)
unfolding item_good item_rest
item_stands key mark text e =
    let v = item_value key text in
    let both = both_hold (leb v greatest_value) (starts (item key v mark) text) e in
    (leb-true v greatest_value both.0, starts_true (item key v mark) text both.1)

pub line_stands : (key text : List ℕ) → line_good key text ≡ true
    → (line_value key text ≤ greatest_value) × (text ≡ line key (line_value key text) ++ line_rest key text)
unfolding line
line_stands key text = item_stands key line_feed text

-- a text begins with an item of the key, up to the mark
pub record BeginsItem (key : List ℕ) (mark : ℕ) (text : List ℕ) : Type 0 where
  pub value : ℕ
  pub rest : List ℕ
  pub small : value ≤ greatest_value
  pub so : text ≡ item key value mark ++ rest

pub item_iff : (key : List ℕ) (mark : ℕ) (text : List ℕ) → is_digit mark ≡ false
    → (item_good key mark text ≡ true) ↔ BeginsItem key mark text
item_iff key mark text no_digit = (
  λ e. record {
    value = item_value key text;
    rest = item_rest key mark text;
    small = (item_stands key mark text e).0;
    so =
        (item_stands key mark text e).1;
  },
  λ b. ap (item_good key mark) b.so ∙ found_good key b.value mark b.rest no_digit b.small,
)

-- a text begins with a line of the key
pub record Begins (key text : List ℕ) : Type 0 where
  pub value : ℕ
  pub rest : List ℕ
  pub small : value ≤ greatest_value
  pub so : text ≡ line key value ++ rest

pub line_iff : (key text : List ℕ) → (line_good key text ≡ true) ↔ Begins key text
unfolding line
line_iff key text =
    let both = item_iff key line_feed text refl in (
      λ e. let b = both.0 e in record { value = b.value; rest = b.rest; small = b.small; so = b.so },
      λ b. both.1 (record { value = b.value; rest = b.rest; small = b.small; so = b.so }),
    )
