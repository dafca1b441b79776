-- An item that `item_at` found.
--     Seen                     a number of a key and a mark stands at the front of a text, with its value and its length
--     not_seen, seen_item      what each answer of `item_at` says
-- Assumes nothing.
use mathlib.Core.Path.{◌≡◌, refl, ◌∙◌, ap}
use mathlib.Core.Bool.{Bool, true, false}
use mathlib.Core.List.{List}
use Prim.Native.Nat.{ℕ, ◌≤◌}
use native.Mathlib.Omega.{arith}
use lib.ListN.{length, drop, length-append}
use Rattle.text.specs.Text.{item, item_value, item_good, item_rest}
use Rattle.text.proofs.Lines.{item_stands}
use Rattle.lines.specs.declared.Item.{Item}
use Rattle.std.proofs.Common.{Option, Some, None}
use Rattle.lines.specs.Items.{item_seen}

pub record Seen (key : List ℕ) (mark : ℕ) (text : List ℕ) (seen : Item) : Type 0 where
  pub good : item_good key mark text ≡ true
  pub value : seen.value ≡ item_value key text
  pub inside : seen.length ≤ length text
  pub rest : drop seen.length text ≡ item_rest key mark text

module _ (key : List ℕ) (mark : ℕ) (text : List ℕ) (l : Option Item) (so : l ≡ item_seen key mark text) where
  abbrev here : List ℕ
  here = item key (item_value key text) mark

  abbrev found : Item
  found = record { value = item_value key text; length = length here }

  good_is : item_good key mark text ≡ true → l ≡ Some found
  unfolding item_seen
  good_is e = so ∙ rw e

  wrong_is : item_good key mark text ≡ false → l ≡ None
  unfolding item_seen
  wrong_is e = so ∙ rw e

  pub not_seen : l ≡ None → item_good key mark text ≡ false
  not_seen w = go (item_good key mark text) refl
    where
      go : (b : Bool) → item_good key mark text ≡ b → item_good key mark text ≡ false
      go true e = let it = good_is e in absurd cc
      go false e = e

  pub seen_item : (i : Item) → l ≡ Some i → Seen key mark text i
  unfolding item_rest
  seen_item i g = go (item_good key mark text) refl
    where
      go : (b : Bool) → item_good key mark text ≡ b → Seen key mark text i
      go false e = let not = wrong_is e in absurd cc
      go true e =
          let it = good_is e in
          let same : i ≡ found = cc in
          let long = ap length (item_stands key mark text e).1 ∙ length-append here (item_rest key mark text) in
          record {
            good = e;
            value = rw same;
            inside = omega (arith, ap (λ (x : Item). x.length) same, long);
            rest = rw same;
          }
