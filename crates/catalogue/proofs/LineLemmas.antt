-- The first line of a text, sought byte by byte, and the lines one after the other.
--     feed_at                                             the first line ends at the first line feed
--     ended_short, open_whole                             a line that is ended, and one that isn't
--     key_fronts, string_long                             the key and the string of a line
--     open_line, wrong_key, key_first, string_judged      what is wrong with a line
--     behind_found, behind_missing, good_is_ended         what stands behind it
--     lines_bad, lines_good, lines_over, lines_extra      the lines judged one after the other
--     line_passed                                         one line more
-- Assumes nothing.
use mathlib.Core.Path.{◌≡◌, refl, ◌∙◌, ap, sym}
use mathlib.Core.Bool.{Bool, true, false, cond, ◌&&◌, ◌||◌}
use Rattle.std.proofs.Common.{nat_eq}
use Rattle.std.specs.List.{position, position_or_len}
use Rattle.std.proofs.lemmas.List.Recursion.{is_position_or_len}
use mathlib.Core.List.{List, [], ◌∷◌}
use Prim.Native.Nat.{ℕ, zero, suc, ◌+◌, ◌-◌, ◌≤◌, ◌<◌}
use native.Mathlib.Omega.{arith}
use native.Mathlib.Numerals.{add-one}
use borrow.Author.Tests.{eq-eqb, eqb-true}
use lib.Dec.{eqb}
use lib.ListN.{length, get_or, drop, drop_of_length-le, length-drop, length-append}
use lib.Seq.{drop-cons}
use Rattle.std.proofs.Common.{Result, Ok, Err, Some, None}
use Rattle.table.specs.Table.{refuse, after_row}
use Rattle.text.specs.Text.{line_feed, starts}
use Rattle.lists.proofs.Truth.{differ}
use Rattle.text.proofs.Front.{starts_true}
use Rattle.catalogue.specs.Steps.{lines_on}
use Rattle.catalogue.proofs.Places.{first_found, first_missing}
use Rattle.catalogue.specs.Catalogue.{no_feed, first_line, is_ended, behind_line, string_at, string_refusal}
use Rattle.catalogue.specs.Catalogue.{line_refusal, lines_verdict}

-- The first line ends where std finds the first line feed, or goes on to the end.
abbrev is_feed : ℕ → Bool
is_feed b = nat_eq b line_feed

pub feed_at : (t : List ℕ) → length (first_line t) ≡ position_or_len is_feed t
unfolding first_line
feed_at t =
    is_position_or_len (λ (l : List ℕ). length (first_line l)) is_feed refl
    (λ b l. next (eqb b line_feed) b (first_line l)) t
  where
    next : (x : Bool) (b : ℕ) (l : List ℕ) → length (cond x [] (b ∷ l)) ≡ cond x 0 (1 + length l)
    next true b l = refl
    next false b l = omega arith

-- A line that is ended is shorter than what is left of the text, and one that isn't is all of it.
pub ended_short : (t : List ℕ) → is_ended t ≡ true → length (first_line t) < length t
unfolding is_ended first_line
ended_short [] e = absurd (differ e)
ended_short (b ∷ t) e = go (eqb b line_feed) e (ended_short t)
  where
    go : (x : Bool) → (x || is_ended t) ≡ true → (is_ended t ≡ true → length (first_line t) < length t)
        → length (cond x [] (b ∷ first_line t)) < suc (length t)
    go true e rest = omega arith
    go false e rest = omega (arith, rest e)

open_whole : (t : List ℕ) → is_ended t ≡ false → length (first_line t) ≡ length t
unfolding is_ended first_line
open_whole [] e = refl
open_whole (b ∷ t) e = go (eqb b line_feed) e (open_whole t)
  where
    go : (x : Bool) → (x || is_ended t) ≡ false → (is_ended t ≡ false → length (first_line t) ≡ length t)
        → length (cond x [] (b ∷ first_line t)) ≡ suc (length t)
    go true e rest = absurd (differ (sym e))
    go false e rest = ap suc (rest e)

-- A key without a line feed that stands at the front of a text stands in its first line.
pub key_fronts : (key t : List ℕ) → no_feed key ≡ true → starts key t ≡ true → starts key (first_line t) ≡ true
unfolding no_feed starts first_line
key_fronts [] t p s = refl
key_fronts (k ∷ key) [] p s = absurd (differ s)
key_fronts (k ∷ key) (b ∷ t) p s = go (eqb k line_feed) refl p (eqb k b) refl s (key_fronts key t)
  where
    go : (x : Bool) → eqb k line_feed ≡ x → cond x false (no_feed key) ≡ true → (y : Bool) → eqb k b ≡ y
        → (y && starts key t) ≡ true → (no_feed key ≡ true → starts key t ≡ true → starts key (first_line t) ≡ true)
        → starts (k ∷ key) (cond (eqb b line_feed) [] (b ∷ first_line t)) ≡ true
    go true ex p y ey s rest = absurd (differ p)
    go false ex p false ey s rest = absurd (differ s)
    go false ex p true ey s rest =
        let same : b ≡ k = sym (eqb-true k b ey) in
        rw (same, ex, eq-eqb k k refl) (rest p s)

key_in_line : (key t : List ℕ) → no_feed key ≡ true → starts key t ≡ true → length key ≤ length (first_line t)
key_in_line key t p s =
    let whole = ap length (starts_true key (first_line t) (key_fronts key t p s)) in
    omega (arith, whole, length-append key (drop (length key) (first_line t)))

-- A string is what its line has behind the key.
pub string_long : (key t : List ℕ) → length (string_at key t) ≡ length (first_line t) - length key
unfolding string_at
string_long key t = length-drop (length key) (first_line t)

-- The first line of a text, with a key of its own.
module _ (key text : List ℕ) (plain : no_feed key ≡ true) where
  abbrev size : ℕ
  size = length (first_line text)

  not_ended : size ≡ length text → is_ended text ≡ false
  not_ended e = go (is_ended text) refl
    where
      go : (b : Bool) → is_ended text ≡ b → b ≡ false
      go true q = absurd (omega (arith, ended_short text q))
      go false q = refl

  is_ended_lem : (size ≡ length text → ⊥) → is_ended text ≡ true
  is_ended_lem other = go (is_ended text) refl
    where
      go : (b : Bool) → is_ended text ≡ b → b ≡ true
      go true q = refl
      go false q = absurd (other (open_whole text q))

  pub open_line : size ≡ length text → Err 30 ≡ line_refusal key text
  unfolding line_refusal
  open_line e = rw (not_ended e)

  module _ (ended : size ≡ length text → ⊥) where
    pub wrong_key : starts key text ≡ false → Err 30 ≡ line_refusal key text
    unfolding line_refusal
    wrong_key e = rw (is_ended_lem ended, e)

    module _ (right : starts key text ≡ true) where
      pub key_first : length key ≤ size
      key_first = key_in_line key text plain right

      pub string_judged : (r : Result Unit ℕ) (k : ℕ) → k ≡ length key → r ≡ string_refusal (size - k) → r ≡ line_refusal key text
      unfolding line_refusal
      string_judged r k e so =
          let long : size - k ≡ length (string_at key text) = omega (arith, string_long key text) in
          rw (is_ended_lem ended, right) (so ∙ ap string_refusal long)

-- What stands behind a line.
behind_line_lem : (t : List ℕ) → behind_line t ≡ drop (length (first_line t) + 1) t
unfolding behind_line first_line
behind_line_lem [] = refl
behind_line_lem (b ∷ t) = go (eqb b line_feed) (behind_line_lem t)
  where
    go : (x : Bool) → behind_line t ≡ drop (length (first_line t) + 1) t
        → cond x t (behind_line t) ≡ drop (length (cond x [] (b ∷ first_line t)) + 1) (b ∷ t)
    go true e = refl
    go false e =
        let long = length (first_line t) in
        let passed = ap (λ (k : ℕ). drop k (b ∷ t)) (add-one (suc long)) in
        e ∙ sym (passed ∙ ap (λ (k : ℕ). drop k t) (sym (add-one long)))

-- By where std finds the first line feed.
pub behind_found : (t : List ℕ) {i : ℕ} → position is_feed t ≡ Some i → drop (i + 1) t ≡ behind_line t
behind_found t {i} e =
    let here : length (first_line t) ≡ i = feed_at t ∙ (first_found is_feed t e).0 in
    sym (behind_line_lem t ∙ ap (λ (k : ℕ). drop (k + 1) t) here)

pub behind_missing : (t : List ℕ) → position is_feed t ≡ None → [] ≡ behind_line t
behind_missing t e =
    let whole : length (first_line t) ≡ length t = feed_at t ∙ first_missing is_feed t e in
    sym (behind_line_lem t ∙ drop_of_length-le t (omega (arith, whole)))

-- A line that nothing is wrong with is ended.
pub good_is_ended : (key t : List ℕ) → line_refusal key t ≡ Ok tt → is_ended t ≡ true
unfolding line_refusal
good_is_ended key t e = go (is_ended t) e
  where
    go : (b : Bool) → cond (b && starts key t) (string_refusal (length (string_at key t))) (Err 30) ≡ Ok tt → b ≡ true
    go true e = refl
    go false e = absurd cc

-- The lines of a catalogue judged one after the other.
module _ (ks : List (List ℕ)) (i : ℕ) (text : List ℕ) where
  pub lines_bad : {number : ℕ} → i < length ks → line_refusal (get_or ks i []) text ≡ Err number
      → lines_verdict (drop i ks) i text ≡ Err (refuse number (i + 1) 0)
  unfolding lines_verdict after_row
  lines_bad h e = rw (drop-cons ks i [] h, e, add-one i)

  pub lines_good : i < length ks → line_refusal (get_or ks i []) text ≡ Ok tt
      → lines_verdict (drop i ks) i text ≡ lines_verdict (drop (i + 1) ks) (i + 1) (behind_line text)
  unfolding lines_verdict after_row
  lines_good h e = rw (drop-cons ks i [] h, e, add-one i)

pub lines_over : (ks : List (List ℕ)) (i : ℕ) (text : List ℕ) → length ks ≤ i → length text ≡ 0
    → lines_verdict (drop i ks) i text ≡ Ok tt
unfolding lines_verdict
lines_over ks i [] h e = rw (drop_of_length-le ks h)
lines_over ks i (b ∷ t) h e = absurd (omega (arith, e))

pub lines_extra : (ks : List (List ℕ)) (i : ℕ) (text : List ℕ) → length ks ≤ i → 0 < length text
    → lines_verdict (drop i ks) i text ≡ Err (refuse 30 (i + 1) 0)
unfolding lines_verdict
lines_extra ks i [] h e = absurd (omega arith)
lines_extra ks i (b ∷ t) h e = rw (drop_of_length-le ks h, add-one i)

-- One line more.
lines_on_suc : (k : ℕ) (text : List ℕ) → behind_line (lines_on k text) ≡ lines_on (suc k) text
unfolding lines_on
lines_on_suc zero text = refl
lines_on_suc (suc k) text = lines_on_suc k (behind_line text)

pub line_passed : (k : ℕ) (text : List ℕ) → behind_line (lines_on k text) ≡ lines_on (k + 1) text
line_passed k text = rw (add-one k) (lines_on_suc k text)
