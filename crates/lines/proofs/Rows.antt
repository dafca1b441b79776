-- The lines of some keys, read one by one, as `row_at` reads those of a row.
--     right_all, broken_on                      all lines are right, or the first wrong one is known
--     Reached                                   j lines are read, and what is said of all is said of the rest
--     none_reached, more_reached                its laws
--     answers_broken, answers_whole             the two answers of `row_at`
-- Assumes nothing.
use mathlib.Core.Path.{◌≡◌, refl, ◌∙◌, ap, sym}
use mathlib.Core.Bool.{Bool, true, false, cond}
use mathlib.Core.List.{List, [], ◌∷◌, ◌++◌, append-nil}
use Prim.Native.Nat.{ℕ, suc, ◌+◌, ◌-◌, ◌≤◌, ◌<◌}
use native.Mathlib.Numerals.{add-one}
use native.Mathlib.Omega.{arith}
use borrow.Author.Tests.{lt-ltb, le-ltb}
use lib.ListN.{length, get_or, set, take, drop, length-set, length-drop, length-append, drop_of_length-le}
use lib.Seq.{drop-cons, drop-drop, take-suc-set, take_all, append_snoc}
use Rattle.text.specs.Text.{line_feed, row_keys, row_text, line_good, line_rest, values_at, behind_lines, wrong_line}
use Rattle.text.specs.Text.{row_at}
use Rattle.text.proofs.RowLaws.{made, Right, row_stands}
use Rattle.lines.proofs.Seen.{Seen}
use Rattle.lines.specs.declared.Item.{Item}
use Rattle.std.proofs.Common.{Ok, Err}
use Rattle.lines.specs.Items.{right_lines, row_seen}

-- A row has at least one line, and at most sixteen.
pub row_lines : (1 ≤ length row_keys) × (length row_keys ≤ 16)
unfolding row_keys
row_lines = (omega arith, omega arith)

pub right_all : (keys : List (List ℕ)) (text : List ℕ) → length keys ≤ right_lines keys text → Right keys text
unfolding right_lines
right_all [] text h = tt
right_all (k ∷ ks) text h = go (line_good k text) refl h (right_all ks (line_rest k text))
  where
    go : (b : Bool) → line_good k text ≡ b → suc (length ks) ≤ cond b (suc (right_lines ks (line_rest k text))) 0
        → (length ks ≤ right_lines ks (line_rest k text) → Right ks (line_rest k text)) → Right (k ∷ ks) text
    go true e h rec = (e, rec (omega arith))
    go false e h rec = absurd (omega arith)

pub broken_on : (keys more : List (List ℕ)) (text : List ℕ) (l : ℕ) → right_lines keys text < length keys
    → wrong_line (keys ++ more) text l ≡ l + right_lines keys text
unfolding right_lines wrong_line
broken_on [] more text l h = absurd (omega arith)
broken_on (k ∷ ks) more text l h = go (line_good k text) h (broken_on ks more (line_rest k text) (suc l))
  where
    rest : ℕ
    rest = right_lines ks (line_rest k text)

    go : (b : Bool) → cond b (suc rest) 0 < suc (length ks)
        → (rest < length ks → wrong_line (ks ++ more) (line_rest k text) (suc l) ≡ suc l + rest)
        → cond b (wrong_line (ks ++ more) (line_rest k text) (suc l)) l ≡ l + cond b (suc rest) 0
    go true h rec = rec (omega arith) ∙ omega arith
    go false h rec = omega arith

-- j lines are read, of so many bytes, and their values are at the front of vs
pub record Reached (keys : List (List ℕ)) (text : List ℕ) (vs : List ℕ) (next j : ℕ) : Type 0 where
  pub few : j ≤ length keys
  pub inside : next ≤ length text
  pub long : length vs ≡ length keys
  pub counted : right_lines keys text ≡ j + right_lines (drop j keys) (drop next text)
  pub past : behind_lines keys text ≡ behind_lines (drop j keys) (drop next text)
  pub said : values_at keys text ≡ take j vs ++ values_at (drop j keys) (drop next text)

pub none_reached : (keys : List (List ℕ)) (text : List ℕ) (vs : List ℕ)
    → length vs ≡ length keys → Reached keys text vs 0 0
none_reached keys text vs e =
    record { few = omega arith; inside = omega arith; long = e; counted = omega arith; past = refl; said = refl }

module _ {keys : List (List ℕ)} {text : List ℕ} {vs : List ℕ} {next j : ℕ}
    (k : Reached keys text vs next j) where
  module _ (more : j < length keys) where
    key_next : drop j keys ≡ get_or keys j [] ∷ drop (j + 1) keys
    key_next = rw add-one (drop-cons keys j [] more)

    pub stopped : line_good (get_or keys j []) (drop next text) ≡ false → right_lines keys text ≡ j
    unfolding right_lines
    stopped e = k.counted ∙ rw (key_next, e) (omega arith)

    pub more_reached : (i : Item) → Seen (get_or keys j []) line_feed (drop next text) i
        → Reached keys text (set vs j i.value) (next + i.length) (j + 1)
    unfolding right_lines behind_lines values_at
    more_reached i s =
        let v = i.value in
        let end = next + i.length in
        let front : take (j + 1) (set vs j v) ≡ take j vs ++ (v ∷ []) =
        rw add-one (take-suc-set vs j v (omega (arith, k.long))) in
        let past : drop end text ≡ line_rest (get_or keys j []) (drop next text) =
        sym (drop-drop i.length next text) ∙ s.rest in
        let rest = values_at (drop (j + 1) keys) (drop end text) in
        record {
          few = omega arith;
          inside = omega (arith, s.inside, length-drop next text, k.inside);
          long = length-set vs j v ∙ k.long;
          counted = k.counted ∙ rw (key_next, s.good, ← past) (omega arith);
          past = k.past ∙ rw (key_next, past);
          said = k.said ∙ rw (key_next, ← past, ← s.value, front) (sym (append_snoc (take j vs) v rest));
        }

  module _ (done : length keys ≤ j) where
    no_keys : drop j keys ≡ []
    no_keys = drop_of_length-le keys done

    pub all_right : length keys ≤ right_lines keys text
    unfolding right_lines
    all_right = rw (k.counted, no_keys) (omega arith)

    pub all_past : behind_lines keys text ≡ drop next text
    unfolding behind_lines
    all_past = k.past ∙ rw no_keys

    pub all_said : values_at keys text ≡ vs
    unfolding values_at
    all_said = k.said ∙ rw (no_keys, append-nil) (take_all j vs (omega (arith, k.long)))

module _ {text : List ℕ} {vs : List ℕ} {next j : ℕ} (k : Reached row_keys text vs next j) where
  pub answers_broken : j < length row_keys → line_good (get_or row_keys j []) (drop next text) ≡ false
      → Err j ≡ row_seen text
  unfolding row_seen
  answers_broken more e = rw (stopped k more e, lt-ltb j (length row_keys) more)

  pub answers_whole : length row_keys ≤ j → Ok (record { row = made vs; length = next }) ≡ row_seen text
  unfolding row_seen row_at
  answers_whole done =
      let right = right_all row_keys text (all_right k done) in
      let row : made vs ≡ row_at text = ap made (sym (all_said k done)) in
      let stands = ap length (row_stands text right)
      ∙ length-append (row_text (row_at text)) (behind_lines row_keys text) in
      let rest : length (behind_lines row_keys text) ≡ length text - next = ap length (all_past k done)
      ∙ length-drop next text in
      let place : next ≡ length (row_text (row_at text)) = omega (arith, stands, k.inside) in
      cc (row, place, le-ltb (right_lines row_keys text) (length row_keys) (all_right k done))
