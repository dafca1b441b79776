-- The lines of a catalogue cut from a text and put together again.
--     good_line         a line that nothing is wrong with is its key, a string and one line feed
--     line_found        such a line is found, with its string and what stands behind it
--     good_split        such a catalogue's first line and the rest
--     lines_stand       lines that nothing is wrong with are the text of their strings
--     lines_found       the text of strings has lines that nothing is wrong with, and those strings
--     strings_counted   as many strings as keys
-- Assumes nothing.
use mathlib.Core.Path.{◌≡◌, refl, ◌∙◌, ap, sym}
use mathlib.Core.Bool.{Bool, true, false, cond, ◌&&◌, ◌||◌}
use mathlib.Core.List.{List, [], ◌∷◌, ◌++◌, append_assoc}
use Prim.Native.Nat.{ℕ, zero, suc, ◌≤◌, ◌<◌}
use native.Mathlib.Nat.{not-suc-le-zero}
use native.Mathlib.Omega.{arith}
use borrow.Author.Tests.{ne_eqb, eqb-true, eqb-false, le-leb, leb-true, le-ltb, ltb-false}
use lib.Dec.{eqb, ltb, leb}
use lib.ListN.{length, get_or, drop}
use lib.Seq.{drop-append_seam}
use Rattle.std.proofs.Common.{Result, Ok, Err}
use Rattle.table.specs.Table.{Verdict, after_row}
use Rattle.text.specs.Text.{line_feed, starts}
use Rattle.lists.proofs.Truth.{differ}
use Rattle.text.proofs.Front.{starts_self, starts_true}
use Rattle.catalogue.specs.Catalogue.{longest_string, no_feed, is_string, text_of, first_line, is_ended, behind_line}
use Rattle.catalogue.specs.Catalogue.{string_at, string_refusal, line_refusal, lines_verdict, strings_in}
use Rattle.catalogue.proofs.LineLemmas.{key_fronts}

-- An ended line is its bytes, one line feed and what stands behind.
line_cut : (t : List ℕ) → is_ended t ≡ true → t ≡ first_line t ++ (line_feed ∷ behind_line t)
unfolding is_ended first_line behind_line
line_cut [] e = absurd (differ e)
line_cut (b ∷ t) e = go (eqb b line_feed) refl e (line_cut t)
  where
    go : (x : Bool) → eqb b line_feed ≡ x → (x || is_ended t) ≡ true
        → (is_ended t ≡ true → t ≡ first_line t ++ (line_feed ∷ behind_line t))
        → b ∷ t ≡ cond x [] (b ∷ first_line t) ++ (line_feed ∷ cond x t (behind_line t))
    go true s e rest = ap (λ (c : ℕ). c ∷ t) (eqb-true b line_feed s)
    go false s e rest = ap (λ (l : List ℕ). b ∷ l) (rest e)

-- A first line has no line feed.
line_plain : (t : List ℕ) → no_feed (first_line t) ≡ true
unfolding no_feed first_line
line_plain [] = refl
line_plain (b ∷ t) = go (eqb b line_feed) refl (line_plain t)
  where
    go : (x : Bool) → eqb b line_feed ≡ x → no_feed (first_line t) ≡ true → no_feed (cond x [] (b ∷ first_line t)) ≡ true
    go true s rest = refl
    go false s rest = rw s rest

-- Behind bytes without a line feed there is one exactly if the whole has one.
plain_behind : (a b : List ℕ) → no_feed a ≡ true → no_feed (a ++ b) ≡ no_feed b
unfolding no_feed
plain_behind [] b p = refl
plain_behind (x ∷ a) b p = go (eqb x line_feed) p (plain_behind a b)
  where
    go : (t : Bool) → cond t false (no_feed a) ≡ true → (no_feed a ≡ true → no_feed (a ++ b) ≡ no_feed b)
        → cond t false (no_feed (a ++ b)) ≡ no_feed b
    go true p rest = absurd (differ p)
    go false p rest = rest p

-- Bytes without a line feed, then one: the line is ended, it is those bytes, and the rest stands behind it.
feed_found : (xs r : List ℕ) → no_feed xs ≡ true
    → let t = xs ++ (line_feed ∷ r) in (is_ended t ≡ true) × (first_line t ≡ xs) × (behind_line t ≡ r)
unfolding no_feed is_ended first_line behind_line
feed_found [] r p = (refl, refl, refl)
feed_found (x ∷ xs) r p = go (eqb x line_feed) p (feed_found xs r)
  where
    t : List ℕ
    t = xs ++ (line_feed ∷ r)

    go : (b : Bool) → cond b false (no_feed xs) ≡ true
        → (no_feed xs ≡ true → (is_ended t ≡ true) × (first_line t ≡ xs) × (behind_line t ≡ r))
        → ((b || is_ended t) ≡ true) × (cond b [] (x ∷ first_line t) ≡ x ∷ xs) × (cond b t (behind_line t) ≡ r)
    go true p rest = absurd (differ p)
    go false p rest = let found = rest p in (found.0, ap (λ (l : List ℕ). x ∷ l) found.1, found.2)

-- What the length of a string is that isn't refused, and what a string is.
pub length_good : (n : ℕ) → string_refusal n ≡ Ok tt → (1 ≤ n) × (n ≤ longest_string)
unfolding string_refusal
length_good n e = go (eqb n 0) refl (ltb longest_string n) refl e
  where
    go : (a : Bool) → eqb n 0 ≡ a → (b : Bool) → ltb longest_string n ≡ b → ◌≡◌ {A = Result Unit ℕ} (cond (a || b) (Err 31) (Ok tt)) (Ok tt)
        → (1 ≤ n) × (n ≤ longest_string)
    go true ea b eb e = absurd cc
    go false ea true eb e = absurd cc
    go false ea false eb e = (omega (arith, eqb-false n 0 ea), ltb-false longest_string n eb)

pub string_good : (s : List ℕ) → is_string s ≡ true → (string_refusal (length s) ≡ Ok tt) × (no_feed s ≡ true)
unfolding is_string string_refusal
string_good s e = go (leb 1 (length s)) refl (leb (length s) longest_string) refl e
  where
    go : (a : Bool) → leb 1 (length s) ≡ a → (b : Bool) → leb (length s) longest_string ≡ b
        → (a && (b && no_feed s)) ≡ true → (string_refusal (length s) ≡ Ok tt) × (no_feed s ≡ true)
    go false ea b eb e = absurd (differ e)
    go true ea false eb e = absurd (differ e)
    go true ea true eb e =
        let some : length s ≡ 0 → ⊥ = λ z. omega (arith, leb-true 1 (length s) ea) in
        (rw (ne_eqb (length s) 0 some, le-ltb longest_string (length s) (leb-true (length s) longest_string eb)), e)

module _ (key : List ℕ) (plain : no_feed key ≡ true) where
  -- A line that nothing is wrong with: its key, a string and one line feed.
  pub record GoodLine (t : List ℕ) : Type 0 where
    pub stands : t ≡ key ++ (string_at key t ++ (line_feed ∷ behind_line t))
    pub right : is_string (string_at key t) ≡ true

  pub good_line : (t : List ℕ) → line_refusal key t ≡ Ok tt → GoodLine t
  unfolding line_refusal string_at is_string
  good_line t e = go (is_ended t) refl (starts key t) refl e
    where
      string : List ℕ
      string = drop (length key) (first_line t)

      go : (a : Bool) → is_ended t ≡ a → (b : Bool) → starts key t ≡ b
          → cond (a && b) (string_refusal (length string)) (Err 30) ≡ Ok tt → GoodLine t
      go false ea b eb e = absurd cc
      go true ea false eb e = absurd cc
      go true ea true eb e =
          let front : first_line t ≡ key ++ string = starts_true key (first_line t) (key_fronts key t plain eb) in
          let fits = length_good (length string) e in
          let pure = sym (plain_behind key string plain) ∙ ap no_feed (sym front) ∙ line_plain t in
          let behind = line_feed ∷ behind_line t in
          record {
            stands = line_cut t ea ∙ ap (λ (l : List ℕ). l ++ behind) front ∙ append_assoc key string behind;
            right = rw (le-leb 1 (length string) fits.0, le-leb (length string) longest_string fits.1, pure);
          }

  -- The line of a key and a string is found, with its string and what stands behind it.
  line_found : (s r : List ℕ) → is_string s ≡ true
      → let t = key ++ (s ++ (line_feed ∷ r)) in (line_refusal key t ≡ Ok tt) × (string_at key t ≡ s) × (behind_line t ≡ r)
  unfolding line_refusal string_at
  line_found s r good =
      let told = string_good s good in
      let found = feed_found (key ++ s) r (plain_behind key s plain ∙ told.1) in
      let behind = s ++ (line_feed ∷ r) in
      let one = sym (append_assoc key s (line_feed ∷ r)) in
      let line = ap first_line one ∙ found.1 in
      let string = ap (drop (length key)) line ∙ drop-append_seam key s in
      let ended = ap is_ended one ∙ found.0 in
      let right : line_refusal key (key ++ behind) ≡ Ok tt = rw (string, starts_self key behind, ended) told.0 in
      (right, string, ap behind_line one ∙ found.2)

-- Keys without a line feed, and strings: every one of a list.
abbrev pub AllPlain : List (List ℕ) → Type 0
AllPlain ks = (i : ℕ) → i < length ks → no_feed (get_or ks i []) ≡ true

abbrev pub AllStrings : List (List ℕ) → Type 0
AllStrings ss = (i : ℕ) → i < length ss → is_string (get_or ss i []) ≡ true

pub strings_counted : (ks : List (List ℕ)) (text : List ℕ) → length (strings_in ks text) ≡ length ks
unfolding strings_in
strings_counted [] text = refl
strings_counted (k ∷ ks) text = ap suc (strings_counted ks (behind_line text))

-- A catalogue without a bad line has nothing wrong with its first line, nor with the rest.
pub good_split : (k : List ℕ) (ks : List (List ℕ)) (a : ℕ) (text : List ℕ) → lines_verdict (k ∷ ks) a text ≡ Ok tt
    → (line_refusal k text ≡ Ok tt) × (lines_verdict ks (suc a) (behind_line text) ≡ Ok tt)
unfolding lines_verdict after_row
good_split k ks a text e = go (line_refusal k text) refl e
  where
    rest : Verdict
    rest = lines_verdict ks (suc a) (behind_line text)

    go : (v : Result Unit ℕ) → line_refusal k text ≡ v → after_row v (suc a) rest ≡ Ok tt
        → (line_refusal k text ≡ Ok tt) × (rest ≡ Ok tt)
    go (Ok _) q e = (q, e)
    go (Err _) q e = absurd cc

-- Lines that nothing is wrong with are the text of their strings.
pub lines_stand : (ks : List (List ℕ)) (above : ℕ) (text : List ℕ) → AllPlain ks → lines_verdict ks above text ≡ Ok tt
    → (text ≡ text_of ks (strings_in ks text)) × AllStrings (strings_in ks text)
unfolding lines_verdict text_of strings_in
lines_stand [] above [] plain e = (refl, λ i h. absurd (not-suc-le-zero h))
lines_stand [] above (b ∷ bs) plain e = absurd cc
lines_stand (k ∷ ks) above text plain e =
    let parts = good_split k ks above text e in
    let line = good_line k (plain 0 (omega arith)) text parts.0 in
    let others = lines_stand ks (suc above) (behind_line text) (λ i h. plain (suc i) (omega arith)) parts.1 in
    let stands = line.stands ∙ ap (λ (t : List ℕ). k ++ (string_at k text ++ (line_feed ∷ t))) others.0 in
    (stands, each line.right others.1)
  where
    each : is_string (string_at k text) ≡ true → AllStrings (strings_in ks (behind_line text))
        → AllStrings (string_at k text ∷ strings_in ks (behind_line text))
    each first others zero h = first
    each first others (suc i) h = others i (omega arith)

-- The text of strings has lines that nothing is wrong with, and those strings.
pub lines_found : (ks ss : List (List ℕ)) (above : ℕ) → AllPlain ks → length ss ≡ length ks → AllStrings ss
    → (lines_verdict ks above (text_of ks ss) ≡ Ok tt) × (strings_in ks (text_of ks ss) ≡ ss)
unfolding lines_verdict after_row text_of strings_in
lines_found [] [] above plain e good = (refl, refl)
lines_found [] (s ∷ ss) above plain e good = absurd (omega (arith, e))
lines_found (k ∷ ks) [] above plain e good = absurd (omega (arith, e))
lines_found (k ∷ ks) (s ∷ ss) above plain e good =
    let found = line_found k (plain 0 (omega arith)) s (text_of ks ss) (good 0 (omega arith)) in
    let plain-on : AllPlain ks = λ i h. plain (suc i) (omega arith) in
    let good-on : AllStrings ss = λ i h. good (suc i) (omega arith) in
    let more = lines_found ks ss (suc above) plain-on (omega (arith, e)) good-on in
    (rw (found.0, found.2) more.0, rw (found.1, found.2, more.1))
