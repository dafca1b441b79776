-- The strings of a catalogue: compared, found, and judged after all lines.
--     each_good, string_at_lem, Stands, string_part    the lines and strings of a catalogue without a bad line
--     labels_long, label_at, labels_told               its labels are its last strings
--     among_here, among_next, among_end                a string sought among those in front of it
--     repeat_here, repeat_next, repeat_end             the first label that repeats an earlier one
-- Assumes nothing.
use mathlib.Core.Path.{◌≡◌, refl, ◌∙◌, ap, sym}
use mathlib.Core.Bool.{Bool, true, false}
use mathlib.Core.List.{List, [], ◌∷◌, ◌++◌}
use Prim.Native.Nat.{ℕ, zero, suc, ◌+◌, ◌-◌, ◌≤◌, ◌<◌}
use native.Mathlib.Omega.{arith}
use native.Mathlib.Nat.{not-suc-le-zero, le_of_suc-le-suc}
use native.Mathlib.Numerals.{add-one}
use lib.Dec.{eqb}
use lib.ListN.{length, get_or, take, drop, length-drop}
use lib.Seq.{drop-cons, drop-append_seam, take-append_seam, get_or-drop}
use Rattle.std.proofs.Common.{Ok, Some, None, nat_eq}
use Rattle.text.specs.Text.{line_feed}
use Rattle.catalogue.specs.Catalogue.{numbers, fields, keys, no_feed, same, among, labels_in, first_repeat}
use Rattle.catalogue.specs.Catalogue.{first_line, behind_line, string_at}
use Rattle.catalogue.specs.Catalogue.{line_refusal, lines_verdict, strings_in}
use Rattle.catalogue.specs.Steps.{lines, string_in, lines_on}
use Rattle.catalogue.proofs.Keys.{keys_all, key_plain}
use Rattle.catalogue.proofs.Cutting.{good_split, good_line, string_good, length_good, strings_counted}
use Rattle.catalogue.proofs.Labels.{same_std}
use Rattle.std.specs.Cmp.Lexicographic.{pointwise}
use Rattle.catalogue.proofs.LineLemmas.{ended_short, good_is_ended, string_long}

-- Nothing is wrong with line i of a catalogue without a bad line.
pub each_good : (ks : List (List ℕ)) (a : ℕ) (text : List ℕ) (i : ℕ) → lines_verdict ks a text ≡ Ok tt → i < length ks
    → line_refusal (get_or ks i []) (lines_on i text) ≡ Ok tt
unfolding lines_on
each_good [] a text i e h = absurd (not-suc-le-zero h)
each_good (k ∷ ks) a text zero e h = (good_split k ks a text e).0
each_good (k ∷ ks) a text (suc i) e h =
    each_good ks (suc a) (behind_line text) i (good_split k ks a text e).1 (le_of_suc-le-suc h)

-- The string of line i stands behind its key.
pub string_at_lem : (ks : List (List ℕ)) (text : List ℕ) (i : ℕ) → i < length ks
    → get_or (strings_in ks text) i [] ≡ string_at (get_or ks i []) (lines_on i text)
unfolding lines_on strings_in
string_at_lem [] text i h = absurd (not-suc-le-zero h)
string_at_lem (k ∷ ks) text zero h = refl
string_at_lem (k ∷ ks) text (suc i) h = string_at_lem ks (behind_line text) i (le_of_suc-le-suc h)

-- The string of a line that nothing is wrong with, by where it begins and ends.
pub record Stands (text string : List ℕ) (from to : ℕ) : Type 0 where
  pub order : from ≤ to
  pub inside : to ≤ length text
  pub holds : take (to - from) (drop from text) ≡ string

string_stands : (key t : List ℕ) (end : ℕ) → no_feed key ≡ true → line_refusal key t ≡ Ok tt
    → end ≡ length (first_line t) → Stands t (string_at key t) (length key) end
string_stands key t end plain good ends =
    let line = good_line key plain t good in
    let string = string_at key t in
    let some : 1 ≤ length string = (length_good (length string) (string_good string line.right).0).0 in
    let long : length string ≡ length (first_line t) - length key = string_long key t in
    let cut : end - length key ≡ length string = omega arith in
    let behind = line_feed ∷ behind_line t in
    let start : drop (length key) t ≡ string ++ behind =
    ap (drop (length key)) line.stands ∙ drop-append_seam key (string ++ behind) in
    record {
      order = omega arith;
      inside = omega (arith, ended_short t (good_is_ended key t good));
      holds = rw (cut, start) (take-append_seam string behind);
    }

-- The string of line i of a catalogue without a bad line, by where it begins and ends in the text from there on.
pub string_part : (text : List ℕ) (i end : ℕ) {t key : List ℕ} → lines_verdict keys 0 text ≡ Ok tt → i < lines
    → t ≡ lines_on i text → key ≡ get_or keys i [] → end ≡ length (first_line t)
    → Stands t (string_in text i) (length key) end
string_part text i end good inside on is ends =
    let few : i < length keys = omega (arith, keys_all) in
    let right = each_good keys 0 text i good few in
    let plain = key_plain i inside in
    rw (is, on, string_at_lem keys text i few)
    (string_stands (get_or keys i []) (lines_on i text) end plain right (ends ∙ ap (λ (l : List ℕ). length (first_line l)) on))

-- A catalogue has as many strings as keys, and the labels are the last of them.
pub labels_long : (text : List ℕ) → length (labels_in text) ≡ length fields
unfolding labels_in
labels_long text =
    omega (arith, length-drop (length numbers) (strings_in keys text), strings_counted keys text, keys_all)

pub label_at : (text : List ℕ) (k : ℕ) → get_or (labels_in text) k [] ≡ get_or (strings_in keys text) (length numbers + k) []
unfolding labels_in
label_at text k = get_or-drop (length numbers) (strings_in keys text) k []

-- What comparing two strings of a catalogue says of two labels.
pub labels_told : (text : List ℕ) (k j : ℕ) {a b : List ℕ} {found known : Bool}
    → found ≡ pointwise nat_eq a b → a ≡ string_in text (length numbers + k) → b ≡ string_in text (length numbers + j)
    → found ≡ known → same (get_or (labels_in text) k []) (get_or (labels_in text) j []) ≡ known
labels_told text k j {a} {b} is so so' e =
    rw (label_at text k, label_at text j, sym so, sym so') (same_std a b ∙ sym is ∙ e)

-- A string sought among those in front of place k, from place j on.
module _ (x : List ℕ) (list : List (List ℕ)) (k j : ℕ) where
  module _ (h : j < k) (inside : j < length list) where
    rest : take (k - j) (drop j list) ≡ get_or list j [] ∷ take (k - (j + 1)) (drop (j + 1) list)
    rest =
        let one : k - j ≡ suc (k - (j + 1)) = omega arith in
        rw (drop-cons list j [] inside, one, add-one j)

    pub among_here : same x (get_or list j []) ≡ true → among x (take (k - j) (drop j list)) ≡ true
    unfolding among
    among_here e = rw (rest, e)

    pub among_next : same x (get_or list j []) ≡ false
        → among x (take (k - j) (drop j list)) ≡ among x (take (k - (j + 1)) (drop (j + 1) list))
    unfolding among
    among_next e = rw (rest, e)

  pub among_end : k ≤ j → among x (take (k - j) (drop j list)) ≡ false
  unfolding among
  among_end h = let none : k - j ≡ 0 = omega arith in rw none

-- The first label that repeats an earlier one, sought from place k on.
module _ (labels : List (List ℕ)) (m k : ℕ) where
  module _ (h : k < m) where
    one_less : m - k ≡ suc (m - (k + 1))
    one_less = omega arith

    pub repeat_here : among (get_or labels k []) (take k labels) ≡ true → first_repeat labels (m - k) k ≡ Some k
    unfolding first_repeat
    repeat_here e = rw (one_less, e)

    pub repeat_next : among (get_or labels k []) (take k labels) ≡ false
        → first_repeat labels (m - k) k ≡ first_repeat labels (m - (k + 1)) (k + 1)
    unfolding first_repeat
    repeat_next e = rw (one_less, e, add-one k)

  pub repeat_end : m ≤ k → first_repeat labels (m - k) k ≡ None
  unfolding first_repeat
  repeat_end h = let none : m - k ≡ 0 = omega arith in rw none
