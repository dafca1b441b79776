-- The definitions at work: catalogues that are accepted or refused.
-- Assumes nothing.
use mathlib.Core.Path.{◌≡◌, refl}
use mathlib.Core.List.{List, [], ◌∷◌, ◌++◌, map}
use Prim.Native.Nat.{ℕ, ◌+◌, ◌-◌}
use lib.ListN.{length, take, set, replicate}
use Rattle.lists.specs.Lists.{build}
use Rattle.table.specs.Table.{Verdict, refuse, after_row}
use Rattle.std.proofs.Common.{Ok, Err}
use Rattle.text.specs.Text.{width, last_digits, numeral, starts}
use Rattle.catalogue.specs.Catalogue.{numbers, key_of, keys, text_of, first_line, is_ended, behind_line, string_at}
use Rattle.catalogue.specs.Catalogue.{string_refusal, line_refusal, lines_verdict, strings_in, same, among, labels_in}
use Rattle.catalogue.specs.Catalogue.{first_repeat, after_lines, verdict_on}

-- r0=, r10=, r12= and f6=.
keys_spelt :
    key_of 114 0 ∷ key_of 114 10 ∷ key_of 114 12 ∷ key_of 102 6 ∷ []
    ≡ (114 ∷ 48 ∷ 61 ∷ []) ∷ (114 ∷ 49 ∷ 48 ∷ 61 ∷ []) ∷ (114 ∷ 49 ∷ 50 ∷ 61 ∷ []) ∷ (102 ∷ 54 ∷ 61 ∷ []) ∷ []
unfolding key_of width last_digits numeral
keys_spelt = refl

-- Strings of one byte, A, B and so on, each its own.
unfoldable pub plain : List (List ℕ)
plain = build (length keys) (λ i. (65 + i) ∷ [])

-- The catalogue of those strings.
unfoldable pub whole : List ℕ
whole = text_of keys plain

-- Strings with that of one line, counted from 1, given anew.
other : (line : ℕ) → (string : List ℕ) → List (List ℕ) → List (List ℕ)
other line string strings = set strings (line - 1) string

-- A label, by its field, that is the label of field 1.
again : (field : ℕ) → List (List ℕ) → List (List ℕ)
again field strings = other (length numbers + field) ((65 + length numbers) ∷ []) strings

-- A text, and the verdict that is expected.
record Case : Type 0 where
  text : List ℕ
  verdict : Verdict

good : List ℕ → Case
good text = record { text = text; verdict = Ok tt }

bad : (number line : ℕ) → List ℕ → Case
bad number line text = record { text = text; verdict = Err (refuse number line 0) }

cases : List Case
cases =
    good whole
    -- strings of answers may be equal, and may have 96 bytes
    ∷ good (text_of keys (other 2 (65 ∷ []) plain))
    ∷ good (text_of keys (other 7 (replicate {A = ℕ} 96 65) plain))
    -- nothing; a line missing in front and at the end; a last line that isn't ended; a byte too many
    ∷ bad 30 1 []
    ∷ bad 30 1 (behind_line whole)
    ∷ bad 30 (length keys) (take (length whole - 5) whole)
    ∷ bad 30 (length keys) (take (length whole - 1) whole)
    ∷ bad 30 (length keys + 1) (whole ++ (65 ∷ []))
    -- a line feed in a string
    ∷ bad 30 3 (text_of keys (other 2 (65 ∷ 10 ∷ 66 ∷ []) plain))
    -- an empty string, a long one, and an empty one that isn't ended
    ∷ bad 31 3 (text_of keys (other 3 [] plain))
    ∷ bad 31 7 (text_of keys (other 7 (replicate {A = ℕ} 97 65) plain))
    ∷ bad 30 (length keys) (take (length whole - 2) whole)
    -- equal labels: the first that repeats one is named, and lines go before
    ∷ bad 32 (length numbers + 2) (text_of keys (again 2 plain))
    ∷ bad 32 (length numbers + 6) (text_of keys (again 6 plain))
    ∷ bad 32 (length numbers + 2) (text_of keys (again 3 (again 2 plain)))
    ∷ bad 31 3 (text_of keys (again 2 (other 3 [] plain)))
    ∷ bad 30 (length keys + 1) (text_of keys (again 2 plain) ++ (65 ∷ []))
    ∷ []

-- Every verdict is as expected.
cases_judged : map (λ (c : Case). verdict_on c.text) cases ≡ map (λ (c : Case). c.verdict) cases
unfolding key_of keys text_of first_line is_ended behind_line string_at string_refusal line_refusal lines_verdict strings_in same
    among labels_in first_repeat after_row after_lines verdict_on width last_digits numeral starts
    cases good bad whole plain other again
cases_judged = refl
