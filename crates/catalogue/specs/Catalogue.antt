-- A catalogue and the verdict on it: document 02, Ask 4.
use Rattle.std.specs.Prelude.{ℕ, zero, suc, ◌+◌, ◌<◌, ◌≡◌, Bool, true, false, cond, ◌&&◌, ◌||◌, List, [], ◌∷◌, ◌++◌, map, eqb, ltb, leb, length, get_or, take, drop}
use Rattle.std.specs.Prelude.{Result, Ok, Err, Option, Some, None}
use Rattle.lists.specs.Lists.{first_place}
use Rattle.table.specs.Table.{Verdict, refuse, after_row}
use Rattle.text.specs.Text.{line_feed, numeral, starts}

-- The numbers that have a sentence, ascending: 0 for acceptance, then every refusal.
-- Among the definitions a new refusal joins here alone.
abbrev pub numbers : List ℕ
numbers = 0 ∷ 1 ∷ 2 ∷ 3 ∷ 4 ∷ 5 ∷ 6 ∷ 7 ∷ 8 ∷ 9 ∷ 10 ∷ 11 ∷ 12 ∷ 20 ∷ 21 ∷ 22 ∷ 30 ∷ 31 ∷ 32 ∷ 33 ∷ []

-- The fields that have a label: nodes, source, destination, due slot, span and range.
abbrev pub fields : List ℕ
fields = 1 ∷ 2 ∷ 3 ∷ 4 ∷ 5 ∷ 6 ∷ []

-- A key with its equals sign: r and the number, or f and the field.
unfoldable pub key_of : (letter number : ℕ) → List ℕ
key_of letter number = letter ∷ (numeral number ++ (61 ∷ []))

-- The keys of a catalogue, in its order.
unfoldable pub keys : List (List ℕ)
keys = map (key_of 114) numbers ++ map (key_of 102) fields

-- The longest string.
abbrev pub longest_string : ℕ
longest_string = 96

-- None of the bytes is a line feed.
unfoldable pub no_feed : List ℕ → Bool
no_feed [] = true
no_feed (b ∷ bs) = cond (eqb b line_feed) false (no_feed bs)

-- A string: 1 to 96 bytes, none of them a line feed.
unfoldable pub is_string : List ℕ → Bool
is_string s = leb 1 (length s) && (leb (length s) longest_string && no_feed s)

-- The text of a catalogue: each key, its string, and one line feed; nothing behind them.
unfoldable pub text_of : (keys strings : List (List ℕ)) → List ℕ
text_of [] strings = []
text_of (k ∷ ks) [] = []
text_of (k ∷ ks) (s ∷ ss) = k ++ (s ++ (line_feed ∷ text_of ks ss))

-- No two labels are equal.
abbrev pub Distinct : List (List ℕ) → Type 0
Distinct labels = (i j : ℕ) → i < j → j < length labels → get_or labels i [] ≡ get_or labels j [] → ⊥

-- A catalogue: a string for each key, just their lines in this order, and no two labels are equal.
pub record IsCatalogue (text : List ℕ) : Type 0 where
  pub strings : List (List ℕ)
  pub counted : length strings ≡ length keys
  pub each : (i : ℕ) → i < length strings → is_string (get_or strings i []) ≡ true
  pub so : text ≡ text_of keys strings
  pub distinct : Distinct (drop (length numbers) strings)

-- The bytes before the first line feed, or all where there is none.
unfoldable pub first_line : List ℕ → List ℕ
first_line [] = []
first_line (b ∷ bs) = cond (eqb b line_feed) [] (b ∷ first_line bs)

-- Whether there is a line feed.
unfoldable pub is_ended : List ℕ → Bool
is_ended [] = false
is_ended (b ∷ bs) = eqb b line_feed || is_ended bs

-- The bytes behind the first line feed.
unfoldable pub behind_line : List ℕ → List ℕ
behind_line [] = []
behind_line (b ∷ bs) = cond (eqb b line_feed) bs (behind_line bs)

-- The string of the first line behind a key.
unfoldable pub string_at : (key text : List ℕ) → List ℕ
string_at key text = drop (length key) (first_line text)

-- 31 for a string of no bytes or of more than 96.
unfoldable pub string_refusal : (bytes : ℕ) → Result Unit ℕ
string_refusal bytes = cond (eqb bytes 0 || ltb longest_string bytes) (Err 31) (Ok tt)

-- What is wrong with the first line of a text that is to have this key: 30 for a line that isn't ended or has another
-- key, 31 for a string that is empty or too long.
unfoldable pub line_refusal : (key text : List ℕ) → Result Unit ℕ
line_refusal key text =
    cond (is_ended text && starts key text) (string_refusal (length (string_at key text))) (Err 30)

-- The refusal of the first bad line, with `above` lines above the text; 30 too for whatever stands behind the last.
unfoldable pub lines_verdict : (keys : List (List ℕ)) (above : ℕ) → (text : List ℕ) → Verdict
lines_verdict [] above [] = Ok tt
lines_verdict [] above (b ∷ bs) = Err (refuse 30 (suc above) 0)
lines_verdict (k ∷ ks) above text =
    after_row (line_refusal k text) (suc above) (lines_verdict ks (suc above) (behind_line text))

-- The strings of a text's lines.
unfoldable pub strings_in : (keys : List (List ℕ)) → (text : List ℕ) → List (List ℕ)
strings_in [] text = []
strings_in (k ∷ ks) text = string_at k text ∷ strings_in ks (behind_line text)

-- Two strings are equal, byte by byte.
unfoldable pub same : List ℕ → List ℕ → Bool
same [] [] = true
same [] (y ∷ ys) = false
same (x ∷ xs) [] = false
same (x ∷ xs) (y ∷ ys) = eqb x y && same xs ys

-- Whether a string equals one of a list.
unfoldable pub among : List ℕ → List (List ℕ) → Bool
among s [] = false
among s (t ∷ ts) = same s t || among s ts

-- The labels of a text.
unfoldable pub labels_in : List ℕ → List (List ℕ)
labels_in text = drop (length numbers) (strings_in keys text)

-- The first label, of the m from place k on, that repeats an earlier one, by its place; places count from 0.
unfoldable pub first_repeat : (labels : List (List ℕ)) (m k : ℕ) → Option ℕ
first_repeat labels zero k = None
first_repeat labels (suc m) k = cond (among (get_or labels k []) (take k labels)) (Some k) (first_repeat labels m (suc k))

-- 32 comes after all lines, and names the line of the first label that repeats one.
unfoldable pub after_lines : Verdict → (repeat : Option ℕ) → Verdict
after_lines (Ok _) None = Ok tt
after_lines (Ok _) (Some k) = Err (refuse 32 (length numbers + suc k) 0)
after_lines (Err r) repeat = Err r

-- The verdict on a catalogue: the first bad line decides, then equal labels.
unfoldable pub verdict_on : List ℕ → Verdict
verdict_on text = after_lines (lines_verdict keys 0 text) (first_repeat (labels_in text) (length fields) 0)

-- Whether a list has a number.
unfoldable pub is_in : ℕ → List ℕ → Bool
is_in x list = ltb (first_place x list) (length list)
