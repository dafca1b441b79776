-- The table as text, in the words of document 01: lines of key=value in a fixed order, and what is wrong with a text.
use Rattle.std.specs.Prelude.{ℕ, zero, suc, ◌+◌, ◌-◌, ◌*◌, ◌/◌, ◌%◌, ◌≤◌, ◌≡◌, Bool, true, false, cond, ◌&&◌, List, [], ◌∷◌, ◌++◌, eqb, ltb, leb, length, get_or, drop, replicate}
use Rattle.std.specs.Prelude.{Result, Ok, Err}
use Rattle.table.specs.Table.{refuse, most_rows, row_numbers, row_by}
use Rattle.table.specs.Steps.{none}
use Rattle.table.specs.declared.Row.{Row}
use Rattle.table.specs.declared.Refusal.{Refusal}
use Rattle.text.specs.declared.Header.{Header}
use Rattle.text.specs.declared.Parsed.{Parsed}

-- A line feed, and the digit 0.
abbrev pub line_feed : ℕ
line_feed = 10

abbrev pub digit_zero : ℕ
digit_zero = 48

-- The keys, each with the equals sign behind it: nodes=, rows=, src=, dst=, len=, due=.
abbrev pub nodes_key : List ℕ
nodes_key = 110 ∷ 111 ∷ 100 ∷ 101 ∷ 115 ∷ 61 ∷ []

abbrev pub rows_key : List ℕ
rows_key = 114 ∷ 111 ∷ 119 ∷ 115 ∷ 61 ∷ []

abbrev pub src_key : List ℕ
src_key = 115 ∷ 114 ∷ 99 ∷ 61 ∷ []

abbrev pub dst_key : List ℕ
dst_key = 100 ∷ 115 ∷ 116 ∷ 61 ∷ []

abbrev pub len_key : List ℕ
len_key = 108 ∷ 101 ∷ 110 ∷ 61 ∷ []

abbrev pub due_key : List ℕ
due_key = 100 ∷ 117 ∷ 101 ∷ 61 ∷ []

-- The greatest value of a line.
abbrev pub greatest_value : ℕ
greatest_value = 65535

-- How many digits a number below 100,000 has: 1 for 0 to 9, and so on.
unfoldable pub width : ℕ → ℕ
width v = cond (ltb v 10) 1 (cond (ltb v 100) 2 (cond (ltb v 1000) 3 (cond (ltb v 10000) 4 5)))

-- The last k decimal digits of a number, as bytes.
unfoldable pub last_digits : ℕ → ℕ → List ℕ
last_digits zero v = []
last_digits (suc k) v = last_digits k (v / 10) ++ ((digit_zero + v % 10) ∷ [])

-- The decimal numeral of a number: just the digits that it has, so no leading zero, and "0" for 0.
unfoldable pub numeral : ℕ → List ℕ
numeral v = last_digits (width v) v

-- A number behind a key, and one byte that marks its end.
abbrev pub item : (key : List ℕ) → ℕ → (mark : ℕ) → List ℕ
item key v mark = key ++ (numeral v ++ (mark ∷ []))

-- A line: the key with its equals sign, the numeral and one line feed.
unfoldable pub line : (key : List ℕ) → ℕ → List ℕ
line key v = item key v line_feed

-- The keys of a row's lines, in the order of the row's numbers.
unfoldable pub row_keys : List (List ℕ)
row_keys = src_key ∷ dst_key ∷ len_key ∷ due_key ∷ []

-- The lines of some keys with a value each, in order.
unfoldable pub lines_text : (keys : List (List ℕ)) (values : List ℕ) → List ℕ
lines_text [] vs = []
lines_text (k ∷ ks) [] = []
lines_text (k ∷ ks) (v ∷ vs) = line k v ++ lines_text ks vs

-- The lines of a row: src, dst, len, due.
unfoldable pub row_text : Row → List ℕ
row_text r = lines_text row_keys (row_numbers r)

-- The lines of the rows, in order.
unfoldable pub rows_text : List Row → List ℕ
rows_text [] = []
rows_text (r ∷ rs) = row_text r ++ rows_text rs

-- The text of a table: nodes, rows, then the lines of each row, and nothing behind them.
unfoldable pub text_of : (nodes : ℕ) → List Row → List ℕ
text_of n rows = line nodes_key n ++ (line rows_key (length rows) ++ rows_text rows)

-- Values of 16 bits, and rows of such values.
abbrev pub ValuesFit : List ℕ → Type 0
ValuesFit [] = Unit {0}
ValuesFit (v ∷ vs) = (v ≤ greatest_value) × ValuesFit vs

abbrev pub RowsFit : List Row → Type 0
RowsFit [] = Unit {0}
RowsFit (r ∷ rs) = ValuesFit (row_numbers r) × RowsFit rs

-- A table of 16-bit values and at most 512 rows, which a list of so many records can take.
pub record TableFits (n : ℕ) (rows : List Row) (lent : ℕ) : Type 0 where
  pub nodes_fit : n ≤ greatest_value
  pub rows_fit : RowsFit rows
  pub few : length rows ≤ most_rows
  pub room : length rows ≤ lent

-- Whether some bytes stand at the front of others.
unfoldable pub starts : (front bytes : List ℕ) → Bool
starts [] bytes = true
starts (b ∷ bs) [] = false
starts (b ∷ bs) (x ∷ xs) = eqb b x && starts bs xs

-- Whether a byte is a digit.
abbrev pub is_digit : ℕ → Bool
is_digit b = leb digit_zero b && leb b 57

-- The digits at the front of some bytes, at most k of them.
unfoldable pub digits_at : ℕ → List ℕ → List ℕ
digits_at zero bytes = []
digits_at (suc k) [] = []
digits_at (suc k) (b ∷ bs) = cond (is_digit b) (b ∷ digits_at k bs) []

-- The number that further digits make of v: each takes ten times what was there, and itself.
unfoldable pub extended : ℕ → List ℕ → ℕ
extended v [] = v
extended v (d ∷ ds) = extended (v * 10 + (d - digit_zero)) ds

-- The number that stands behind a key at the front of a text: that of its digits, of which five are enough.
unfoldable pub item_value : (key text : List ℕ) → ℕ
item_value key text = extended 0 (digits_at 5 (drop (length key) text))

-- Whether a number behind a key stands at the front, up to its mark, exactly so: it is at most 65,535, and the item of
-- that number stands there, byte by byte.
unfoldable pub item_good : (key : List ℕ) (mark : ℕ) (text : List ℕ) → Bool
item_good key mark text =
    let v = item_value key text in leb v greatest_value && starts (item key v mark) text

-- The text behind that item.
unfoldable pub item_rest : (key : List ℕ) (mark : ℕ) (text : List ℕ) → List ℕ
item_rest key mark text = drop (length (item key (item_value key text) mark)) text

-- A line is an item whose mark is a line feed: what the first line says, whether it is exactly so, and the text behind
-- it.
abbrev pub line_value : (key text : List ℕ) → ℕ
line_value key text = item_value key text

abbrev pub line_good : (key text : List ℕ) → Bool
line_good key text = item_good key line_feed text

abbrev pub line_rest : (key text : List ℕ) → List ℕ
line_rest key text = item_rest key line_feed text

-- The values that the lines of some keys say.
unfoldable pub values_at : (keys : List (List ℕ)) (text : List ℕ) → List ℕ
values_at [] text = []
values_at (k ∷ ks) text = line_value k text ∷ values_at ks (line_rest k text)

-- The text behind the lines of some keys.
unfoldable pub behind_lines : (keys : List (List ℕ)) (text : List ℕ) → List ℕ
behind_lines [] text = text
behind_lines (k ∷ ks) text = behind_lines ks (line_rest k text)

-- The first wrong line of the lines of some keys, the next of which has number l; bytes behind the last are a wrong
-- line; 0 where none is.
unfoldable pub wrong_line : (keys : List (List ℕ)) (text : List ℕ) (l : ℕ) → ℕ
wrong_line [] text l = cond (eqb (length text) 0) 0 l
wrong_line (k ∷ ks) text l = cond (line_good k text) (wrong_line ks (line_rest k text) (suc l)) l

-- The keys of the lines of n rows.
unfoldable pub rows_keys : ℕ → List (List ℕ)
rows_keys zero = []
rows_keys (suc n) = row_keys ++ rows_keys n

-- The row that the lines of a row say, and the rows that the lines of n rows say.
unfoldable pub row_at : List ℕ → Row
row_at text = row_by (λ j. get_or (values_at row_keys text) j 0)

unfoldable pub rows_at : (n : ℕ) → List ℕ → List Row
rows_at zero text = []
rows_at (suc n) text = row_at text ∷ rows_at n (behind_lines row_keys text)

-- The number of nodes, the number of rows, and the text of the rows: what lines 1 and 2 say, and what is behind them.
unfoldable pub nodes_in : List ℕ → ℕ
nodes_in text = line_value nodes_key text

unfoldable pub rows_in : List ℕ → ℕ
rows_in text = line_value rows_key (line_rest nodes_key text)

unfoldable pub body_of : List ℕ → List ℕ
body_of text = line_rest rows_key (line_rest nodes_key text)

-- What reading a text comes to: the table's head, or a refusal.
abbrev pub Reading : Type 0
Reading = Result Header Refusal

-- What the lines from 3 on come to: 20 with the number of the first wrong line, or the table's head.
unfoldable pub reading_of_rows : (nodes rows : ℕ) → List ℕ → Reading
reading_of_rows n k body =
    let wrong = wrong_line (rows_keys k) body 3 in
    cond (eqb wrong 0) (Ok (record { nodes = n; rows = k })) (Err (refuse 20 wrong 0))

-- Directly after line 2: 2 for more than 512 rows, then 21 if the lent list is too short, then the lines of the rows.
unfoldable pub reading_of_body : (nodes rows lent : ℕ) → List ℕ → Reading
reading_of_body n k lent body =
    let rest = reading_of_rows n k body in
    cond (ltb most_rows k) (Err (refuse 2 0 0)) (cond (ltb lent k) (Err (refuse 21 0 0)) rest)

-- What reading a text comes to, where so many records are lent: lines 1 and 2 first, each 20 where it is wrong.
unfoldable pub reading_of : (text : List ℕ) (lent : ℕ) → Reading
reading_of text lent =
    let rest = reading_of_body (nodes_in text) (rows_in text) lent (body_of text) in
    let second = cond (line_good rows_key (line_rest nodes_key text)) rest (Err (refuse 20 2 0)) in
    cond (line_good nodes_key text) second (Err (refuse 20 1 0))

-- The number of records that a reading fills: those of the table where it is read, and none where it is refused.
abbrev pub filled : Reading → ℕ
filled (Ok h) = h.rows
filled (Err r) = 0

-- The rows that a reading of a text gives.
unfoldable pub rows_read : (text : List ℕ) (lent : ℕ) → List Row
rows_read text lent = rows_at (filled (reading_of text lent)) (body_of text)

-- What writing a table comes to: the length of its text, or a refusal.
abbrev pub Writing : Type 0
Writing = Result ℕ Refusal

-- What writing a table into an area of so many bytes comes to: 2 for more than 512 rows, then 22 if the area is too
-- short, and else the length.
unfoldable pub writing_of : (nodes : ℕ) (rows : List Row) (room : ℕ) → Writing
writing_of n rows room =
    cond (ltb most_rows (length rows)) (Err (refuse 2 0 0))
    (cond (ltb room (length (text_of n rows))) (Err (refuse 22 0 0)) (Ok (length (text_of n rows))))

-- The area after writing: the text and what stood behind it, and as it was where it is refused.
unfoldable pub area_after : (nodes : ℕ) (rows : List Row) (area : List ℕ) → List ℕ
area_after n rows area =
    cond (ltb most_rows (length rows)) area
    (cond (ltb (length area) (length (text_of n rows))) area (text_of n rows ++ drop (length (text_of n rows)) area))

-- The number of document 01 for what writing comes to, 0 where there is no refusal.
abbrev pub number_of_writing : Writing → ℕ
number_of_writing (Ok n) = 0
number_of_writing (Err r) = r.number

-- A text was read, where so many records are lent: its head, and its rows in the front of 512 places with zeros behind
-- them; or why it is refused.
abbrev pub TextParsed : (text : List ℕ) (lent : ℕ) → Result Parsed Refusal → Type 0
TextParsed text lent (Ok p) =
    (reading_of text lent ≡ Ok p.head)
    × (p.rows ≡ rows_read text lent ++ drop (length (rows_read text lent)) (replicate most_rows none))
TextParsed text lent (Err r) = reading_of text lent ≡ Err r

-- What `read` promises, where those rows are lent: the answer is the reading, the rows that it gives fill the front of
-- the list, and the rest is as it was. A refused reading gives no rows.
pub record TextTaken (text : List ℕ) (rows : List Row) (answer : Reading) (rows' : List Row) : Type 0 where
  pub answers : answer ≡ reading_of text (length rows)
  pub fills : rows' ≡ rows_read text (length rows) ++ drop (length (rows_read text (length rows))) rows

-- What `write` promises, where that area is lent: the answer is the writing, and the area is what it leaves.
pub record TextPut (nodes : ℕ) (rows : List Row) (area : List ℕ) (answer : Writing) (area' : List ℕ) : Type 0 where
  pub answers : answer ≡ writing_of nodes rows (length area)
  pub fills : area' ≡ area_after nodes rows area
