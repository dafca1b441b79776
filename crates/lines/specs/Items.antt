-- What stands at the front of a text: digits, a number behind a key up to its mark, a line, and the lines of a row.
use Rattle.std.specs.Prelude.{ℕ, suc, cond, Option, Some, None, Result, Ok, Err, List, [], ◌∷◌, ltb, length}
use Rattle.text.specs.Text.{line_feed, item, row_keys, row_text, digits_at, extended, item_value, item_good, line_good}
use Rattle.text.specs.Text.{line_rest, row_at}
use Rattle.lines.specs.declared.Figures.{Figures}
use Rattle.lines.specs.declared.Item.{Item}
use Rattle.lines.specs.declared.RowSeen.{RowSeen}

-- The digits at the front of some bytes, five at most: the number that they say, and how many they are.
unfoldable pub figures_in : List ℕ → Figures
figures_in bytes = record { value = extended 0 (digits_at 5 bytes); count = length (digits_at 5 bytes) }

-- A number behind a key and up to a mark at the front of a text, with the length from the key up to and with the mark,
-- or that none stands there.
unfoldable pub item_seen : (key : List ℕ) (mark : ℕ) (text : List ℕ) → Option Item
item_seen key mark text =
    let v = item_value key text in
    cond (item_good key mark text) (Some (record { value = v; length = length (item key v mark) })) None

-- The same of a line, whose mark is a line feed.
abbrev pub line_seen : (key text : List ℕ) → Option Item
line_seen key text = item_seen key line_feed text

-- How many lines of some keys are right before the first that is wrong.
unfoldable pub right_lines : (keys : List (List ℕ)) (text : List ℕ) → ℕ
right_lines [] text = 0
right_lines (k ∷ ks) text = cond (line_good k text) (suc (right_lines ks (line_rest k text))) 0

-- What the lines of a row at the front of a text come to: how many are right before a wrong one, or the row and the
-- length of its lines.
unfoldable pub row_seen : (text : List ℕ) → Result RowSeen ℕ
row_seen text =
    let right = right_lines row_keys text in
    cond (ltb right (length row_keys)) (Err right) (Ok (record { row = row_at text; length = length (row_text (row_at text)) }))
