-- What the reader of the rows says.
use Rattle.std.specs.Prelude.{ℕ, ◌≡◌, ◌≤◌, List, ◌++◌, Result, Ok, Err, drop}
use Rattle.table.specs.declared.Row.{Row}
use Rattle.text.specs.Text.{wrong_line, rows_keys, rows_at}

-- The lines of n rows were read: no line is wrong, and the rows stand in the first n places, or this is the first wrong
-- line.
abbrev pub RowsRead : (n : ℕ) (text : List ℕ) (rows rows' : List Row) → Result Unit ℕ → Type 0
RowsRead n text rows rows' (Ok _) = (wrong_line (rows_keys n) text 3 ≡ 0) × (rows' ≡ rows_at n text ++ drop n rows)
RowsRead n text rows rows' (Err line) = (line ≡ wrong_line (rows_keys n) text 3) × (1 ≤ line)
