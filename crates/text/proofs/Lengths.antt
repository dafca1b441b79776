-- The lengths of lines: a line takes its key and six bytes at most.
--     item_most, line_most                an item or a line
--     bytes_of, lines_most                 the lines of some keys
--     row_bytes, row_most, rows_long      the lines of a row, and of rows
-- Assumes nothing.
use mathlib.Core.List.{List, [], ◌∷◌}
use Prim.Native.Nat.{ℕ, ◌+◌, ◌*◌, ◌≤◌}
use native.Mathlib.Omega.{arith}
use lib.ListN.{length, length-append}
use Rattle.table.specs.declared.Row.{Row}
use Rattle.table.specs.Table.{row_numbers}
use Rattle.text.specs.Text.{row_keys, item, line, lines_text, row_text, rows_text}
use Rattle.text.proofs.Numeral.{width_most}
use Rattle.text.proofs.Lines.{item-length, line-length}

pub item_most : (key : List ℕ) (v mark : ℕ) → length (item key v mark) ≤ length key + 6
item_most key v mark = omega (arith, item-length key v mark, width_most v)

pub line_most : (key : List ℕ) (v : ℕ) → length (line key v) ≤ length key + 6
line_most key v = omega (arith, line-length key v, width_most v)

-- the bytes that are enough for the lines of some keys
unfoldable pub bytes_of : List (List ℕ) → ℕ
bytes_of [] = 0
bytes_of (k ∷ ks) = length k + 6 + bytes_of ks

pub lines_most : (keys : List (List ℕ)) (vs : List ℕ) → length (lines_text keys vs) ≤ bytes_of keys
unfolding lines_text bytes_of
lines_most [] vs = omega arith
lines_most (k ∷ ks) [] = omega arith
lines_most (k ∷ ks) (v ∷ vs) =
    omega (arith, length-append (line k v) (lines_text ks vs), line_most k v, lines_most ks vs)

-- the bytes that are enough for the lines of a row
abbrev pub row_bytes : ℕ
row_bytes = 40

pub row_most : (r : Row) → length (row_text r) ≤ row_bytes
unfolding row_text bytes_of row_keys
row_most r = lines_most row_keys (row_numbers r)

pub rows_long : (rows : List Row) → length (rows_text rows) ≤ row_bytes * length rows
unfolding rows_text
rows_long [] = omega arith
rows_long (r ∷ rs) = omega (arith, length-append (row_text r) (rows_text rs), row_most r, rows_long rs)
