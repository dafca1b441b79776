-- What is left to write: the lines of a row from one line on, and the lines of the rows from one row on.
--     lines_next, rows_next_lem      the next of them, and those behind it
--     no_lines, no_rows          nothing is left
--     Summed, Laid               the bytes of j lines of a row are counted; they stand at their place
-- Assumes nothing.
use mathlib.Core.Path.{◌≡◌, refl, ◌∙◌, ap}
use mathlib.Core.List.{List, [], ◌++◌}
use Prim.Native.Nat.{ℕ, ◌+◌, ◌≤◌, ◌<◌}
use native.Mathlib.Omega.{arith}
use native.Mathlib.Numerals.{add-one}
use lib.ListN.{length, get_or, drop, length-append, drop_of_length-le}
use lib.Seq.{drop-cons}
use Rattle.table.specs.Table.{row_numbers}
use Rattle.table.specs.declared.Row.{Row}
use Rattle.text.specs.Text.{row_keys, line, lines_text, row_text, rows_text}
use Rattle.text.specs.Steps.{pasted, Put, Room}
use Rattle.text.proofs.Lengths.{bytes_of, row_bytes, lines_most}
use Rattle.text.proofs.Putting.{Putting, begun, fits, put_on, one_put, all_put}

pub lines_next : (keys : List (List ℕ)) (vs : List ℕ) (j : ℕ) → length vs ≡ length keys → j < length keys
    → lines_text (drop j keys) (drop j vs) ≡ line (get_or keys j []) (get_or vs j 0) ++ lines_text (drop (j + 1) keys)
    (drop (j + 1) vs)
unfolding lines_text
lines_next keys vs j e h = rw (add-one, drop-cons keys j [] h, drop-cons vs j 0 (omega arith))

pub no_lines : (keys : List (List ℕ)) (vs : List ℕ) (j : ℕ) → length keys ≤ j → lines_text (drop j keys) (drop j vs) ≡ []
unfolding lines_text
no_lines keys vs j h = rw (drop_of_length-le keys h)

lines_small : (vs : List ℕ) → length (lines_text row_keys vs) ≤ row_bytes
unfolding row_keys bytes_of
lines_small vs = lines_most row_keys vs

pub rows_next_lem : (rows : List Row) (i : ℕ) (r : Row) → i < length rows
    → rows_text (drop i rows) ≡ row_text (get_or rows i r) ++ rows_text (drop (i + 1) rows)
unfolding rows_text
rows_next_lem rows i r h = rw (add-one, drop-cons rows i r h)

pub no_rows : (rows : List Row) (i : ℕ) → length rows ≤ i → rows_text (drop i rows) ≡ []
unfolding rows_text
no_rows rows i h = rw (drop_of_length-le rows h)

-- the bytes of j lines are counted, and those of the lines that are left make the whole
pub record Summed (vs : List ℕ) (sum j : ℕ) : Type 0 where
  pub few : j ≤ length row_keys
  pub long : length vs ≡ length row_keys
  pub sums : sum + length (lines_text (drop j row_keys) (drop j vs)) ≡ length (lines_text row_keys vs)

pub none_summed : (vs : List ℕ) → length vs ≡ length row_keys → Summed vs 0 0
none_summed vs e = record { few = omega arith; long = e; sums = omega arith }

module _ {vs : List ℕ} {sum j : ℕ} (k : Summed vs sum j) where
  module _ (more : j < length row_keys) (key : List ℕ) (n : ℕ) (of : key ≡ get_or row_keys j [])
      (long : n ≡ length (line key (get_or vs j 0))) where
    next : sum + n + length (lines_text (drop (j + 1) row_keys) (drop (j + 1) vs)) ≡ length (lines_text row_keys vs)
    next =
        let piece = line (get_or row_keys j []) (get_or vs j 0) in
        let rest = lines_text (drop (j + 1) row_keys) (drop (j + 1) vs) in
        let is : n ≡ length piece = long ∙ rw of in
        omega (arith, k.sums, ap length (lines_next row_keys vs j k.long more), length-append piece rest)

    pub sum_small : sum + n ≤ row_bytes
    sum_small = omega (arith, next, lines_small vs)

    pub more_summed : Summed vs (sum + n) (j + 1)
    more_summed = record { few = omega arith; long = k.long; sums = next }

  pub all_summed : length row_keys ≤ j → sum ≡ length (lines_text row_keys vs)
  all_summed done = omega (arith, k.sums, ap length (no_lines row_keys vs j done))

-- j lines stand at their place, and the others are left
pub record Laid (area₀ : List ℕ) (at : ℕ) (vs area : List ℕ) (next j : ℕ) : Type 0 where
  pub few : j ≤ length row_keys
  pub long : length vs ≡ length row_keys
  pub putting : Putting area₀ at (lines_text row_keys vs) area next (lines_text (drop j row_keys) (drop j vs))

pub none_laid : (area₀ : List ℕ) (at : ℕ) (row : Row) (vs : List ℕ) → vs ≡ row_numbers row → Room area₀ at (row_text row)
    → Laid area₀ at vs area₀ at 0
unfolding row_text row_keys
none_laid area₀ at row vs e room =
    let whole = lines_text row_keys vs in
    record { few = omega arith; long = ap length e; putting = begun area₀ at whole whole (rw e room) refl }

module _ {area₀ : List ℕ} {at : ℕ} {vs area : List ℕ} {next j : ℕ} (k : Laid area₀ at vs area next j) where
  module _ (more : j < length row_keys) (key : List ℕ) (of : key ≡ get_or row_keys j []) where
    abbrev piece : List ℕ
    piece = line key (get_or vs j 0)

    abbrev left : List ℕ
    left = lines_text (drop (j + 1) row_keys) (drop (j + 1) vs)

    left_is : lines_text (drop j row_keys) (drop j vs) ≡ piece ++ left
    left_is = lines_next row_keys vs j k.long more ∙ rw of

    pub line_fits : Room area next piece
    line_fits = fits k.putting piece left left_is

    pub more_laid : (next' : ℕ) (area' : List ℕ) → (next' ≡ next + length piece) × (area' ≡ pasted area next piece)
        → Laid area₀ at vs area' next' (j + 1)
    more_laid next' area' p =
        record { few = omega arith; long = k.long; putting = put_on k.putting piece left left_is (one_put p) }

  pub all_laid : (row : Row) → vs ≡ row_numbers row → length row_keys ≤ j → Put area₀ at (row_text row) next area
  unfolding row_text
  all_laid row e done = rw (← e) (all_put k.putting (no_lines row_keys vs j done))
