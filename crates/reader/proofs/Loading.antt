-- The rows read one after the other, as `read_rows` reads them.
--     Loaded                       i rows are read, and the rest's answer is the whole answer
--     none_loaded, more_loaded, stopped_at, left_over, all_loaded   its laws
-- Assumes nothing.
use mathlib.Core.Path.{◌≡◌, refl, ◌∙◌, ap, sym}
use mathlib.Core.List.{List, [], ◌∷◌, ◌++◌, append_assoc}
use Prim.Native.Nat.{ℕ, zero, suc, ◌+◌, ◌-◌, ◌*◌, ◌≤◌, ◌<◌}
use native.Mathlib.Numerals.{add-one}
use native.Mathlib.Omega.{arith}
use borrow.Author.Tests.{ne_eqb}
use lib.ListN.{length, get_or, set, drop}
use lib.Seq.{drop-cons, set-append_seam}
use Rattle.table.specs.declared.Row.{Row}
use Rattle.table.specs.Steps.{none}
use Rattle.text.specs.Text.{row_keys, behind_lines, wrong_line, rows_keys, row_at, rows_at}
use Rattle.lines.specs.declared.RowSeen.{RowSeen}
use Rattle.text.proofs.RowLaws.{right_on}
use Rattle.lines.specs.Items.{right_lines}
use Rattle.lines.proofs.Rows.{row_lines, broken_on}
use Rattle.lines.proofs.Passed.{Passed}

-- the text behind i rows
pub past_rows : ℕ → List ℕ → List ℕ
past_rows zero text = text
past_rows (suc i) text = past_rows i (behind_lines row_keys text)

past_rows_more : (i : ℕ) (text : List ℕ) → past_rows (suc i) text ≡ behind_lines row_keys (past_rows i text)
unfolding past_rows
past_rows_more zero text = refl
past_rows_more (suc i) text = past_rows_more i (behind_lines row_keys text)

pub rows_at_length : (n : ℕ) (text : List ℕ) → length (rows_at n text) ≡ n
unfolding rows_at
rows_at_length zero text = refl
rows_at_length (suc n) text = ap suc (rows_at_length n (behind_lines row_keys text))

rows_at_suc : (n : ℕ) (text : List ℕ) → rows_at (suc n) text ≡ rows_at n text ++ (row_at (past_rows n text) ∷ [])
unfolding rows_at past_rows
rows_at_suc zero text = refl
rows_at_suc (suc n) text = ap {B = List Row} (λ l. row_at text ∷ l) (rows_at_suc n (behind_lines row_keys text))

-- i rows are read, and what is left decides as the whole did
pub record Loaded (text : List ℕ) (rows : ℕ) (before places : List Row) (rest : List ℕ) (line i : ℕ) : Type 0 where
  pub some : 1 ≤ line
  pub counted : line ≤ 3 + 16 * i
  pub left : rest ≡ past_rows i text
  pub judged : wrong_line (rows_keys rows) text 3 ≡ wrong_line (rows_keys (rows - i)) rest line
  pub held : places ≡ rows_at i text ++ drop i before

pub none_loaded : (text : List ℕ) (rows : ℕ) (before : List Row) → Loaded text rows before before text 3 0
unfolding past_rows rows_at
none_loaded text rows before =
    let all : rows - 0 ≡ rows = omega arith in
    record { some = omega arith; counted = omega arith; left = refl; judged = rw all; held = refl }

module _ {text : List ℕ} {rows : ℕ} {before places : List Row} {rest : List ℕ} {line i : ℕ}
    (k : Loaded text rows before places rest line i) where
  module _ (more : i < rows) where
    abbrev keys_behind : List (List ℕ)
    keys_behind = rows_keys (rows - (i + 1))

    keys_left : rows_keys (rows - i) ≡ row_keys ++ keys_behind
    unfolding rows_keys
    keys_left = let left : rows - i ≡ suc (rows - (i + 1)) = omega arith in rw left

    -- The row that is read next goes to the first place that is left.
    stored : (row : Row) → i < length before → set places i row ≡ (rows_at i text ++ row ∷ []) ++ drop (i + 1) before
    stored row h =
        let first : places ≡ rows_at i text ++ get_or before i none ∷ drop (suc i) before =
        k.held ∙ ap (λ (l : List Row). rows_at i text ++ l) (drop-cons before i none h) in
        let here : set places (length (rows_at i text)) row ≡ rows_at i text ++ row ∷ drop (suc i) before =
        ap (λ (l : List Row). set l (length (rows_at i text)) row) first
        ∙ set-append_seam (rows_at i text) (get_or before i none) (drop (suc i) before) row in
        ap (λ (n : ℕ). set places n row) (sym (rows_at_length i text)) ∙ here
        ∙ rw (add-one, append_assoc) refl

    pub more_loaded : (seen : RowSeen) → Passed rest seen → i < length before
        → Loaded text rows before (set places i seen.row) (drop seen.length rest) (line + length row_keys) (i + 1)
    more_loaded seen p h =
        record {
          some = omega (arith, k.some);
          counted = omega (arith, k.counted, row_lines.1);
          left =
              p.rest ∙ ap (behind_lines row_keys) k.left ∙ sym (past_rows_more i text) ∙ rw (← add-one i);
          judged =
              k.judged ∙ rw keys_left (right_on row_keys keys_behind rest line p.right ∙ rw p.rest);
          held = stored seen.row h ∙ rw (add-one, rows_at_suc i text, ← k.left, p.row);
        }

    pub stopped_at : (p : ℕ) → (p < length row_keys) × (right_lines row_keys rest ≡ p)
        → (line + p ≡ wrong_line (rows_keys rows) text 3) × (1 ≤ line + p)
    stopped_at p b =
        let stop = broken_on row_keys keys_behind rest line (omega (arith, b.0, b.1))
        ∙ ap (λ (n : ℕ). line + n) b.1 in
        (sym (k.judged ∙ rw keys_left stop), omega (arith, k.some))

  module _ (done : i ≡ rows) where
    none_left : rows - i ≡ 0
    none_left = omega arith

    pub left_over : (length rest ≡ 0 → ⊥) → (line ≡ wrong_line (rows_keys rows) text 3) × (1 ≤ line)
    unfolding rows_keys wrong_line
    left_over h =
        (sym (k.judged ∙ rw (none_left, ne_eqb (length rest) 0 h)), k.some)

    pub all_loaded : length rest ≡ 0
        → (wrong_line (rows_keys rows) text 3 ≡ 0) × (places ≡ rows_at rows text ++ drop rows before)
    unfolding rows_keys wrong_line
    all_loaded h = (k.judged ∙ rw (none_left, h), k.held ∙ rw done)
