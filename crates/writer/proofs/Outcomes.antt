-- What writing comes to, for each way through `write`.
use Rattle.std.proofs.Common.{◌≡◌, ℕ, ◌+◌, ◌≤◌, ◌<◌, List, ◌++◌, length, drop, ◌∙◌, Ok, Err, length-append, arith}
use borrow.Author.Tests.{lt-ltb, le-ltb}
use Rattle.table.specs.Table.{refuse}
use Rattle.table.specs.declared.Row.{Row}
use Rattle.table.specs.declared.Refusal.{Refusal}
use Rattle.text.specs.Text.{nodes_key, rows_key, line, rows_text, text_of, writing_of, area_after, TextPut}
use Rattle.text.specs.Steps.{pasted}
use Rattle.text.proofs.Lengths.{line_most, rows_long}

module _ (n : ℕ) (rows : List Row) (area : List ℕ) where
  pub many_rows : 512 < length rows → {r : Refusal} → r ≡ refuse 2 0 0 → TextPut n rows area (Err r) area
  unfolding writing_of area_after
  many_rows h e = rw e (record { answers = rw (lt-ltb 512 (length rows) h); fills = rw (lt-ltb 512 (length rows) h) })

  pub text_length : length (text_of n rows) ≡ length (line nodes_key n) + length (line rows_key (length rows)) + length
      (rows_text rows)
  unfolding text_of
  text_length = simp length-append (omega arith)

  whole : pasted area 0 (text_of n rows) ≡ text_of n rows ++ drop (length (text_of n rows)) area
  unfolding pasted
  whole = let none : 0 + length (text_of n rows) ≡ length (text_of n rows) = omega arith in rw none

  pub text_most : length rows ≤ 512
      → length (line nodes_key n) + length (line rows_key (length rows)) + length (rows_text rows) ≤ 20503
  text_most h = omega (arith, line_most nodes_key n, line_most rows_key (length rows), rows_long rows)

  module _ (few : length rows ≤ 512) where
    pub no_room : length area < length (text_of n rows) → {r : Refusal} → r ≡ refuse 22 0 0
        → TextPut n rows area (Err r) area
    unfolding writing_of area_after
    no_room h e =
        let long = lt-ltb (length area) (length (text_of n rows)) h in
        rw e (record { answers = rw (le-ltb 512 (length rows) few, long); fills = rw (le-ltb 512 (length rows) few, long) })

    pub room : length (text_of n rows) ≤ length area → {area' : List ℕ}
        → area' ≡ pasted area 0 (line nodes_key n ++ (line rows_key (length rows) ++ rows_text rows))
        → TextPut n rows area (Ok (length (text_of n rows))) area'
    unfolding writing_of area_after text_of
    room h e =
        let long = le-ltb (length area) (length (text_of n rows)) h in
        record {
          answers = rw (le-ltb 512 (length rows) few, long);
          fills = e ∙ whole ∙ rw (le-ltb 512 (length rows) few, long);
        }
