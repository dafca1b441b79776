-- What `parse` found, written to the front of the lent rows.
use Rattle.std.proofs.Common.{◌≡◌, ℕ, ◌≤◌, List, ◌++◌, length, take, drop, ap, sym, ◌∙◌, Ok, Err, arith}
use Rattle.std.proofs.Math.Seq.{take-append_seam}
use Rattle.table.specs.declared.Row.{Row}
use Rattle.table.specs.declared.Refusal.{Refusal}
use Rattle.text.specs.declared.Header.{Header}
use Rattle.text.specs.Text.{Reading, reading_of, rows_read, TextTaken}
use Rattle.text.proofs.RoundTrip.{read_fits, rows_counted}
use Rattle.text.proofs.Promises.{none_read}

-- a refused text leaves the rows
pub refused_taken : (text : List ℕ) (rows : List Row) {r : Refusal} → reading_of text (length rows) ≡ Err r
    → {answer : Reading} → answer ≡ Err r → TextTaken text rows answer rows
refused_taken text rows e a =
    record { answers = a ∙ sym e; fills = rw (none_read text (length rows) _ (sym e)) }

-- the rows that were read, stored at the front of the lent ones, are what a reading promises of them
pub rows_stored : (text : List ℕ) (rows : List Row) {count : ℕ} {read : List Row}
    → count ≡ length (rows_read text (length rows)) → read ≡ rows_read text (length rows)
    → read ++ drop count rows ≡ rows_read text (length rows) ++ drop (length (rows_read text (length rows))) rows
rows_stored text rows c e = rw (c, e)

module _ (text : List ℕ) (lent : ℕ) {h : Header} (judged : reading_of text lent ≡ Ok h) where
  -- no more rows are read than are lent, and no more than a table may have
  pub rows_fit : (h.rows ≤ lent) × (h.rows ≤ 512)
  rows_fit =
      let counted = rows_counted text lent h judged in
      let fits = read_fits text lent h judged in
      (omega (arith, counted, fits.room), omega (arith, counted, fits.few))

  -- as many of the places as the head says hold the rows that were read
  pub rows_front : (behind : List Row) {places : List Row} → places ≡ rows_read text lent ++ behind
      → take h.rows places ≡ rows_read text lent
  rows_front behind held =
      ap (λ (l : List Row). take h.rows l) held
      ∙ ap (λ (n : ℕ). take n (rows_read text lent ++ behind)) (rows_counted text lent h judged)
      ∙ take-append_seam (rows_read text lent) behind

-- the rows that were read, at the front of the lent ones, are what reading the text comes to
pub read_taken : (text : List ℕ) (rows : List Row) {h : Header} {front : List Row} → reading_of text (length rows) ≡ Ok h
    → front ≡ rows_read text (length rows) → TextTaken text rows (Ok h) (front ++ drop h.rows rows)
read_taken text rows {h} judged held =
    record { answers = sym judged; fills = rows_stored text rows (rows_counted text (length rows) h judged) held }
