-- From what was read and written to the report.
--     one_report       two outcomes that fit the promise are equal
--     count_fits       the count lies within the area
--     output_fits      no output is longer than the area that is lent for it
-- Assumes nothing.
use mathlib.Core.Path.{◌≡◌, ◌∙◌, ap, sym}
use mathlib.Core.List.{List}
use Prim.Native.Nat.{ℕ, ◌+◌, ◌≤◌}
use native.Mathlib.Omega.{arith}
use lib.ListN.{length, drop, length-append}
use Rattle.table.specs.declared.Row.{Row}
use Rattle.table.specs.declared.Refusal.{Refusal}
use Rattle.text.specs.declared.Header.{Header}
use Rattle.std.proofs.Common.{Ok, Err}
use Rattle.text.specs.Text.{Reading, reading_of, rows_read}
use Rattle.text.specs.Steps.{pasted}
use Rattle.report.specs.Report.{verdict_lines, table_text, reading_text, output_of, Reported}
use Rattle.text.specs.Steps.{Put}
use Rattle.report.proofs.Sizes.{verdict_most}
use Rattle.report.proofs.Accepting.{table_most}

-- Two outcomes that fit the promise are equal: the count, and every byte of the lent area.
pub one_report : {text area : List ℕ} {n₁ n₂ : ℕ} {area₁ area₂ : List ℕ} → Reported text area n₁ area₁
    → Reported text area n₂ area₂ → (n₁ ≡ n₂) × (area₁ ≡ area₂)
one_report a b = (a.counts ∙ sym b.counts, a.fills ∙ sym b.fills)

-- The count lies within the area, as a caller needs that lends the output on.
pub count_fits : {text area : List ℕ} {n : ℕ} {area' : List ℕ} → Reported text area n area' → n ≤ length area'
count_fits {text} {area} k =
    omega (arith, k.counts, ap length k.fills, length-append (output_of text) (drop (length (output_of text)) area))

-- No output is longer than the area that is lent for it.
pub output_fits : (text : List ℕ) → length (output_of text) ≤ 212992
unfolding output_of reading_text
output_fits text = go (reading_of text 512)
  where
    go : (r : Reading) → length (reading_text r (rows_read text 512)) ≤ 212992
    go (Ok h) = table_most h.nodes (rows_read text 512)
    go (Err r) = omega (arith, verdict_most r)

module _ (text : List ℕ) {area : List ℕ} {next : ℕ} {area' : List ℕ} where
  reported : (bytes : List ℕ) → output_of text ≡ bytes → Put area 0 bytes next area' → Reported text area next area'
  unfolding pasted
  reported bytes e p =
      let none : 0 + length bytes ≡ length bytes = omega arith in
      record { counts = p.place ∙ rw (none, e); fills = p.so ∙ rw (none, e) }

  pub not_read : {r : Refusal} → reading_of text 512 ≡ Err r → Put area 0 (verdict_lines r) next area'
      → Reported text area next area'
  unfolding output_of reading_text
  not_read {r} e p = reported (verdict_lines r) (rw e) p

  pub read : {h : Header} {rows : List Row} → (reading_of text 512 ≡ Ok h) × (rows ≡ rows_read text 512)
      → Put area 0 (table_text h.nodes rows) next area' → Reported text area next area'
  unfolding output_of reading_text
  read {h} {rows} e p = reported (table_text h.nodes rows) (rw (e.0, e.1)) p
