-- What each answer of `row_at` says.
--     row_broken      some line of the row is wrong, and which
--     Passed, row_whole      all its lines are right, with the row that they say and their length
-- Assumes nothing.
use mathlib.Core.Path.{◌≡◌, refl, ◌∙◌, ap}
use mathlib.Core.Bool.{Bool, true, false}
use mathlib.Core.List.{List, ◌++◌}
use Prim.Native.Nat.{ℕ, ◌+◌, ◌≤◌, ◌<◌}
use native.Mathlib.Omega.{arith}
use borrow.Author.Tests.{ltb-true, ltb-false}
use lib.Dec.{ltb}
use lib.ListN.{length, drop, length-append}
use lib.Seq.{drop-append_seam}
use Rattle.text.specs.Text.{row_keys, row_text, behind_lines, row_at}
use Rattle.text.proofs.RowLaws.{Right, row_stands}
use Rattle.lines.specs.declared.RowSeen.{RowSeen}
use Rattle.std.proofs.Common.{Result, Ok, Err}
use Rattle.lines.specs.Items.{right_lines, row_seen}
use Rattle.lines.proofs.Rows.{right_all}

-- what the lines of a row came to
pub record Passed (text : List ℕ) (seen : RowSeen) : Type 0 where
  pub right : Right row_keys text
  pub row : seen.row ≡ row_at text
  pub inside : seen.length ≤ length text
  pub rest : drop seen.length text ≡ behind_lines row_keys text

module _ (text : List ℕ) (s : Result RowSeen ℕ) (so : s ≡ row_seen text) where
  abbrev right : ℕ
  right = right_lines row_keys text

  abbrev whole : RowSeen
  whole = record { row = row_at text; length = length (row_text (row_at text)) }

  broken_is : ltb right (length row_keys) ≡ true → s ≡ Err right
  unfolding row_seen
  broken_is e = so ∙ rw e

  whole_is : ltb right (length row_keys) ≡ false → s ≡ Ok whole
  unfolding row_seen
  whole_is e = so ∙ rw e

  pub row_broken : (k : ℕ) → s ≡ Err k → (k < length row_keys) × (right ≡ k)
  row_broken k b = go (ltb right (length row_keys)) refl
    where
      go : (x : Bool) → ltb right (length row_keys) ≡ x → (k < length row_keys) × (right ≡ k)
      go true e =
          let it = broken_is e in
          let is : right ≡ k = cc in
          (omega (arith, ltb-true right (length row_keys) e), is)
      go false e = let not = whole_is e in absurd cc

  pub row_whole : (r : RowSeen) → s ≡ Ok r → Passed text r
  row_whole r w = go (ltb right (length row_keys)) refl
    where
      go : (x : Bool) → ltb right (length row_keys) ≡ x → Passed text r
      go true e = let not = broken_is e in absurd cc
      go false e =
          let it = whole_is e in
          let same : r ≡ whole = cc in
          let all = right_all row_keys text (ltb-false right (length row_keys) e) in
          let here = row_text (row_at text) in
          let rest = behind_lines row_keys text in
          let stands : text ≡ here ++ rest = row_stands text all in
          let long : length text ≡ length here + length rest = ap length stands ∙ length-append here rest in
          record {
            right = all;
            row = rw same;
            inside = omega (arith, ap (λ (x : RowSeen). x.length) same);
            rest = rw same (ap (drop (length here)) stands ∙ drop-append_seam here rest);
          }
