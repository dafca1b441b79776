-- One send line: its key, and then entry by entry.
-- Assumes nothing.
use mathlib.Core.Path.{◌≡◌, refl}
use mathlib.Core.Bool.{cond}
use mathlib.Core.List.{List, [], ◌++◌}
use Prim.Native.Nat.{ℕ, ◌+◌, ◌<◌}
use lib.Dec.{ltb}
use lib.ListN.{length, get_or, drop}
use Rattle.text.specs.Text.{line_feed, item}
use Rattle.text.specs.Steps.{pasted}
use Rattle.report.specs.Report.{send_key, comma, parted, send_line}
use Rattle.text.specs.Steps.{Room}
use Rattle.text.proofs.Putting.{Putting, begun, fits, put_on, one_put}
use Rattle.report.proofs.Lines.{next_entry}

module _ (area : List ℕ) (from : ℕ) (xs : List ℕ) (room : Room area from (send_line xs)) where
  start : Putting area from (send_line xs) area from (send_key ++ parted xs)
  unfolding send_line
  start = begun area from (send_line xs) (send_key ++ parted xs) room refl

  pub key_fits : Room area from send_key
  key_fits = fits start send_key (parted xs) refl

  pub key_put : {at : ℕ} {area' : List ℕ} → (at ≡ from + length send_key) × (area' ≡ pasted area from send_key)
      → Putting area from (send_line xs) area' at (parted xs)
  key_put p = put_on start send_key (parted xs) refl (one_put p)

module _ {area₁ : List ℕ} {at₁ : ℕ} {whole area : List ℕ} {at : ℕ} (xs : List ℕ) (i : ℕ)
    (k : Putting area₁ at₁ whole area at (parted (drop i xs))) (h : i < length xs) {mark : ℕ}
    (m : mark ≡ cond (ltb (i + 1) (length xs)) comma line_feed) where
  abbrev entry : List ℕ
  entry = item [] (get_or xs i 0) mark

  pub entry_fits : Room area at entry
  entry_fits = fits k entry (parted (drop (i + 1) xs)) (next_entry xs (length xs) refl i mark m h)

  pub entry_put : {next : ℕ} {area' : List ℕ} → (next ≡ at + length entry) × (area' ≡ pasted area at entry)
      → Putting area₁ at₁ whole area' next (parted (drop (i + 1) xs))
  entry_put p = put_on k entry (parted (drop (i + 1) xs)) (next_entry xs (length xs) refl i mark m h) (one_put p)
