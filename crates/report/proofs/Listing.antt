-- The list of arrive lines and the list of send lines, one more line at a time.
-- Assumes nothing.
use Rattle.std.proofs.Common.{◌≡◌, ℕ, zero, suc, ◌+◌, ◌-◌, ◌*◌, ◌/◌, ◌≤◌, ◌<◌, List, ◌++◌, length, get_or, drop, Option, Some, None, Bor}
use Rattle.std.proofs.Common.{refl, sym, ◌∙◌, ap, length-append, arith}
use Rattle.std.specs.Slice.Iter.{chunks_size, chunks_rest, chunks_steps}
use Rattle.std.specs.declared.slice.Chunks.{Chunks}
use native.Mathlib.Nat.{mul-suc}
use Rattle.text.specs.Text.{line}
use Rattle.text.specs.Steps.{pasted, Put, Room}
use Rattle.text.proofs.Putting.{Putting, begun, fits, put_on, one_put, all_put}
use Rattle.report.specs.Report.{arrive_key, arrive_lines, send_line, send_lines}
use Rattle.report.specs.Steps.{Slotted}
use Rattle.report.proofs.Lines.{next_arrive, next_send, no_send}

module _ {area₀ : List ℕ} {from : ℕ} {whole area : List ℕ} {at : ℕ} (xs : List ℕ) (i : ℕ)
    (k : Putting area₀ from whole area at (arrive_lines (drop i xs))) (h : i < length xs) where
  abbrev arrive : List ℕ
  arrive = line arrive_key (get_or xs i 0)

  pub arrive_fits : Room area at arrive
  arrive_fits = fits k arrive (arrive_lines (drop (i + 1) xs)) (next_arrive xs i h)

  pub arrive_put : {next : ℕ} {area' : List ℕ} → (next ≡ at + length arrive) × (area' ≡ pasted area at arrive)
      → Putting area₀ from whole area' next (arrive_lines (drop (i + 1) xs))
  arrive_put p = put_on k arrive (arrive_lines (drop (i + 1) xs)) (next_arrive xs i h) (one_put p)

-- the slots that are left to send, as their entries are left to a walk over the plan's chunks
pub record Unsent (n : ℕ) (area₀ : List ℕ) (from : ℕ) (whole area : List ℕ) (at : ℕ) (walk : Chunks ℕ) : Type 0 where
  pub slots : ℕ
  pub size : chunks_size walk ≡ n
  pub long : length (chunks_rest walk) ≡ n * slots
  pub putting : Putting area₀ from whole area at (send_lines n slots (chunks_rest walk))

pub none_sent : {n : ℕ} {plan : List ℕ} (area : List ℕ) (from : ℕ) {walk : Chunks ℕ} → Slotted n plan
    → Room area from (send_lines n (length plan / n) plan) → chunks_rest walk ≡ plan → chunks_size walk ≡ n
    → Unsent n area from (send_lines n (length plan / n) plan) area from walk
none_sent {n} {plan} area from k room rest size =
    record {
      slots = length plan / n;
      size = size;
      long = ap length rest ∙ k.whole;
      putting = begun area from _ _ room (rw rest);
    }

some_factor : (n m : ℕ) → 0 < n * m → m ≡ suc (m - 1)
some_factor n zero h = absurd (omega arith)
some_factor n (suc m) h = omega arith

no_factor : (n m : ℕ) → 1 ≤ n → n * m ≡ 0 → m ≡ 0
no_factor n zero some e = refl
no_factor n (suc m) some e = absurd (omega (arith, mul-suc n m))

module _ {n : ℕ} {area₀ : List ℕ} {from : ℕ} {whole area : List ℕ} {at : ℕ} {walk : Chunks ℕ}
    (k : Unsent n area₀ from whole area at walk) {given : Option (Bor (List ℕ))} (walk' : Chunks ℕ)
    (step : chunks_steps walk given walk') where
  module _ {entries : Bor (List ℕ)} (is : given ≡ Some entries) where
    taken : chunks_steps walk (Some entries) walk'
    taken = rw is at step

    one_less : k.slots ≡ suc (k.slots - 1)
    one_less = some_factor n k.slots (omega (arith, taken.1.2, k.long))

    longer : length (chunks_rest walk) ≡ n * (k.slots - 1) + n
    longer = k.long ∙ ap (λ (m : ℕ). n * m) one_less ∙ mul-suc n (k.slots - 1)

    entries_long : length entries.now ≡ n
    entries_long = omega (arith, taken.1.1, k.size, longer)

    split : send_lines n k.slots (chunks_rest walk) ≡ send_line entries.now ++ send_lines n (k.slots - 1) (chunks_rest walk')
    split =
        ap (λ (m : ℕ). send_lines n m (chunks_rest walk)) one_less
        ∙ ap (send_lines n (suc (k.slots - 1))) taken.1.0
        ∙ next_send n (k.slots - 1) entries.now (chunks_rest walk') entries_long

    pub send_fits : Room area at (send_line entries.now)
    send_fits = fits k.putting (send_line entries.now) (send_lines n (k.slots - 1) (chunks_rest walk')) split

    pub send_put : {next : ℕ} {area' : List ℕ} → Put area at (send_line entries.now) next area'
        → Unsent n area₀ from whole area' next walk'
    send_put p =
        record {
          slots = k.slots - 1;
          size = taken.0 ∙ k.size;
          long = omega (arith, longer, ap length taken.1.0, length-append entries.now (chunks_rest walk'), entries_long);
          putting = put_on k.putting (send_line entries.now) (send_lines n (k.slots - 1) (chunks_rest walk')) split p;
        }

  pub all_sent : 1 ≤ n → given ≡ None → Put area₀ from whole at area
  all_sent some is =
      let over : chunks_steps walk None walk' = rw is at step in
      let none : k.slots ≡ 0 = no_factor n k.slots some (sym k.long ∙ over.1.0) in
      all_put k.putting (ap (λ (m : ℕ). send_lines n m (chunks_rest walk)) none ∙ no_send n (chunks_rest walk))
