-- How long an output can be.
--     verdict_most, arrives_most, sends_most    each kind of lines
--     accepted_most                             what is printed for an accepted table
-- Assumes nothing.
use mathlib.Core.List.{List, [], ◌∷◌}
use Prim.Native.Nat.{ℕ, zero, suc, ◌*◌, ◌≤◌}
use native.Mathlib.Omega.{arith}
use lib.ListN.{length, take, drop, length-append, length-take}
use Rattle.table.specs.declared.Refusal.{Refusal}
use Rattle.table.specs.Table.{refuse}
use Rattle.text.proofs.Numeral.{numeral-length, width_most}
use Rattle.text.proofs.Lengths.{line_most}
use Rattle.report.specs.Report.{answer_key, row_key, slot_key, last_key, arrive_key, verdict_lines, arrive_lines}
use Rattle.report.specs.Report.{parted, send_line, send_lines, accepted_text}

pub verdict_most : (r : Refusal) → length (verdict_lines r) ≤ 34
unfolding verdict_lines
verdict_most r =
    simp length-append (omega (
      arith,
      line_most answer_key r.number,
      line_most row_key r.row,
      line_most slot_key r.slot.0,
    ))

pub arrives_most : (xs : List ℕ) → length (arrive_lines xs) ≤ 13 * length xs
unfolding arrive_lines
arrives_most [] = omega arith
arrives_most (x ∷ xs) = simp length-append (omega (arith, line_most arrive_key x, arrives_most xs))

parted_most : (xs : List ℕ) → length (parted xs) ≤ 6 * length xs
unfolding parted
parted_most [] = omega arith
parted_most (x ∷ xs) = simp length-append (omega (arith, numeral-length x, width_most x, parted_most xs))

send_most : (n : ℕ) → n ≤ 32 → (plan : List ℕ) → length (send_line (take n plan)) ≤ 197
unfolding send_line
send_most n h plan = simp length-append (omega (arith, parted_most (take n plan), length-take n plan))

pub sends_most : (n slots : ℕ) → n ≤ 32 → (plan : List ℕ) → length (send_lines n slots plan) ≤ 197 * slots
unfolding send_lines
sends_most n zero h plan = omega arith
sends_most n (suc slots) h plan =
    simp length-append (omega (arith, send_most n h plan, sends_most n slots h (drop n plan)))

pub accepted_most : (last : ℕ) (arrivals : List ℕ) (n slots : ℕ) (plan : List ℕ) → length arrivals ≤ 512 → n ≤ 32
    → slots ≤ 1024 → length (accepted_text last arrivals n slots plan) ≤ 212992
unfolding accepted_text
accepted_most last arrivals n slots plan few most soon =
    simp length-append (omega (
      arith,
      verdict_most (refuse 0 0 0),
      line_most last_key last,
      arrives_most arrivals,
      sends_most n slots most plan,
    ))
