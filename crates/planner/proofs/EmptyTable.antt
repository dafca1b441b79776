-- An empty table: its schedule, and what is accepted of it.
--     empty_schedule      the empty list is a legal schedule that meets an empty table
--     empty_summary       all five of its summary's numbers are zero
--     empty_areas         neither its plan nor its arrivals have an entry
--     empty_accepted      on a ring of 2 to 32 nodes it is accepted, in areas of whatever length
-- Assumes nothing.
use mathlib.Core.Path.{◌≡◌, refl}
use Prim.Native.Nat.{ℕ, ◌≤◌}
use native.Mathlib.Nat.{mul-zero}
use native.Mathlib.Omega.{arith}
use mathlib.Core.List.{[]}
use borrow.Author.Tests.{le-ltb}
use lib.Ieee.{binary64, of_bits}
use Rattle.lists.specs.Lists.{total, largest}
use Rattle.table.specs.Table.{judge, judge_rows, judge_all, after_rows, cells_in, lengths, dues, distances, sends_of, last_due}
use Rattle.slack.specs.Slack.{plan_of, arrivals_of, late_from, late_row, any_under_way, stop_from, stop_of}
use Rattle.cells.specs.Rows.{per_cell, owners_of, owners, laid_out, cell_links, LegalRows, MeetsRows}
use Rattle.cells.specs.Cells.{owner_of, told_by, row_plan, end_by, row_stop}
use Rattle.cells.specs.Cells.{of_last_cells, row_arrivals}
use Rattle.planner.specs.declared.Summary.{Summary}
use Rattle.std.specs.Prelude.{Ok}
use Rattle.planner.specs.Planner.{
  ScheduleOf,
  ending,
  the_plan,
  the_arrivals,
  quotient,
  summary_of,
  the_summary,
  answer_to_rows,
  after_verdict,
  the_answer,
}

-- On whatever ring, the empty list is a legal schedule of no slots, and brings every row of an empty table there in
-- time.
pub empty_schedule : (n : ℕ) → ScheduleOf n [] []
unfolding LegalRows MeetsRows largest lengths dues distances last_due
empty_schedule n =
    record {
      entries = omega arith;
      legal = λ t p i early inside named. absurd (omega arith);
      meets = λ i known. absurd (omega arith);
    }

-- The summary of which all five numbers are zero.
pub zeros : Summary
zeros = record { last = record { 0 = 0 }; sends = 0; sum = 0; mean = of_bits binary64 0; share = of_bits binary64 0 }

-- On whatever ring, it is the summary of an empty table.
pub empty_summary : (n : ℕ) → the_summary n [] ≡ zeros
unfolding zeros the_summary sends_of summary_of quotient the_arrivals row_arrivals of_last_cells arrivals_of cell_links laid_out
    per_cell total largest lengths dues distances last_due
empty_summary n = rw (mul-zero n)

-- And no entry is used.
pub empty_areas : (n : ℕ) → (the_plan n [] ≡ []) × (the_arrivals n [] ≡ [])
unfolding the_plan row_plan told_by plan_of the_arrivals row_arrivals of_last_cells arrivals_of largest lengths dues
    distances last_due
empty_areas n = (refl, refl)

-- On a ring of 2 to 32 nodes an empty table is accepted with that summary, whatever room is lent.
pub empty_accepted : (n plan_lent arrivals_lent : ℕ) → 2 ≤ n → n ≤ 32
    → the_answer n [] plan_lent arrivals_lent ≡ Ok zeros
unfolding the_answer after_verdict answer_to_rows judge judge_all judge_rows after_rows cells_in ending row_stop end_by owner_of
    owners owners_of stop_of stop_from late_row late_from any_under_way cell_links laid_out per_cell total largest lengths dues
    distances last_due
empty_accepted n plan_lent arrivals_lent least most =
    rw (
      le-ltb n 2 least,
      le-ltb 32 n most,
      mul-zero n,
      le-ltb plan_lent 0 (omega arith),
      le-ltb arrivals_lent 0 (omega arith),
      empty_summary n,
    )
