-- The answer to a run, from how it ended: acceptance with the run's figures, or the late row.
--     arrivals_long, its_arrivals   there is an arrival for each row
--     ran_told                      what a run gives, in the words of the table
--     run_accepted, run_refused     what is answered where no row is late, and where one is
-- Assumes nothing.
use mathlib.Core.Path.{◌≡◌, ◌∙◌, ap, sym}
use Prim.Native.Nat.{ℕ, ◌*◌}
use mathlib.Core.Bool.{cond}
use mathlib.Core.List.{List}
use borrow.Author.Tests.{ne_eqb}
use lib.Dec.{eqb}
use lib.ListN.{length, replicate}
use Rattle.std.specs.Prelude.{Ok, Err}
use Rattle.lists.specs.Lists.{largest}
use Rattle.lists.proofs.Build.{length-build}
use Rattle.table.specs.declared.Row.{Row}
use Rattle.table.specs.Table.{refuse, lengths, distances, last_due}
use Rattle.cells.specs.Rows.{Freight}
use Rattle.cells.specs.Cells.{row_arrivals, of_last_cells}
use Rattle.cells.proofs.Laying.{lengths_long}
use Rattle.run.specs.declared.Ending.{Ending}
use Rattle.rows.specs.Steps.{bound_for, RanRows}
use Rattle.planner.specs.declared.Summary.{Summary}
use Rattle.planner.specs.Planner.{Answer, freight_of, plan_room, ending, the_plan, the_arrivals, the_looks, summary_of, the_summary}
use Rattle.planner.specs.Steps.{crossed, RunPlanned}
use Rattle.planner.proofs.Crossed.{table_crossed}

pub arrivals_long : (F : Freight) (slots : ℕ) → length (row_arrivals F slots) ≡ length F.len
unfolding row_arrivals of_last_cells
arrivals_long F slots = length-build (length F.len) _

pub its_arrivals : (n : ℕ) (rows : List Row) → length (the_arrivals n rows) ≡ length rows
unfolding the_arrivals
its_arrivals n rows = arrivals_long (freight_of n rows) (last_due rows) ∙ lengths_long rows

-- What a run gives, in the words of the table.
pub record Told (n : ℕ) (rows : List Row) (e : Ending) (plan' arrivals' : List ℕ) : Type 0 where
  pub stops : e.stop ≡ ending n rows
  pub looked : e.looks ≡ the_looks n rows
  pub carries : plan' ≡ cond (eqb (ending n rows).row 0) (the_plan n rows) (replicate (plan_room n rows) 0)
  pub arrives : arrivals' ≡ cond (eqb (ending n rows).row 0) (the_arrivals n rows) (replicate (length rows) 0)

pub ran_told : {n : ℕ} {rows : List Row} {links : List ℕ} {room : ℕ} {e : Ending} {plan' arrivals' : List ℕ}
    → links ≡ distances n rows → room ≡ plan_room n rows
    → RanRows (bound_for n rows links) room e plan' arrivals' → Told n rows e plan' arrivals'
unfolding ending the_plan the_arrivals the_looks last_due
ran_told {n} {rows} {room} {e} {plan'} {arrivals'} is just from =
    record {
      stops = ran.stops;
      looked = ran.looked;
      carries = ran.carries ∙ rw (ran.stops, just);
      arrives = ran.arrives ∙ rw (ran.stops, lengths_long rows);
    }
  where
    ran : RanRows (freight_of n rows) room e plan' arrivals'
    ran = rw is at from

module _ {n : ℕ} {rows : List Row} {e : Ending} {plan' arrivals' : List ℕ} (told : Told n rows e plan' arrivals') where
  -- the areas and the looks do not depend on the answer
  areas : (answer : Answer)
      → answer
      ≡ cond (eqb (ending n rows).row 0) (Ok (the_summary n rows))
      (Err (refuse 9 (ending n rows).row (ending n rows).slot.0))
      → RunPlanned n rows (record { answer = answer; looks = e.looks }) plan' arrivals'
  areas answer is =
      record { answers = is; looked = told.looked; carries = told.carries; arrives = told.arrives }

  pub run_accepted : e.stop.row ≡ 0 → (sends : ℕ) → sends ≡ crossed (lengths rows) (distances n rows)
      → (most : ℕ) → most ≡ largest arrivals'
      → (s : Summary) → s ≡ summary_of (length arrivals') sends (n * most) arrivals'
      → RunPlanned n rows (record { answer = Ok s; looks = e.looks }) plan' arrivals'
  unfolding the_summary
  run_accepted on_time sends counted most found s sums = areas (Ok s) (ap Ok (sums ∙ figures) ∙ rw punctual)
    where
      punctual : (ending n rows).row ≡ 0
      punctual = ap (λ x. x.row) (sym told.stops) ∙ on_time

      there : arrivals' ≡ the_arrivals n rows
      there = told.arrives ∙ rw punctual

      figures : summary_of (length arrivals') sends (n * most) arrivals' ≡ the_summary n rows
      figures = rw (found, there, its_arrivals n rows, counted, table_crossed n rows)

  pub run_refused : (e.stop.row ≡ 0 → ⊥)
      → RunPlanned n rows (record { answer = Err (refuse 9 e.stop.row e.stop.slot.0); looks = e.looks }) plan' arrivals'
  run_refused late =
      let still : (ending n rows).row ≡ 0 → ⊥ = λ z. late (ap (λ x. x.row) told.stops ∙ z) in
      areas (Err (refuse 9 e.stop.row e.stop.slot.0)) (rw (ne_eqb (ending n rows).row 0 still, told.stops))
