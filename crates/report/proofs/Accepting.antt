-- A table that is accepted: how large it is, and where its plan and its arrivals stand.
-- Assumes nothing.
use mathlib.Core.Path.{◌≡◌, refl, ◌∙◌, ap, sym}
use mathlib.Core.List.{List, ◌++◌}
use Prim.Native.Nat.{ℕ, ◌*◌, ◌/◌, ◌≤◌}
use Rattle.std.proofs.Math.Nat.{mul-div_cancel_left}
use native.Mathlib.Nat.{mul_comm}
use native.Mathlib.Omega.{arith}
use lib.ListN.{length, take, drop, length-append, length-replicate, replicate}
use lib.Seq.{take_at, length-take-le}
use Rattle.std.proofs.Common.{Ok, Err}
use Rattle.table.specs.declared.Row.{Row}
use Rattle.table.specs.declared.Refusal.{Refusal}
use Rattle.table.specs.Table.{Verdict, judge, WellFormed, last_due}
use Rattle.table.proofs.Whole.{Sound, sound}
use Rattle.best.proofs.Best.{row_plan_long}
use Rattle.cells.proofs.Laying.{lengths_long}
use Rattle.planner.specs.declared.Reply.{Reply}
use Rattle.planner.specs.declared.Summary.{Summary}
use Rattle.planner.specs.Planner.{Answer, freight_of, the_plan, the_arrivals, answer_to_rows, after_verdict, the_answer, area_after}
use Rattle.planner.specs.Planner.{Planned}
use Rattle.planner.proofs.Answering.{arrivals_long}
use Rattle.planner.proofs.Good.{soon, table_laden}
use Rattle.report.specs.Report.{verdict_lines, accepted_text, answer_text, table_text}
use Rattle.text.specs.Steps.{Room}
use Rattle.report.specs.Steps.{Slotted}
use Rattle.report.proofs.Sizes.{verdict_most, accepted_most}

-- the accepted table was judged to be good
module _ (n : ℕ) (rows : List Row) (s : Summary) (is : the_answer n rows 32768 512 ≡ Ok s) where
  well : WellFormed n rows
  unfolding the_answer after_verdict
  well = go (judge n rows) refl is
    where
      go : (v : Verdict) → judge n rows ≡ v → after_verdict v (answer_to_rows n rows 32768 512) ≡ Ok s
          → judge n rows ≡ Ok tt
      go (Ok u) e f = e
      go (Err r) e f = absurd cc

  pub its_size : Sound n rows
  its_size = sound n rows well

  pub due_soon : last_due rows ≤ 1024
  unfolding last_due
  due_soon = soon n rows well

  pub plan_long : length (the_plan n rows) ≡ n * last_due rows
  unfolding the_plan
  plan_long = row_plan_long (table_laden n rows well) (last_due rows) ∙ mul_comm (last_due rows) n

  pub arrivals_each : length (the_arrivals n rows) ≡ length rows
  unfolding the_arrivals
  arrivals_each = arrivals_long (freight_of n rows) (last_due rows) ∙ lengths_long rows

-- No output for a table is longer than the area that is lent for it.
pub table_most : (n : ℕ) (rows : List Row) → length (table_text n rows) ≤ 212992
unfolding table_text answer_text
table_most n rows = go (the_answer n rows 32768 512) refl
  where
    go : (r : Answer) → the_answer n rows 32768 512 ≡ r
        → length (answer_text r (the_arrivals n rows) n (last_due rows) (the_plan n rows)) ≤ 212992
    go (Ok s) e =
        let k = its_size n rows s e in
        accepted_most s.last.0 (the_arrivals n rows) n (last_due rows) (the_plan n rows)
        (omega (arith, arrivals_each n rows s e, k.few)) k.most (due_soon n rows s e)
    go (Err r) e = omega (arith, verdict_most r)

-- As `respond_table` finds it: the rows, the areas that it lends, and what they hold after planning.
pub record Answered (n : ℕ) (rows : List Row) (r : Reply) (plan' arrivals' : List ℕ) : Type 0 where
  pub plan : List ℕ
  pub arrivals : List ℕ
  pub plan_all : length plan ≡ 32768
  pub arrivals_all : length arrivals ≡ 512
  pub out : Planned n rows plan arrivals r plan' arrivals'

-- the lent areas are blank before
pub answered : {n : ℕ} {rows : List Row} {r : Reply} {plan arrivals plan' arrivals' : List ℕ}
    → plan ≡ replicate {A = ℕ} 32768 0 → arrivals ≡ replicate {A = ℕ} 512 0 → Planned n rows plan arrivals r plan' arrivals'
    → Answered n rows r plan' arrivals'
answered {plan = plan} {arrivals = arrivals} p a out =
    record {
      plan = plan;
      arrivals = arrivals;
      plan_all = ap length p ∙ length-replicate {A = ℕ} 32768 0;
      arrivals_all = ap length a ∙ length-replicate {A = ℕ} 512 0;
      out = out;
    }

module _ {n : ℕ} {rows : List Row} {r : Reply} {plan' arrivals' : List ℕ}
    (k : Answered n rows r plan' arrivals') where
  its_answer : the_answer n rows 32768 512 ≡ r.answer
  its_answer = sym (k.out.answers ∙ rw (k.plan_all, k.arrivals_all))

  pub refused_is : {x : Refusal} → r.answer ≡ Err x → table_text n rows ≡ verdict_lines x
  unfolding table_text answer_text
  refused_is e = rw (its_answer, e)

  module _ {s : Summary} (e : r.answer ≡ Ok s) where
    is : the_answer n rows 32768 512 ≡ Ok s
    is = its_answer ∙ e

    size : Sound n rows
    size = its_size n rows s is

    plan_there : plan' ≡ the_plan n rows ++ drop (length (the_plan n rows)) k.plan
    unfolding area_after
    plan_there = k.out.fills_plan ∙ rw e

    arrivals_there : arrivals' ≡ the_arrivals n rows ++ drop (length (the_arrivals n rows)) k.arrivals
    unfolding area_after
    arrivals_there = k.out.fills_arrivals ∙ rw e

    the_arrivals_lem : take (length rows) arrivals' ≡ the_arrivals n rows
    the_arrivals_lem =
        ap (take (length rows)) arrivals_there
        ∙ take_at (the_arrivals n rows) _ (length rows) (arrivals_each n rows s is)

    pub arrivals_fit : length rows ≤ length arrivals'
    arrivals_fit =
        let parts = length-append (the_arrivals n rows) (drop (length (the_arrivals n rows)) k.arrivals) in
        omega (arith, ap length arrivals_there, parts, arrivals_each n rows s is)

    pub arrivals_front : length rows ≡ length (take (length rows) arrivals')
    arrivals_front = sym (length-take-le (length rows) arrivals' arrivals_fit)

    module _ {slots : ℕ} (last : slots ≡ last_due rows) where
      pub plan_fits : n * slots ≤ length plan'
      plan_fits =
          let parts = length-append (the_plan n rows) (drop (length (the_plan n rows)) k.plan) in
          rw last (omega (arith, ap length plan_there, parts, plan_long n rows s is))

      pub plan_front : n * slots ≡ length (take (n * slots) plan')
      plan_front = sym (length-take-le (n * slots) plan' plan_fits)

      the_plan_lem : take (n * slots) plan' ≡ the_plan n rows
      the_plan_lem =
          ap (take (n * slots)) plan_there
          ∙ take_at (the_plan n rows) _ (n * slots) (plan_long n rows s is ∙ rw last)

      -- so many slots has the front of the lent plan
      slots_there : length (take (n * slots) plan') / n ≡ slots
      slots_there = ap (λ (m : ℕ). m / n) (sym plan_front) ∙ mul-div_cancel_left slots (omega (arith, size.least))

      pub slotted : Slotted n (take (n * slots) plan')
      slotted = record { some = omega (arith, size.least); whole = rw slots_there (sym plan_front) }

      pub accepted_is : table_text n rows ≡ accepted_text s.last.0 (take (length rows) arrivals') n
          (length (take (n * slots) plan') / n) (take (n * slots) plan')
      unfolding table_text answer_text
      accepted_is = rw (slots_there, is, the_arrivals_lem, the_plan_lem, last)

      pub accepted_fits : (area : List ℕ) → 212992 ≤ length area
          → Room area 0 (accepted_text s.last.0 (take (length rows) arrivals') n (length (take (n * slots) plan') / n)
          (take (n * slots) plan'))
      accepted_fits area h = omega (arith, table_most n rows, ap length accepted_is)

pub verdict_fits : (area : List ℕ) (r : Refusal) → 212992 ≤ length area → Room area 0 (verdict_lines r)
verdict_fits area r h = omega (arith, verdict_most r)
