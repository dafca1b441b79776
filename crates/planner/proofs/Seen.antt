-- From the definitions to what is seen: the entries of every accepted outcome.
--     accepted_is_plannable, late_is_plannable      such a table is well-formed, with room for plan and arrivals
--     entry_is_pick               entry t × N + p of the plan is the row of the cell that the rule picks there
--     arrivals_are_deliveries     the arrivals are the instants at which that very plan has delivered whole rows
--     arrives_in_time             none of them lies after its row's due slot
-- Assumes nothing.
use mathlib.Core.Path.{◌≡◌, refl, ◌∙◌, ap, sym}
use mathlib.Core.Logic.{◌↔◌}
use Prim.Native.Nat.{ℕ, ◌+◌, ◌*◌, ◌≤◌, ◌<◌}
use native.Mathlib.Nat.{mul_comm}
use native.Mathlib.Omega.{arith}
use mathlib.Core.Bool.{Bool, true, false, cond}
use mathlib.Core.List.{List, ◌++◌}
use borrow.Author.Tests.{ltb-false}
use lib.Dec.{eqb, ltb}
use lib.ListN.{length, get_or, take, drop, get_or-append}
use lib.Seq.{get_or-take}
use Rattle.lists.specs.Lists.{total}
use Rattle.table.specs.declared.Row.{Row}
use Rattle.table.specs.declared.Refusal.{Refusal}
use Rattle.table.specs.Table.{Verdict, judge, refuse, lengths, dues, last_due}
use Rattle.table.proofs.Whole.{table_refused, table_early}
use Rattle.slack.specs.Slack.{Traffic, pick, state_at, plan_of}
use Rattle.optimal.proofs.Plan.{entry_inside, plan_entry}
use Rattle.cells.specs.Rows.{Freight, cell_links, cells_left, Delivered, MeetsRows, owners}
use Rattle.cells.specs.Cells.{cell_traffic, owner_of, row_plan, row_arrivals}
use Rattle.cells.proofs.Laying.{lengths_long}
use Rattle.best.proofs.Order.{links_long}
use Rattle.best.proofs.Best.{told_at}
use Rattle.best.proofs.Arriving.{row_arrives}
use Rattle.std.specs.Prelude.{Ok, Err}
use Rattle.planner.specs.declared.Reply.{Reply}
use Rattle.planner.specs.Planner.{
  Answer,
  freight_of,
  plan_room,
  ending,
  the_arrivals,
  the_summary,
  answer_to_rows,
  after_verdict,
  the_answer,
  number_of,
  area_after,
  Planned,
  Plannable,
}
use Rattle.planner.proofs.Answering.{arrivals_long}
use Rattle.planner.proofs.Promises.{
  due_in_time,
  accepted_then,
  accepted_with,
  the_plan_is,
  accepted_plan_is_a_schedule,
}
use Rattle.planner.proofs.Good.{table_laden, table_cells}

module _ {n : ℕ} {rows : List Row} {plan arrivals plan' arrivals' : List ℕ} {r : Reply}
    (out : Planned n rows plan arrivals r plan' arrivals') where
  -- What is answered by a number that is no refusal before 9 is answered of a plannable table.
  run_is_plannable : (m : ℕ) → (m ≡ 7 → ⊥) → (m ≡ 8 → ⊥)
      → ((x : Refusal) → judge n rows ≡ Err x → x.number ≡ m → ⊥)
      → number_of r.answer ≡ m → Plannable n rows plan arrivals
  unfolding the_answer after_verdict answer_to_rows number_of
  run_is_plannable m not-7 not-8 not-early is =
      by_verdict (judge n rows) refl (ap number_of (sym out.answers) ∙ is)
    where
      rest : Answer
      rest =
          cond (eqb (ending n rows).row 0) (Ok (the_summary n rows))
          (Err (refuse 9 (ending n rows).row (ending n rows).slot.0))

      room : (a : Bool) → ltb (length plan) (plan_room n rows) ≡ a → (b : Bool) → ltb (length arrivals) (length rows) ≡ b
          → judge n rows ≡ Ok tt
          → number_of (cond a (Err (refuse 7 0 0)) (cond b (Err (refuse 8 0 0)) rest)) ≡ m
          → Plannable n rows plan arrivals
      room true f b g well z = absurd (not-7 (sym z))
      room false f true g well z = absurd (not-8 (sym z))
      room false f false g well z =
          record {
            well_formed = well;
            room_for_plan = ltb-false (length plan) (plan_room n rows) f;
            room_for_arrivals = ltb-false (length arrivals) (length rows) g;
          }

      by_verdict : (v : Verdict) → judge n rows ≡ v
          → number_of (after_verdict v (answer_to_rows n rows (length plan) (length arrivals))) ≡ m
          → Plannable n rows plan arrivals
      by_verdict (Ok tt) e z =
          room (ltb (length plan) (plan_room n rows)) refl (ltb (length arrivals) (length rows)) refl e z
      by_verdict (Err x) e z = absurd (not-early x e z)

  -- Refusals 1 to 8, 10 and 11 do not hold of an accepted table, nor of a late one.
  pub accepted_is_plannable : number_of r.answer ≡ 0 → Plannable n rows plan arrivals
  accepted_is_plannable = run_is_plannable 0 (λ z. omega arith) (λ z. omega arith) (table_refused n rows)

  pub late_is_plannable : number_of r.answer ≡ 9 → Plannable n rows plan arrivals
  late_is_plannable = run_is_plannable 9 (λ z. omega arith) (λ z. omega arith) (table_early n rows)

-- What is seen of an accepted table.
module _ {n : ℕ} {rows : List Row} {plan arrivals plan' arrivals' : List ℕ} {r : Reply}
    (out : Planned n rows plan arrivals r plan' arrivals') (accepted : number_of r.answer ≡ 0) where
  abbrev k : Plannable n rows plan arrivals
  k = accepted_is_plannable out accepted

  abbrev F : Freight
  F = freight_of n rows

  abbrev T : Traffic
  T = cell_traffic F

  abbrev start : List ℕ
  start = cell_links F

  -- Entry t × N + p of an accepted plan is the row of the cell that the rule picks at p at instant t.
  pub entry_is_pick : (t p : ℕ) → t < last_due rows → p < n
      → get_or plan' (t * n + p) 0 ≡ owner_of (owners F) (pick T t (state_at T start t) p (total (lengths rows)))
  unfolding row_plan cell_traffic
  entry_is_pick t p early inside =
      let before_end = entry_inside n (last_due rows) t p early inside in
      let used : t * n + p < plan_room n rows = omega (arith, mul_comm (last_due rows) n) in
      let plan = plan_of T start (last_due rows) in
      sym (get_or-take (plan_room n rows) plan' (t * n + p) 0 used)
      ∙ ap (λ front. get_or front (t * n + p) 0) (the_plan_is k out accepted)
      ∙ told_at F plan (t * n + p) ∙ ap (owner_of (owners F)) (plan_entry T start (last_due rows) t p early inside)
      ∙ ap (λ m. owner_of (owners F) (pick T t (state_at T start t) p m)) (links_long F)

  -- Row i's arrival is that of the rule's run.
  its_arrival : (i : ℕ) → i < length rows → get_or arrivals' i 0 ≡ get_or (row_arrivals F (last_due rows)) i 0
  unfolding area_after the_arrivals
  its_arrival i known =
      let given = the_arrivals n rows in
      let carries = accepted_with k out accepted in
      let filled : arrivals' ≡ given ++ drop (length given) arrivals = out.fills_arrivals ∙ rw carries in
      let inside : i < length given = omega (arith, arrivals_long F (last_due rows), lengths_long rows) in
      ap (λ area. get_or area i 0) filled ∙ get_or-append given (drop (length given) arrivals) 0 i inside

  -- Each arrival is the instant from which on the plan that is seen has delivered all cells of its row.
  pub arrivals_are_deliveries : (i t : ℕ) → i < length rows → t ≤ last_due rows
      → (get_or arrivals' i 0 ≤ t) ↔ Delivered F (cells_left F (take (plan_room n rows) plan') t) i
  arrivals_are_deliveries i t known early =
      let well = k.well_formed in
      let inside : i < length (lengths rows) = omega (arith, lengths_long rows) in
      rw (the_plan_is k out accepted, its_arrival i known)
      (row_arrives F (table_laden n rows well) i inside (table_cells n rows well i inside) (last_due rows)
      (due_in_time n rows well) (accepted_then k out accepted) t early)

  -- No arrival lies after its row's due slot.
  pub arrives_in_time : (i : ℕ) → i < length rows → get_or arrivals' i 0 ≤ get_or (dues rows) i 0
  unfolding MeetsRows
  arrives_in_time i known =
      let inside : i < length (lengths rows) = omega (arith, lengths_long rows) in
      let (t, in_time, whole) = (accepted_plan_is_a_schedule k out accepted).meets i inside in
      let early : t ≤ last_due rows = omega (arith, in_time, due_in_time n rows k.well_formed i inside) in
      omega (arith, in_time, (arrivals_are_deliveries i t known early).1 whole)
