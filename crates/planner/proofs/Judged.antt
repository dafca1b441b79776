-- From the judgement of a table and the room lent to the planner's outcome.
--     plannable_answer     what is left to decide of a well-formed table with room is how its run ends
--     fronts               the fronts of the areas that are lent to the run
--     turned_away          a refusal before the rule is applied: without a look, and the areas are left as they were
--     let_through          what planning the fronts of the areas gives is what is promised of the table
-- Assumes nothing.
use mathlib.Core.Path.{◌≡◌, refl, ◌∙◌, ap, sym}
use Prim.Native.Nat.{ℕ, ◌≤◌}
use native.Mathlib.Nat.{mul_comm}
use native.Mathlib.Omega.{arith}
use mathlib.Core.Bool.{Bool, true, false, cond}
use mathlib.Core.List.{List, ◌++◌}
use borrow.Author.Tests.{le-ltb, ltb-false, ne_eqb}
use lib.Dec.{eqb, ltb}
use lib.ListN.{length, take, drop, replicate}
use lib.Seq.{length-take-le}
use Rattle.std.specs.Prelude.{Ok, Err}
use Rattle.table.specs.declared.Row.{Row}
use Rattle.table.specs.declared.Refusal.{Refusal}
use Rattle.table.specs.Table.{Verdict, WellFormed, judge, refuse, last_due}
use Rattle.table.proofs.Whole.{table_early}
use Rattle.best.proofs.Best.{row_plan_long}
use Rattle.planner.specs.declared.Summary.{Summary}
use Rattle.planner.specs.declared.Reply.{Reply}
use Rattle.planner.specs.Planner.{
  Answer,
  plan_room,
  ending,
  the_plan,
  the_arrivals,
  the_looks,
  the_summary,
  answer_to_rows,
  after_verdict,
  the_answer,
  looks_after,
  area_after,
  Planned,
  Plannable,
}
use Rattle.planner.specs.Steps.{before_run, room_for, JustRoom, RunPlanned}
use Rattle.planner.proofs.Answering.{its_arrivals}
use Rattle.planner.proofs.Good.{table_laden}

-- what an area holds that was filled, or cleared, in its front
filled : (b : Bool) (s : Summary) (row slot m : ℕ) (given part before : List ℕ)
    → length given ≡ m → part ≡ cond b given (replicate m 0)
    → part ++ drop m before ≡ area_after (cond b (Ok s) (Err (refuse 9 row slot))) given before
unfolding area_after
filled true s row slot m given part before e f = rw (f, e)
filled false s row slot m given part before e f = rw (f, e)

-- the looks of a run that was planned, whatever it came to
looks_kept : (b : Bool) (s : Summary) (row slot looks : ℕ)
    → looks ≡ looks_after (cond b (Ok s) (Err (refuse 9 row slot))) looks
unfolding looks_after
looks_kept true s row slot looks = refl
looks_kept false s row slot looks = refl

-- The fronts of both areas that a table's run uses.
pub record Fronts (n : ℕ) (rows : List Row) (plan arrivals : List ℕ) (need : ℕ) : Type 0 where
  pub well_formed : WellFormed n rows
  pub plan_fits : need ≤ length plan
  pub plan_front : need ≡ length (take need plan)
  pub arrivals_fit : length rows ≤ length arrivals
  pub arrivals_front : length rows ≡ length (take (length rows) arrivals)
  pub just : JustRoom n rows (take need plan) (take (length rows) arrivals)

-- What is refused before the rule is applied is not refused as late.
early : (n : ℕ) (rows : List Row) (p a : ℕ) (r : Refusal) → room_for n rows p a ≡ Err r
    → (the_answer n rows p a ≡ Err r) × (r.number ≡ 9 → ⊥)
unfolding room_for before_run the_answer after_verdict answer_to_rows
early n rows p a r = go (judge n rows) refl (ltb p (plan_room n rows)) (ltb a (length rows))
  where
    rest : Answer
    rest =
        cond (eqb (ending n rows).row 0) (Ok (the_summary n rows))
        (Err (refuse 9 (ending n rows).row (ending n rows).slot.0))

    go : (v : Verdict) → judge n rows ≡ v → (a b : Bool)
        → before_run v (cond a (Err (refuse 7 0 0)) (cond b (Err (refuse 8 0 0)) (Ok (plan_room n rows)))) ≡ Err r
        → (after_verdict v (cond a (Err (refuse 7 0 0)) (cond b (Err (refuse 8 0 0)) rest)) ≡ Err r) × (r.number ≡ 9 → ⊥)
    go (Err x) g a b e = let is : x ≡ r = cc in (ap Err is, table_early n rows r (g ∙ ap Err is))
    go (Ok _) g true b e = let is : refuse 7 0 0 ≡ r = cc in (ap Err is, λ z. omega (arith, ap (λ x. x.number) is))
    go (Ok _) g false true e = let is : refuse 8 0 0 ≡ r = cc in (ap Err is, λ z. omega (arith, ap (λ x. x.number) is))
    go (Ok _) g false false e = absurd cc

module _ {n : ℕ} {rows : List Row} {plan arrivals : List ℕ} where
  -- What is left to decide of a well-formed table with room is how its run ends.
  pub plannable_answer : Plannable n rows plan arrivals
      → the_answer n rows (length plan) (length arrivals)
      ≡ cond (eqb (ending n rows).row 0) (Ok (the_summary n rows))
      (Err (refuse 9 (ending n rows).row (ending n rows).slot.0))
  unfolding the_answer after_verdict answer_to_rows
  plannable_answer k =
      let for-plan = le-ltb (length plan) (plan_room n rows) k.room_for_plan in
      let for-arrivals = le-ltb (length arrivals) (length rows) k.room_for_arrivals in
      rw (k.well_formed, for-plan, for-arrivals)

  -- There is room for a table that may be run, and it uses just so many entries.
  plannable : {need : ℕ} → room_for n rows (length plan) (length arrivals) ≡ Ok need
      → Plannable n rows plan arrivals × (need ≡ plan_room n rows)
  unfolding room_for before_run
  plannable {need} =
      go (judge n rows) refl (ltb (length plan) (plan_room n rows)) refl (ltb (length arrivals) (length rows)) refl
    where
      go : (v : Verdict) → judge n rows ≡ v → (a : Bool) → ltb (length plan) (plan_room n rows) ≡ a
          → (b : Bool) → ltb (length arrivals) (length rows) ≡ b
          → before_run v (cond a (Err (refuse 7 0 0)) (cond b (Err (refuse 8 0 0)) (Ok (plan_room n rows)))) ≡ Ok need
          → Plannable n rows plan arrivals × (need ≡ plan_room n rows)
      go (Err r) g a f b h e = absurd cc
      go (Ok _) g true f b h e = absurd cc
      go (Ok _) g false f true h e = absurd cc
      go (Ok tt) g false f false h e = (
        record {
          well_formed = g;
          room_for_plan = ltb-false (length plan) (plan_room n rows) f;
          room_for_arrivals = ltb-false (length arrivals) (length rows) h;
        },
        cc,
      )

  -- The areas' fronts, which are lent to the run.
  pub fronts : {need : ℕ} → Ok need ≡ room_for n rows (length plan) (length arrivals) → Fronts n rows plan arrivals need
  fronts {need} e =
      let (k, is) = plannable (sym e) in
      let plan_fits : need ≤ length plan = omega (arith, is, k.room_for_plan) in
      record {
        well_formed = k.well_formed;
        plan_fits = plan_fits;
        plan_front = sym (length-take-le need plan plan_fits);
        arrivals_fit = k.room_for_arrivals;
        arrivals_front = sym (length-take-le (length rows) arrivals k.room_for_arrivals);
        just = record {
          plan_long = length-take-le need plan plan_fits ∙ is;
          arrivals_long = length-take-le (length rows) arrivals k.room_for_arrivals;
        };
      }

  pub turned_away : {r : Refusal} → room_for n rows (length plan) (length arrivals) ≡ Err r
      → Planned n rows plan arrivals (record { answer = Err r; looks = 0 }) plan arrivals
  unfolding looks_after area_after
  turned_away {r} e =
      let is = early n rows (length plan) (length arrivals) r e in
      let late = ne_eqb r.number 9 is.1 in
      record { answers = sym is.0; looked = rw late; fills_plan = rw late; fills_arrivals = rw late }

  pub let_through : {need : ℕ} → room_for n rows (length plan) (length arrivals) ≡ Ok need
      → {reply : Reply} {part stamps : List ℕ} → RunPlanned n rows reply part stamps
      → Planned n rows plan arrivals reply (part ++ drop need plan) (stamps ++ drop (length rows) arrivals)
  unfolding the_plan
  let_through {need} e {reply} {part} {stamps} ran =
      rw (plannable e).1
      (record {
        answers = ran.answers ∙ sym (plannable_answer k);
        looked =
            ran.looked ∙ looks_kept on_time _ (ending n rows).row (ending n rows).slot.0 (the_looks n rows)
            ∙ ap (λ x. looks_after x (the_looks n rows)) (sym ran.answers);
        fills_plan =
            filled on_time _ (ending n rows).row (ending n rows).slot.0 (plan_room n rows) (the_plan n rows) part plan plan_long ran.carries
            ∙ ap (λ x. area_after x (the_plan n rows) plan) (sym ran.answers);
        fills_arrivals =
            filled on_time _ (ending n rows).row (ending n rows).slot.0 (length rows) (the_arrivals n rows) stamps arrivals (its_arrivals n rows) ran.arrives
            ∙ ap (λ x. area_after x (the_arrivals n rows) arrivals) (sym ran.answers);
      })
    where
      k : Plannable n rows plan arrivals
      k = (plannable e).0

      on_time : Bool
      on_time = eqb (ending n rows).row 0

      plan_long : length (the_plan n rows) ≡ plan_room n rows
      plan_long = row_plan_long (table_laden n rows k.well_formed) (last_due rows) ∙ mul_comm (last_due rows) n
