-- What single steps of the code ask and give. The planner's promise speaks of Planner.antt alone; nothing here has to
-- be believed.
use Rattle.std.specs.Prelude.{ℕ, ◌*◌, ◌≡◌, cond, List, eqb, ltb, length, get_or, replicate, Result, Ok, Err}
use Rattle.lists.specs.Lists.{build, total}
use Rattle.table.specs.declared.Row.{Row}
use Rattle.table.specs.declared.Refusal.{Refusal}
use Rattle.table.specs.Table.{Verdict, judge, refuse}
use Rattle.planner.specs.declared.Reply.{Reply}
use Rattle.planner.specs.Planner.{plan_room, ending, the_plan, the_arrivals, the_looks, the_summary}

-- The links that the cells of so many rows cross: each cell crosses its row's.
unfoldable pub crossed : (len links : List ℕ) → ℕ
crossed len links = total (build (length len) (λ i. get_or len i 0 * get_or links i 0))

-- What follows once a table is judged: its refusal, or what is said of the areas.
unfoldable pub before_run : Verdict → Result ℕ Refusal → Result ℕ Refusal
before_run (Ok _) room = room
before_run (Err r) room = Err r

-- How many entries of the plan are used, or the refusal before the rule is applied.
unfoldable pub room_for : ℕ → List Row → (plan_lent arrivals_lent : ℕ) → Result ℕ Refusal
room_for n rows plan_lent arrivals_lent =
    before_run (judge n rows)
    (cond (ltb plan_lent (plan_room n rows)) (Err (refuse 7 0 0))
    (cond (ltb arrivals_lent (length rows)) (Err (refuse 8 0 0)) (Ok (plan_room n rows))))

-- The areas have just the size of a table's run.
pub record JustRoom (n : ℕ) (rows : List Row) (plan arrivals : List ℕ) : Type 0 where
  pub plan_long : length plan ≡ plan_room n rows
  pub arrivals_long : length arrivals ≡ length rows

-- What planning a run in areas of just its size gives.
pub record RunPlanned (n : ℕ) (rows : List Row) (reply : Reply) (plan' arrivals' : List ℕ) : Type 0 where
  pub answers : reply.answer
      ≡ cond (eqb (ending n rows).row 0) (Ok (the_summary n rows))
      (Err (refuse 9 (ending n rows).row (ending n rows).slot.0))
  pub looked : reply.looks ≡ the_looks n rows
  pub carries : plan' ≡ cond (eqb (ending n rows).row 0) (the_plan n rows) (replicate (plan_room n rows) 0)
  pub arrives : arrivals' ≡ cond (eqb (ending n rows).row 0) (the_arrivals n rows) (replicate (length rows) 0)
