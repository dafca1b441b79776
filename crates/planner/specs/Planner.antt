-- What the planner answers, and what it leaves in the lent areas, in the words and order of document 01.
use Rattle.std.specs.Prelude.{ℕ, ◌*◌, ◌≤◌, ◌≡◌, cond, List, ◌++◌, eqb, ltb, pos, Float, length, drop, replicate}
use Rattle.std.specs.Prelude.{Result, Ok, Err}
use Rattle.std.specs.Float.{binary64}
use Rattle.std.specs.Float.Ieee.{div, of_int, of_bits}
use Rattle.lists.specs.Lists.{total, largest}
use Rattle.table.specs.declared.Row.{Row}
use Rattle.table.specs.declared.Refusal.{Refusal}
use Rattle.table.specs.Table.{Verdict, judge, WellFormed, refuse, destinations, lengths, dues, distances, sends_of, last_due}
use Rattle.slack.specs.declared.Stop.{Stop}
use Rattle.cells.specs.Rows.{Freight, freight, RowSchedule}
use Rattle.cells.specs.Cells.{row_stop, row_plan, row_arrivals}
use Rattle.cells.specs.Looks.{row_looks}
use Rattle.planner.specs.declared.Summary.{Summary}
use Rattle.planner.specs.declared.Reply.{Reply}

-- What planning answers: a summary, or a refusal.
abbrev pub Answer : Type 0
Answer = Result Summary Refusal

-- The freight of a table: its nodes, and its rows' destinations, lengths, due slots and distances.
abbrev pub freight_of : ℕ → List Row → Freight
freight_of n rows = freight n (destinations rows) (lengths rows) (dues rows) (distances n rows)

-- The entries of a plan: N for each slot below the largest due slot.
abbrev pub plan_room : ℕ → List Row → ℕ
plan_room n rows = n * last_due rows

-- Where the rule's run of a table ends, and with which row.
unfoldable pub ending : ℕ → List Row → Stop
ending n rows = row_stop (freight_of n rows) (last_due rows)

-- The plan of a table, link by link and slot by slot.
unfoldable pub the_plan : ℕ → List Row → List ℕ
the_plan n rows = row_plan (freight_of n rows) (last_due rows)

-- Each row's delivery instant: that of its last cell.
unfoldable pub the_arrivals : ℕ → List Row → List ℕ
the_arrivals n rows = row_arrivals (freight_of n rows) (last_due rows)

-- The looks that the rule's run of a table takes.
unfoldable pub the_looks : ℕ → List Row → ℕ
the_looks n rows = row_looks (freight_of n rows) (last_due rows)

-- One division of whole numbers that are exact as floats, rounded once; 0 where there is nothing to divide by.
unfoldable pub quotient : ℕ → ℕ → Float
quotient a b = cond (eqb b 0) (of_bits binary64 0) (div binary64 (of_int binary64 (pos a)) (of_int binary64 (pos b)))

-- A summary: last delivery instant, sends, sum of the delivery instants, mean delay and used share of the link time.
unfoldable pub summary_of : (rows sends time : ℕ) → (arrivals : List ℕ) → Summary
summary_of rows sends time arrivals =
    record {
      last = record { 0 = largest arrivals };
      sends = sends;
      sum = total arrivals;
      mean = quotient (total arrivals) rows;
      share = quotient sends time;
    }

-- The summary of a table: sum and mean are over its rows, and link time counts on N links until the last delivery
-- instant.
unfoldable pub the_summary : ℕ → List Row → Summary
the_summary n rows =
    summary_of (length rows) (sends_of n rows) (n * largest (the_arrivals n rows)) (the_arrivals n rows)

-- The answer to a well-formed table: 7 and 8 for the room lent, then 9 for a late row, else acceptance.
unfoldable pub answer_to_rows : ℕ → List Row → (plan_lent arrivals_lent : ℕ) → Answer
answer_to_rows n rows plan_lent arrivals_lent =
    cond (ltb plan_lent (plan_room n rows)) (Err (refuse 7 0 0))
    (cond (ltb arrivals_lent (length rows)) (Err (refuse 8 0 0))
    (cond (eqb (ending n rows).row 0) (Ok (the_summary n rows))
    (Err (refuse 9 (ending n rows).row (ending n rows).slot.0))))

-- The answer: what judging the table came to, where it is no good table, and else what follows.
unfoldable pub after_verdict : Verdict → Answer → Answer
after_verdict (Ok _) next = next
after_verdict (Err r) next = Err r

unfoldable pub the_answer : ℕ → List Row → (plan_lent arrivals_lent : ℕ) → Answer
the_answer n rows plan_lent arrivals_lent =
    let next = answer_to_rows n rows plan_lent arrivals_lent in after_verdict (judge n rows) next

-- Document 01's number for an answer: 0 for an acceptance, and a refusal's own.
unfoldable pub number_of : Answer → ℕ
number_of (Ok s) = 0
number_of (Err r) = r.number

-- What an area holds after an answer: the list given where the table is accepted, as many zeros where it is late, each
-- with what stood behind it; else what it held before.
unfoldable pub area_after : Answer → (given before : List ℕ) → List ℕ
area_after (Ok s) given before = given ++ drop (length given) before
area_after (Err r) given before =
    cond (eqb r.number 9) (replicate (length given) 0 ++ drop (length given) before) before

-- The looks that are reported with an answer: those given where the table is accepted or late; else none, since the
-- rule was not applied.
unfoldable pub looks_after : Answer → (given : ℕ) → ℕ
looks_after (Ok s) given = given
looks_after (Err r) given = cond (eqb r.number 9) given 0

-- The full outcome of planning: the answer, the looks, and every entry of both lent areas.
pub record Planned (n : ℕ) (rows : List Row) (plan arrivals : List ℕ) (reply : Reply)
    (plan' arrivals' : List ℕ) : Type 0 where
  pub answers : reply.answer ≡ the_answer n rows (length plan) (length arrivals)
  pub looked : reply.looks ≡ looks_after reply.answer (the_looks n rows)
  pub fills_plan : plan' ≡ area_after reply.answer (the_plan n rows) plan
  pub fills_arrivals : arrivals' ≡ area_after reply.answer (the_arrivals n rows) arrivals

-- A legal schedule, by any rule, of N entries for each slot below the largest due slot, that brings every row of the
-- table there in time.
abbrev pub ScheduleOf : ℕ → List Row → List ℕ → Type 0
ScheduleOf n rows = RowSchedule (freight_of n rows) (last_due rows)

-- A well-formed table with room for its plan and its arrivals: refusals 1 to 8, 10 and 11 do not hold of it.
pub record Plannable (n : ℕ) (rows : List Row) (plan arrivals : List ℕ) : Type 0 where
  pub well_formed : WellFormed n rows
  pub room_for_plan : plan_room n rows ≤ length plan
  pub room_for_arrivals : length rows ≤ length arrivals
