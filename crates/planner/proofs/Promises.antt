-- What follows of every outcome that fits the promise of `plan`. These are the theorems that docs/promises.md names.
--     one_outcome                    two outcomes that fit the promise are equal
--     late_iff_no_schedule           a plannable table is refused as late exactly when no legal schedule meets it
--     accepted_plan_is_a_schedule    an accepted table's plan is such a schedule
--     late_names_the_first           refusal 9 names the first instant with a late row, and its lowest such row
--     sends_are_entries              the sends are the sum of all cells' distances, and so many entries name a row
--     last_above_zero                a table with a row has its last delivery after instant 0: no share is divided by 0
-- Assumes nothing.
use mathlib.Core.Path.{◌≡◌, refl, ◌∙◌, ap, sym}
use mathlib.Core.Logic.{◌↔◌}
use Prim.Native.Nat.{ℕ, zero, suc, ◌-◌, ◌≤◌, ◌<◌}
use native.Mathlib.Omega.{arith}
use native.Mathlib.Nat.{mul_comm}
use mathlib.Core.Bool.{cond}
use mathlib.Core.List.{List, ◌++◌}
use borrow.Author.Tests.{ne_eqb}
use lib.Dec.{eqb, eqb-suc-zero}
use lib.ListN.{length, get_or, take, drop, get_or-map}
use lib.Seq.{take_at}
use Rattle.std.specs.Prelude.{Ok, Err}
use Rattle.lists.specs.Lists.{largest}
use Rattle.lists.proofs.Truth.{differ}
use Rattle.lists.proofs.Figures.{at_most_largest}
use Rattle.table.specs.declared.Row.{Row}
use Rattle.table.specs.declared.Refusal.{Refusal}
use Rattle.table.specs.Table.{WellFormed, refuse, lengths, dues, distances, sends_of, last_due}
use Rattle.table.specs.Steps.{none}
use Rattle.table.proofs.Judging.{good_rows}
use Rattle.table.proofs.Whole.{sound}
use Rattle.slack.specs.declared.Stop.{Stop}
use Rattle.slack.specs.Slack.{Traffic, state_at, delivered_from, late_row, stop_of}
use Rattle.slack.proofs.Rule.{late_none, state_length}
use Rattle.slack.proofs.Ending.{stop_first}
use Rattle.optimal.specs.Schedule.{busy}
use Rattle.optimal.proofs.Deliveries.{First, delivered_first}
use Rattle.cells.specs.Rows.{Freight, owners, cell_links}
use Rattle.cells.specs.Cells.{cell_traffic, owner_of, row_plan, end_by, row_stop, RowLate}
use Rattle.cells.specs.Steps.{Laden}
use Rattle.cells.proofs.Laying.{lengths_long}
use Rattle.best.proofs.Best.{row_plan_long, cell_dues_lem, told_is_schedule, rows_late_iff_none}
use Rattle.best.proofs.Order.{links_long, links_at}
use Rattle.best.proofs.Named.{late_names_lowest, row_stop_none}
use Rattle.best.proofs.Planning.{told_sends}
use Rattle.best.proofs.Arriving.{last, last_is, arrival_is}
use Rattle.planner.specs.declared.Reply.{Reply}
use Rattle.planner.specs.Planner.{Answer, freight_of, plan_room, ending, the_plan, the_arrivals, the_summary, number_of, the_looks, looks_after, area_after, Planned, ScheduleOf, Plannable}
use Rattle.planner.proofs.Good.{table_laden, table_cells, under_way_lem}
use Rattle.planner.proofs.Judged.{plannable_answer}
use Rattle.planner.proofs.Crossed.{sends_of_cells}

abbrev reply : Answer → ℕ → Reply
reply answer looks = record { answer = answer; looks = looks }

replied : (r₁ r₂ : Reply) → r₁.answer ≡ r₂.answer → r₁.looks ≡ r₂.looks → r₁ ≡ r₂
replied r₁ r₂ answers looks = ap (λ a. reply a r₁.looks) answers ∙ ap (λ (l : ℕ). reply r₂.answer l) looks

-- Two outcomes that fit the promise are equal: the answer, the looks, and every entry of both areas.
pub one_outcome : {n : ℕ} {rows : List Row} {plan arrivals plan₁ arrivals₁ plan₂ arrivals₂ : List ℕ} {r₁ r₂ : Reply}
    → Planned n rows plan arrivals r₁ plan₁ arrivals₁ → Planned n rows plan arrivals r₂ plan₂ arrivals₂
    → (r₁ ≡ r₂) × (plan₁ ≡ plan₂) × (arrivals₁ ≡ arrivals₂)
one_outcome {n} {rows} {plan} {arrivals} {r₁} {r₂} a b =
    let same = a.answers ∙ sym b.answers in
    let looks = a.looked ∙ ap (λ r. looks_after r (the_looks n rows)) same ∙ sym b.looked in (
      replied r₁ r₂ same looks,
      a.fills_plan ∙ ap (λ r. area_after r (the_plan n rows) plan) same ∙ sym b.fills_plan,
      a.fills_arrivals ∙ ap (λ r. area_after r (the_arrivals n rows) arrivals) same ∙ sym b.fills_arrivals,
    )

-- No row is due after the largest due slot.
module _ (n : ℕ) (rows : List Row) (well : WellFormed n rows) where
  pub due_in_time : (i : ℕ) → i < length (lengths rows) → get_or (dues rows) i 0 ≤ last_due rows
  unfolding last_due
  due_in_time i h = at_most_largest (dues rows) i

module _ {n : ℕ} {rows : List Row} {plan arrivals plan' arrivals' : List ℕ} {r : Reply}
    (k : Plannable n rows plan arrivals) (out : Planned n rows plan arrivals r plan' arrivals') where
  abbrev F : Freight
  F = freight_of n rows

  abbrev slots : ℕ
  slots = last_due rows

  -- the traffic of its cells, and where each is at instant 0
  abbrev T : Traffic
  T = cell_traffic F

  abbrev start : List ℕ
  start = cell_links F

  loaded : Laden F
  loaded = table_laden n rows k.well_formed

  in_time : (i : ℕ) → i < length (lengths rows) → get_or (dues rows) i 0 ≤ slots
  in_time = due_in_time n rows k.well_formed

  -- what is left to decide is how the run ends
  pub decided : r.answer
      ≡ cond (eqb (ending n rows).row 0) (Ok (the_summary n rows))
      (Err (refuse 9 (ending n rows).row (ending n rows).slot.0))
  decided = out.answers ∙ plannable_answer k

  no_row_late : number_of r.answer ≡ 0 → (ending n rows).row ≡ 0
  unfolding number_of
  no_row_late e = go (ending n rows).row refl (ap number_of (sym decided) ∙ e)
    where
      late : ℕ → Answer
      late row = Err (refuse 9 row (ending n rows).slot.0)

      go : (row : ℕ) → (ending n rows).row ≡ row
          → number_of (cond (eqb row 0) (Ok (the_summary n rows)) (late row)) ≡ 0 → (ending n rows).row ≡ 0
      go zero f z = f
      go (suc row) f z = let never : ◌≡◌ {A = ℕ} 9 0 = rw (eqb-suc-zero row) at z in absurd (omega arith)

  -- No cell of an accepted table is late.
  pub accepted_then : number_of r.answer ≡ 0 → (stop_of T start slots).row ≡ 0
  unfolding ending
  accepted_then e = (row_stop_none F slots).0 (no_row_late e)

  late_row_lem : number_of r.answer ≡ 9 → (ending n rows).row ≡ 0 → ⊥
  unfolding number_of
  late_row_lem e on_time =
      let z : ◌≡◌ {A = ℕ} 0 9 = sym (ap number_of decided ∙ rw on_time) ∙ e in
      omega arith

  late_then : number_of r.answer ≡ 9 → (stop_of T start slots).row ≡ 0 → ⊥
  unfolding ending
  late_then e on_time = late_row_lem e ((row_stop_none F slots).1 on_time)

  then_late : ((stop_of T start slots).row ≡ 0 → ⊥) → number_of r.answer ≡ 9
  unfolding number_of ending
  then_late is_late_lem =
      ap number_of decided ∙ rw (ne_eqb (row_stop F slots).row 0 (λ z. is_late_lem ((row_stop_none F slots).0 z)))

  -- Demand 3: refused as late exactly when no legal schedule, by any rule, meets the table.
  pub late_iff_no_schedule : (number_of r.answer ≡ 9) ↔ ((s : List ℕ) → ScheduleOf n rows s → ⊥)
  late_iff_no_schedule =
      let best = rows_late_iff_none {F = F} {slots = slots} loaded in_time in
      (λ e. best.0 (late_then e), λ none. then_late (best.1 none))

  -- An acceptance carries the table's summary.
  pub accepted_with : number_of r.answer ≡ 0 → r.answer ≡ Ok (the_summary n rows)
  accepted_with e = decided ∙ rw (no_row_late e)

  -- The used entries of an accepted plan are the rule's plan, told in rows.
  pub the_plan_is : number_of r.answer ≡ 0 → take (plan_room n rows) plan' ≡ row_plan F slots
  unfolding area_after the_plan
  the_plan_is e =
      let its_plan = row_plan F slots in
      let filled : plan' ≡ its_plan ++ drop (length its_plan) plan = out.fills_plan ∙ rw (accepted_with e) in
      let long : length its_plan ≡ plan_room n rows = row_plan_long loaded slots ∙ mul_comm slots n in
      ap (take (plan_room n rows)) filled ∙ take_at its_plan _ (plan_room n rows) long

  -- An accepted table's plan is itself such a schedule.
  pub accepted_plan_is_a_schedule : number_of r.answer ≡ 0 → ScheduleOf n rows (take (plan_room n rows) plan')
  accepted_plan_is_a_schedule e =
      rw (the_plan_is e) (told_is_schedule {F = F} {slots = slots} loaded in_time (accepted_then e))

  -- The sends are the sum of the distances of all cells, and just as many entries of an accepted plan name a row.
  pub sends_are_entries : number_of r.answer ≡ 0 → busy (take (plan_room n rows) plan') ≡ sends_of n rows
  sends_are_entries e =
      rw (the_plan_is e, sends_of_cells n rows)
      (told_sends F loaded slots (cell_dues_lem {F = F} {slots = slots} loaded in_time) (accepted_then e))

  -- Refusal 9 names where the rule's run ends, and with which row.
  pub late_at : (row t : ℕ) → r.answer ≡ Err (refuse 9 row t)
      → ((ending n rows).row ≡ row) × ((ending n rows).slot.0 ≡ t)
  unfolding number_of
  late_at row t e =
      let is_late_lem : (ending n rows).row ≡ 0 → ⊥ = late_row_lem (ap number_of e) in
      let refused : r.answer ≡ Err (refuse 9 (ending n rows).row (ending n rows).slot.0)
      = decided ∙ rw (ne_eqb (ending n rows).row 0 is_late_lem) in
      let named : refuse 9 (ending n rows).row (ending n rows).slot.0 ≡ refuse 9 row t = inside (sym refused ∙ e) in
      (ap (λ x. x.row) named, ap (λ x. x.slot.0) named)
    where
      inside : {x y : Refusal} → ◌≡◌ {A = Answer} (Err x) (Err y) → x ≡ y
      inside f = cc

  -- Refusal 9 names the first instant at which a row is late, and the lowest row that is late then.
  pub late_names_the_first : (row t : ℕ) → r.answer ≡ Err (refuse 9 row t)
      → ((u i : ℕ) → u < t → RowLate F u (state_at T start u) i → ⊥)
      × ((i : ℕ) × (row ≡ suc i) × (i < length rows) × RowLate F t (state_at T start t) i
      × ((j : ℕ) → j < i → RowLate F t (state_at T start t) j → ⊥))
  unfolding ending number_of row_stop end_by owner_of RowLate
  late_names_the_first row t e =
      let ends = stop_first T start slots in
      let same_row : owner_of (owners F) stop.row ≡ row = (late_at row t e).0 in
      let same_slot : stop.slot.0 ≡ t = (late_at row t e).1 in (
        λ u i l. never u i (ends.none_late_before u (omega arith)),
        lowest stop.row (rw same_slot at ends.row_is) (late_then (ap number_of e)) same_row,
      )
    where
      stop : Stop
      stop = stop_of T start slots

      never : (u i : ℕ) → late_row T u (state_at T start u) ≡ 0 → RowLate F u (state_at T start u) i → ⊥
      never u i z (c, known, of_row, late) = differ (sym (late_none T u (state_at T start u) z c known) ∙ late)

      lowest : (cell : ℕ) → cell ≡ late_row T t (state_at T start t) → (cell ≡ 0 → ⊥)
          → owner_of (owners F) cell ≡ row
          → (i : ℕ) × (row ≡ suc i) × (i < length rows) × RowLate F t (state_at T start t) i
          × ((j : ℕ) → j < i → RowLate F t (state_at T start t) j → ⊥)
      lowest zero f some o = absurd (some refl)
      lowest (suc c) f some o =
          let long = state_length T start t ∙ links_long F in
          let (i, is, known, late, least) = late_names_lowest F t (state_at T start t) long c (sym f) in
          (i, sym o ∙ is, omega (arith, lengths_long rows), late, least)

first_due : (rows : List Row) → get_or (dues rows) 0 0 ≡ (get_or rows 0 none).due
unfolding dues
first_due rows = get_or-map (λ r. r.due) rows 0 none

-- A row under way at instant 0 is delivered later.
not_at_once : (T : Traffic) (start : List ℕ) (i slots : ℕ) → 0 < get_or start i 0 → 0 < slots
    → 0 < delivered_from T start i slots 0
unfolding state_at
not_at_once T start i slots some h = go (delivered_from T start i slots 0) (delivered_first T start i slots 0)
  where
    go : (d : ℕ) → First T start i slots 0 d → 0 < d
    go zero first = absurd (omega (arith, first.there (omega arith)))
    go (suc d) first = omega arith

-- The last delivery of a well-formed table that has a row is after instant 0: the used share divides by no 0.
pub last_above_zero : (n : ℕ) (rows : List Row) → WellFormed n rows → 0 < length rows → 0 < largest (the_arrivals n rows)
unfolding the_arrivals last_due
last_above_zero n rows well some =
    let later = not_at_once (cell_traffic F) (cell_links F) (last F laden' 0 known cell) (last_due rows) going due_later in
    omega (arith, at_most_largest (the_arrivals n rows) 0, arrival_is F laden' 0 known cell (last_due rows), later)
  where
    F : Freight
    F = freight_of n rows

    laden' : Laden F
    laden' = table_laden n rows well

    known : 0 < length (lengths rows)
    known = omega (arith, lengths_long rows)

    cell : 0 < get_or (lengths rows) 0 0
    cell = table_cells n rows well 0 known

    links : 0 < get_or (distances n rows) 0 0
    links = under_way_lem n rows well 0 some

    going : 0 < get_or (cell_links F) (last F laden' 0 known cell) 0
    going =
        rw (last_is F laden' 0 known cell, links_at F 0 (get_or (lengths rows) 0 0 - 1) known (omega (arith, cell))) links

    due_later : 0 < last_due rows
    due_later =
        let good = good_rows n rows 0 (sound n rows well).each 0 some in
        omega (arith, good.due_some, first_due rows, at_most_largest (dues rows) 0)
