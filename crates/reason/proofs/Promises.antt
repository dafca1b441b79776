-- What follows of every outcome that fits the promise of `why_late`.
--     refused_iff_jam         planning with room gives 9 exactly when there is a jam
--     none_has_fewer          no overfull link, before any slot, has fewer cells
--     members_are_cells       the cells marked are as many as said, and more than the slots before
--     marked_rows_late        every table on this ring that has the marked rows among its rows is late
--     never_nine              9 is never given
-- Two outcomes that fit the promise are equal: `one_reason` (in `Saying.antt`).
-- Assumes nothing.
use mathlib.Core.Path.{◌≡◌, refl, ◌∙◌, ap, sym}
use mathlib.Core.Logic.{◌↔◌}
use Prim.Native.Nat.{ℕ, ◌<◌, ◌≤◌}
use native.Mathlib.Omega.{arith}
use mathlib.Core.Bool.{Bool, true, false, cond}
use mathlib.Core.List.{List, ◌++◌}
use borrow.Author.Tests.{ltb-true}
use lib.Dec.{ltb}
use lib.ListN.{length, take, drop}
use lib.Seq.{take_at}
use Rattle.std.proofs.Common.{Some, Ok, Err, IsSomeAnd}
use Rattle.lists.specs.Lists.{total}
use Rattle.lists.proofs.Build.{length-build}
use Rattle.table.specs.declared.Row.{Row}
use Rattle.table.specs.declared.Refusal.{Refusal}
use Rattle.table.specs.Table.{Verdict, WellFormed, judge, refuse, last_due}
use Rattle.table.proofs.Whole.{table_early}
use Rattle.cells.specs.Rows.{Freight, cell_links}
use Rattle.cells.specs.Cells.{cell_traffic}
use Rattle.best.proofs.Order.{laid_on_ring}
use Rattle.best.proofs.Best.{cell_dues_lem}
use Rattle.planner.specs.declared.Reply.{Reply}
use Rattle.planner.specs.Planner.{freight_of, number_of, Planned, ScheduleOf, Plannable}
use Rattle.cells.proofs.Laying.{lengths_long}
use Rattle.planner.proofs.Good.{table_laden}
use Rattle.planner.proofs.Promises.{due_in_time, late_iff_no_schedule}
use Rattle.jam.specs.declared.Jam.{Jam}
use Rattle.jam.specs.Jam.{crossing, overfull}
use Rattle.jam.specs.Members.{row_jam, of_row, members_of}
use Rattle.jam.proofs.Search.{Found, HasCells, jam_found}
use Rattle.jam.proofs.Links.{fewest}
use Rattle.jam.proofs.Rows.{late_iff_jam, members_sum}
use Rattle.jam.proofs.Alone.{Among, members_late}
use Rattle.reason.specs.Reason.{Reason, jam_of, after_verdict, the_reason, members_after, Reasoned}

-- Planning with room gives 9 exactly when the table has a jam.
pub refused_iff_jam : {n : ℕ} {rows : List Row} {plan arrivals plan' arrivals' : List ℕ} {r : Reply}
    → Plannable n rows plan arrivals → Planned n rows plan arrivals r plan' arrivals'
    → (number_of r.answer ≡ 9) ↔ HasCells (jam_of n rows)
unfolding jam_of
refused_iff_jam {n} {rows} k out =
    let well = k.well_formed in
    let jammed = late_iff_jam {F = freight_of n rows} {slots = last_due rows} (table_laden n rows well)
    (due_in_time n rows well) in
    let late = late_iff_no_schedule k out in
    (λ e. jammed.0 (late.0 e), λ found. late.1 (jammed.1 found))

module _ (n : ℕ) (rows : List Row) (well : WellFormed n rows) where
  abbrev F : Freight
  F = freight_of n rows

  its_jam : {jam : Jam} → jam_of n rows ≡ Some jam → Found (cell_traffic F) (cell_links F) (last_due rows) jam
  unfolding jam_of row_jam
  its_jam = jam_found (cell_traffic F) (cell_links F) (last_due rows)

  -- No overfull link of a well-formed table, before any slot, has fewer cells than its jam.
  pub none_has_fewer : (p b : ℕ) → p < n → overfull (cell_traffic F) (cell_links F) p b ≡ true
      → IsSomeAnd (jam_of n rows) (λ best. (0 < best.cells) × (best.cells ≤ crossing (cell_traffic F) (cell_links F) p b))
  unfolding jam_of row_jam
  none_has_fewer p b inside over =
      fewest (laid_on_ring F (table_laden n rows well))
      (cell_dues_lem {F = F} {slots = last_due rows} (table_laden n rows well) (due_in_time n rows well))
      p b (unfold cell_traffic in inside) over

-- A table is said to be jammed only where it is well-formed, has an entry for each row, and a jam.
record Told (n : ℕ) (rows : List Row) (jam : Jam) : Type 0 where
  well_formed : WellFormed n rows
  is : jam_of n rows ≡ Some jam

jam_told : {n : ℕ} {rows : List Row} {members members' : List ℕ} {jam : Jam} {r : Reason}
    → Reasoned n rows members r members' → r ≡ Ok (Some jam) → Told n rows jam
unfolding the_reason after_verdict
jam_told {n} {rows} {members} {members'} {jam} {r} out e =
    by_verdict (judge n rows) refl (ltb (length members) (length rows)) (sym out.answers ∙ e)
  where
    by_verdict : (v : Verdict) → judge n rows ≡ v → (a : Bool)
        → ◌≡◌ {A = Reason} (after_verdict v (cond a (Err (refuse 8 0 0)) (Ok (jam_of n rows)))) (Ok (Some jam))
        → Told n rows jam
    by_verdict (Err x) f a h = absurd cc
    by_verdict (Ok tt) f true h = absurd cc
    by_verdict (Ok tt) f false h = record { well_formed = f; is = cc }

module _ {n : ℕ} {rows : List Row} {members members' : List ℕ} {r : Reason} {jam : Jam}
    (out : Reasoned n rows members r members') (is : r ≡ Ok (Some jam)) where
  told : Told n rows jam
  told = jam_told out is

  overfull_there : Found (cell_traffic (freight_of n rows)) (cell_links (freight_of n rows)) (last_due rows) jam
  overfull_there = its_jam n rows told.well_formed told.is

  -- The cells marked are as many as said, and more than the slots before.
  pub members_are_cells : (total (take (length rows) members') ≡ jam.cells) × (jam.before.0 < jam.cells)
  unfolding members_after members_of overfull
  members_are_cells =
      let F = freight_of n rows in
      let marks = members_of F jam.link.0 jam.before.0 in
      let long : length marks ≡ length rows = length-build (length F.len) (of_row F jam.link.0 jam.before.0)
      ∙ lengths_long rows in
      let filled : members' ≡ marks ++ drop (length rows) members = out.fills ∙ rw is in
      let front : take (length rows) members' ≡ marks
      = ap (take (length rows)) filled ∙ take_at marks (drop (length rows) members) (length rows) long in
      let counted : total marks ≡ jam.cells
      = members_sum F jam.link.0 jam.before.0 ∙ sym overfull_there.cells_are in
      let there = crossing (cell_traffic F) (cell_links F) jam.link.0 jam.before.0 in
      let more = ltb-true jam.before.0 there overfull_there.too_many in
      (ap total front ∙ counted, omega (arith, overfull_there.cells_are, more))

  -- Every table on this ring that has the marked rows among its rows, whatever else it has or lacks, has no schedule.
  pub marked_rows_late : (rows₂ : List Row) (at : ℕ → ℕ) → WellFormed n rows₂
      → Among (freight_of n rows) jam.link.0 jam.before.0 (freight_of n rows₂) at
      → (s : List ℕ) → ScheduleOf n rows₂ s → ⊥
  marked_rows_late rows₂ at well among =
      members_late among overfull_there.too_many (unfold cell_traffic in overfull_there.link_inside)
      {slots = last_due rows₂} (table_laden n rows₂ well) (due_in_time n rows₂ well)

-- 9 is never given: late is what the answer is about, not a refusal of it.
pub never_nine : {n : ℕ} {rows : List Row} {members members' : List ℕ} {r : Reason} {x : Refusal}
    → Reasoned n rows members r members' → r ≡ Err x → x.number ≡ 9 → ⊥
unfolding the_reason after_verdict
never_nine {n} {rows} {members} {members'} {r} {x} out e z =
    by_verdict (judge n rows) refl (ltb (length members) (length rows)) (sym out.answers ∙ e)
  where
    by_verdict : (v : Verdict) → judge n rows ≡ v → (a : Bool)
        → ◌≡◌ {A = Reason} (after_verdict v (cond a (Err (refuse 8 0 0)) (Ok (jam_of n rows)))) (Err x) → ⊥
    by_verdict (Err y) f a h = let same : y ≡ x = cc in table_early n rows x (f ∙ ap Err same) z
    by_verdict (Ok tt) f true h = let number : 8 ≡ x.number = cc in omega arith
    by_verdict (Ok tt) f false h = absurd cc
