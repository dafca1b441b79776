-- What the looks of a plan come to, and that they are never more than was said in advance.
--     accepted_looks      an accepted table's looks are the sum of all its cells' delivery instants
--     late_looks          a late one's are the undelivered cells at each instant up to and with the one that is named
--     never_above         no plan takes more looks than was said in advance
--     most_fits           that is at most 1,049,600
--     loaded_looks        of more than 512 rows none is looked at: what is said of those given is said of those lent
-- Assumes nothing.
use mathlib.Core.Path.{◌≡◌, refl, ◌∙◌, ap}
use Prim.Native.Nat.{ℕ, suc, ◌*◌, ◌≤◌, ◌<◌}
use native.Mathlib.Nat.{mul-le-mul}
use native.Mathlib.Omega.{arith}
use mathlib.Core.Bool.{Bool, true, false, cond}
use mathlib.Core.List.{List}
use borrow.Author.Tests.{eqb-true}
use lib.Dec.{eqb}
use lib.ListN.{length}
use Rattle.std.specs.Prelude.{Ok, Err}
use Rattle.lists.specs.Lists.{total}
use Rattle.table.specs.declared.Row.{Row}
use Rattle.table.specs.declared.Refusal.{Refusal}
use Rattle.table.specs.Table.{Verdict, judge, refuse, cells_in, last_due}
use Rattle.table.proofs.Whole.{sound, loaded_as}
use Rattle.slack.specs.Slack.{Traffic, arrivals_of}
use Rattle.cells.specs.Rows.{Freight, cell_links}
use Rattle.cells.specs.Cells.{cell_traffic, row_stop, end_by}
use Rattle.cells.specs.Looks.{looks_to, looks_of, row_looks}
use Rattle.cells.proofs.Looking.{looks_are_instants, looks_bounded}
use Rattle.best.proofs.Best.{cell_dues_lem}
use Rattle.best.proofs.Order.{links_long}
use Rattle.planner.specs.declared.Reply.{Reply}
use Rattle.planner.specs.Planner.{Answer, freight_of, ending, the_looks, number_of, looks_after, Planned, Plannable}
use Rattle.planner.proofs.Good.{soon, table_laden}
use Rattle.planner.proofs.Promises.{due_in_time, accepted_then, accepted_with, late_at}
use Rattle.planner.proofs.Seen.{accepted_is_plannable, late_is_plannable}
use Rattle.looks.specs.Looks.{if_good, most_looks}

-- What is said in advance of the rows that were given for those of a table is said of the table's own.
pub loaded_looks : (n : ℕ) (given lent : List Row) {r : ℕ}
    → (length lent ≤ 512 → given ≡ lent) → (512 < length lent → 512 < length given)
    → r ≡ most_looks n given → r ≡ most_looks n lent
unfolding most_looks if_good
loaded_looks n given lent {r} few many =
    loaded_as n (λ xs. r ≡ most_looks n xs) (λ x mine yours g l e. e ∙ rw (g, l)) given lent few many

module _ {n : ℕ} {rows : List Row} {plan arrivals plan' arrivals' : List ℕ} {r : Reply}
    (out : Planned n rows plan arrivals r plan' arrivals') where
  abbrev F : Freight
  F = freight_of n rows

  -- the traffic of its cells, and where each is at instant 0
  abbrev T : Traffic
  T = cell_traffic F

  abbrev start : List ℕ
  start = cell_links F

  -- An accepted table's looks are the sum of all its cells' delivery instants.
  pub accepted_looks : number_of r.answer ≡ 0 → r.looks ≡ total (arrivals_of T start (last_due rows))
  unfolding the_looks row_looks looks_after
  accepted_looks e =
      let k = accepted_is_plannable out e in
      let well = k.well_formed in
      let in_time = cell_dues_lem {F = F} {slots = last_due rows} (table_laden n rows well) (due_in_time n rows well) in
      out.looked ∙ ap (λ a. looks_after a (the_looks n rows)) (accepted_with k out e)
      ∙ looks_are_instants T start (last_due rows) in_time (accepted_then k out e)

  -- A late one's are the undelivered cells at each instant up to and with the one that is named.
  pub late_looks : (row t : ℕ) → r.answer ≡ Err (refuse 9 row t) → r.looks ≡ looks_to T start (suc t)
  unfolding the_looks row_looks looks_of ending row_stop end_by looks_after number_of
  late_looks row t e =
      let k = late_is_plannable out (ap number_of e) in
      out.looked ∙ ap (λ a. looks_after a (the_looks n rows)) e
      ∙ ap (λ s. looks_to T start (suc s)) (late_at k out row t e).1

  bounded : Plannable n rows plan arrivals → the_looks n rows ≤ most_looks n rows
  unfolding the_looks row_looks most_looks if_good cells_in
  bounded k = rw k.well_formed (rw (links_long F) at (looks_bounded T start (last_due rows)))

  -- No plan takes more looks than was said in advance.
  pub never_above : r.looks ≤ most_looks n rows
  unfolding looks_after number_of
  never_above = rw out.looked (go r.answer refl)
    where
      late : (x : Refusal) → r.answer ≡ Err x → (b : Bool) → eqb x.number 9 ≡ b
          → cond b (the_looks n rows) 0 ≤ most_looks n rows
      late x e true f = bounded (late_is_plannable out (ap number_of e ∙ eqb-true x.number 9 f))
      late x e false f = omega arith

      go : (a : Answer) → r.answer ≡ a → looks_after a (the_looks n rows) ≤ most_looks n rows
      go (Ok s) e = bounded (accepted_is_plannable out (ap number_of e))
      go (Err x) e = late x e (eqb x.number 9) refl

-- 1,024 cells at 1,025 instants: far below 2 ^ 32.
pub most_fits : (n : ℕ) (rows : List Row) → most_looks n rows ≤ 1049600
unfolding most_looks if_good last_due
most_fits n rows = go (judge n rows) refl
  where
    go : (v : Verdict) → judge n rows ≡ v → if_good v (cells_in rows * suc (last_due rows)) ≤ 1049600
    go (Ok tt) e =
        let last : suc (last_due rows) ≤ 1025 = omega (arith, soon n rows e) in
        omega (arith, mul-le-mul (sound n rows e).cells last)
    go (Err r) e = omega arith
