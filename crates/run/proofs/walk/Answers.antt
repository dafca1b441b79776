-- `run::walk` meets its contract: the outer loop keeps what holds where an instant begins, the inner one that no row
-- before i is late.
-- Assumes nothing.
use mathlib.Core.Path.{◌≡◌, ◌∙◌, sym, refl}
use mathlib.Core.Bool.{true, ◌&&◌}
use mathlib.Core.List.{List}
use Prim.Native.Nat.{ℕ, ◌≤◌, ◌<◌}
use native.Mathlib.Omega.{arith}
use lib.Dec.{ltb}
use lib.IntN.{ℤ, pos}
use lib.Signed.{lt_z}
use lib.ListN.{length, get_or}
use Rattle.slack.specs.declared.Cell.{Cell}
use Rattle.slack.specs.Slack.{Traffic, owners_in, traffic_in, is_late, under_way, slack_of, slack, any_under_way}
use Rattle.slack.proofs.Cells.{no_cell, due_at, owners_long}
use Rattle.run.proofs.Walking.{Sought, seek, seek_on, found, not_found}
use Rattle.run.proofs.Walking.{Going, begin, over, is_late_lem, on_ring}
use Rattle.run.proofs.Walking.{Planning, has_room, each_owned, can_plan, again}
use Rattle.run.proofs.walk.Goals as goal

-- There are as many cells as links to go.
as_many : {T : Traffic} {start plan₀ arrivals₀ : List ℕ} {t late : ℕ}
    {left : List ℕ} {figures : List ℤ} {plan arrivals : List ℕ} (cells : List Cell)
    → Going T (owners_in cells) start plan₀ arrivals₀ t late left figures plan arrivals → length cells ≡ length left
as_many cells going = sym (owners_long cells) ∙ going.ready.owned ∙ sym going.left_long

-- A cell is late as the definition says.
late_is : (n : ℕ) (cells : List Cell) (t : ℕ) (left : List ℕ) (i : ℕ) → is_late (traffic_in n cells) t left i
    ≡ (ltb 0 (get_or left i 0) && lt_z (slack_of (get_or cells i no_cell).due.0 t (get_or left i 0)) (pos 0))
unfolding is_late under_way slack
late_is n cells t left i = rw (due_at cells i)

-- All cells were looked at and none is late: the slot is to be planned.
planning : {n : ℕ} {start plan₀ arrivals₀ : List ℕ} {t late : ℕ}
    {left : List ℕ} {figures : List ℤ} {plan arrivals : List ℕ} (cells : List Cell)
    → Going (traffic_in n cells) (owners_in cells) start plan₀ arrivals₀ t late left figures plan arrivals
    → any_under_way left ≡ true → (i : ℕ) → length cells ≤ i → Sought (traffic_in n cells) t left i
    → Planning (traffic_in n cells) (owners_in cells) start plan₀ arrivals₀ t late left figures plan arrivals
planning {n} {t} {left} cells going busy i all sought =
    record {
      going = going;
      busy = busy;
      on_time = not_found (traffic_in n cells) t left i (omega (arith, as_many cells going)) sought;
    }

pub instants-init : goal.instants-init
instants-init c = begin c.requires.0 c.requires.1

pub loop-i-init : goal.loop-i-init
loop-i-init c = (refl, seek _ c.instants.t c.instants.left)

pub bounds-left-i : goal.bounds-left-i
bounds-left-i c = omega (arith, as_many c.args.cargo.cells.now c.instants.invariant)

pub loop-i-preserved : goal.loop-i-preserved
loop-i-preserved c =
    let a = c.args in
    let o = c.instants in
    let l = c.loop-i in
    let inside : l.i < length o.left = omega (arith, as_many a.cargo.cells.now o.invariant) in
    let in_time = late_is a.cargo.nodes a.cargo.cells.now o.t o.left l.i ∙ sym c.is_late.ensures ∙ c.if-is_late.false in
    (l.invariant.0, seek_on _ o.t o.left l.i inside in_time l.invariant.1)

pub slice_bounds-plan_slot_in_rows-end : goal.slice_bounds-plan_slot_in_rows-end
slice_bounds-plan_slot_in_rows-end c =
    has_room
    (planning c.args.cargo.cells.now c.instants.invariant (sym c.any_under_way.ensures ∙ c.instants-test.true)
    c.loop-i.i (omega arith) c.loop-i.invariant.1)

pub plan_slot_in_rows-requires : goal.plan_slot_in_rows-requires
plan_slot_in_rows-requires c =
    let k =
    planning c.args.cargo.cells.now c.instants.invariant (sym c.any_under_way.ensures ∙ c.instants-test.true)
    c.loop-i.i (omega arith) c.loop-i.invariant.1 in
    (can_plan k, each_owned k)

pub instants-preserved : goal.instants-preserved
instants-preserved c =
    let k =
    planning c.args.cargo.cells.now c.instants.invariant (sym c.any_under_way.ensures ∙ c.instants-test.true)
    c.loop-i.i (omega arith) c.loop-i.invariant.1 in
    let (cells, told, planned) = c.plan_slot_in_rows.ensures in
    again k c.loop-i.invariant.0 told (planned _ (on_ring k.going) k.going.figured)

pub returns-after-instants : goal.returns-after-instants
returns-after-instants c = over c.instants.invariant (sym c.any_under_way.ensures ∙ c.instants-test.false)

pub returns-then-is_late : goal.returns-then-is_late
returns-then-is_late c =
    let a = c.args in
    let o = c.instants in
    let l = c.loop-i in
    let inside : l.i < length o.left = omega (arith, as_many a.cargo.cells.now o.invariant) in
    let late = late_is a.cargo.nodes a.cargo.cells.now o.t o.left l.i ∙ sym c.is_late.ensures ∙ c.if-is_late.true in
    is_late_lem o.invariant l.i (found _ o.t o.left l.i inside late l.invariant.1)
