-- The walk over the instants: what holds where an instant begins, that a turn keeps it, and what it says where the
-- walk is left.
--     Sought                   the search for the lowest late row, row by row
--     Going, begin, again      what holds where an instant begins, from the first on
--     Planning                 what holds where its slot is to be planned
--     over, is_late_lem            what the walk gives, at either end
-- Assumes nothing.
use mathlib.Core.Path.{◌≡◌, refl, ◌∙◌, ap, sym}
use mathlib.Core.Bool.{true, false, cond, ◌&&◌, and-false}
use Prim.Native.Nat.{ℕ, zero, suc, ◌+◌, ◌-◌, ◌*◌, ◌≤◌, ◌<◌}
use native.Mathlib.Nat.{mul-le-mul_right}
use native.Mathlib.Numerals.{add-one}
use native.Mathlib.Omega.{arith}
use borrow.Author.Tests.{ne_eqb}
use borrow.Rule.Slice.PartMut.{put_mid, same_len_mid}
use mathlib.Core.List.{List, ◌++◌, append_assoc}
use lib.Dec.{eqb}
use lib.IntN.{ℤ}
use lib.ListN.{length, take, drop, length-drop}
use lib.Seq.{take_at, drop_at, drop-drop, length-take-le}
use Rattle.lists.specs.Lists.{largest}
use Rattle.lists.proofs.Build.{length-build}
use Rattle.lists.proofs.Figures.{at_most_largest}
use Rattle.slack.specs.Slack.{Traffic, traffic, OnRing, is_late, late_from, late_row, slot_of, moved, state_at, plan_of}
use Rattle.slack.specs.Slack.{any_under_way, stop_from, stop_of}
use Rattle.slack.specs.Figure.{figures_of}
use Rattle.slack.specs.declared.Stop.{Stop}
use Rattle.slack.proofs.Rule.{slot_length, plan_length, state_length, state_on_ring, some_under_way, none_under_way}
use Rattle.slack.proofs.Rule.{late_none, none_late, not_late_then, then_not_late}
use Rattle.slack.proofs.Figures.{figures_long}
use Rattle.slot.specs.Steps.{stamped, Slotted, SlotPlanned, SlotPlannedBy}
use Rattle.cells.specs.Cells.{told_by}
use Rattle.cells.specs.Steps.{AtMost}
use Rattle.cells.proofs.Telling.{told_long, told_joined, slot_at_most}
use Rattle.run.specs.Steps.{stamped_by, Ready, Walked}

-- the search for the lowest late row, one row further on
module _ (T : Traffic) (t : ℕ) (left : List ℕ) where
  -- no row before i is late, so the search from row i on decides
  abbrev pub Sought : ℕ → Type 0
  Sought i = late_row T t left ≡ late_from T t left (length left - i) i

  pub seek : Sought 0
  unfolding late_row
  seek = let e : length left ≡ length left - 0 = omega arith in ap (λ m. late_from T t left m 0) e

  at_row : (i : ℕ) → i < length left → late_from T t left (length left - i) i
      ≡ cond (is_late T t left i) (suc i) (late_from T t left (length left - suc i) (suc i))
  unfolding late_from
  at_row i h = let e : length left - i ≡ suc (length left - suc i) = omega arith in rw e

  pub seek_on : (i : ℕ) → i < length left → is_late T t left i ≡ false → Sought i → Sought (i + 1)
  seek_on i h e s = s ∙ at_row i h ∙ rw (e, add-one)

  pub found : (i : ℕ) → i < length left → is_late T t left i ≡ true → Sought i → late_row T t left ≡ suc i
  found i h e s = s ∙ at_row i h ∙ rw e

  pub not_found : (i : ℕ) → length left ≤ i → Sought i → late_row T t left ≡ 0
  unfolding late_from
  not_found i h s = s ∙ (let e : length left - i ≡ 0 = omega arith in rw e)

-- where a run does not go on, it ends
halts : (T : Traffic) (m t : ℕ) (left : List ℕ) → any_under_way left && eqb (late_row T t left) 0 ≡ false
    → stop_from T m t left ≡ record { row = late_row T t left; slot = record { 0 = t } }
unfolding stop_from
halts T zero t left e = refl
halts T (suc m) t left e = rw e

-- and where it does, it goes on with the state after the slot
runs_on : (T : Traffic) (m t : ℕ) (left : List ℕ) (m' : ℕ)
    → m ≡ suc m' → any_under_way left ≡ true → late_row T t left ≡ 0
    → stop_from T m t left ≡ stop_from T m' (t + 1) (moved T (slot_of T t left) left)
unfolding stop_from
runs_on T m t left m' e busy on_time = rw (e, busy, on_time, add-one)

-- one slot more of a run's states, of its stamps and of its plan
module _ (T : Traffic) (start : List ℕ) (t : ℕ) where
  abbrev left_then : List ℕ
  left_then = state_at T start t

  abbrev slot_then : List ℕ
  slot_then = slot_of T t left_then

  state_more : state_at T start (t + 1) ≡ moved T slot_then left_then
  unfolding state_at
  state_more = rw add-one

  stamps_more : (list : List ℕ) → stamped_by T start list (t + 1) ≡ stamped slot_then (suc t) (stamped_by T start list t)
  unfolding stamped_by
  stamps_more list = rw add-one

  -- the plan after t slots, told in rows, over what the area held
  module _ (owner plan : List ℕ) where
    abbrev plan_then : List ℕ
    plan_then = told_by owner (plan_of T start t) ++ drop (t * T.nodes) plan

    plan_more : put_mid (t * T.nodes) (t * T.nodes + T.nodes - t * T.nodes) plan_then (told_by owner slot_then)
        ≡ told_by owner (plan_of T start (t + 1)) ++ drop ((t + 1) * T.nodes) plan
    unfolding plan_of
    plan_more =
        let k : t * T.nodes + T.nodes - t * T.nodes ≡ T.nodes = omega arith in
        let m : t * T.nodes + T.nodes ≡ (t + 1) * T.nodes = omega arith in
        let front = told_by owner (plan_of T start t) in
        let rest = drop (t * T.nodes) plan in
        let long = told_long owner (plan_of T start t) ∙ plan_length T start t in
        let first = take_at front rest (t * T.nodes) long in
        let behind = drop_at front rest (t * T.nodes) long in
        rw (k, first, behind, drop-drop, m, add-one, told_joined owner (plan_of T start t) slot_then, append_assoc)

stamped-length : (slot : List ℕ) (t : ℕ) (list : List ℕ) → length (stamped slot t list) ≡ length list
unfolding stamped
stamped-length slot t list = length-build (length list) _

-- A slot that was planned can be told: it names no cell that has no owner.
pub can_tell : {n t : ℕ} {dst left slot₀ arrivals : List ℕ} {figures : List ℤ}
    → Slotted n dst t left figures slot₀ arrivals → (owner : List ℕ) → length owner ≡ length left
    → (slot left' arrivals' : List ℕ) (figures' : List ℤ)
    → SlotPlannedBy n dst t left figures arrivals slot left' figures' arrivals' → AtMost (length owner) slot
can_tell {n} {t} {dst} {left} slotted owner owned slot left' arrivals' figures' planned =
    let done = planned slotted.due slotted.ring slotted.figured in
    rw (owned, done.carries) (slot_at_most (traffic n dst slotted.due) t left)

-- the largest due slot
abbrev last : Traffic → ℕ
last T = largest T.due

-- a run that ends with a row at an instant
abbrev ending : (row t : ℕ) → Stop
ending row t = record { row = row; slot = record { 0 = t } }

-- What holds where instant t of a run begins.
pub record Going (T : Traffic) (owner start plan₀ arrivals₀ : List ℕ) (t late : ℕ)
    (left : List ℕ) (figures : List ℤ) (plan arrivals : List ℕ) : Type 0 where
  pub ready : Ready T owner start plan₀ arrivals₀
  pub none_yet : late ≡ 0
  pub state : left ≡ state_at T start t
  pub figured : figures ≡ figures_of T left
  pub carried : plan ≡ told_by owner (plan_of T start t) ++ drop (t * T.nodes) plan₀
  pub stamps : arrivals ≡ stamped_by T start arrivals₀ t
  pub left_long : length left ≡ length start
  pub plan_long : length plan ≡ length plan₀
  pub arrivals_long : length arrivals ≡ length arrivals₀
  pub within : t ≤ last T
  pub ahead : stop_of T start (last T) ≡ stop_from T (last T - t) t left

-- At instant 0 nothing has happened.
pub begin : {T : Traffic} {owner start plan arrivals : List ℕ} {figures : List ℤ}
    → Ready T owner start plan arrivals → figures ≡ figures_of T start
    → Going T owner start plan arrivals 0 0 start figures plan arrivals
unfolding state_at plan_of told_by stamped_by stop_of
begin {T} {owner} {start} ready figured =
    record {
      ready = ready;
      none_yet = refl;
      state = refl;
      figured = figured;
      carried = let e : 0 * T.nodes ≡ 0 = omega arith in rw e;
      stamps = refl;
      left_long = refl;
      plan_long = refl;
      arrivals_long = refl;
      within = omega arith;
      ahead = let e : last T ≡ last T - 0 = omega arith in ap (λ m. stop_from T m 0 start) e;
    }

module _ {T : Traffic} {owner start plan₀ arrivals₀ : List ℕ} {t late : ℕ}
    {left : List ℕ} {figures : List ℤ} {plan arrivals : List ℕ}
    (g : Going T owner start plan₀ arrivals₀ t late left figures plan arrivals) where
  pub on_ring : OnRing T left
  on_ring = rw g.state (state_on_ring T start g.ready.ring t)

  -- there are as many figures as there were at the start
  pub figures_kept : {figures₀ : List ℤ} → figures₀ ≡ figures_of T start → length figures ≡ length figures₀
  figures_kept e =
      ap length g.figured ∙ figures_long T left ∙ g.left_long ∙ sym (ap length e ∙ figures_long T start)

  ended : (row : ℕ) → late_row T t left ≡ row → any_under_way left && eqb (late_row T t left) 0 ≡ false
      → Walked T owner start plan₀ arrivals₀ (ending row t) left figures plan arrivals
  ended row e stop =
      record {
        stops = ap (λ r. ending r t) (sym e) ∙ sym (g.ahead ∙ halts T (last T - t) t left stop);
        state = g.state;
        figured = g.figured ∙ ap (figures_of T) g.state;
        carries = g.carried;
        stamps = g.stamps;
      }

  -- No row is under way any more.
  pub over : any_under_way left ≡ false → Walked T owner start plan₀ arrivals₀ (ending late t) left figures plan arrivals
  over e =
      rw g.none_yet (ended 0 (none_late T t left (λ i h.
      then_not_late T t left i (λ l. absurd (omega (arith, none_under_way left e i))))) (rw e))

  -- Row i is the lowest that is late.
  pub is_late_lem : (i : ℕ) → late_row T t left ≡ suc i
      → Walked T owner start plan₀ arrivals₀ (ending (i + 1) t) left figures plan arrivals
  is_late_lem i e = ended (i + 1) (e ∙ sym (add-one i)) (rw (ne_eqb (late_row T t left) 0 (λ z. omega arith), and-false))

-- What holds where the slot of instant t is to be planned: a row is under way, and none was found late.
pub record Planning (T : Traffic) (owner start plan₀ arrivals₀ : List ℕ) (t late : ℕ)
    (left : List ℕ) (figures : List ℤ) (plan arrivals : List ℕ) : Type 0 where
  pub going : Going T owner start plan₀ arrivals₀ t late left figures plan arrivals
  pub busy : any_under_way left ≡ true
  pub on_time : late_row T t left ≡ 0

module _ {T : Traffic} {owner start plan₀ arrivals₀ : List ℕ} {t late : ℕ}
    {left : List ℕ} {figures : List ℤ} {plan arrivals : List ℕ}
    (k : Planning T owner start plan₀ arrivals₀ t late left figures plan arrivals) where
  abbrev first_link : ℕ
  first_link = t * T.nodes

  abbrev links : ℕ
  links = first_link + T.nodes - first_link

  -- A row under way and not late is due later.
  pub before_last : t < last T
  before_last =
      let (i, inside, some) = some_under_way left k.busy in
      let due = not_late_then T t left i (late_none T t left k.on_time i inside) some in
      omega (arith, due, at_most_largest T.due i)

  pub before_end : t < 65535
  before_end = omega (arith, before_last, k.going.ready.soon)

  pub has_room : first_link + T.nodes ≤ length plan
  has_room =
      omega (arith, k.going.plan_long, k.going.ready.room, mul-le-mul_right T.nodes before_last)

  part_long : length (take links (drop first_link plan)) ≡ T.nodes
  part_long =
      let e : links ≡ T.nodes = omega arith in
      let fits : T.nodes ≤ length (drop first_link plan) = simp length-drop (omega (arith, has_room)) in
      rw e (length-take-le T.nodes (drop first_link plan) fits)

  pub each_owned : length owner ≡ length left
  each_owned = k.going.ready.owned ∙ sym k.going.left_long

  pub can_plan : Slotted T.nodes T.dst t left figures (take links (drop first_link plan)) arrivals
  can_plan =
      record {
        due = T.due;
        ring = on_ring k.going;
        figured = k.going.figured;
        few = omega (arith, k.going.left_long, k.going.ready.few);
        small = λ i l. omega (arith, at_most_largest T.due i, k.going.ready.soon);
        soon = omega (arith, before_end);
        links = part_long;
        rows = k.going.arrivals_long ∙ k.going.ready.rows ∙ sym k.going.left_long;
      }

  -- The slot planned, the next instant begins.
  module _ {late' : ℕ} {slot sent left' : List ℕ} {figures' : List ℤ} {arrivals' : List ℕ} (same : late' ≡ late)
      (told : slot ≡ told_by owner sent) (done : SlotPlanned T t left arrivals sent left' figures' arrivals') where
    next_state : left' ≡ state_at T start (t + 1)
    next_state =
        done.moves ∙ ap (λ l. moved T (slot_of T t l) l) k.going.state ∙ sym (state_more T start t)

    next_stamps : arrivals' ≡ stamped_by T start arrivals₀ (t + 1)
    next_stamps = done.stamps ∙ rw (k.going.state, k.going.stamps) (sym (stamps_more T start t arrivals₀))

    next_plan : put_mid first_link links plan slot
        ≡ told_by owner (plan_of T start (t + 1)) ++ drop ((t + 1) * T.nodes) plan₀
    next_plan = rw (k.going.carried, told, done.carries, k.going.state) (plan_more T start t owner plan₀)

    goes_on_lem : stop_from T (last T - t) t left ≡ stop_from T (last T - (t + 1)) (t + 1) left'
    goes_on_lem =
        let one_less : last T - t ≡ suc (last T - (t + 1)) = omega (arith, before_last) in
        rw done.moves (runs_on T (last T - t) t left (last T - (t + 1)) one_less k.busy k.on_time)

    slot_long : length slot ≡ length (take links (drop first_link plan))
    slot_long =
        ap length told ∙ told_long owner sent ∙ ap length done.carries ∙ slot_length T t left ∙ sym part_long

    pub again : Going T owner start plan₀ arrivals₀ (t + 1) late'
        left' figures' (put_mid first_link links plan slot) arrivals'
    again =
        record {
          ready = k.going.ready;
          none_yet = same ∙ k.going.none_yet;
          state = next_state;
          figured = done.figures ∙ ap (figures_of T) (sym done.moves);
          carried = next_plan;
          stamps = next_stamps;
          left_long = ap length next_state ∙ state_length T start (t + 1);
          plan_long = same_len_mid first_link links plan slot slot_long ∙ k.going.plan_long;
          arrivals_long =
              ap length done.stamps ∙ stamped-length (slot_of T t left) (suc t) arrivals ∙ k.going.arrivals_long;
          within = omega (arith, before_last);
          ahead = k.going.ahead ∙ goes_on_lem;
        }
