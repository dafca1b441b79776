-- The rule of least slack is best: it finds a legal schedule that meets the table wherever there is one.
--     never_late_beside     where some run of slots, whoever named them, is in time, the rule's run is never late
--     never_late            so it is where some schedule meets the table
--     plan_is_schedule      the plan of a run that ends with no late row is such a schedule
--     late_iff_none         so a run ends with a late row just where there is no such schedule
-- Assumes nothing.
use mathlib.Core.Path.{◌≡◌, refl, ◌∙◌, ap, sym}
use mathlib.Core.Logic.{◌↔◌}
use Prim.Native.Nat.{ℕ, zero, suc, ◌+◌, ◌*◌, ◌≤◌, ◌<◌, min}
use native.Mathlib.Omega.{arith, by_contra}
use native.Mathlib.Decide.{dec_lt}
use mathlib.Core.List.{List}
use lib.ListN.{length, get_or}
use Rattle.slack.specs.Slack.{Traffic, OnRing, moved, slot_of, state_at, plan_of, late_row, stop_of}
use Rattle.slack.proofs.Ending.{Ended, stop_first, stop_delivered}
use Rattle.slack.proofs.Rule.{
  none_under_way,
  plan_length,
  slot_entry,
  pick_least,
  late_none,
  none_late,
  not_late_then,
  then_not_late,
  moved_length,
  run_length,
  run_on_ring,
  run_less,
  state_length,
  state_on_ring,
}
use Rattle.optimal.specs.Schedule.{Schedule, Legal, Meets, named_in, left_at}
use Rattle.optimal.proofs.Count.{Decided, count_none}
use Rattle.optimal.proofs.Window.{must, window_on_time, window_before, window_after}
use Rattle.optimal.proofs.Round.{node_of, links_from, ring_way}
use Rattle.optimal.proofs.Plan.{plan_names, plan_state}
use Rattle.optimal.proofs.Slots.{links, due_of, RingWindow, slot_step, rule_least_first}

module _ (T : Traffic) where
  -- The window before a slot, whatever it names.
  ring_window_before : (t : ℕ) (slot left : List ℕ) → OnRing T left → RingWindow T (suc t) (moved T slot left)
      → ((i : ℕ) → i < length left → 0 < get_or left i 0 → get_or (moved T slot left) i 0 ≡ 0 → t < due_of T i)
      → RingWindow T t left
  ring_window_before t slot left ring window delivered =
      window_before (length left) T.nodes (λ i. T.nodes) (node_of T) (links_from T) (due_of T) (ring_way T left ring)
      t (links left) (links (moved T slot left)) ring.left_inside (slot_step T slot left)
      (rw (moved_length T slot left) at window) delivered

  -- The window after a slot of the rule.
  pub ring_window_after : (t : ℕ) (left : List ℕ) → OnRing T left → RingWindow T t left
      → RingWindow T (suc t) (moved T (slot_of T t left) left)
  ring_window_after t left ring window =
      let slot = slot_of T t left in
      rw (moved_length T slot left)
      (window_after (length left) T.nodes (λ i. T.nodes) (node_of T) (links_from T) (due_of T) (ring_way T left ring)
      t (links left) (links (moved T slot left)) ring.left_inside (slot_step T slot left)
      (rule_least_first T t left ring) window)

  -- Where the window holds no row is late.
  pub window_not_late : (t : ℕ) (left : List ℕ) → OnRing T left → RingWindow T t left → late_row T t left ≡ 0
  window_not_late t left ring window = none_late T t left (λ i known. then_not_late T t left i (on_time i known))
    where
      on_time : (i : ℕ) → i < length left → 0 < get_or left i 0 → t + get_or left i 0 ≤ due_of T i
      on_time =
          window_on_time (length left) T.nodes (λ i. T.nodes) (node_of T) (links_from T) (due_of T)
          (ring_way T left ring) t (links left) ring.left_inside window

  -- Where all is delivered the window holds: nothing has a link to cross.
  window_delivered : (t : ℕ) (left : List ℕ) → OnRing T left → ((i : ℕ) → i < length left → get_or left i 0 ≡ 0)
      → RingWindow T t left
  window_delivered t left ring done p k b inside = omega (arith, count_none ring_must (length left) none)
    where
      ring_must : Decided (λ i. (k + links_from T p i ≤ get_or left i 0) × (due_of T i < b + links_from T p i))
      ring_must =
          must (length left) T.nodes (λ i. T.nodes) (node_of T) (links_from T) (due_of T) (links left) p k b

      none : (i : ℕ) → i < length left → (k + links_from T p i ≤ get_or left i 0) × (due_of T i < b + links_from T p i) → ⊥
      none i known m = omega (arith, done i known, (ring_way T left ring).positive p i inside known)

-- ---- a run that is in time, whoever named its slots

module _ (T : Traffic) (state slot : ℕ → List ℕ) (next : (t : ℕ) → state (suc t) ≡ moved T (slot t) (state t)) where
  -- Every row is delivered at some instant no later than its due slot.
  abbrev pub InTime : Type 0
  InTime = (i : ℕ) → i < length (state 0) → (t : ℕ) × (t ≤ get_or T.due i 0) × (get_or (state t) i 0 ≡ 0)

  -- A row that is under way at instant t is delivered later, and no later than its due slot.
  due_later : InTime → (i t : ℕ) → i < length (state 0) → 0 < get_or (state t) i 0 → t < get_or T.due i 0
  due_later in_time i t known under_way_lem =
      let met = in_time i known in
      by_contra (suc t) (get_or T.due i 0) (λ late.
      omega (arith, run_less T state slot next i known met.0 t (omega arith)))

  -- The window holds at each instant of the run, from its end backward.
  pub window_of_run : OnRing T (state 0) → (slots : ℕ)
      → ((i : ℕ) → i < length (state 0) → get_or T.due i 0 ≤ slots) → InTime
      → (m t : ℕ) → t + m ≡ slots → RingWindow T t (state t)
  window_of_run ring slots dues in_time zero t e =
      window_delivered T t (state t) (run_on_ring T state slot next ring t)
      (λ i l. delivered i (omega (arith, run_length T state slot next t)))
    where
      delivered : (i : ℕ) → i < length (state 0) → get_or (state t) i 0 ≡ 0
      delivered i known = go (dec_lt 0 (get_or (state t) i 0))
        where
          go : Dec (0 < get_or (state t) i 0) → get_or (state t) i 0 ≡ 0
          go (yes d) = absurd (omega (arith, due_later in_time i t known d, dues i known))
          go (no d) = omega arith
  window_of_run ring slots dues in_time (suc m) t e =
      ring_window_before T t (slot t) (state t) (run_on_ring T state slot next ring t)
      (rw (next t) at (window_of_run ring slots dues in_time m (suc t) (omega arith)))
      (λ i l under_way_lem done. due_later in_time i t (omega (arith, run_length T state slot next t)) under_way_lem)

  -- Where some run from a state is in time, no row of the rule's run from there is late at any instant.
  pub never_late_beside : OnRing T (state 0) → (slots : ℕ)
      → ((i : ℕ) → i < length (state 0) → get_or T.due i 0 ≤ slots) → InTime
      → (t : ℕ) → late_row T t (state_at T (state 0) t) ≡ 0
  unfolding state_at
  never_late_beside ring slots dues in_time t =
      window_not_late T t (state_at T (state 0) t) (state_on_ring T (state 0) ring t) (windows t)
    where
      windows : (t : ℕ) → RingWindow T t (state_at T (state 0) t)
      windows zero = window_of_run ring slots dues in_time slots 0 (omega arith)
      windows (suc t) = ring_window_after T t (state_at T (state 0) t) (state_on_ring T (state 0) ring t) (windows t)

-- ---- the theorems

module _ {T : Traffic} {start : List ℕ} {slots : ℕ}
    (ring : OnRing T start) (dues : (i : ℕ) → i < length start → get_or T.due i 0 ≤ slots) where
  -- Where some schedule meets the table, no row of the rule's run is late at any instant.
  pub never_late : {schedule : List ℕ} → Schedule T start slots schedule → (t : ℕ) → late_row T t (state_at T start t) ≡ 0
  unfolding left_at Meets
  never_late {schedule} meeting =
      never_late_beside T (left_at T start schedule) (named_in T schedule) (λ t. refl) ring slots dues (λ i known.
      let met = meeting.meets i known in
      (met.0, omega arith, omega arith))

  ended : Ended T start slots (stop_of T start slots)
  ended = stop_first T start slots

  -- The plan of a run that ends with no late row is legal and meets the table.
  pub plan_is_schedule : (stop_of T start slots).row ≡ 0 → Schedule T start slots (plan_of T start slots)
  plan_is_schedule on_time = record { entries = omega (arith, entries); legal = legal; meets = meets }
    where
      plan : List ℕ
      plan = plan_of T start slots

      end : ℕ
      end = (stop_of T start slots).slot.0

      entries : length plan ≡ slots * T.nodes
      entries = plan_length T start slots

      legal : Legal T start slots plan
      legal = unfold Legal in λ t p i l inside named.
          let left = state_at T start t in
          let slot_names = ap (λ slot. get_or slot p 0) (plan_names T start slots t l) in
          let picked = sym (slot_entry T t left p inside) ∙ sym slot_names ∙ named in
          let best = pick_least T t left p (length left) i picked in
          rw (plan_state T start slots t (omega arith))
          (omega (arith, best.inside, best.stands.under_way_lem, best.stands.here, state_length T start t))

      -- no row is late up to the end of the run
      none : (t : ℕ) → t ≤ end → late_row T t (state_at T start t) ≡ 0
      none t l = go (dec_lt t end)
        where
          go : Dec (t < end) → late_row T t (state_at T start t) ≡ 0
          go (yes d) = ended.none_late_before t d
          go (no d) = let e : t ≡ end = omega arith in rw e (sym ended.row_is ∙ on_time)

      -- so each row is delivered at the run's end, or at its due slot where that comes before
      when : ℕ → ℕ
      when i = min end (get_or T.due i 0)

      there : (i : ℕ) → i < length start → get_or (state_at T start (when i)) i 0 ≡ 0
      there i known = go (dec_lt end (get_or T.due i 0))
        where
          go : Dec (end < get_or T.due i 0) → get_or (state_at T start (when i)) i 0 ≡ 0
          go (yes d) =
              let e : when i ≡ end = omega arith in
              rw e (none_under_way (state_at T start end) (stop_delivered T start slots dues on_time) i)
          go (no d) =
              let left = state_at T start (when i) in
              let inside : i < length left = omega (arith, state_length T start (when i)) in
              let not_late = late_none T (when i) left (none (when i) (omega arith)) i inside in
              delivered (get_or left i 0) (λ under_way_lem. omega (arith, not_late_then T (when i) left i not_late under_way_lem))
            where
              delivered : (l : ℕ) → (0 < l → when i + l ≤ when i) → l ≡ 0
              delivered zero h = refl
              delivered (suc l) h = absurd (omega (arith, h (omega arith)))

      meets : Meets T start plan
      meets = unfold Meets in λ i known. (
        when i,
        omega arith,
        rw (plan_state T start slots (when i) (omega (arith, dues i known))) (there i known),
      )

  -- The run ends with a late row just where no legal schedule meets the table.
  pub late_iff_none : ((stop_of T start slots).row ≡ 0 → ⊥) ↔ ((schedule : List ℕ) → Schedule T start slots schedule → ⊥)
  late_iff_none = (
    λ late schedule meeting. late (ended.row_is ∙ never_late meeting (stop_of T start slots).slot.0),
    λ none on_time. none (plan_of T start slots) (plan_is_schedule on_time),
  )
