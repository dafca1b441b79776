-- What a run leaves: from the instant on at which every row is delivered the links idle, and a row's last stamp is its
-- delivery instant. A row that never was under way is stamped by no slot: it keeps the 0 to which its arrival was
-- cleared, and is delivered at instant 0.
--     idle_on                     the plan of more slots than the run needs
--     all_stamped                 the stamps over cleared arrivals are the arrivals
--     looks_stamped               the looks of the instants up to one, from the state and the stamps there
--     Over, accepted, refused     what `run` gives, from what `walk` left
-- Assumes nothing.
use mathlib.Core.Path.{◌≡◌, refl, ◌∙◌, ap, sym}
use mathlib.Core.Bool.{Bool, true, false, cond}
use Prim.Native.Nat.{ℕ, zero, suc, ◌+◌, ◌-◌, ◌*◌, ◌≤◌, ◌<◌}
use native.Mathlib.Omega.{arith}
use native.Mathlib.Decide.{dec_lt}
use borrow.Author.Tests.{lt-ltb, le-ltb, ne_eqb, eqb-true, eqb-false}
use mathlib.Core.List.{List, [], ◌++◌, append_assoc, append-nil}
use lib.Dec.{ltb, eqb}
use lib.IntN.{ℤ}
use borrow.Rule.Slice.PartMut.{put_mid}
use lib.ListN.{length, get_or, take, drop, replicate, length-drop, drop_of_length-le}
use lib.ListN.{length-replicate, get_or-replicate, replicate-append-replicate}
use lib.Seq.{take_at, length-take-le}
use Rattle.lists.specs.Lists.{total, largest}
use Rattle.lists.proofs.Figures.{at_most_largest}
use Rattle.lists.proofs.Build.{length-build, get_or_build, build_ext, build_const, is_build}
use Rattle.slack.specs.Slack.{Traffic, OnRing, under_way, pick, slot_of, state_at, plan_of}
use Rattle.slack.specs.Slack.{delivered_from, arrivals_of, any_under_way}
use Rattle.slack.specs.declared.Stop.{Stop}
use Rattle.run.specs.declared.Ending.{Ending}
use Rattle.slack.proofs.Ending.{stop_first, stop_delivered}
use Rattle.slack.proofs.Rule.{pick_least, plan_length, state_length, state_on_ring, state_less}
use Rattle.slack.proofs.Rule.{moved_entry, none_under_way}
use Rattle.slot.specs.Steps.{named, stamped}
use Rattle.slot.proofs.Sending.{named_there, named_under_way}
use Rattle.cells.specs.Cells.{owner_of, told_by, end_by}
use Rattle.cells.proofs.Telling.{told_long, told_joined, told_idle, cell_named, none_named, stop_cell}
use Rattle.cells.specs.Looks.{looks_to, looks_of}
use Rattle.cells.specs.Steps.{looks_by}
use Rattle.cells.proofs.Looking.{seen, looks_by_cells, seen_waiting, seen_there}
use Rattle.run.specs.Steps.{stamped_by, Ready, Walked, Ran}

-- links to go at an instant
abbrev togo : Traffic → List ℕ → ℕ → ℕ → ℕ
togo T start t i = get_or (state_at T start t) i 0

-- what the links carry in the slot that begins then
abbrev carried : Traffic → List ℕ → ℕ → List ℕ
carried T start t = slot_of T t (state_at T start t)

module _ (T : Traffic) (start : List ℕ) where
  -- every row is delivered at t
  abbrev Delivered : ℕ → Type 0
  Delivered t = (i : ℕ) → i < length start → togo T start t i ≡ 0

  -- a node that holds no row under way sends none
  no_pick : (t p k : ℕ) (left : List ℕ) → ((i : ℕ) → i < k → get_or left i 0 ≡ 0) → pick T t left p k ≡ 0
  no_pick t p k left none = go (pick T t left p k) refl
    where
      go : (b : ℕ) → pick T t left p k ≡ b → pick T t left p k ≡ 0
      go zero e = e
      go (suc b) e =
          let r = pick_least T t left p k b e in
          absurd (omega (arith, r.stands.under_way_lem, none b r.inside))

  idle_slot : (t : ℕ) → Delivered t → carried T start t ≡ replicate {A = ℕ} T.nodes 0
  unfolding slot_of
  idle_slot t d =
      let left = state_at T start t in
      build_ext T.nodes (λ p. pick T t left p (length left)) (λ p. 0)
      (λ p h. no_pick t p (length left) left (λ i l. d i (omega (arith, state_length T start t))))
      ∙ build_const T.nodes 0

  plan_suc : (t : ℕ) → plan_of T start (suc t) ≡ plan_of T start t ++ carried T start t
  unfolding plan_of
  plan_suc t = refl

  -- The plan of m slots more is idle in them.
  pub idle_on : (t m : ℕ) → Delivered t
      → plan_of T start (t + m) ≡ plan_of T start t ++ replicate {A = ℕ} (m * T.nodes) 0
  idle_on t zero d =
      let e : t + 0 ≡ t = omega arith in
      let z : 0 * T.nodes ≡ 0 = omega arith in
      rw (e, z) (sym (append-nil (plan_of T start t)))
  idle_on t (suc m) d =
      let e : t + suc m ≡ suc (t + m) = omega arith in
      let z : suc m * T.nodes ≡ m * T.nodes + T.nodes = omega arith in
      let still : Delivered (t + m) = λ i h. omega (arith, state_less T start i h t (t + m) (omega arith), d i h) in
      rw (e, z, plan_suc (t + m), idle_on t m d, idle_slot (t + m) still, append_assoc, replicate-append-replicate)

-- row i's delivery instant: it is under way at every instant before, and not at that one
record Arrives (T : Traffic) (start : List ℕ) (i d : ℕ) : Type 0 where
  there : togo T start d i ≡ 0
  before : (u : ℕ) → u < d → 0 < togo T start u i

-- the first such instant is found, if it is not too far
arrives_at : (T : Traffic) (start : List ℕ) (i d : ℕ) → Arrives T start i d
    → (m s : ℕ) → s ≤ d → d ≤ s + m → delivered_from T start i m s ≡ d
unfolding delivered_from under_way
arrives_at T start i d a zero s l h = omega arith
arrives_at T start i d a (suc m) s l h = go (dec_lt s d) (arrives_at T start i d a m (suc s))
  where
    go : Dec (s < d) → (suc s ≤ d → d ≤ suc s + m → delivered_from T start i m (suc s) ≡ d)
        → cond (ltb 0 (togo T start s i)) (delivered_from T start i m (suc s)) s ≡ d
    go (yes k) more = rw (lt-ltb 0 (togo T start s i) (a.before s k)) (more k (omega arith))
    go (no k) more =
        let e : s ≡ d = omega arith in
        rw (e, le-ltb 0 (togo T start d i) (omega (arith, a.there)))

module _ (T : Traffic) (start list : List ℕ) (ring : OnRing T start)
    (cleared : list ≡ replicate {A = ℕ} (length start) 0) where
  abbrev stamp : ℕ → ℕ → ℕ
  stamp t i = get_or (stamped_by T start list t) i 0

  stamps_each : (t : ℕ) → length (stamped_by T start list t) ≡ length start
  unfolding stamped_by stamped
  stamps_each zero = ap length cleared ∙ length-replicate (length start) 0
  stamps_each (suc t) = length-build (length (stamped_by T start list t)) _ ∙ stamps_each t

  -- before the first slot there is no stamp
  stamp_none : (i : ℕ) → i < length start → stamp 0 i ≡ 0
  unfolding stamped_by
  stamp_none i h = rw cleared (get_or-replicate (length start) i 0 0 h)

  -- one slot: the rows that it names are stamped, and have one link less to go
  stamp_suc : (t i : ℕ) → i < length start → stamp (suc t) i ≡ cond (named (carried T start t) i) (suc t) (stamp t i)
  unfolding stamped_by stamped
  stamp_suc t i h = get_or_build (length (stamped_by T start list t)) _ i 0 (omega (arith, stamps_each t))

  left_suc : (t i : ℕ) → i < length start
      → togo T start (suc t) i ≡ togo T start t i - cond (named (carried T start t) i) 1 0
  unfolding state_at
  left_suc t i h =
      let left = state_at T start t in
      let l : i < length left = omega (arith, state_length T start t) in
      moved_entry T (carried T start t) left i l ∙ rw (← named_there T t left (state_on_ring T start ring t) i l)

  -- a delivered row's stamp is its delivery instant
  abbrev Stamped : ℕ → ℕ → Type 0
  Stamped t i = (stamp t i ≤ t) × Arrives T start i (stamp t i)

  stamped_there : (i : ℕ) → i < length start → (t : ℕ) → togo T start t i ≡ 0 → Stamped t i
  stamped_there i h zero e =
      rw (stamp_none i h) (omega arith, record { there = e; before = λ u l. absurd (omega arith) })
  stamped_there i h (suc t) e =
      go (named (carried T start t) i) refl (dec_lt 0 (togo T start t i)) (stamped_there i h t)
    where
      go : (b : Bool) → named (carried T start t) i ≡ b → Dec (0 < togo T start t i)
          → (togo T start t i ≡ 0 → Stamped t i) → Stamped (suc t) i
      go true n (yes d) ih =
          let v : stamp (suc t) i ≡ suc t = stamp_suc t i h ∙ rw n in
          let earlier : (u : ℕ) → u < suc t → 0 < togo T start u i
          = λ u l. omega (arith, state_less T start i h u t (omega arith)) in
          rw v (omega arith, record { there = e; before = earlier })
      go true n (no d) ih =
          absurd (d (named_under_way T t (state_at T start t) (state_on_ring T start ring t) i n))
      go false n (yes d) ih =
          let w : togo T start (suc t) i ≡ togo T start t i - 0 = left_suc t i h ∙ rw n in
          absurd (omega arith)
      go false n (no d) ih =
          let v : stamp (suc t) i ≡ stamp t i = stamp_suc t i h ∙ rw n in
          let (soon, arrives) = ih (omega arith) in
          rw v (omega (arith, soon), arrives)

  -- So once all rows are delivered the stamps are the arrivals.
  pub all_stamped : (t slots : ℕ) → t ≤ slots → Delivered T start t
      → stamped_by T start list t ≡ arrivals_of T start slots
  unfolding arrivals_of
  all_stamped t slots l d =
      is_build (length start) (λ i. delivered_from T start i slots 0) 0 (stamped_by T start list t) (stamps_each t)
      (λ i h. one i (stamped_there i h t (d i h)))
    where
      one : (i : ℕ) → Stamped t i → stamp t i ≡ delivered_from T start i slots 0
      one i r = sym (arrives_at T start i (stamp t i) r.1 slots 0 (omega arith) (omega (arith, r.0)))

  -- How often each cell was looked at: a delivered one up to its stamp, one that is under way at every instant.
  pub looks_stamped : (t : ℕ) → looks_by t (state_at T start t) (stamped_by T start list t) ≡ looks_to T start (suc t)
  unfolding looks_by
  looks_stamped t =
      rw (state_length T start t)
      (ap total (sym (build_ext (length start) (seen T start (suc t)) _ each)) ∙ sym (looks_by_cells T start (suc t)))
    where
      each : (i : ℕ) → i < length start → seen T start (suc t) i ≡ cond (eqb (togo T start t i) 0) (stamp t i) (suc t)
      each i h = go (eqb (togo T start t i) 0) refl
        where
          go : (b : Bool) → eqb (togo T start t i) 0 ≡ b → seen T start (suc t) i ≡ cond b (stamp t i) (suc t)
          go true e =
              let (soon, arrives) = stamped_there i h t (eqb-true (togo T start t i) 0 e) in
              seen_there T start i (stamp t i) (suc t) h arrives.before arrives.there (omega (arith, soon))
          go false e =
              seen_waiting T start i (suc t) (λ s l.
              omega (arith, state_less T start i h s t (omega arith), eqb-false (togo T start t i) 0 e))

split : (n s m l : ℕ) → l ≡ s + m → n * l ≡ s * n + m * n
split n s m l e = rw e (omega arith)

-- a list with all behind its front cleared
front : (a : ℕ) (xs f cleared ys : List ℕ) → length f ≡ a → xs ≡ f ++ ys
    → cleared ≡ replicate {A = ℕ} (length (take (length xs - a) (drop a xs))) 0
    → put_mid a (length xs - a) xs cleared ≡ f ++ replicate {A = ℕ} (length xs - a) 0
front a xs f cleared ys l e c =
    let k : length (drop a xs) ≡ length xs - a = length-drop a xs in
    let t : take a xs ≡ f = ap (take a) e ∙ take_at f ys a l in
    let m : length (take (length xs - a) (drop a xs)) ≡ length xs - a
    = length-take-le (length xs - a) (drop a xs) (omega arith) in
    let d : drop (length xs - a) (drop a xs) ≡ [] = drop_of_length-le (drop a xs) {i = length xs - a} (omega arith) in
    rw (t, c, m, d, append-nil)

-- What there is once the walk over cleared arrivals has been left.
pub record Over (T : Traffic) (owner start plan₀ : List ℕ) (stop : Stop) (left plan arrivals : List ℕ) : Type 0 where
  pub lent : List ℕ
  pub arrivals₀ : List ℕ
  pub figures : List ℤ
  pub ready : Ready T owner start plan₀ lent
  pub cleared : arrivals₀ ≡ replicate {A = ℕ} (length lent) 0
  pub walked : Walked T owner start plan₀ arrivals₀ stop left figures plan arrivals
  pub plan_long : length plan ≡ length plan₀
  pub arrivals_long : length arrivals ≡ length arrivals₀

-- What `run` leaves, from what `walk` left.
module _ {T : Traffic} {owner start plan₀ : List ℕ} {stop : Stop} {left plan arrivals : List ℕ}
    (o : Over T owner start plan₀ stop left plan arrivals) where
  abbrev last : ℕ
  last = largest T.due

  abbrev end : ℕ
  end = stop.slot.0

  in_time : end ≤ last
  in_time = rw o.walked.stops (stop_first T start last).within

  pub inside : end * T.nodes ≤ length plan
  inside = omega (arith, o.plan_long, o.ready.room, split T.nodes end (last - end) last (omega (arith, in_time)))

  cleared_all : o.arrivals₀ ≡ replicate {A = ℕ} (length start) 0
  cleared_all = o.cleared ∙ rw o.ready.rows

  -- The cell with which the walk was left is one of those that have an owner, or none.
  pub known_cell : stop.row ≤ length owner
  known_cell = rw o.walked.stops (omega (arith, stop_cell T start last, o.ready.owned))

  arrivals_each : length arrivals ≡ length start
  arrivals_each = o.arrivals_long ∙ ap length cleared_all ∙ length-replicate (length start) 0

  -- The looks that are counted from what the walk left are those of the run.
  pub counted : (looks : ℕ) → looks ≡ looks_by end left arrivals → looks ≡ looks_of T start last
  unfolding looks_of
  counted looks e =
      e ∙ rw (o.walked.state, o.walked.stamps)
      (looks_stamped T start o.arrivals₀ o.ready.ring cleared_all end)
      ∙ ap (λ s. looks_to T start (suc s.slot.0)) o.walked.stops

  -- where the run ended, told in rows
  row_is : (r : Stop) → r ≡ end_by owner stop → r.row ≡ owner_of owner stop.row
  unfolding end_by
  row_is r e = ap (λ s. s.row) e

  slot_is : (r : Stop) → r ≡ end_by owner stop → r.slot.0 ≡ end
  unfolding end_by
  slot_is r e = ap (λ s. s.slot.0) e

  module _ (on_time : stop.row ≡ 0) where
    done : Delivered T start end
    done i h =
        let ended = o.walked.stops in
        let none_late = ap (λ s. s.row) (sym ended) ∙ on_time in
        let all = stop_delivered T start last (λ j l. at_most_largest T.due j) none_late in
        none_under_way (state_at T start end) (ap (λ s. any_under_way (state_at T start s.slot.0)) ended ∙ all) i

    abbrev behind : ℕ
    behind = length plan - end * T.nodes

    module _ (rest : List ℕ)
        (idle : rest ≡ replicate {A = ℕ} (length (take behind (drop (end * T.nodes) plan))) 0) where
      whole_plan : put_mid (end * T.nodes) behind plan rest ≡ told_by owner (plan_of T start last)
      whole_plan =
          let e : last ≡ end + (last - end) = omega (arith, in_time) in
          let links = split T.nodes end (last - end) last e in
          let k : behind ≡ (last - end) * T.nodes = omega (arith, links, o.plan_long, o.ready.room) in
          let old = drop (end * T.nodes) plan₀ in
          let sent = plan_of T start end in
          let long = told_long owner sent ∙ plan_length T start end in
          let none = replicate {A = ℕ} ((last - end) * T.nodes) 0 in
          let all : plan_of T start last ≡ sent ++ none
          = ap (plan_of T start) e ∙ idle_on T start end (last - end) done in
          front (end * T.nodes) plan (told_by owner sent) rest old long o.walked.carries idle
          ∙ rw (k, all, told_joined owner sent none, told_idle owner ((last - end) * T.nodes))

      stamps_arrive : stamped_by T start o.arrivals₀ end ≡ arrivals_of T start last
      stamps_arrive = all_stamped T start o.arrivals₀ o.ready.ring cleared_all end last in_time done

      pub accepted : (r : Ending) → r.stop ≡ end_by owner stop → r.looks ≡ looks_by end left arrivals
          → Ran T owner start (length plan₀) r left (put_mid (end * T.nodes) behind plan rest) arrivals
      accepted r e c =
          let none : r.stop.row ≡ 0 = row_is r.stop e ∙ ap (owner_of owner) on_time ∙ none_named owner in
          record {
            stops = e ∙ ap (end_by owner) o.walked.stops;
            looked = counted r.looks c;
            leaves = o.walked.state ∙ ap (state_at T start) (sym (slot_is r.stop e));
            carries = whole_plan ∙ rw none;
            arrives = o.walked.stamps ∙ stamps_arrive ∙ rw none;
          }

  pub refused : (stop.row ≡ 0 → ⊥) → (plan' arrivals' : List ℕ)
      → plan' ≡ replicate {A = ℕ} (length plan) 0 → arrivals' ≡ replicate {A = ℕ} (length arrivals) 0
      → (r : Ending) → r.stop ≡ end_by owner stop → r.looks ≡ looks_by end left arrivals
      → Ran T owner start (length plan₀) r left plan' arrivals'
  refused is_late_lem plan' arrivals' p a r e c =
      let some : r.stop.row ≡ 0 → ⊥
      = λ z. is_late_lem (cell_named owner o.ready.named stop.row known_cell (sym (row_is r.stop e) ∙ z)) in
      record {
        stops = e ∙ ap (end_by owner) o.walked.stops;
        looked = counted r.looks c;
        leaves = o.walked.state ∙ ap (state_at T start) (sym (slot_is r.stop e));
        carries = p ∙ rw (o.plan_long, ne_eqb r.stop.row 0 some);
        arrives = a ∙ rw (arrivals_each, ne_eqb r.stop.row 0 some);
      }
