-- A plan that delivers all names a row just as often as the rows have links to go at the start: each entry takes one
-- row one link on.
--     slot_sends          one slot of the rule takes as many links off the state as it has entries that name a row
--     sends_counted       so the whole plan of a run that ends with no late row takes off all of them
-- Assumes nothing.
use mathlib.Core.Path.{◌≡◌, refl, ◌∙◌, ap, sym}
use Prim.Native.Nat.{ℕ, zero, suc, pred, ◌+◌, ◌-◌, ◌≤◌, ◌<◌}
use native.Mathlib.Omega.{arith}
use native.Mathlib.Decide.{dec_lt}
use native.Mathlib.Numerals.{add-one}
use native.Mathlib.Nat.{le_antisymm}
use mathlib.Core.Bool.{cond}
use mathlib.Core.List.{List, [], ◌∷◌, ◌++◌}
use borrow.Author.Tests.{lt-ltb, le-ltb}
use lib.Dec.{ltb}
use lib.ListN.{length, get_or, take}
use lib.Seq.{take-length, take_all}
use Rattle.lists.specs.Lists.{total}
use Rattle.lists.proofs.Figures.{total_more, total_below}
use Rattle.slack.specs.Slack.{Traffic, OnRing, place, moved, slot_of, state_at, plan_of, stop_of}
use Rattle.slack.proofs.Rule.{
  Picked,
  pick_least,
  place_inside,
  slot_length,
  slot_entry,
  moved_length,
  moved_less,
  moved_sent,
  moved_by_one,
  moved_named,
  state_length,
  state_on_ring,
  state_less,
  none_under_way,
}
use Rattle.slack.proofs.Ending.{stop_first, stop_delivered}
use Rattle.optimal.specs.Schedule.{busy}
use Rattle.optimal.proofs.Count.{Decided, tally, count, tally_one, tally_none, count_into, count_front}

pub busy_append : (xs ys : List ℕ) → busy (xs ++ ys) ≡ busy xs + busy ys
unfolding busy
busy_append [] ys = omega arith
busy_append (x ∷ xs) ys = omega (arith, busy_append xs ys)

-- Entry p of a slot names a row.
names : (slot : List ℕ) → Decided (λ p. 0 < get_or slot p 0)
names slot p = dec_lt 0 (get_or slot p 0)

busy_counted : (slot : List ℕ) → busy slot ≡ count (length slot) (names slot)
unfolding busy names count
busy_counted [] = refl
busy_counted (x ∷ xs) = omega (arith, count_front (names (x ∷ xs)) (length xs), busy_counted xs, one (dec_lt 0 x))
  where
    one : (d : Dec (0 < x)) → cond (ltb 0 x) 1 0 ≡ tally d
    one (yes d) = rw (lt-ltb 0 x d) (sym (tally_one (yes d) d))
    one (no d) = rw (le-ltb 0 x (omega arith)) (sym (tally_none (no d) d))

module _ (T : Traffic) (slot left : List ℕ) where
  -- Row i is named on the link where it stands, with a link to go.
  abbrev Sent : ℕ → Type 0
  Sent i = get_or (moved T slot left) i 0 < get_or left i 0

  sent : Decided Sent
  sent i = dec_lt (get_or (moved T slot left) i 0) (get_or left i 0)

  -- The links taken off the first m rows are the rows sent among them.
  taken_off : (m : ℕ) → m ≤ length left → total (take m left) ≡ total (take m (moved T slot left)) + count m sent
  unfolding total count
  taken_off zero l = refl
  taken_off (suc m) l =
      let before = rw add-one at (total_more left m l) in
      let after = rw add-one at (total_more (moved T slot left) m (omega (arith, moved_length T slot left))) in
      omega (arith, taken_off m (omega arith), one (sent m))
    where
      one : (d : Dec (Sent m)) → get_or left m 0 ≡ get_or (moved T slot left) m 0 + tally d
      one (yes d) = omega (arith, tally_one (yes d) d, moved_by_one T slot left m l)
      one (no d) = omega (arith, tally_none (no d) d, moved_less T slot left m l)

  all_taken_off : total left ≡ total (moved T slot left) + count (length left) sent
  all_taken_off =
      let whole = take_all (length left) (moved T slot left) (omega (arith, moved_length T slot left)) in
      rw (take-length left, whole) at (taken_off (length left) (omega arith))

module _ (T : Traffic) (t : ℕ) (left : List ℕ) (ring : OnRing T left) where
  -- Each entry of the rule's slot that names a row sends it, and each row sent is named by one entry.
  entry_sends : (p i : ℕ) → p < T.nodes → get_or (slot_of T t left) p 0 ≡ suc i
      → (i < length left) × Sent T (slot_of T t left) left i × (place T left i ≡ p)
  entry_sends p i inside e = (best.inside, omega (arith, best.stands.under_way_lem, gone), best.stands.here)
    where
      best : Picked T t left p (length left) i
      best = pick_least T t left p (length left) i (sym (slot_entry T t left p inside) ∙ e)

      gone : get_or (moved T (slot_of T t left) left) i 0 ≡ get_or left i 0 - 1
      gone =
          moved_sent T (slot_of T t left) left i best.inside
          (ap (λ q. get_or (slot_of T t left) q 0) best.stands.here ∙ e)

  as_many : count T.nodes (names (slot_of T t left)) ≡ count (length left) (sent T (slot_of T t left) left)
  as_many = le_antisymm no_more no_fewer
    where
      slot : List ℕ
      slot = slot_of T t left

      row : (p : ℕ) → 0 < get_or slot p 0 → get_or slot p 0 ≡ suc (pred (get_or slot p 0))
      row p l = omega arith

      named_at : ℕ → ℕ
      named_at p = pred (get_or slot p 0)

      its_row : (p : ℕ) → p < T.nodes → 0 < get_or slot p 0
          → (named_at p < length left) × Sent T slot left (named_at p) × (place T left (named_at p) ≡ p)
      its_row p l n = entry_sends p (named_at p) l (row p n)

      no_more : count T.nodes (names slot) ≤ count (length left) (sent T slot left)
      no_more =
          count_into (names slot) (length left) (λ p. pred (get_or slot p 0)) T.nodes (sent T slot left)
          (λ p l n. let h = its_row p l n in (h.0, h.1))
          (λ p q l m n o e. sym (its_row p l n).2 ∙ ap (place T left) e ∙ (its_row q m o).2)

      named : (i : ℕ) → i < length left → Sent T slot left i → get_or slot (place T left i) 0 ≡ suc i
      named i l s = moved_named T slot left i l s

      no_fewer : count (length left) (sent T slot left) ≤ count T.nodes (names slot)
      no_fewer =
          count_into (sent T slot left) T.nodes (place T left) (length left) (names slot)
          (λ i l s. (place_inside T left ring i l, omega (arith, named i l s)))
          (λ i j l m s r e. omega (arith, named i l s, named j m r, ap (λ p. get_or slot p 0) e))

  -- One slot takes off as many links as it has entries that name a row.
  pub slot_sends : total left ≡ total (moved T (slot_of T t left) left) + busy (slot_of T t left)
  slot_sends =
      let counted = rw (slot_length T t left) at (busy_counted (slot_of T t left)) in
      omega (arith, all_taken_off T (slot_of T t left) left, as_many)

module _ {T : Traffic} {start : List ℕ} (ring : OnRing T start) where
  -- What the plan of t slots has sent and what is still to go make up the links at the start.
  pub sends_so_far : (t : ℕ) → busy (plan_of T start t) + total (state_at T start t) ≡ total start
  unfolding plan_of state_at busy
  sends_so_far zero = omega arith
  sends_so_far (suc t) =
      let left = state_at T start t in
      let both = busy_append (plan_of T start t) (slot_of T t left) in
      omega (arith, sends_so_far t, slot_sends T t left (state_on_ring T start ring t))

  -- The plan of a run that ends with no late row names a row once for each link to go at the start.
  pub sends_counted : {slots : ℕ} → ((i : ℕ) → i < length start → get_or T.due i 0 ≤ slots)
      → (stop_of T start slots).row ≡ 0 → busy (plan_of T start slots) ≡ total start
  sends_counted {slots} dues on_time = omega (arith, sends_so_far slots, nothing_left)
    where
      end : ℕ
      end = (stop_of T start slots).slot.0

      delivered : (i : ℕ) → i < length (state_at T start slots) → get_or (state_at T start slots) i 0 ≤ 0
      delivered i l =
          let known : i < length start = omega (arith, state_length T start slots) in
          let at_end = none_under_way (state_at T start end) (stop_delivered T start slots dues on_time) i in
          omega (arith, state_less T start i known end slots (stop_first T start slots).within)

      nothing_left : total (state_at T start slots) ≤ 0
      nothing_left = omega (arith, total_below 0 (state_at T start slots) delivered)
