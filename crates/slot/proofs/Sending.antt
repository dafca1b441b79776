-- The rows that a slot names, link by link: what `send` has done after p links.
-- Assumes nothing.
use mathlib.Core.Path.{◌≡◌, refl, ◌∙◌, ap, sym}
use mathlib.Core.Bool.{Bool, true, false, cond, ◌||◌, or-false, or-true, or_assoc}
use Prim.Native.Nat.{ℕ, zero, suc, ◌+◌, ◌-◌, ◌≤◌, ◌<◌}
use native.Mathlib.Nat.{not-suc-le-zero}
use native.Mathlib.Numerals.{add-one}
use native.Mathlib.Omega.{arith}
use borrow.Author.Tests.{eq-eqb, ne_eqb, eqb-true}
use mathlib.Core.List.{List, [], ◌∷◌}
use lib.Dec.{eqb, eqb-zero-suc}
use lib.IntN.{ℤ}
use lib.ListN.{length, get_or, set, take}
use lib.Seq.{get_or-take, length-take-le}
use Rattle.lists.specs.Lists.{build}
use Rattle.lists.proofs.Build.{length-build, get_or_build, build_ext, build_of, set-build}
use Rattle.slack.specs.Slack.{Traffic, OnRing, place, slot_of, moved}
use Rattle.slack.specs.Figure.{figures_of}
use Rattle.slot.specs.Steps.{named, less, stamped, turned, Sending, SlotPlanned}
use Rattle.slack.proofs.Rule.{Picked, place_inside, slot_length, slot_names}
use Rattle.lists.proofs.Truth.{differ}
use Rattle.slot.proofs.Choosing.{figures_next}

pub named_then : (slot : List ℕ) (i : ℕ) → named slot i ≡ true → (q : ℕ) × (q < length slot) × (get_or slot q 0 ≡ suc i)
unfolding named
named_then [] i e = absurd (differ e)
named_then (x ∷ slot) i e = go (eqb x (suc i)) refl e (named_then slot i)
  where
    go : (b : Bool) → eqb x (suc i) ≡ b → b || named slot i ≡ true
        → (named slot i ≡ true → (q : ℕ) × (q < length slot) × (get_or slot q 0 ≡ suc i))
        → (q : ℕ) × (q < suc (length slot)) × (get_or (x ∷ slot) q 0 ≡ suc i)
    go true h e' rest = (0, omega arith, eqb-true x (suc i) h)
    go false h e' rest = let r = rest e' in (suc r.0, omega arith, r.2)

pub then_named : (slot : List ℕ) (i q : ℕ) → q < length slot → get_or slot q 0 ≡ suc i → named slot i ≡ true
unfolding named
then_named [] i q h e = absurd (not-suc-le-zero h)
then_named (x ∷ slot) i zero h e = rw (eq-eqb x (suc i) e)
then_named (x ∷ slot) i (suc q) h e = rw (then_named slot i q (omega arith) e, or-true)

-- one link more
named-suc : (slot : List ℕ) (p i : ℕ) → p < length slot
    → named (take (suc p) slot) i ≡ (named (take p slot) i || eqb (get_or slot p 0) (suc i))
unfolding named
named-suc [] p i h = absurd (not-suc-le-zero h)
named-suc (x ∷ slot) zero i h = or-false (eqb x (suc i))
named-suc (x ∷ slot) (suc p) i h = rw (named-suc slot p i (omega arith), or_assoc)

named_more : (slot : List ℕ) (p i : ℕ) → p < length slot
    → named (take (p + 1) slot) i ≡ (named (take p slot) i || eqb (get_or slot p 0) (suc i))
named_more slot p i h = rw add-one (named-suc slot p i h)

-- A list that is built by what a slot names, and by nothing else of the slot: what one link changes in it.
module _ (n : ℕ) (F : Bool → ℕ → ℕ) (slot : List ℕ) (p : ℕ) (h : p < length slot) where
  abbrev after : ℕ → List ℕ
  after q = build n (λ j. F (named (take q slot) j) j)

  pub idle_link : get_or slot p 0 ≡ 0 → after (p + 1) ≡ after p
  idle_link e = build_ext n _ _ (λ j l. ap (λ b. F b j) (named_more slot p j h ∙ rw (e, eqb-zero-suc j, or-false)))

  pub busy_link : (i : ℕ) → get_or slot p 0 ≡ suc i → set (after p) i (F true i) ≡ after (p + 1)
  busy_link i e =
      ap (λ b. set (after p) i (F b i)) (sym here)
      ∙ set-build n (λ j. F (named (take p slot) j) j) (λ j. F (named (take (p + 1) slot) j) j) i
      (λ j l d. ap (λ b. F b j) (there j d))
    where
      here : named (take (p + 1) slot) i ≡ true
      here = named_more slot p i h ∙ rw (eq-eqb (get_or slot p 0) (suc i) e, or-true)

      there : (j : ℕ) → (j ≡ i → ⊥) → named (take (p + 1) slot) j ≡ named (take p slot) j
      there j d = named_more slot p j h ∙ rw (ne_eqb (get_or slot p 0) (suc j) (λ s. d (omega arith)), or-false)

module _ {slot left arrivals : List ℕ} (k : Sending slot left arrivals) (end : ℕ) where
  -- what `send` has made of the two lists after p links
  abbrev left_at : ℕ → List ℕ
  left_at p = less (take p slot) left

  abbrev arrivals_at : ℕ → List ℕ
  arrivals_at p = stamped (take p slot) end arrivals

  pub left_first : left ≡ left_at 0
  unfolding less named
  left_first = sym (build_of (length left) 0 left refl) ∙ build_ext (length left) _ _ (λ j l. omega arith)

  pub arrivals_first : arrivals ≡ arrivals_at 0
  unfolding stamped named
  arrivals_first = sym (build_of (length arrivals) 0 arrivals refl)

  pub left_long : (p : ℕ) → length (left_at p) ≡ length left
  unfolding less
  left_long p = length-build (length left) _

  pub arrivals_long : (p : ℕ) → length (arrivals_at p) ≡ length left
  unfolding stamped
  arrivals_long p = length-build (length arrivals) _ ∙ k.rows

  module _ (p : ℕ) (h : p < length slot) where
    pub left_idle : get_or slot p 0 ≡ 0 → left_at p ≡ left_at (p + 1)
    unfolding less
    left_idle e = sym (idle_link (length left) (λ b j. get_or left j 0 - cond b 1 0) slot p h e)

    pub arrivals_idle : get_or slot p 0 ≡ 0 → arrivals_at p ≡ arrivals_at (p + 1)
    unfolding stamped
    arrivals_idle e = sym (idle_link (length arrivals) (λ b j. cond b end (get_or arrivals j 0)) slot p h e)

    module _ (some : 0 < get_or slot p 0) where
      abbrev row : ℕ
      row = get_or slot p 0 - 1

      is_row : get_or slot p 0 ≡ suc row
      is_row = omega arith

      pub row_inside : row < length left
      row_inside = (k.to_go p row h is_row).0

      -- no link before has named the row
      not_before : named (take p slot) row ≡ false
      not_before = go (named (take p slot) row) refl
        where
          go : (b : Bool) → named (take p slot) row ≡ b → b ≡ false
          go false e = refl
          go true e =
              let r = named_then (take p slot) row e in
              let l : length (take p slot) ≡ p = length-take-le p slot (omega arith) in
              let q : r.0 < p = omega arith in
              let s : get_or slot r.0 0 ≡ suc row = sym (get_or-take p slot r.0 0 q) ∙ r.2 in
              let same : r.0 ≡ p = k.once r.0 p row (omega arith) h s is_row in
              absurd (omega arith)

      pub left_was : get_or (left_at p) row 0 ≡ get_or left row 0
      unfolding less
      left_was = get_or_build (length left) _ row 0 row_inside ∙ rw not_before (omega arith)

      pub left_some : 1 ≤ get_or (left_at p) row 0
      left_some = rw left_was (k.to_go p row h is_row).1

      go : set (left_at p) row (get_or left row 0 - 1) ≡ left_at (p + 1)
      unfolding less
      go = busy_link (length left) (λ b j. get_or left j 0 - cond b 1 0) slot p h row is_row

      pub left_sent : (l : List ℕ) → l ≡ left_at p → set l row (get_or l row 0 - 1) ≡ left_at (p + 1)
      left_sent l e = rw (e, left_was) go

      pub arrivals_sent : (l : List ℕ) → l ≡ arrivals_at p → set l row end ≡ arrivals_at (p + 1)
      unfolding stamped
      arrivals_sent l e = rw e (busy_link (length arrivals) (λ b j. cond b end (get_or arrivals j 0)) slot p h row is_row)

-- A chosen slot names only rows under way, each on the link where it stands; so being named and being named there are
-- one.
module _ (T : Traffic) (t : ℕ) (left : List ℕ) (ring : OnRing T left) where
  abbrev slot : List ℕ
  slot = slot_of T t left

  picked : (p i : ℕ) → p < length slot → get_or slot p 0 ≡ suc i → Picked T t left p (length left) i
  picked p i h = slot_names T t left p i (omega (arith, slot_length T t left))

  pub chosen_sending : (arrivals : List ℕ) → length arrivals ≡ length left → Sending slot left arrivals
  chosen_sending arrivals e =
      record {
        rows = e;
        to_go = λ p i h s. ((picked p i h s).inside, (picked p i h s).stands.under_way_lem);
        once = λ p q i h h' s s'. sym (picked p i h s).stands.here ∙ (picked q i h' s').stands.here;
      }

  pub named_under_way : (i : ℕ) → named slot i ≡ true → 0 < get_or left i 0
  named_under_way i e = let r = named_then slot i e in (picked r.0 i r.1 r.2).stands.under_way_lem

  pub named_there : (i : ℕ) → i < length left → named slot i ≡ eqb (get_or slot (place T left i) 0) (suc i)
  named_there i h = go (named slot i) refl
    where
      go : (b : Bool) → named slot i ≡ b → b ≡ eqb (get_or slot (place T left i) 0) (suc i)
      go true e =
          let r = named_then slot i e in
          sym (eq-eqb _ (suc i) (ap (λ q. get_or slot q 0) (picked r.0 i r.1 r.2).stands.here ∙ r.2))
      go false e =
          let inside : place T left i < length slot
          = omega (arith, slot_length T t left, place_inside T left ring i h) in
          sym (ne_eqb _ (suc i) (λ s. differ (sym e ∙ then_named slot i (place T left i) inside s)))

  pub less-moved : less slot left ≡ moved T slot left
  unfolding less moved
  less-moved = build_ext (length left) _ _ (λ i h. ap (λ b. get_or left i 0 - cond b 1 0) (named_there i h))

  -- what `choose` and then `send` leave
  pub can_send : (arrivals s : List ℕ) → length arrivals ≡ length left → s ≡ slot → Sending s left arrivals
  can_send arrivals s e chosen = rw chosen (chosen_sending arrivals e)

  pub slot_planned : (arrivals s left' : List ℕ) (figures' : List ℤ) (arrivals' : List ℕ)
      → s ≡ slot → figures' ≡ turned T.nodes s (figures_of T left)
      → (left' ≡ less s left) × (arrivals' ≡ stamped s (suc t) arrivals)
      → SlotPlanned T t left arrivals s left' figures' arrivals'
  slot_planned arrivals s left' figures' arrivals' chosen corrected sent =
      record {
        carries = chosen;
        moves = sent.0 ∙ rw chosen less-moved;
        figures = corrected ∙ rw chosen (figures_next T left ring t);
        stamps = sent.1 ∙ rw chosen;
      }
