-- When two lists of due slots lead to the same choices: where they put any two rows under way in the same order, and
-- so where one is the other with k added.
--     same_slot             one slot of the rule
--     same_run              its whole run
-- Assumes nothing.
use mathlib.Core.Path.{◌≡◌, refl, ◌∙◌, ap, sym}
use Prim.Native.Nat.{ℕ, zero, suc, ◌+◌, ◌≤◌, ◌<◌}
use native.Mathlib.Omega.{arith}
use mathlib.Core.Bool.{Bool, true, false, cond, ◌&&◌}
use mathlib.Core.List.{List}
use borrow.Author.Tests.{ltb-true, ltb-false, lt-ltb, le-ltb}
use lib.Dec.{ltb, eqb}
use lib.ListN.{length, get_or}
use Rattle.lists.proofs.Build.{build_ext}
use Rattle.slack.specs.Slack.{Traffic, traffic, place, better, pick, slot_of, moved, state_at}
use Rattle.slack.proofs.Rule.{better_than, better_than_none, pick_least}

module _ (n : ℕ) (dst due due' : List ℕ) where
  abbrev before : Traffic
  before = traffic n dst due

  abbrev after : Traffic
  after = traffic n dst due'

  -- By a list of due slots, row i has less slack than row j.
  abbrev less : (due left : List ℕ) (i j : ℕ) → Bool
  less due left i j = ltb (get_or due i 0 + get_or left j 0) (get_or due j 0 + get_or left i 0)

  -- Both lists put rows i and j in the same order, where these are under way.
  abbrev pub Agree : List ℕ → Type 0
  Agree left =
      (i j : ℕ) → i < length left → j < length left → 0 < get_or left i 0 → 0 < get_or left j 0
      → less due left i j ≡ less due' left i j

  module _ (t t' : ℕ) (left : List ℕ) (agree : Agree left) where
    same_place : (i : ℕ) → place before left i ≡ place after left i
    unfolding place
    same_place i = refl

    -- the same test for one row more
    same_better : (p best i : ℕ) → i < length left → ((b : ℕ) → best ≡ suc b → (b < length left) × (0 < get_or left b 0))
        → better before t left p best i ≡ better after t' left p best i
    same_better p zero i known some =
        better_than_none before t left p i
        ∙ ap (λ q. ltb 0 (get_or left i 0) && (eqb q p && true)) (same_place i) ∙ sym (better_than_none after t' left p i)
    same_better p (suc b) i known some =
        better_than before t left p b i
        ∙ ap (λ q. ltb 0 (get_or left i 0) && (eqb q p && less due left i b)) (same_place i)
        ∙ go (ltb 0 (get_or left i 0)) refl ∙ sym (better_than after t' left p b i)
      where
        here : Bool
        here = eqb (place after left i) p

        go : (x : Bool) → ltb 0 (get_or left i 0) ≡ x
            → x && (here && less due left i b) ≡ x && (here && less due' left i b)
        go false e = refl
        go true e =
            let (there, under_way_lem) = some b refl in
            ap (λ y. here && y) (agree i b known there (ltb-true 0 (get_or left i 0) e) under_way_lem)

    same_pick : (p i : ℕ) → i ≤ length left → pick before t left p i ≡ pick after t' left p i
    unfolding pick
    same_pick p zero l = refl
    same_pick p (suc i) l = go (same_pick p i (omega arith))
      where
        stands : (b : ℕ) → pick before t left p i ≡ suc b → (b < length left) × (0 < get_or left b 0)
        stands b e =
            let best = pick_least before t left p i b e in
            (omega (arith, best.inside), best.stands.under_way_lem)

        best : ℕ
        best = pick before t left p i

        best' : ℕ
        best' = pick after t' left p i

        go : best ≡ best'
            → cond (better before t left p best i) (suc i) best ≡ cond (better after t' left p best' i) (suc i) best'
        go e = rw (same_better p best i l stands, e)

    pub same_slot : slot_of before t left ≡ slot_of after t' left
    unfolding slot_of
    same_slot =
        build_ext n (λ p. pick before t left p (length left)) (λ p. pick after t' left p (length left))
        (λ p l. same_pick p (length left) (omega arith))

    same_move : (slot : List ℕ) → moved before slot left ≡ moved after slot left
    unfolding moved place
    same_move slot = refl

    -- One slot of the rule, whatever the instant.
    pub same_step : moved before (slot_of before t left) left ≡ moved after (slot_of after t' left) left
    same_step = same_move (slot_of before t left) ∙ ap (λ slot. moved after slot left) same_slot

  -- The whole run, up to an instant before which the two agree.
  pub same_run : (start : List ℕ) (t : ℕ) → ((s : ℕ) → s < t → Agree (state_at before start s))
      → state_at before start t ≡ state_at after start t
  unfolding state_at
  same_run start zero agree = refl
  same_run start (suc t) agree =
      same_step t t (state_at before start t) (agree t (omega arith))
      ∙ ap (λ left. moved after (slot_of after t left) left) (same_run start t (λ s l. agree s (omega arith)))

  -- Where one list is the other with k added, for the rows that are under way, they agree.
  pub shifted_agree : (k k' : ℕ) (left : List ℕ)
      → ((i : ℕ) → i < length left → 0 < get_or left i 0 → k + get_or due i 0 ≡ k' + get_or due' i 0) → Agree left
  shifted_agree k k' left shift i j ki kj wi wj = go (less due left i j) refl
    where
      -- the two numbers that each list compares
      a : ℕ
      a = get_or due i 0 + get_or left j 0

      b : ℕ
      b = get_or due j 0 + get_or left i 0

      a' : ℕ
      a' = get_or due' i 0 + get_or left j 0

      b' : ℕ
      b' = get_or due' j 0 + get_or left i 0

      go : (x : Bool) → ltb a b ≡ x → ltb a b ≡ ltb a' b'
      go true e =
          let l = ltb-true a b e in
          e ∙ sym (lt-ltb a' b' (omega (arith, shift i ki wi, shift j kj wj)))
      go false e =
          let l = ltb-false a b e in
          e ∙ sym (le-ltb a' b' (omega (arith, shift i ki wi, shift j kj wj)))
