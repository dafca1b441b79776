-- A slot of a schedule, on lists, is a step of the window's theory, and a slot of the rule is one of least slack
-- first.
-- Assumes nothing.
use mathlib.Core.Path.{◌≡◌, refl, ◌∙◌, ap}
use Prim.Native.Nat.{ℕ, zero, suc, ◌<◌}
use native.Mathlib.Omega.{arith}
use mathlib.Core.List.{List}
use lib.ListN.{length, get_or}
use Rattle.slack.specs.Slack.{Traffic, OnRing, place, moved, slot_of, pick}
use Rattle.slack.proofs.Rule.{
  Stands,
  Picked,
  pick_least,
  pick_none,
  place_inside,
  moved_sent,
  moved_less,
  moved_by_one,
  moved_named,
  slot_entry,
}
use Rattle.optimal.proofs.Window.{Window, Step, Before, LeastFirst}
use Rattle.optimal.proofs.Round.{node_of, links_from}

-- The functions that the window's theory wants, from the lists of a table.
abbrev pub links : List ℕ → ℕ → ℕ
links left i = get_or left i 0

module _ (T : Traffic) where
  abbrev pub due_of : ℕ → ℕ
  due_of i = get_or T.due i 0

  -- The window of a state on the ring.
  abbrev pub RingWindow : ℕ → List ℕ → Type 0
  RingWindow t left = Window (length left) T.nodes (λ i. T.nodes) (node_of T) (links_from T) due_of t (links left)

  -- A step from one state on the ring to another, a step of least slack first, and who goes before row x in it.
  abbrev pub RingStep : (left after : List ℕ) → Type 0
  RingStep left after =
      Step (length left) T.nodes (λ i. T.nodes) (node_of T) (links_from T) due_of (links left) (links after)

  abbrev pub RingLeastFirst : (left after : List ℕ) → Type 0
  RingLeastFirst left after =
      LeastFirst (length left) T.nodes (λ i. T.nodes) (node_of T) (links_from T) due_of (links left) (links after)

  abbrev RingBefore : (left after : List ℕ) → (x y : ℕ) → Type 0
  RingBefore left after =
      Before (length left) T.nodes (λ i. T.nodes) (node_of T) (links_from T) due_of (links left) (links after)

  -- What a slot does to a state, whatever it names.
  pub slot_step : (slot left : List ℕ) → RingStep left (moved T slot left)
  unfolding place
  slot_step slot left =
      record {
        no_more = moved_less T slot left;
        one_less = moved_by_one T slot left;
        single = λ i j l m a b same. alone i j l m a b same;
      }
    where
      alone : (i j : ℕ) → i < length left → j < length left
          → get_or (moved T slot left) i 0 < get_or left i 0 → get_or (moved T slot left) j 0 < get_or left j 0
          → place T left i ≡ place T left j → i ≡ j
      alone i j l m a b same =
          omega (arith, moved_named T slot left i l a, ap (λ p. get_or slot p 0) same, moved_named T slot left j m b)

  -- The rule lets a row wait only for one with no more slack.
  pub rule_least_first : (t : ℕ) (left : List ℕ) → OnRing T left → RingLeastFirst left (moved T (slot_of T t left) left)
  unfolding place
  rule_least_first t left ring x known under_way_lem waits = go (pick T t left (place T left x) (length left)) refl
    where
      after : List ℕ
      after = moved T (slot_of T t left) left

      p : ℕ
      p = place T left x

      named : get_or (slot_of T t left) p 0 ≡ pick T t left p (length left)
      named = slot_entry T t left p (place_inside T left ring x known)

      stands : Stands T left p x
      stands = record { under_way_lem = under_way_lem; here = refl }

      go : (n : ℕ) → pick T t left p (length left) ≡ n → (y : ℕ) × RingBefore left after x y
      go zero e = absurd (pick_none T t left p (length left) e x known stands)
      go (suc y) e = (
        y,
        record {
          known = best.inside;
          same_node = best.stands.here;
          moves = sent;
          no_more_slack = best.least x known stands;
        },
      )
        where
          best : Picked T t left p (length left) y
          best = pick_least T t left p (length left) y e

          sent : get_or after y 0 < get_or left y 0
          sent =
              omega (
                arith,
                best.stands.under_way_lem,
                moved_sent T (slot_of T t left) left y best.inside
                    (ap (λ q. get_or (slot_of T t left) q 0) best.stands.here ∙ named ∙ e),
              )
