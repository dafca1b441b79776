-- One slot planned by figures: what each step of it asks, and what all of it gives, for whatever due slots these are
-- the figures of.
-- Assumes nothing.
use mathlib.Core.Path.{◌≡◌, ◌∙◌, ap}
use mathlib.Core.List.{List}
use Prim.Native.Nat.{ℕ, suc, ◌+◌, ◌-◌, ◌≤◌, ◌<◌, ◌^◌}
use native.Mathlib.Omega.{arith}
use mathlib.Core.Bool.{Bool, true, false, cond}
use lib.Dec.{ltb}
use lib.IntN.{ℤ, pos}
use lib.Signed.{mag}
use lib.ListN.{length, get_or}
use Rattle.lists.proofs.Build.{get_or_build}
use Rattle.slack.specs.Slack.{Traffic, traffic, OnRing, slot_of}
use Rattle.slack.specs.Figure.{turn_of, figure, figures_of}
use Rattle.slack.proofs.Signed.{difference_range}
use Rattle.slack.proofs.Figures.{figure_is, figures_long, figure_at}
use Rattle.slot.specs.Steps.{board, Placed, lowest, seen, turned, less, stamped}
use Rattle.slot.specs.Steps.{Turning, Sending, Slotted, SlotPlanned}
use Rattle.slot.proofs.Choosing.{chosen_is_least}
use Rattle.slot.proofs.Looking.{seen-length, lowest_few}
use Rattle.slot.proofs.Sending as sending

-- The slot that is chosen by figures is that of least slack.
chosen : (n : ℕ) (dst due left : List ℕ) (figures : List ℤ) (t : ℕ) (s : List ℕ)
    → OnRing (traffic n dst due) left → figures ≡ figures_of (traffic n dst due) left
    → s ≡ seen (board n dst left figures) (length left) → s ≡ slot_of (traffic n dst due) t left
chosen n dst due left figures t s ring figured so =
    so ∙ rw figured (chosen_is_least (traffic n dst due) left ring t)

turn_most : (n dst left : ℕ) → turn_of n dst left ≤ n
unfolding turn_of
turn_most n dst left = go (ltb dst left)
  where
    go : (b : Bool) → cond b n 0 ≤ n
    go true = omega arith
    go false = omega arith

module _ {n : ℕ} {dst : List ℕ} {t : ℕ} {left : List ℕ} {figures : List ℤ} {slot arrivals : List ℕ}
    (k : Slotted n dst t left figures slot arrivals) where
  abbrev T : Traffic
  T = traffic n dst k.due

  as_many : length figures ≡ length left
  as_many = ap length k.figured ∙ figures_long T left

  pub can_choose : Placed (board n dst left figures)
  can_choose =
      record {
        dst_each = k.ring.dst_each;
        figure_each = as_many;
        dst_inside = k.ring.dst_inside;
        left_inside = k.ring.left_inside;
      }

  figure_small : n < 2 ^ 16 → (i : ℕ) → i < length left → mag (get_or figures i (pos 0)) < 2 ^ 30
  unfolding figure
  figure_small h i l =
      let d = get_or dst i 0 in
      let due = get_or k.due i 0 in
      let links = get_or left i 0 in
      let turn = turn_of n d links in
      let due_small : due < 2 ^ 30 = omega (arith, k.small i l) in
      let sum_small : d + turn < 2 ^ 30 = omega (arith, k.ring.dst_inside i l, turn_most n d links) in
      rw (k.figured, figure_at T left i l, figure_is n d due links)
      (difference_range due (d + turn) (2 ^ 30) due_small sum_small)

  module _ (s : List ℕ) (so : s ≡ seen (board n dst left figures) (length left)) where
    last_named : get_or s (n - 1) 0 ≤ length left
    unfolding seen
    last_named =
        let B = board n dst left figures in
        let last : n - 1 < n = omega (arith, k.ring.some_node) in
        rw (so, get_or_build n (λ p. lowest (board n dst left figures) p (length left)) (n - 1) 0 last)
        (lowest_few (board n dst left figures) (n - 1) (length left))

    pub can_turn : n < 2 ^ 16 → Turning n s figures
    can_turn h =
        record {
          some_node = k.ring.some_node;
          links = ap length so ∙ seen-length (board n dst left figures) (length left);
          names = omega (arith, last_named, as_many);
          small = λ i l. figure_small h i (omega (arith, as_many));
        }

    pub can_send : Sending s left arrivals
    can_send =
        sending.can_send T t left k.ring arrivals s k.rows
        (chosen n dst k.due left figures t s k.ring k.figured so)

-- What planning the slot gives.
pub planned : (n : ℕ) (dst left arrivals : List ℕ) (figures : List ℤ) (t : ℕ)
    (s left' : List ℕ) (figures' : List ℤ) (arrivals' : List ℕ)
    → s ≡ seen (board n dst left figures) (length left)
    → figures' ≡ turned n s figures
    → (left' ≡ less s left) × (arrivals' ≡ stamped s (suc t) arrivals)
    → (due : List ℕ) → OnRing (traffic n dst due) left → figures ≡ figures_of (traffic n dst due) left
    → SlotPlanned (traffic n dst due) t left arrivals s left' figures' arrivals'
planned n dst left arrivals figures t s left' figures' arrivals' so corrected sent due ring figured =
    sending.slot_planned (traffic n dst due) t left ring arrivals s left' figures' arrivals'
    (chosen n dst due left figures t s ring figured so) (corrected ∙ rw figured) sent
