-- A slot planned by figures: the row of lowest figure is the row of least slack, and one correction keeps the figures.
--     lowest_is_least, chosen_is_least     what each link carries, at whatever instant
--     figures_next                         the figures after the slot
-- Assumes nothing.
use mathlib.Core.Path.{◌≡◌, refl, sym}
use mathlib.Core.Bool.{Bool, true, false, cond, ◌&&◌, ◌||◌}
use mathlib.Core.List.{List}
use Prim.Native.Nat.{ℕ, zero, suc, ◌-◌, ◌≤◌, ◌<◌}
use native.Mathlib.Omega.{arith}
use borrow.Author.Tests.{eqb-true}
use lib.Dec.{eqb}
use lib.IntN.{ℤ, pos, ◌+ℤ◌}
use lib.Signed.{lt_z}
use lib.ListN.{length, get_or}
use Rattle.lists.proofs.Build.{build_ext}
use Rattle.slack.specs.Slack.{Traffic, OnRing, under_way, place, slack, better, pick, slot_of, moved}
use Rattle.slack.specs.Figure.{figure, figures_of}
use Rattle.slack.proofs.Rule.{pick_least, moved_length}
use Rattle.slack.proofs.Figures.{figures_long, figure_at, same_order_at, figure_next}
use Rattle.slot.specs.Steps.{Board, board, stands_at, lower, lowest, seen, turned}

module _ (T : Traffic) (left : List ℕ) (ring : OnRing T left) (t : ℕ) where
  abbrev B : Board
  B = board T.nodes T.dst left (figures_of T left)

  -- row i has a lower figure, or less slack, than row j
  abbrev lower_figure : (i j : ℕ) → Bool
  lower_figure i j = lt_z (get_or (figures_of T left) i (pos 0)) (get_or (figures_of T left) j (pos 0))

  abbrev less_slack : (i j : ℕ) → Bool
  less_slack i j = lt_z (slack T t left i) (slack T t left j)

  lower_is_better : (p best i : ℕ) → i < length left → pick T t left p i ≡ best
      → lower B p best i ≡ better T t left p best i
  unfolding lower better stands_at place
  lower_is_better p zero i h e = refl
  lower_is_better p (suc b) i h e =
      let rival = pick_least T t left p i b e in
      let inside : b < length left = omega (arith, rival.inside) in
      go (eqb (place T left i) p) refl (λ here.
      rw (figure_at T left i h, figure_at T left b inside)
      (same_order_at T left ring t p i b h inside here rival.stands.here))
    where
      go : (q : Bool) → eqb (place T left i) p ≡ q → (place T left i ≡ p → lower_figure i b ≡ less_slack i b)
          → under_way left i && (q && (eqb (suc b) 0 || lower_figure i b))
          ≡ under_way left i && (q && (eqb (suc b) 0 || less_slack i b))
      go true q order = rw (order (eqb-true (place T left i) p q))
      go false q order = refl

  -- The row of lowest figure is the row of least slack, at whatever instant.
  pub lowest_is_least : (p i : ℕ) → i ≤ length left → lowest B p i ≡ pick T t left p i
  unfolding lowest pick
  lowest_is_least p zero h = refl
  lowest_is_least p (suc i) h =
      let same = lowest_is_least p i (omega arith) in
      rw (same, lower_is_better p (pick T t left p i) i (omega arith) refl)

  pub chosen_is_least : seen B (length left) ≡ slot_of T t left
  unfolding seen slot_of
  chosen_is_least =
      build_ext T.nodes (λ p. lowest B p (length left)) (λ p. pick T t left p (length left))
      (λ p h. lowest_is_least p (length left) (omega arith))

  abbrev next : List ℕ
  next = moved T (slot_of T t left) left

  -- The figures after a slot: that of the row which the last link carries is corrected, and all others stand.
  pub figures_next : turned T.nodes (slot_of T t left) (figures_of T left) ≡ figures_of T next
  unfolding turned figures_of
  figures_next =
      rw (figures_long T left, moved_length T (slot_of T t left) left)
      (build_ext (length left) after (figure T next) one)
    where
      after : ℕ → ℤ
      after i =
          cond (eqb (get_or (slot_of T t left) (T.nodes - 1) 0) (suc i))
          (get_or (figures_of T left) i (pos 0) +ℤ pos T.nodes) (get_or (figures_of T left) i (pos 0))

      one : (i : ℕ) → i < length left → after i ≡ figure T next i
      one i h = rw (figure_at T left i h) (sym (figure_next T left ring t i h))
