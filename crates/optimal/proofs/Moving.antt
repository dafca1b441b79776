-- How rows go round the ring in a schedule, in document 01's words.
--     named_moves_on             a row that is named where it stands, with a link to go, stands one node on afterwards
--     unnamed_stays              a row that is not named where it stands stays there
--     delivered_stands_there     a row that has no link to go stands at its destination
--     stays_delivered            and has none to go whatever a slot names
-- Assumes nothing.
use mathlib.Core.Path.{◌≡◌, ◌∙◌, ap}
use Prim.Native.Nat.{ℕ, suc, ◌+◌, ◌%◌, ◌<◌}
use native.Mathlib.Omega.{arith}
use mathlib.Core.List.{List}
use lib.ListN.{length, get_or}
use Rattle.ring.specs.Ring.{standing}
use Rattle.ring.proofs.Standing.{one_link_on, at_destination}
use Rattle.slack.specs.Slack.{Traffic, OnRing, place, moved}
use Rattle.slack.proofs.Rule.{moved_sent, moved_waits, moved_less}

module _ (T : Traffic) (slot left : List ℕ) (ring : OnRing T left) (i : ℕ) (known : i < length left) where
  abbrev node : ℕ → ℕ
  node l = standing T.nodes (get_or T.dst i 0) l

  pub named_moves_on : 0 < get_or left i 0 → get_or slot (place T left i) 0 ≡ suc i
      → place T (moved T slot left) i ≡ (place T left i + 1) % T.nodes
  unfolding place
  named_moves_on under_way_lem named =
      ap node (moved_sent T slot left i known named)
      ∙ one_link_on T.nodes (get_or T.dst i 0) (get_or left i 0) (ring.dst_inside i known) under_way_lem
      (ring.left_inside i known)

  pub unnamed_stays : (get_or slot (place T left i) 0 ≡ suc i → ⊥) → place T (moved T slot left) i ≡ place T left i
  unfolding place
  unnamed_stays unnamed = ap node (moved_waits T slot left i known unnamed)

  pub delivered_stands_there : get_or left i 0 ≡ 0 → place T left i ≡ get_or T.dst i 0
  unfolding place
  delivered_stands_there delivered =
      ap node delivered ∙ at_destination T.nodes (get_or T.dst i 0) (ring.dst_inside i known)

  pub stays_delivered : get_or left i 0 ≡ 0 → get_or (moved T slot left) i 0 ≡ 0
  stays_delivered delivered = omega (arith, moved_less T slot left i known)
