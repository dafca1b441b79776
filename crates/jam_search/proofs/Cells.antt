-- Cells on the ring: each has a count of links to go, and its destination is a node.
-- Assumes nothing.
use mathlib.Core.Path.{◌≡◌, ◌∙◌, sym}
use Prim.Native.Nat.{ℕ, ◌<◌}
use native.Mathlib.Omega.{arith}
use mathlib.Core.List.{List}
use lib.ListN.{length, get_or}
use Rattle.slack.specs.declared.Cell.{Cell}
use Rattle.slack.specs.Slack.{OnRing, traffic_in}
use Rattle.slack.proofs.Cells.{no_cell, dsts_long, dst_at}

module _ (cells : List Cell) {nodes : ℕ} {left : List ℕ} (ring : OnRing (traffic_in nodes cells) left) where
  -- There are as many counts of links as cells.
  pub left_long : length left ≡ length cells
  left_long = sym ring.dst_each ∙ dsts_long cells

  module _ {i : ℕ} (known : i < length cells) where
    pub left_known : i < length left
    left_known = omega (arith, left_long, known)

    pub dst_known : (get_or cells i no_cell).dst.0 < nodes
    dst_known = omega (arith, dst_at cells i, ring.dst_inside i left_known)
