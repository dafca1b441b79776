-- The ring is a `Way`: from node p on, row i has 1 to N links to its destination, and all rows go round the same way.
-- Assumes nothing.
use Prim.Native.Nat.{ℕ, ◌<◌}
use mathlib.Core.List.{List}
use lib.ListN.{length, get_or}
use Rattle.ring.specs.Ring.{distance, standing}
use Rattle.ring.proofs.Turn.{on_ring}
use Rattle.ring.proofs.Standing.{away, at_source}
use Rattle.ring.proofs.Onward.{still_to_go, same_way}
use Rattle.slack.specs.Slack.{Traffic, OnRing}
use Rattle.optimal.proofs.Window.{Way}

-- The node at which row i stands with l links to go, and the links that it has to go from node p on.
module _ (T : Traffic) where
  abbrev pub node_of : ℕ → ℕ → ℕ
  node_of i l = standing T.nodes (get_or T.dst i 0) l

  abbrev pub links_from : ℕ → ℕ → ℕ
  links_from p i = distance T.nodes p (get_or T.dst i 0)

-- The way that the rows of a table go round the ring.
pub ring_way : (T : Traffic) (start : List ℕ) → OnRing T start
    → Way (length start) T.nodes (λ i. T.nodes) (node_of T) (links_from T)
ring_way T start ring =
    record {
      positive = λ p i inside known. (away T.nodes p (get_or T.dst i 0) inside (ring.dst_inside i known)).some;
      inside = λ i l known links far. on_node i l known;
      away = λ i l known links far. still_to_go T.nodes (get_or T.dst i 0) l (ring.dst_inside i known) links far;
      only = λ p i inside known far. at_source T.nodes p (get_or T.dst i 0) inside (ring.dst_inside i known);
      one_way = λ p q k x i a b known l e far reach.
          same_way T.nodes (get_or T.dst x 0) (get_or T.dst i 0) p q k a b
          (ring.dst_inside x known) (ring.dst_inside i l) e reach;
    }
  where
    on_node : (i l : ℕ) → i < length start → node_of T i l < T.nodes
    on_node i l known = unfold standing in on_ring T.nodes l (get_or T.dst i 0) (ring.dst_inside i known)
