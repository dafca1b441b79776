-- The ring of document 01: n nodes, 0 to n - 1, and link p from node p to node (p + 1) mod n.
use Rattle.std.specs.Prelude.{ℕ, ◌+◌, ◌-◌, ◌%◌, cond, eqb}

-- The distance from p to q at the start: (q - p) mod n, and a full turn of n links from a node to itself; n is added
-- first, so that no difference falls below 0.
unfoldable pub distance : (n p q : ℕ) → ℕ
distance n p q = cond (eqb p q) n ((q + n - p) % n)

-- The node at which a row to q stands while it has `left` links to go.
unfoldable pub standing : (n q left : ℕ) → ℕ
standing n q left = (q + n - left) % n
