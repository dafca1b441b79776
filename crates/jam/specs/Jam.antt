-- Why a table is late: a link that more cells must cross before a slot than there are slots before it. From the cells'
-- destinations, due slots and links to go alone: neither the rule nor a run is mentioned. A row of the traffic is a
-- cell here, with its own due slot.
use Rattle.std.specs.Prelude.{ℕ, zero, suc, ◌+◌, Bool, cond, ◌&&◌, List, Option, None, Some, leb, ltb, length, get_or}
use Rattle.ring.specs.Ring.{distance}
use Rattle.slack.specs.Slack.{Traffic}
use Rattle.jam.specs.declared.Jam.{Jam}

-- A cell with `left` links to go to node q has to cross link p if it has at least as many to go as there are from p on
-- to q; and to be there at instant `due` it must cross it before slot b.
unfoldable pub must_cross : (n q due left p b : ℕ) → Bool
must_cross n q due left p b = leb (distance n p q) left && ltb due (b + distance n p q)

-- Cell c must cross link p before slot b.
unfoldable pub crosses_before : Traffic → (start : List ℕ) → (p b c : ℕ) → Bool
crosses_before T start p b c = must_cross T.nodes (get_or T.dst c 0) (get_or T.due c 0) (get_or start c 0) p b

-- How many of the numbers below m pass a test.
unfoldable pub how_many : ℕ → (ℕ → Bool) → ℕ
how_many zero test = 0
how_many (suc m) test = cond (test m) 1 0 + how_many m test

-- How many cells must cross link p before slot b.
unfoldable pub crossing : Traffic → (start : List ℕ) → (p b : ℕ) → ℕ
crossing T start p b = how_many (length start) (crosses_before T start p b)

-- They are more than the slots before b.
unfoldable pub overfull : Traffic → (start : List ℕ) → (p b : ℕ) → Bool
overfull T start p b = ltb b (crossing T start p b)

-- A jam by its three numbers.
abbrev pub jam : (cells p b : ℕ) → Jam
jam cells p b = record { cells = cells; link = record { 0 = p }; before = record { 0 = b } }

-- Of link p, the first of the m slots from b on before which it is overfull, if there is one. No later slot has fewer
-- cells before it.
unfoldable pub first_from : Traffic → (start : List ℕ) → (p m b : ℕ) → Option Jam
first_from T start p zero b = None
first_from T start p (suc m) b =
    cond (overfull T start p b) (Some (jam (crossing T start p b) p b)) (first_from T start p m (suc b))

-- No slot behind the last due slot need be looked at.
unfoldable pub first_in : Traffic → (start : List ℕ) → (slots p : ℕ) → Option Jam
first_in T start slots p = first_from T start p (suc slots) 0

-- The jam of fewer cells, the first of the two on a tie.
unfoldable pub fewer : Option Jam → Option Jam → Option Jam
fewer None next = next
fewer (Some best) None = Some best
fewer (Some best) (Some next) = Some (cond (ltb next.cells best.cells) next best)

-- The one of fewest cells on the links below p.
unfoldable pub fewest_below : Traffic → (start : List ℕ) → (slots p : ℕ) → Option Jam
fewest_below T start slots zero = None
fewest_below T start slots (suc p) = fewer (fewest_below T start slots p) (first_in T start slots p)

-- The jam of fewest cells, and of those the lowest link's, where the last due slot is `slots`; none where no link is
-- overfull.
unfoldable pub the_jam : Traffic → (start : List ℕ) → (slots : ℕ) → Option Jam
the_jam T start slots = fewest_below T start slots T.nodes
