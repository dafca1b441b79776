-- `jam_search::first_in` meets its contract: at slot b the link is overfull before none of the slots in front, and the
-- cells are those that must cross before them.
-- Assumes nothing.
use native.Mathlib.Omega.{arith}
use Rattle.jam_search.proofs.Searching.{scanned_none, scanned_end, sum_small, scanned_here, scanned_more}
use Rattle.jam_search.proofs.first_in.Goals as goal

pub loop-b-init : goal.loop-b-init
loop-b-init c = scanned_none

pub overflow_add-sum : goal.overflow_add-sum
overflow_add-sum c =
    let s = c.requires.0 in
    let small = sum_small c.loop-b.invariant s c.count_ends.ensures (omega arith) (omega (arith, c.requires.2)) in
    omega (arith, small)

pub returns-then-b-sum : goal.returns-then-b-sum
returns-then-b-sum c =
    let s = c.requires.0 in
    scanned_here c.loop-b.invariant s c.count_ends.ensures (omega arith) (omega (arith, c.requires.2)) (omega arith)

pub loop-b-preserved : goal.loop-b-preserved
loop-b-preserved c =
    let s = c.requires.0 in
    scanned_more c.loop-b.invariant s c.count_ends.ensures (omega arith) (omega (arith, c.requires.2)) (omega arith)

pub returns : goal.returns
returns c = scanned_end c.loop-b.invariant (omega arith)

pub returns-else-b-sum : goal.returns-else-b-sum
returns-else-b-sum c =
    let s = c.requires.0 in
    let more = scanned_more c.loop-b.invariant s c.count_ends.ensures (omega arith) (omega (arith, c.requires.2))
    (omega arith) in
    scanned_end more (omega arith)
