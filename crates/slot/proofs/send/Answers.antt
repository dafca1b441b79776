-- `slot::send` meets its contract: after p turns the rows that the first p links name have been moved and stamped.
-- Assumes nothing.
use mathlib.Core.Path.{◌∙◌, ap}
use Prim.Native.Nat.{◌+◌}
use native.Mathlib.Omega.{arith}
use lib.ListN.{length}
use Rattle.slot.proofs.Sending.{left_first, left_long, left_idle, left_some, left_sent}
use Rattle.slot.proofs.Sending.{arrivals_first, arrivals_long, arrivals_idle, arrivals_sent, row_inside}
use Rattle.slot.proofs.send.Goals.{then-row-gt0, else-row-gt0}
use Rattle.slot.proofs.send.Goals as goal

pub loop-row-init : goal.loop-row-init
loop-row-init c =
    let end = c.args.t.0 + 1 in
    (left_first c.requires.0 end, arrivals_first c.requires.0 end)

pub bounds-left-i : goal.bounds-left-i
bounds-left-i c =
    let k = c.requires.0 in
    let here = row_inside k (c.args.t.0 + 1) c.loop-row.row-index (omega arith) (omega arith) in
    omega (arith, here, left_long k (c.args.t.0 + 1) c.loop-row.row-index, ap length c.loop-row.invariant.0)

pub overflow_sub-left : goal.overflow_sub-left
overflow_sub-left c =
    rw c.loop-row.invariant.0 (left_some c.requires.0 (c.args.t.0 + 1) c.loop-row.row-index (omega arith) (omega arith))

pub bounds-left-i-then-row-gt0 : goal.bounds-left-i-then-row-gt0
bounds-left-i-then-row-gt0 c =
    let k = c.requires.0 in
    let here = row_inside k (c.args.t.0 + 1) c.loop-row.row-index (omega arith) (omega arith) in
    omega (arith, here, left_long k (c.args.t.0 + 1) c.loop-row.row-index, ap length c.loop-row.invariant.0)

pub bounds-arrivals-i : goal.bounds-arrivals-i
bounds-arrivals-i c =
    let k = c.requires.0 in
    let here = row_inside k (c.args.t.0 + 1) c.loop-row.row-index (omega arith) (omega arith) in
    omega (arith, here, arrivals_long k (c.args.t.0 + 1) c.loop-row.row-index, ap length c.loop-row.invariant.1)

pub loop-row-preserved : goal.loop-row-preserved
loop-row-preserved c =
    let k = c.requires.0 in
    let p = c.loop-row.row-index in
    let left = c.loop-row.invariant.0 in
    let arrivals = c.loop-row.invariant.1 in (
      elim c.if-row-gt0.branch [
        | then-row-gt0 w ↦ w.left-is ∙ left_sent k (c.args.t.0 + 1) p (omega arith) w.if-row-gt0.true _ left
        | else-row-gt0 w ↦ w.left-is ∙ left ∙ left_idle k (c.args.t.0 + 1) p (omega arith) (omega arith)
      ],
      elim c.if-row-gt0.branch [
        | then-row-gt0 w ↦ w.arrivals-is ∙ arrivals_sent k (c.args.t.0 + 1) p (omega arith) w.if-row-gt0.true _ arrivals
        | else-row-gt0 w ↦ w.arrivals-is ∙ arrivals ∙ arrivals_idle k (c.args.t.0 + 1) p (omega arith) (omega arith)
      ],
    )
