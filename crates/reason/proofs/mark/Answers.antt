-- `reason::mark` meets its contract: after i turns the counts are those of the first i cells.
-- Assumes nothing.
use mathlib.Core.Path.{◌∙◌}
use native.Mathlib.Omega.{arith}
use Rattle.jam_search.proofs.Cells.{left_known, dst_known}
use Rattle.reason.proofs.Marks.{marked_none, marked_all}
use Rattle.reason.proofs.Marks.{row_some, row_known, mark_small, marked_past, marked_more}
use Rattle.reason.proofs.mark.Goals as goal
use Rattle.reason.proofs.mark.Goals.{then-is_in, else-is_in}

pub loop-i-init : goal.loop-i-init
loop-i-init c = c.clear.ensures ∙ marked_none _ _ _ _ _ _

pub bounds-left-i : goal.bounds-left-i
bounds-left-i c = left_known c.args.cargo.cells.now c.requires.ring c.loop-i-test.true

pub is_in-requires : goal.is_in-requires
is_in-requires c =
    let h = c.requires in (h.inside, dst_known c.args.cargo.cells.now h.ring c.loop-i-test.true, h.small, h.soon)

pub overflow_sub-row : goal.overflow_sub-row
overflow_sub-row c = omega (arith, row_some c.args.cargo.cells.now c.requires c.loop-i-test.true)

pub bounds-members-row : goal.bounds-members-row
bounds-members-row c = row_known c.args.cargo.cells.now c.requires c.loop-i-test.true c.loop-i.invariant

pub bounds-members-row-then-is_in : goal.bounds-members-row-then-is_in
bounds-members-row-then-is_in c = row_known c.args.cargo.cells.now c.requires c.loop-i-test.true c.loop-i.invariant

pub overflow_add-members : goal.overflow_add-members
overflow_add-members c =
    let small = mark_small c.args.cargo.cells.now c.requires c.loop-i-test.true c.loop-i.invariant in omega arith

pub loop-i-preserved : goal.loop-i-preserved
loop-i-preserved c =
    let past = marked_past c.args.cargo.cells.now c.requires c.loop-i-test.true c.loop-i.invariant c.is_in.ensures in
    let more = marked_more c.args.cargo.cells.now c.requires c.loop-i-test.true c.loop-i.invariant c.is_in.ensures in
    elim c.if-is_in.branch [
      | then-is_in w ↦ w.members-is ∙ more w.if-is_in.true
      | else-is_in w ↦ w.members-is ∙ past w.if-is_in.false
    ]

pub returns : goal.returns
returns c = marked_all c.args.cargo.cells.now c.requires c.loop-i.invariant (omega arith)
