-- `jam_search::count_ends` meets its contract: after i turns the counts are those of the first i cells.
-- Assumes nothing.
use mathlib.Core.Path.{◌∙◌}
use native.Mathlib.Omega.{arith}
use Rattle.jam_search.proofs.Cells.{left_known, dst_known}
use Rattle.jam_search.proofs.Counting.{ends_none, counted_nowhere}
use Rattle.jam_search.proofs.Counting.{end_inside, end_known, count_small, counted, counted_all}
use Rattle.slack.specs.Slack.{traffic_of}
use Rattle.jam_search.proofs.count_ends.Goals as goal
use Rattle.jam_search.proofs.count_ends.Goals.{in-Some, in_default}

pub loop-i-init : goal.loop-i-init
loop-i-init c = c.clear.ensures ∙ ends_none (traffic_of c.args.cargo) c.args.left.now c.args.link _

pub end_of-requires : goal.end_of-requires
end_of-requires c = (c.requires.1, dst_known c.args.cargo.cells.now c.requires.0.ring c.loop-i-test.true)

pub bounds-left-i : goal.bounds-left-i
bounds-left-i c = left_known c.args.cargo.cells.now c.requires.0.ring c.loop-i-test.true

pub bounds-counts-end : goal.bounds-counts-end
bounds-counts-end c =
    end_known c.args.cargo.cells.now c.requires.0 c.loop-i-test.true c.requires.1 c.loop-i.invariant c.end_of.ensures c.in-Some.is

pub bounds-counts-end-in-Some : goal.bounds-counts-end-in-Some
bounds-counts-end-in-Some c =
    end_known c.args.cargo.cells.now c.requires.0 c.loop-i-test.true c.requires.1 c.loop-i.invariant c.end_of.ensures c.in-Some.is

pub offset_bounds-counts-end : goal.offset_bounds-counts-end
offset_bounds-counts-end c =
    let i = end_inside c.args.cargo.cells.now c.requires.0 c.loop-i-test.true c.requires.1 c.loop-i.invariant c.end_of.ensures c.in-Some.is in
    omega arith

pub overflow_add-counts : goal.overflow_add-counts
overflow_add-counts c =
    let i = count_small c.args.cargo.cells.now c.requires.0 c.loop-i-test.true c.requires.1 c.loop-i.invariant c.end_of.ensures c.in-Some.is in
    omega arith

pub loop-i-preserved : goal.loop-i-preserved
loop-i-preserved c =
    let r = c.requires in
    let i = c.loop-i-test.true in
    let before = c.loop-i.invariant in
    let e = c.end_of.ensures in
    elim c.match-end_of.branch [
      | in-Some w ↦ w.counts-is ∙ counted c.args.cargo.cells.now r.0 i r.1 before e w.in-Some.is
      | in_default w ↦ w.counts-is ∙ counted_nowhere c.args.cargo.cells.now r.0 i r.1 before e w.in_default.is
    ]

pub returns : goal.returns
returns c = counted_all c.args.cargo.cells.now c.args.link c.requires.0 c.loop-i.invariant (omega arith)
