-- `slot::write_figures` meets its contract: after i turns the first i figures are written.
-- Assumes nothing.
use borrow.Author.Rules.{sfits_of}
use mathlib.Core.Path.{◌≡◌, ◌∙◌}
use mir.Syntax.{w32}
use mir.Val.{to_z, of_z}
use mir.Facts.{to_z-of_z}
use native.Mathlib.Omega.{arith}
use lib.ListN.{length}
use Rattle.lists.proofs.Filling.{filled_more, filled_whole}
use Rattle.slack.specs.Slack.{traffic_of}
use Rattle.slack.specs.Figure.{figure as figureIn, figures_of}
use Rattle.slack.proofs.Cells.{dsts_long, dst_at, due_at}
use Rattle.slot.proofs.write_figures.Goals as goal

pub bounds-left-i : goal.bounds-left-i
bounds-left-i c = omega (arith, dsts_long c.args.cargo.cells.now, c.requires.0.dst_each)

pub bounds-figure-i : goal.bounds-figure-i
bounds-figure-i c = omega (arith, dsts_long c.args.cargo.cells.now, c.requires.0.dst_each)

pub loop-i-preserved : goal.loop-i-preserved
unfolding figureIn
loop-i-preserved c =
    let a = c.args in
    let i = c.loop-i.i in
    let f = figureIn (traffic_of a.cargo) a.left.now in
    let v : to_z w32 (of_z w32 c.figure_of.result) ≡ f i
    = to_z-of_z (sfits_of {w = w32} {z = c.figure_of.result} c.figure_of.type_inv)
    ∙ c.figure_of.ensures ∙ rw (dst_at a.cargo.cells.now i, due_at a.cargo.cells.now i) in
    let more = filled_more f a.figure.now i (omega (arith, dsts_long a.cargo.cells.now, c.requires.0.dst_each)) in
    rw (v, c.loop-i.invariant) more

pub returns : goal.returns
unfolding figures_of
returns c =
    let l = c.loop-i in
    let left = c.args.left.now in
    let all : l.i ≡ length left = omega (arith, dsts_long c.args.cargo.cells.now, c.requires.0.dst_each) in
    l.invariant ∙ filled_whole _ _ l.i (length left) all c.requires.1
