-- `table::measure` meets its contract: after i turns the first i distances are written.
-- Assumes nothing.
use Rattle.std.proofs.Common.{ℕ, ◌∙◌, ap, sym, refl, arith, map, length, get_or, set}
use Rattle.lists.proofs.Build.{map-build, build_of}
use Rattle.lists.proofs.Filling.{filled_more, filled_whole}
use Rattle.ring.specs.Ring.{distance}
use Rattle.table.specs.declared.Row.{Row}
use Rattle.table.specs.Table.{distances}
use Rattle.table.specs.Steps.{none}
use Rattle.table.proofs.measure.Goals as goal

pub loop-i-preserved : goal.loop-i-preserved
loop-i-preserved c =
    let rows = c.args.rows.now in
    let links : ℕ → ℕ = λ j. distance c.args.nodes (get_or rows j none).src (get_or rows j none).dst in
    ap (λ l. set l c.loop-i.i c.links_between-links.result.0) c.loop-i.invariant
    ∙ rw c.links_between-links.ensures (filled_more links c.args.left.now c.loop-i.i (omega arith))

pub returns : goal.returns
unfolding distances
returns c =
    let rows = c.args.rows.now in
    let links : Row → ℕ = λ (r : Row). distance c.args.nodes r.src r.dst in
    c.loop-i.invariant
    ∙ filled_whole (λ j. links (get_or rows j none)) c.args.left.now c.loop-i.i (length rows) (omega arith) (omega arith)
    ∙ sym (map-build (length rows) links (λ j. get_or rows j none))
    ∙ ap (map links) (build_of (length rows) none rows refl)
