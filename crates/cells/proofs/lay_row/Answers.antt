-- `cells::lay_row` meets its contract: the first j cells are written.
-- Assumes nothing.
use mathlib.Core.Path.{◌≡◌}
use Prim.Native.Nat.{suc, ◌-◌}
use native.Mathlib.Omega.{arith}
use Rattle.lists.proofs.Filling.{filled_more}
use Rattle.cells.specs.Steps.{cell_of}
use Rattle.cells.proofs.lay_row.Goals as goal

pub loop-j-preserved : goal.loop-j-preserved
loop-j-preserved c =
    let r = c.args.row in
    let j = c.loop-j.j in
    let e : c.saturating_sub.result ≡ r.due - (r.len - suc j) = omega (arith, c.saturating_sub.ensures) in
    rw (e, c.loop-j.invariant) (filled_more (cell_of r c.args.number) c.args.cells.now j (omega arith))
