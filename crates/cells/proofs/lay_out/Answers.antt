-- `cells::lay_out` meets its contract: the cells of the first i rows are written, and their links to go.
-- Assumes nothing.
use native.Mathlib.Omega.{arith}
use lib.ListN.{get_or}
use Rattle.std.proofs.Common.{rules}
use Rattle.table.specs.Steps.{none}
use Rattle.cells.proofs.Laying.{rows_none, rows_room, rows_more, rows_all}
use Rattle.cells.proofs.lay_out.Goals as goal

pub loop-i-init : goal.loop-i-init
loop-i-init c = rows_none c.requires

pub overflow_add-next : goal.overflow_add-next
overflow_add-next c = omega (arith, rows_room c.loop-i.invariant none (omega arith))

pub offset_bounds-cells-first : goal.offset_bounds-cells-first
offset_bounds-cells-first c = omega (arith, rows_room c.loop-i.invariant none (omega arith))

pub slice_bounds-lay_row-end : goal.slice_bounds-lay_row-end
slice_bounds-lay_row-end c = omega (arith, rows_room c.loop-i.invariant none (omega arith))

pub offset_bounds-left-first : goal.offset_bounds-left-first
offset_bounds-left-first c = omega (arith, rows_room c.loop-i.invariant none (omega arith))

pub slice_bounds-fill-end : goal.slice_bounds-fill-end
slice_bounds-fill-end c = omega (arith, rows_room c.loop-i.invariant none (omega arith))

pub loop-i-preserved : goal.loop-i-preserved
loop-i-preserved c =
    rows_more c.loop-i.invariant (get_or c.args.rows.now c.loop-i.i none) (omega arith) (search rules)
    _ c.lay_row.ensures _ (search rules)

pub returns : goal.returns
returns c = rows_all c.loop-i.invariant (omega arith)
