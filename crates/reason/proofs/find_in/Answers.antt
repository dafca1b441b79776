-- `reason::find_in` meets its contract: the cells that are laid out are searched, and those of the jam are counted by
-- rows.
-- Assumes nothing.
use mathlib.Core.Path.{◌∙◌, sym}
use native.Mathlib.Omega.{arith}
use Rattle.table.proofs.Whole.{sound}
use Rattle.planner.proofs.Good.{measuring}
use Rattle.reason.proofs.Finding.{rows_fit, cells_fit, can_lay, searched, marking, none_found, all_marked}
use Rattle.reason.proofs.find_in.Goals as goal

pub slice_bounds-room-end : goal.slice_bounds-room-end
slice_bounds-room-end c = omega (arith, (sound _ _ c.requires.0).few)

pub slice_bounds-links-end : goal.slice_bounds-links-end
slice_bounds-links-end c = omega (arith, rows_fit _ _ c.requires.0 c.zeros-room.ensures)

pub measure-requires : goal.measure-requires
measure-requires c =
    measuring c.args.nodes c.args.rows.now c.requires.0 _ (sym (rows_fit _ _ c.requires.0 c.zeros-room.ensures))

pub count_cells-count-requires : goal.count_cells-count-requires
count_cells-count-requires c = omega (arith, (sound _ _ c.requires.0).few)

pub slice_bounds-cell_room-end : goal.slice_bounds-cell_room-end
slice_bounds-cell_room-end c = omega (arith, (sound _ _ c.requires.0).cells, c.count_cells-count.ensures)

pub slice_bounds-cells-end : goal.slice_bounds-cells-end
slice_bounds-cells-end c =
    omega (arith, cells_fit _ _ c.requires.0 c.count_cells-count.ensures c.no_cells-cell_room.ensures)

pub slice_bounds-left_room-end : goal.slice_bounds-left_room-end
slice_bounds-left_room-end c = omega (arith, (sound _ _ c.requires.0).cells, c.count_cells-count.ensures)

pub slice_bounds-left-end : goal.slice_bounds-left-end
slice_bounds-left-end c =
    omega (arith, cells_fit _ _ c.requires.0 c.count_cells-count.ensures c.zeros-left_room.ensures)

pub lay_out-requires : goal.lay_out-requires
lay_out-requires c =
    let count = c.count_cells-count.ensures in
    let cells = cells_fit _ _ c.requires.0 count c.no_cells-cell_room.ensures in
    let left = cells_fit _ _ c.requires.0 count c.zeros-left_room.ensures in
    can_lay _ c.requires.0 c.measure.ensures (sym count ∙ cells) (sym count ∙ left)

pub find_jam-requires : goal.find_jam-requires
find_jam-requires c = searched _ c.requires.0 c.measure.ensures c.lay_out.ensures c.last_due.ensures

pub mark-requires : goal.mark-requires
mark-requires c =
    marking _ c.requires.0 c.measure.ensures c.lay_out.ensures c.last_due.ensures c.find_jam.ensures
    c.in-Some.is c.requires.1

pub returns-in_default : goal.returns-in_default
returns-in_default c =
    none_found _ c.requires.0 c.measure.ensures c.lay_out.ensures c.last_due.ensures c.find_jam.ensures
    c.in_default.is c.requires.1 c.clear.ensures

pub returns : goal.returns
returns c =
    all_marked _ c.requires.0 c.measure.ensures c.lay_out.ensures c.last_due.ensures c.find_jam.ensures
    c.in-Some.is c.requires.1 c.mark.ensures
