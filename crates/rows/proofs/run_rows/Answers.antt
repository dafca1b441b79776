-- `rows::run_rows` meets its contract: the cells that are laid out are run, and their arrivals gathered by rows.
-- Assumes nothing.
use mathlib.Core.Path.{◌∙◌}
use Rattle.rows.proofs.Rowing.{fits, opens, can_run, rows_ran}
use Rattle.rows.proofs.run_rows.Goals as goal

pub lay_out-requires : goal.lay_out-requires
lay_out-requires c = opens _ _ _ c.requires c.count_cells-count.ensures c.no_cells-cells.ensures c.zeros-left.ensures

pub run-ending-requires : goal.run-ending-requires
run-ending-requires c =
    can_run _ _ _ c.requires c.lay_out.ensures _ (fits _ _ _ c.requires c.count_cells-count.ensures _ c.zeros-stamps.ensures)

pub gather_last-requires : goal.gather_last-requires
gather_last-requires c = (
  c.requires.some,
  c.run-ending.auto.arrivals ∙ fits _ _ _ c.requires c.count_cells-count.ensures _ c.zeros-stamps.ensures,
  c.requires.each,
)

pub returns : goal.returns
returns c = rows_ran _ _ _ c.requires c.lay_out.ensures c.run-ending.ensures c.gather_last.ensures
