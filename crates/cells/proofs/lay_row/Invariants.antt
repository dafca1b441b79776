-- `cells::lay_row` meets its contract: the first j cells are written.
-- Assumes nothing.
use Rattle.std.proofs.Common.{◌≡◌}
use Rattle.lists.proofs.Filling.{filled}
use Rattle.cells.specs.Steps.{cell_of}
use Rattle.cells.proofs.lay_row.Given as goal

abbrev pub invariant-loop-j : goal.invariant-loop-j
invariant-loop-j l = l.cells ≡ filled (cell_of l.row l.number) l.initial.cells l.j
