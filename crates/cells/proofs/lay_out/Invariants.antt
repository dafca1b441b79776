-- `cells::lay_out` meets its contract: the cells of the first i rows are written, and their links to go.
-- Assumes nothing.
use Rattle.cells.proofs.Laying.{LayingRows}
use Rattle.cells.proofs.lay_out.Given as goal

abbrev pub invariant-loop-i : goal.invariant-loop-i
invariant-loop-i l = LayingRows l.rows l.links l.initial.cells l.initial.left l.i l.first l.cells l.left
