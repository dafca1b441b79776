-- `cells::count_looks` meets its contract: it holds the looks at the first i cells, each at most 65,536.
-- Assumes nothing.
use Rattle.std.proofs.Common.{◌≡◌, ◌≤◌, ◌*◌}
use Rattle.lists.specs.Lists.{build, total}
use Rattle.cells.proofs.Looking.{looked}
use Rattle.cells.proofs.count_looks.Given as goal

abbrev pub invariant-loop-i : goal.invariant-loop-i
invariant-loop-i l = (l.looks ≤ 65536 * l.i) × (l.looks ≡ total (build l.i (looked l.left l.stamps l.all)))
