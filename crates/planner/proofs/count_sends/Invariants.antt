-- `planner::count_sends` meets its contract: it holds the sends of the first i rows.
-- Assumes nothing.
use Rattle.std.proofs.Common.{◌≡◌, ◌*◌, get_or}
use Rattle.lists.specs.Lists.{build, total}
use Rattle.table.specs.Table.{lengths}
use Rattle.planner.proofs.count_sends.Given as goal

abbrev pub invariant-loop-i : goal.invariant-loop-i
invariant-loop-i l =
    l.sends ≡ total (build l.i (λ j. get_or (lengths l.rows) j 0 * get_or l.links j 0))
