-- `area::list_rows` meets its contract: after i turns the first i rows are listed.
use Rattle.std.proofs.Common.{◌≡◌}
use Rattle.lists.specs.Lists.{build}
use Rattle.area.specs.Area.{row_in}
use Rattle.area.proofs.list_rows.Given as goal

abbrev pub invariant-loop-i : goal.invariant-loop-i
invariant-loop-i l = l.rows.items ≡ build l.i (row_in l.table)
