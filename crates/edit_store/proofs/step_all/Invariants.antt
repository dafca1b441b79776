-- `edit_store::step_all` meets its contract: the counts passed are stepped, and the others are as they came.
use Rattle.std.proofs.Common.{◌≡◌, ◌++◌, map, take, drop}
use Rattle.edit_store.proofs.step_all.Given as goal

abbrev pub invariant-loop-count : goal.invariant-loop-count
invariant-loop-count g l =
    let d = l.initial.part in l.part ≡ map g.by (take l.count-index d) ++ drop l.count-index d
