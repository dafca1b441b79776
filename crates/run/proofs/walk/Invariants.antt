-- `run::walk` meets its contract: the outer loop keeps what holds where an instant begins, the inner one that no row
-- before i is late.
-- Assumes nothing.
use mathlib.Core.Path.{◌≡◌}
use Prim.Native.Nat.{◌-◌}
use Rattle.lists.specs.Lists.{largest}
use Rattle.slack.specs.Slack.{dues_in, owners_in, traffic_of}
use Rattle.run.proofs.Walking.{Sought, Going}
use Rattle.run.proofs.walk.Given as goal

abbrev pub invariant-loop-i : goal.invariant-loop-i
invariant-loop-i l = (l.late ≡ l.initial.late) × Sought (traffic_of l.cargo) l.t l.left l.i

abbrev pub invariant-instants : goal.invariant-instants
invariant-instants l =
    Going (traffic_of l.cargo) (owners_in l.cargo.cells.now) l.initial.left l.initial.plan l.initial.arrivals l.t l.late l.left l.figure l.plan l.arrivals

abbrev pub decreases-instants : goal.decreases-instants
decreases-instants l = largest (dues_in l.cargo.cells.now) - l.t
