-- `run::run` meets its contract: what `walk` left over cleared arrivals, and the areas cleared behind it or as
-- a whole.
-- Assumes nothing.
use mathlib.Core.Path.{◌≡◌}
use mathlib.Core.List.{List}
use Prim.Native.Nat.{ℕ}
use native.Mathlib.Omega.{arith}
use lib.IntN.{ℤ}
use lib.ListN.{length, replicate}
use Rattle.slack.specs.Slack.{Traffic}
use Rattle.slack.specs.declared.Stop.{Stop}
use Rattle.slack.proofs.Cells.{owners_long}
use Rattle.run.specs.Steps.{Ready, Walked}
use Rattle.run.proofs.Running.{Over, inside, known_cell, accepted, refused}
use Rattle.run.proofs.run.Goals as goal

-- The walk has been left.
left_off : {T : Traffic} {owner start plan₀ lent arrivals₀ : List ℕ} {stop : Stop}
    {left : List ℕ} {figures : List ℤ} {plan arrivals : List ℕ}
    → Ready T owner start plan₀ lent → arrivals₀ ≡ replicate {A = ℕ} (length lent) 0
    → Walked T owner start plan₀ arrivals₀ stop left figures plan arrivals
    → length plan ≡ length plan₀ → length arrivals ≡ length arrivals₀
    → Over T owner start plan₀ stop left plan arrivals
left_off ready cleared walked plan_long arrivals_long =
    record {
      lent = _;
      arrivals₀ = _;
      figures = _;
      ready = ready;
      cleared = cleared;
      walked = walked;
      plan_long = plan_long;
      arrivals_long = arrivals_long;
    }

pub end_in_rows-ended-requires : goal.end_in_rows-ended-requires
end_in_rows-ended-requires c =
    rw (owners_long c.args.cargo.cells.now) at
    (known_cell
    (left_off c.requires.0 c.clear.ensures c.walk-stop.ensures c.walk-stop.auto.plan c.walk-stop.auto.arrivals))

pub slice_bounds-clear-start : goal.slice_bounds-clear-start
slice_bounds-clear-start c =
    inside
    (left_off c.requires.0 c.clear.ensures c.walk-stop.ensures c.walk-stop.auto.plan c.walk-stop.auto.arrivals)

pub returns-then-stop-eq0 : goal.returns-then-stop-eq0
returns-then-stop-eq0 c =
    accepted
    (left_off c.requires.0 c.clear.ensures c.walk-stop.ensures c.walk-stop.auto.plan c.walk-stop.auto.arrivals)
    (omega arith) _ c.clear-then-stop-eq0.ensures
    _ c.end_in_rows-ended.ensures c.count_looks-looks.ensures

pub returns-else-stop-eq0 : goal.returns-else-stop-eq0
returns-else-stop-eq0 c =
    refused
    (left_off c.requires.0 c.clear.ensures c.walk-stop.ensures c.walk-stop.auto.plan c.walk-stop.auto.arrivals)
    (omega arith)
    _ _ c.clear-else-stop-eq0.ensures c.clear-else-stop-eq0-2.ensures
    _ c.end_in_rows-ended.ensures c.count_looks-looks.ensures

pub slice_bounds-clear-count : goal.slice_bounds-clear-count
slice_bounds-clear-count c =
    inside
    (left_off c.requires.0 c.clear.ensures c.walk-stop.ensures c.walk-stop.auto.plan c.walk-stop.auto.arrivals)
