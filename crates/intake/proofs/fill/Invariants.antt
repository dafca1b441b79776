-- What stands in front of `at` is what the reader gave.
use Rattle.std.specs.Prelude.{◌≡◌, ◌-◌, ◌≤◌, length, take}
use Rattle.std.specs.Io.KnownBytes.{Consumes}
use Rattle.intake.proofs.fill.Given as goal

abbrev pub invariant-loop-at : goal.invariant-loop-at
invariant-loop-at g l =
    (length l.area ≡ length l.initial.area) × (l.at ≤ length l.area) × Consumes (g.R.Read.remaining l.initial.reader)
    (g.R.Read.remaining l.reader) (take l.at l.area)

abbrev pub decreases-loop-at : goal.decreases-loop-at
decreases-loop-at g l = length l.area - l.at
