-- `text::digit` meets its contract: after so many turns, so many digits are off.
use Rattle.std.proofs.Common.{refl, ap, ◌/◌, add-one}
use Rattle.text.specs.Steps.{tenth}
use Rattle.text.proofs.Pasting.{tenth_suc}
use Rattle.text.proofs.digit.Goals as goal

pub loop-init : goal.loop-init
unfolding tenth
loop-init c = refl

pub loop-preserved : goal.loop-preserved
loop-preserved c = rw (add-one, tenth_suc) (ap (λ n. n / 10) c.loop.invariant)
