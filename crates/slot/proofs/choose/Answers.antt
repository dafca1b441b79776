-- `slot::choose` meets its contract: before the first row every link is idle.
-- Assumes nothing.
use mathlib.Core.Path.{◌∙◌}
use Rattle.slot.specs.Steps.{board_of}
use Rattle.slot.proofs.Looking.{none_looked}
use Rattle.slot.proofs.choose.Goals as goal

pub loop-i-init : goal.loop-i-init
loop-i-init c =
    let a = c.args in
    c.clear.ensures ∙ none_looked (board_of a.cargo a.left.now a.figure.now) _ c.requires.2
