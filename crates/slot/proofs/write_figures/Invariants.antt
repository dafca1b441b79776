-- `slot::write_figures` meets its contract: after i turns the first i figures are written.
-- Assumes nothing.
use mathlib.Core.Path.{◌≡◌}
use Rattle.lists.proofs.Filling.{filled}
use Rattle.slack.specs.Slack.{traffic_of}
use Rattle.slack.specs.Figure.{figure as figureIn}
use Rattle.slot.proofs.write_figures.Given as goal

abbrev pub invariant-loop-i : goal.invariant-loop-i
invariant-loop-i l =
    l.figure ≡ filled (figureIn (traffic_of l.cargo) l.left) l.initial.figure l.i
