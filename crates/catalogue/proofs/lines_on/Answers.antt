-- `catalogue::lines_on` meets its contract: after so many turns so many lines are passed.
-- Assumes nothing.
use Rattle.std.proofs.Common.{refl, ap, ◌∙◌}
use Rattle.catalogue.specs.Catalogue.{behind_line}
use Rattle.catalogue.specs.Steps.{lines_on}
use Rattle.catalogue.proofs.LineLemmas.{line_passed}
use Rattle.catalogue.proofs.lines_on.Goals as goal

pub loop-init : goal.loop-init
unfolding lines_on
loop-init c = refl

pub loop-preserved : goal.loop-preserved
loop-preserved c =
    let l = c.loop in
    c.behind_line-rest.ensures ∙ ap behind_line l.invariant ∙ line_passed l.counter c.args.text.now
