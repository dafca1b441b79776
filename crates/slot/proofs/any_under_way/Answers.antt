-- `slot::any_under_way` meets its contract: the chain makes the definition's test of each entry.
-- Assumes nothing.
use Rattle.std.proofs.Common.{ltb, refl, rules}
use Rattle.std.proofs.lemmas.List.Recursion.{or_is}
use Rattle.slack.specs.Slack.{any_under_way}
use Rattle.slot.proofs.any_under_way.Goals as goal

pub returns : goal.returns
unfolding any_under_way
returns c = or_is any_under_way (ltb 0) refl (λ _ _. refl) c.args.left.now 0 _ (search rules) (search rules)
