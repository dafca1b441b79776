-- `lists::greatest` meets its contract: the chain's answer is an entry that none is above.
-- Assumes nothing.
use Rattle.std.proofs.Common.{refl, arith, rules}
use Rattle.std.proofs.lemmas.Grind.{common_steps}
use Rattle.std.proofs.lemmas.List.Recursion.{max_bounds, max_least}
use Rattle.lists.specs.Lists.{largest}
use Rattle.lists.proofs.greatest.Goals as goal

pub returns : goal.returns
unfolding largest
returns c =
    let bounds = max_bounds largest (λ x. x) refl (λ _ _. refl) c.args.part.now in
    let least = max_least largest (λ x. x) refl (λ _ _. refl) c.args.part.now 0 c.unwrap_or.result (search rules) in
    grind (arith, common_steps, bounds, least)
