-- `lists::sum` meets its contract: the chain adds up the entries.
-- Assumes nothing.
use Rattle.std.proofs.Common.{◌≡◌, ◌∙◌, refl, sym, rules, sum}
use Rattle.std.proofs.lemmas.List.Recursion.{is_sum_by}
use Rattle.lists.specs.Lists.{total}
use Rattle.lists.proofs.sum.Goals as goal

pub returns : goal.returns
unfolding total
returns c =
    let e : c.sum.result ≡ sum c.args.part.now = search rules in
    e ∙ sym (is_sum_by total (λ x. x) refl (λ _ _. refl) c.args.part.now)
