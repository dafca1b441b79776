-- `edit::open` meets its contract: the area is cleared and the nodes are noted, or it is left.
-- Assumes nothing.
use Rattle.std.proofs.Common.{◌≡◌, Err, rules}
use Rattle.edit.proofs.Outcomes.{told, refused_opening, good_opening}
use Rattle.edit.proofs.open.Goals as goal

pub returns-in_err-verdict : goal.returns-in_err-verdict
returns-in_err-verdict c =
    let known = told _ c.verdict.ensures c.size_refusal.ensures c.in_err-verdict.was in
    let same : c.from_residual.result ≡ Err c.in_err-verdict.field-0.0 = search rules in
    rw same (refused_opening c.args.nodes c.args.table.now known)

pub returns : goal.returns
returns c =
    let known = told _ c.verdict.ensures c.size_refusal.ensures c.in_ok-verdict.was in
    good_opening c.args.nodes c.args.table.now known (search rules) (c.fill.ensures.after (λ y e. e))
