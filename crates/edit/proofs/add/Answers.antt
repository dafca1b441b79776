-- `edit::add` meets its contract: the first refusal is given, or the row is added.
-- Assumes nothing.
use Rattle.std.proofs.Common.{◌≡◌, Err, rules}
use Rattle.edit_judge.specs.Judge.{Add}
use Rattle.edit.specs.Edit.{about_row}
use Rattle.edit.proofs.Outcomes.{told, wrong_none, add_roomy, refused_edit, good_edit, coming_number}
use Rattle.edit.proofs.add.Goals as goal

pub returns-in_err-verdict : goal.returns-in_err-verdict
unfolding about_row
returns-in_err-verdict c =
    let a = c.args in
    let known = told _ c.verdict.ensures c.add_refusal-wrong.ensures c.in_err-verdict.was in
    let same : c.from_residual.result ≡ Err c.in_err-verdict.field-0.0 = search rules in
    rw same (refused_edit a.table.now (Add a.row) _ (rw c.saturating_add.ensures (coming_number _ _ a.row)) known)

pub add_row-requires : goal.add_row-requires
add_row-requires c =
    let a = c.args in
    let known = told _ c.verdict.ensures c.add_refusal-wrong.ensures c.in_ok-verdict.was in
    add_roomy a.table.now (search rules) a.row (wrong_none _ _ known)

pub returns : goal.returns
returns c =
    let a = c.args in
    let known = told _ c.verdict.ensures c.add_refusal-wrong.ensures c.in_ok-verdict.was in
    good_edit a.table.now (Add a.row) _ known c.add_row.ensures
