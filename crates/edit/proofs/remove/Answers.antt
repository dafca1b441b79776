-- `edit::remove` meets its contract: the first refusal is given, or the row is removed.
-- Assumes nothing.
use Rattle.std.proofs.Common.{◌≡◌, Err, rules, refl}
use Rattle.edit_judge.specs.Judge.{Remove}
use Rattle.edit.specs.Edit.{about_row}
use Rattle.edit.proofs.Outcomes.{told, wrong_none, there_to_remove, refused_edit, good_edit}
use Rattle.edit.proofs.remove.Goals as goal

pub returns-in_err-verdict : goal.returns-in_err-verdict
unfolding about_row
returns-in_err-verdict c =
    let a = c.args in
    let known = told _ c.verdict.ensures c.number_refusal-wrong.ensures c.in_err-verdict.was in
    let same : c.from_residual.result ≡ Err c.in_err-verdict.field-0.0 = search rules in
    rw same (refused_edit a.table.now (Remove a.number) _ refl known)

pub remove_row-requires : goal.remove_row-requires
remove_row-requires c =
    let a = c.args in
    let known = told _ c.verdict.ensures c.number_refusal-wrong.ensures c.in_ok-verdict.was in
    there_to_remove a.table.now (search rules) a.number (wrong_none _ _ known)

pub returns : goal.returns
returns c =
    let a = c.args in
    let known = told _ c.verdict.ensures c.number_refusal-wrong.ensures c.in_ok-verdict.was in
    good_edit a.table.now (Remove a.number) _ known c.remove_row.ensures
