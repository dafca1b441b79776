-- `edit::change` meets its contract: the first refusal is given, or the row is changed.
-- Assumes nothing.
use Rattle.std.proofs.Common.{◌≡◌, Err, rules, refl}
use Rattle.edit_judge.specs.Judge.{Change}
use Rattle.edit.specs.Edit.{about_row}
use Rattle.edit.proofs.Outcomes.{told, wrong_none, there_to_change, refused_edit, good_edit}
use Rattle.edit.proofs.change.Goals as goal

pub returns-in_err-verdict : goal.returns-in_err-verdict
unfolding about_row
returns-in_err-verdict c =
    let a = c.args in
    let known = told _ c.verdict.ensures c.change_refusal-wrong.ensures c.in_err-verdict.was in
    let same : c.from_residual.result ≡ Err c.in_err-verdict.field-0.0 = search rules in
    rw same (refused_edit a.table.now (Change a.number a.row) _ refl known)

pub change_row-requires : goal.change_row-requires
change_row-requires c =
    let a = c.args in
    let known = told _ c.verdict.ensures c.change_refusal-wrong.ensures c.in_ok-verdict.was in
    there_to_change a.table.now (search rules) a.number a.row (wrong_none _ _ known)

pub returns : goal.returns
returns c =
    let a = c.args in
    let known = told _ c.verdict.ensures c.change_refusal-wrong.ensures c.in_ok-verdict.was in
    good_edit a.table.now (Change a.number a.row) _ known c.change_row.ensures
