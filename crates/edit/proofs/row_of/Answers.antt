-- `edit::row_of` meets its contract: the first refusal is given, or the row is read.
-- Assumes nothing.
use Rattle.std.proofs.Common.{◌≡◌, Err, rules, arith}
use Rattle.edit.proofs.Outcomes.{told, wrong_none, there_to_remove, no_entry, an_entry}
use Rattle.edit.proofs.row_of.Goals as goal

pub returns-in_err-verdict : goal.returns-in_err-verdict
returns-in_err-verdict c =
    let a = c.args in
    let known = told _ c.verdict.ensures c.number_refusal-wrong.ensures c.in_err-verdict.was in
    let same : c.from_residual.result ≡ Err c.in_err-verdict.field-0.0 = search rules in
    rw same (no_entry a.table.now a.number known)

pub overflow_sub-number : goal.overflow_sub-number
overflow_sub-number c =
    let a = c.args in
    let known = told _ c.verdict.ensures c.number_refusal-wrong.ensures c.in_ok-verdict.was in
    (there_to_remove a.table.now (search rules) a.number (wrong_none _ _ known)).first

pub row_in-requires : goal.row_in-requires
row_in-requires c =
    let a = c.args in
    let known = told _ c.verdict.ensures c.number_refusal-wrong.ensures c.in_ok-verdict.was in
    let here = there_to_remove a.table.now (search rules) a.number (wrong_none _ _ known) in
    omega (arith, here.first, here.last, here.few)

pub returns : goal.returns
returns c =
    let a = c.args in
    let known = told _ c.verdict.ensures c.number_refusal-wrong.ensures c.in_ok-verdict.was in
    an_entry a.table.now a.number known c.row_in.ensures
