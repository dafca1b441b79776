-- `reason::why_late` meets its contract: each way through it is one law of what is said of a table.
-- Assumes nothing.
use mathlib.Core.Path.{◌∙◌, sym}
use Rattle.std.proofs.lemmas.Result.{err_from_is_err_and}
use Rattle.reason.proofs.Saying.{turned_away, too_few, said}
use Rattle.reason.proofs.why_late.Goals as goal

pub returns-in_err-judge : goal.returns-in_err-judge
returns-in_err-judge c =
    let e = err_from_is_err_and c.from_residual.result c.from_residual.ensures.1 in
    rw (e.1, e.2) (turned_away (sym c.judge.ensures ∙ c.in_err-judge.was))

pub returns-then-members-count : goal.returns-then-members-count
returns-then-members-count c =
    rw c.of_table.ensures (too_few (sym c.judge.ensures ∙ c.in_ok-judge.was) c.if-members-count.true)

pub returns : goal.returns
returns c = said (sym c.judge.ensures ∙ c.in_ok-judge.was) c.if-members-count.false c.find_in.ensures
