-- `cells::tell_in_rows` meets its contract: the first entries name rows, the others cells as before.
-- Assumes nothing.
use mathlib.Core.Path.{◌∙◌}
use native.Mathlib.Omega.{arith}
use mathlib.Core.List.{append-nil}
use lib.ListN.{get_or}
use Rattle.std.proofs.lemmas.List.{take_all, drop_all, get_or_default}
use Rattle.std.proofs.lemmas.List.Edits.{map_over_more}
use Rattle.slack.specs.Slack.{owners_in}
use Rattle.cells.specs.Cells.{owner_of, told_by}
use Rattle.cells.proofs.tell_in_rows.Goals as goal

pub loop-entry-preserved : goal.loop-entry-preserved
loop-entry-preserved c =
    let l = c.loop-entry in
    let x = get_or l.plan l.entry-index 0 in
    rw (c.row_of.ensures) (map_over_more (owner_of (owners_in c.args.cells.now)) c.args.plan.now l.plan l.entry-index x (omega arith) l.invariant (get_or_default l.plan l.entry-index 0 x (omega arith)))

pub returns : goal.returns
unfolding told_by
returns c =
    let plan = c.args.plan.now in
    let i = c.loop-entry.entry-index in
    c.loop-entry.invariant ∙ rw (take_all i plan (omega arith), drop_all i plan (omega arith), append-nil)
