-- `run::plan_slot_in_rows` meets its contract: the slot that is planned names no cell that has no owner.
-- Assumes nothing.
use Rattle.slack.specs.Slack.{owners_in}
use Rattle.slack.proofs.Cells.{owners_long}
use Rattle.run.proofs.Walking.{can_tell}
use Rattle.run.proofs.plan_slot_in_rows.Goals as goal

pub tell_in_rows-requires : goal.tell_in_rows-requires
tell_in_rows-requires c =
    let cells = c.args.cargo.cells.now in
    rw (owners_long cells) at (can_tell c.requires.0 (owners_in cells) c.requires.1 _ _ _ _ c.plan_slot.ensures)
