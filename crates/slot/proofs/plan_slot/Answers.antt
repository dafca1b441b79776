-- `slot::plan_slot` meets its contract: what `choose` says is what `pass_node_0` and `send` ask.
-- Assumes nothing.
use native.Mathlib.Omega.{arith}
use Rattle.slack.specs.Slack.{dsts_in}
use Rattle.slot.proofs.Slotting.{can_choose, can_turn, can_send, planned}
use Rattle.slot.proofs.plan_slot.Goals as goal

pub choose-requires : goal.choose-requires
choose-requires c =
    let k = c.requires in
    (can_choose k, k.few, k.links)

pub pass_node_0-requires : goal.pass_node_0-requires
pass_node_0-requires c =
    can_turn c.requires _ c.choose.ensures (omega arith)

pub send-requires : goal.send-requires
send-requires c =
    let k = c.requires in
    (can_send k _ c.choose.ensures, k.soon)

pub returns : goal.returns
returns c =
    let a = c.args in
    planned a.cargo.nodes (dsts_in a.cargo.cells.now) a.left.now a.arrivals.now a.figure.now a.t.0 _ _ _ _
    c.choose.ensures c.pass_node_0.ensures c.send.ensures
