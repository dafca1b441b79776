-- `slot::figure_of` meets its contract: three numbers of 16 bits, worked out in 32 signed bits.
-- Assumes nothing.
use mathlib.Core.Path.{◌∙◌, ap}
use Prim.Native.Nat.{ℕ}
use native.Mathlib.Omega.{arith}
use Rattle.slack.specs.Slack.{slack_of}
use Rattle.slack.specs.Figure.{figure_of}
use Rattle.slack.proofs.Bits.{is_slack}
use Rattle.slot.proofs.figure_of.Goals as goal

pub returns : goal.returns
unfolding figure_of slack_of
returns c =
    let cell = c.args.cell in
    let turn = c.turn_of-turn in
    is_slack cell.due.0 cell.dst.0 turn.result (omega arith) (omega arith) (omega (arith, turn.type_inv))
    ∙ ap (λ (k : ℕ). slack_of cell.due.0 cell.dst.0 k) turn.ensures
