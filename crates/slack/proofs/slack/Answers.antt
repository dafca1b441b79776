-- `slack::slack` meets its contract: three numbers of 16 bits, worked out in 32 signed bits.
-- Assumes nothing.
use native.Mathlib.Omega.{arith}
use Rattle.slack.proofs.Bits.{is_slack}
use Rattle.slack.proofs.slack.Goals as goal

pub returns : goal.returns
returns c =
    let a = c.args in
    is_slack a.due.0 a.now.0 a.left.0 (omega arith) (omega arith) (omega arith)
