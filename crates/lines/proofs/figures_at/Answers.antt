-- `lines::figures_at` meets its contract: the digits passed and the digits at the rest make the whole.
use Rattle.std.proofs.Common.{rules, arith, sym, ◌∙◌, ◌≡◌}
use Rattle.lines.proofs.Counting.{ended, no_more, further}
use Rattle.lines.proofs.figures_at.Goals as goal

pub returns-then-not-is_ascii_digit : goal.returns-then-not-is_ascii_digit
returns-then-not-is_ascii_digit c =
    no_more c.loop-i.invariant (omega arith) (omega arith)
    (sym c.is_ascii_digit.ensures.value ∙ c.if-not-is_ascii_digit.true)

pub loop-i-preserved : goal.loop-i-preserved
loop-i-preserved c = further c.loop-i.invariant (omega arith) (omega arith) (search rules) (search rules)

pub returns : goal.returns
returns c =
    let done : c.loop-i.i ≡ c.min-most.result = omega arith in
    rw done at (ended c.loop-i.invariant (omega arith))
