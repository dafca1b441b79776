-- `writer::row_length` meets its contract: after j turns it is the length of the first j lines.
-- Assumes nothing.
use borrow.Author.Rules.{rules}
use mathlib.Core.Path.{◌∙◌, ap}
use mathlib.Core.List.{List}
use Prim.Native.Nat.{ℕ}
use native.Mathlib.Omega.{arith}
use lib.ListN.{length}
use Rattle.text.specs.Text.{row_keys, lines_text, row_text}
use Rattle.writer.proofs.Left.{none_summed, sum_small, more_summed, all_summed}
use Rattle.writer.proofs.row_length.Goals as goal

pub loop-j-init : goal.loop-j-init
unfolding row_keys
loop-j-init c = none_summed c.values_of-values.result (ap length c.values_of-values.ensures)

pub overflow_add-sum : goal.overflow_add-sum
overflow_add-sum c =
    let k = c.loop-j in
    let key = c.row_key in
    let l = c.line_length-sum in
    omega (arith, sum_small k.invariant (search rules) key.result l.result key.ensures l.ensures)

pub loop-j-preserved : goal.loop-j-preserved
loop-j-preserved c =
    let k = c.loop-j in
    let key = c.row_key in
    let l = c.line_length-sum in
    more_summed k.invariant (search rules) key.result l.result key.ensures l.ensures

pub returns : goal.returns
unfolding row_text
returns c =
    let are = c.values_of-values.ensures in
    all_summed c.loop-j.invariant (search rules) ∙ ap (λ (vs : List ℕ). length (lines_text row_keys vs)) are
