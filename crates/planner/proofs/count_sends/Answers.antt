-- `planner::count_sends` meets its contract: it holds the sends of the first i rows.
-- Assumes nothing.
use borrow.Author.Rules.{rules}
use mathlib.Core.Path.{◌≡◌, ◌∙◌, ap, sym}
use Prim.Native.Nat.{ℕ, ◌≤◌, ◌+◌, ◌*◌}
use native.Mathlib.Omega.{arith}
use lib.ListN.{length, get_or}
use Rattle.lists.specs.Lists.{build, total}
use Rattle.lists.proofs.Sums.{total_last}
use Rattle.table.specs.Table.{lengths, cells_in}
use Rattle.table.specs.Steps.{none}
use Rattle.cells.proofs.Laying.{its_length, lengths_long}
use Rattle.planner.specs.Steps.{crossed}
use Rattle.planner.proofs.Crossed.{few_crossed}
use Rattle.planner.proofs.count_sends.Goals as goal

pub loop-i-init : goal.loop-i-init
unfolding total
loop-i-init c = search rules

pub overflow_add-sends : goal.overflow_add-sends
unfolding cells_in
overflow_add-sends c =
    let i = c.loop-i.i in
    let rows = c.args.rows.now in
    let links = c.args.links.now in
    let near : (j : ℕ) → get_or links j 0 ≤ 65535 = λ j. omega (arith, c.type_inv.links j) in
    let more = total_last i (λ j. get_or (lengths rows) j 0 * get_or links j 0) in
    let bound = few_crossed 65535 (lengths rows) (λ j. get_or links j 0) near (i + 1) in
    rw (sym (its_length rows i none (omega arith))) (omega (arith, more, bound, c.requires.1))

pub loop-i-preserved : goal.loop-i-preserved
loop-i-preserved c =
    let i = c.loop-i.i in
    let rows = c.args.rows.now in
    let more = total_last i (λ j. get_or (lengths rows) j 0 * get_or c.args.links.now j 0) in
    omega (arith, rw (its_length rows i none (omega arith)) at more)

pub returns : goal.returns
unfolding crossed
returns c =
    let rows = c.args.rows.now in
    let all : c.loop-i.i ≡ length (lengths rows) = omega (arith, lengths_long rows) in
    c.loop-i.invariant ∙ ap (λ m. total (build m (λ j. get_or (lengths rows) j 0 * get_or c.args.links.now j 0))) all
