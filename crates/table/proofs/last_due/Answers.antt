-- `table::last_due` meets its contract: one row more may be due later than all before.
-- Assumes nothing.
use Rattle.std.proofs.Common.{ℕ, ◌≡◌, ◌+◌, ◌<◌, List, length, get_or, take, max, refl, add-one, arith, rules}
use Rattle.std.proofs.Math.Seq.{take-suc}
use Rattle.std.proofs.lemmas.List.Recursion.{max_push}
use Rattle.lists.specs.Lists.{largest}
use Rattle.table.specs.declared.Row.{Row}
use Rattle.table.specs.Table.{last_due, dues}
use Rattle.table.specs.Steps.{none}
use Rattle.table.proofs.last_due.Goals as goal

last_more : (rows : List Row) (i : ℕ) → i < length rows
    → last_due (take (i + 1) rows) ≡ max (last_due (take i rows)) (get_or rows i none).due
unfolding last_due dues largest
last_more rows i h =
    rw (add-one, take-suc rows i none h)
    (max_push last_due (λ (r : Row). r.due) refl (λ _ _. refl) (take i rows) (get_or rows i none))

pub loop-row-init : goal.loop-row-init
unfolding last_due dues largest
loop-row-init c = search rules

pub loop-row-preserved : goal.loop-row-preserved
loop-row-preserved c = let more = last_more c.args.rows.now c.loop-row.row-index (omega arith) in cc
