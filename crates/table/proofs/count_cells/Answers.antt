-- `table::count_cells` meets its contract: the chain adds up the rows' cells.
-- Assumes nothing.
use Rattle.std.proofs.Common.{◌≡◌, ◌∙◌, refl, sym, rules, sum_by}
use Rattle.std.proofs.lemmas.List.Recursion.{is_sum_by}
use Rattle.lists.specs.Lists.{total}
use Rattle.table.specs.declared.Row.{Row}
use Rattle.table.specs.Table.{cells_in, lengths}
use Rattle.table.proofs.count_cells.Goals as goal

pub returns : goal.returns
unfolding cells_in lengths total
returns c =
    let e : c.sum.result ≡ sum_by (λ (r : Row). r.len) c.args.rows.now = search rules in
    e ∙ sym (is_sum_by cells_in (λ (r : Row). r.len) refl (λ _ _. refl) c.args.rows.now)
