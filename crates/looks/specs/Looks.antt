-- The most looks that planning a table can take, said before it is planned (document 02, Ask 7). The rule is not
-- mentioned.
use Rattle.std.specs.Prelude.{ℕ, suc, ◌*◌, List, Ok, Err}
use Rattle.table.specs.declared.Row.{Row}
use Rattle.table.specs.Table.{Verdict, judge, cells_in, last_due}

-- Nothing is planned of a table that is refused.
unfoldable pub if_good : Verdict → (most : ℕ) → ℕ
if_good (Ok _) most = most
if_good (Err r) most = 0

-- Every cell at every instant from 0 to the largest due slot.
unfoldable pub most_looks : ℕ → List Row → ℕ
most_looks n rows = if_good (judge n rows) (cells_in rows * suc (last_due rows))
