-- What an edit that nothing is wrong with makes of an area: document 02, Ask 2. What stands where in an area is said in
-- crates/area/specs/Area.antt.
use Rattle.std.specs.Prelude.{ℕ, suc, ◌+◌, ◌-◌, min, cond, List, [], ◌∷◌, ◌++◌, take, drop, replicate}
use Rattle.table.specs.declared.Row.{Row}
use Rattle.area.specs.Area.{row_width, row_place, crosses, laid, nodes_in, count_in, load_in, row_in, rows_in}
use Rattle.edit_judge.specs.Judge.{Edit, Add, Change, Remove}

-- The rows after an edit that is good: removing closes the gap.
unfoldable pub rows_after : List Row → Edit → List Row
rows_after rows (Add r) = rows ++ (r ∷ [])
rows_after rows (Change k r) = take (k - 1) rows ++ (r ∷ drop k rows)
rows_after rows (Remove k) = take (k - 1) rows ++ drop k rows

-- A count x higher or lower by a step, held at 65,535 and at 0; the counts of an open table never come there.
abbrev pub raised : (step x : ℕ) → ℕ
raised step x = min (x + step) 65535

abbrev pub lowered : (step x : ℕ) → ℕ
lowered step x = x - step

-- The count x of link p after the cells of row r are counted in or out, by `raised r.len` or `lowered r.len`.
unfoldable pub step_for : (by : ℕ → ℕ) → ℕ → Row → (p x : ℕ) → ℕ
step_for by n r p x = cond (crosses n r p) (by x) x

-- The count of link p after an edit that is good: the old row is counted out, the new one in.
unfoldable pub load_after : List ℕ → Edit → ℕ → ℕ
load_after s (Add r) p = step_for (raised r.len) (nodes_in s) r p (load_in s p)
load_after s (Change k r) p =
    let old = row_in s (k - 1) in
    step_for (raised r.len) (nodes_in s) r p (step_for (lowered old.len) (nodes_in s) old p (load_in s p))
load_after s (Remove k) p =
    let old = row_in s (k - 1) in step_for (lowered old.len) (nodes_in s) old p (load_in s p)

-- What stands behind the rows after an edit that is good: zeros come in behind a row that is removed.
unfoldable pub behind_after : List ℕ → Edit → List ℕ
behind_after s (Add r) = drop (row_place (suc (count_in s))) s
behind_after s (Change k r) = drop (row_place (count_in s)) s
behind_after s (Remove k) = replicate row_width 0 ++ drop (row_place (count_in s)) s

-- The area after an edit that is good.
unfoldable pub edited : List ℕ → Edit → List ℕ
edited s e = laid (nodes_in s) (load_after s e) (rows_after (rows_in s) e) (behind_after s e)
