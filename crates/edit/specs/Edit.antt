-- Editing a table at the panel: document 02, Ask 2. The panel lends one area. What stands where in it is said in
-- crates/area/specs/Area.antt, what is wrong with an edit in crates/edit_judge/specs/Judge.antt, and what a good edit
-- makes of the area in crates/edit_store/specs/Store.antt.
use Rattle.std.specs.Prelude.{ℕ, suc, ◌-◌, ◌≡◌, cond, List, [], ◌∷◌, length, Result, is_ok}
use Rattle.table.specs.declared.Row.{Row}
use Rattle.table.specs.declared.Refusal.{Refusal}
use Rattle.table.specs.Table.{Verdict}
use Rattle.area.specs.Area.{area_of, nodes_in, count_in, row_in}
use Rattle.edit_judge.specs.Judge.{Edit, Add, Change, Remove, size_refusal, refusal_of, answer_by, verdict_by}
use Rattle.edit_store.specs.Store.{rows_after, edited}

-- What is wrong with an edit of an area.
abbrev pub edit_refusal : List ℕ → Edit → Result Unit ℕ
edit_refusal s e = refusal_of (nodes_in s) (count_in s) e

-- The row that an edit is about: an added one under its coming number.
unfoldable pub about_row : List ℕ → Edit → ℕ
about_row s (Add r) = suc (count_in s)
about_row s (Change k r) = k
about_row s (Remove k) = k

-- The area after an edit: a refused one changes nothing.
unfoldable pub area_after : List ℕ → Edit → List ℕ
area_after s e = cond (is_ok (edit_refusal s e)) (edited s e) s

-- The full outcome of opening a table for n nodes: the verdict, and every number of the area.
pub record Opened (n : ℕ) (s : List ℕ) (v : Verdict) (s' : List ℕ) : Type 0 where
  pub answers : v ≡ verdict_by (size_refusal n 0) 0
  pub fills : s' ≡ cond (is_ok (size_refusal n 0)) (area_of n []) s

-- The full outcome of an edit: the verdict, and every number of the area.
pub record Edited (s : List ℕ) (e : Edit) (v : Verdict) (s' : List ℕ) : Type 0 where
  pub answers : v ≡ verdict_by (edit_refusal s e) (about_row s e)
  pub fills : s' ≡ area_after s e

-- Row k of an area, or 12 as in removing it.
unfoldable pub entry_of : List ℕ → ℕ → Result Row Refusal
entry_of s k = answer_by (edit_refusal s (Remove k)) k (row_in s (k - 1))

-- The area after a list of edits, one by one.
unfoldable pub after_edits : List ℕ → List Edit → List ℕ
after_edits s [] = s
after_edits s (e ∷ es) = after_edits (area_after s e) es

-- The rows of a table for n nodes after a list of edits, told without any area: a refused edit is passed over.
unfoldable pub rows_by : ℕ → List Row → List Edit → List Row
rows_by n rows [] = rows
rows_by n rows (e ∷ es) = rows_by n (cond (is_ok (refusal_of n (length rows) e)) (rows_after rows e) rows) es
