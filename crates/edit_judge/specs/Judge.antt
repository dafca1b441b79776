-- What is wrong with an edit of a table at the panel: document 02, Ask 2.
use Rattle.std.specs.Prelude.{ℕ, cond, ◌||◌, eqb, ltb, Result, Ok, Err}
use Rattle.table.specs.declared.Row.{Row}
use Rattle.table.specs.declared.Refusal.{Refusal}
use Rattle.table.specs.Table.{most_rows, Verdict, row_refusal, refuse}
use Rattle.area.specs.Area.{most_links}

-- One edit: a row added at the end, a row changed, or a row removed. Rows are numbered from 1.
pub data Edit : Type 0 where
  Add : Row → Edit
  Change : ℕ → Row → Edit
  Remove : ℕ → Edit

-- The first of two refusals, where there is one.
unfoldable pub first_of : Result Unit ℕ → Result Unit ℕ → Result Unit ℕ
first_of (Err number) next = Err number
first_of (Ok _) next = next

-- 1 and 2 for the nodes and rows that an area gives, as in document 01; an open table is never refused so.
unfoldable pub size_refusal : (n count : ℕ) → Result Unit ℕ
size_refusal n count = cond (ltb n 2 || ltb most_links n) (Err 1) (cond (ltb most_rows count) (Err 2) (Ok tt))

-- 12 for a row number that isn't there.
unfoldable pub number_refusal : (count k : ℕ) → Result Unit ℕ
number_refusal count k = cond (eqb k 0 || ltb count k) (Err 12) (Ok tt)

-- What is wrong with an edit of a table with n nodes and so many rows: adding gives 2 at 512 rows, changing and removing
-- give 12, then 3, 4, 10 or 6 for the row given. 11, for too many cells in all, never comes.
unfoldable pub refusal_of : (n count : ℕ) → Edit → Result Unit ℕ
refusal_of n count (Add r) =
    first_of (size_refusal n count) (first_of (cond (eqb count most_rows) (Err 2) (Ok tt)) (row_refusal n r))
refusal_of n count (Change k r) = first_of (first_of (size_refusal n count) (number_refusal count k)) (row_refusal n r)
refusal_of n count (Remove k) = first_of (size_refusal n count) (number_refusal count k)

-- The row that a refusal names: 1 and 2 are about none.
unfoldable pub row_named : (number row : ℕ) → ℕ
row_named number row = cond (ltb number 3) 0 row

-- What was asked for, or the refusal with the row it is about.
unfoldable pub answer_by : {A : Type 0} → Result Unit ℕ → (row : ℕ) → A → Result A Refusal
answer_by (Ok _) row x = Ok x
answer_by (Err number) row x = Err (refuse number (row_named number row) 0)

-- The same of an edit, which gives nothing but its verdict.
abbrev pub verdict_by : Result Unit ℕ → (row : ℕ) → Verdict
verdict_by wrong row = answer_by wrong row tt
