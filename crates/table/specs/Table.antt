-- The table of document 01, and what is wrong with one.
use Rattle.std.specs.Prelude.{ℕ, suc, ◌*◌, ◌≡◌, cond, ◌||◌, List, [], ◌∷◌, map, eqb, ltb, leb, length}
use Rattle.std.specs.Prelude.{Result, Ok, Err}
use Rattle.lists.specs.Lists.{largest, total}
use Rattle.ring.specs.Ring.{distance}
use Rattle.table.specs.declared.Row.{Row}
use Rattle.table.specs.declared.Refusal.{Refusal}

-- The most rows that a table may have.
abbrev pub most_rows : ℕ
most_rows = 512

-- The latest due slot that a row may have.
abbrev pub latest_due : ℕ
latest_due = 1024

-- The most cells that one row may have.
abbrev pub most_length : ℕ
most_length = 64

-- The most cells that all rows of a table may have together.
abbrev pub most_cells : ℕ
most_cells = 1024

-- A row's numbers, in the order in which texts and areas hold them: source, destination, length, due slot.
abbrev pub row_numbers : Row → List ℕ
row_numbers r = r.src ∷ r.dst ∷ r.len ∷ r.due ∷ []

-- The row that has these numbers.
abbrev pub row_by : (ℕ → ℕ) → Row
row_by f = record { src = f 0; dst = f 1; len = f 2; due = f 3 }

-- A refusal by number, row and slot.
abbrev pub refuse : (number row slot : ℕ) → Refusal
refuse number row slot = record { number = number; row = row; slot = record { 0 = slot } }

-- What judging comes to: that nothing is wrong, or a refusal.
abbrev pub Verdict : Type 0
Verdict = Result Unit Refusal

-- What is wrong with one row of a table for n nodes, by the number of its refusal: 3, 4, 10 or 6, in this order. A row
-- may go once round to its own node.
unfoldable pub row_refusal : ℕ → Row → Result Unit ℕ
row_refusal n r =
    cond (leb n r.src) (Err 3)
    (cond (leb n r.dst) (Err 4)
    (cond (eqb r.len 0 || ltb most_length r.len) (Err 10)
    (cond (eqb r.due 0 || ltb latest_due r.due) (Err 6) (Ok tt))))

-- What follows once a row is judged: it is refused under its number, or the rest decides.
unfoldable pub after_row : Result Unit ℕ → (row : ℕ) → (rest : Verdict) → Verdict
after_row (Err number) row rest = Err (refuse number row 0)
after_row (Ok _) row rest = rest

-- The refusal of the first bad row, where `above` rows stand above the list.
unfoldable pub judge_rows : ℕ → List Row → ℕ → Verdict
judge_rows n [] above = Ok tt
judge_rows n (r ∷ rs) above = after_row (row_refusal n r) (suc above) (judge_rows n rs (suc above))

-- The lengths of a list of rows, and how many cells these rows have in all.
unfoldable pub lengths : List Row → List ℕ
lengths = map (λ (r : Row). r.len)

unfoldable pub cells_in : List Row → ℕ
cells_in rows = total (lengths rows)

-- What follows once the rows are judged: a bad row is the verdict, and else 11 for too many cells.
unfoldable pub after_rows : Verdict → (cells : ℕ) → Verdict
after_rows (Err r) cells = Err r
after_rows (Ok _) cells = cond (ltb most_cells cells) (Err (refuse 11 0 0)) (Ok tt)

-- The rows in order, and then their cells.
unfoldable pub judge_all : ℕ → List Row → Verdict
judge_all n rows = after_rows (judge_rows n rows 0) (cells_in rows)

-- The first refusal before 7 that holds: 1 for the nodes, 2 for too many rows, then the rows in order, then 11 for too
-- many cells.
unfoldable pub judge : ℕ → List Row → Verdict
judge n rows =
    cond (ltb n 2 || ltb 32 n) (Err (refuse 1 0 0))
    (cond (ltb most_rows (length rows)) (Err (refuse 2 0 0)) (judge_all n rows))

-- None of these refusals holds.
abbrev pub WellFormed : ℕ → List Row → Type 0
WellFormed n rows = judge n rows ≡ Ok tt

-- The destinations and due slots of a list of rows.
unfoldable pub destinations : List Row → List ℕ
destinations = map (λ (r : Row). r.dst)

unfoldable pub dues : List Row → List ℕ
dues = map (λ (r : Row). r.due)

-- The links that each row has to go at instant 0: the distance from its source to its destination.
unfoldable pub distances : ℕ → List Row → List ℕ
distances n = map (λ (r : Row). distance n r.src r.dst)

-- The sends of a table: every cell of a row crosses each link of the row's distance.
unfoldable pub sends_of : ℕ → List Row → ℕ
sends_of n rows = total (map (λ (r : Row). r.len * distance n r.src r.dst) rows)

-- The largest due slot, 0 for an empty table.
unfoldable pub last_due : List Row → ℕ
last_due rows = largest (dues rows)
