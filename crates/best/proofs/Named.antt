-- Refusal 9 names a row: that of the lowest late cell is the lowest row with a late cell.
--     late_names_lowest     at any instant, in any state
--     owner_named           every cell has an owner
--     row_stop_none         a run ends with no late row just where it ends with no late cell
-- Assumes nothing.
use mathlib.Core.Path.{◌≡◌, ◌∙◌, ap, sym}
use mathlib.Core.Logic.{◌↔◌}
use Prim.Native.Nat.{ℕ, suc, ◌≤◌, ◌<◌}
use native.Mathlib.Omega.{arith}
use mathlib.Core.Bool.{true}
use mathlib.Core.List.{List}
use lib.ListN.{length, get_or}
use Rattle.lists.specs.Lists.{total}
use Rattle.slack.specs.Slack.{is_late, late_row, stop_of}
use Rattle.lists.proofs.Truth.{differ}
use Rattle.slack.proofs.Rule.{LowestLate, late_lowest}
use Rattle.cells.specs.Rows.{Freight, owners, cell_links}
use Rattle.cells.specs.Cells.{cell_traffic, owner_of, end_by, row_stop, RowLate}
use Rattle.cells.specs.Steps.{AboveZero}
use Rattle.cells.proofs.Seats.{Seat, seat, rows_apart}
use Rattle.cells.proofs.Telling.{cell_named, none_named, stop_cell}
use Rattle.best.proofs.Order.{owners_long, links_long, seat_owner}

pub late_names_lowest : (F : Freight) (t : ℕ) (left : List ℕ) → length left ≡ total F.len
    → (c : ℕ) → late_row (cell_traffic F) t left ≡ suc c
    → (i : ℕ) × (owner_of (owners F) (suc c) ≡ suc i) × (i < length F.len) × RowLate F t left i
    × ((j : ℕ) → j < i → RowLate F t left j → ⊥)
unfolding RowLate owner_of
late_names_lowest F t left long c e =
    (s.row, seat_owner F s, s.known, (c, low.inside, seat_owner F s, low.late), none)
  where
    low : LowestLate (cell_traffic F) t left c
    low = late_lowest (cell_traffic F) t left c e

    s : Seat F.len c
    s = seat F.len c (omega (arith, low.inside))

    none : (j : ℕ) → j < s.row
        → (d : ℕ) × (d < length left) × (get_or (owners F) d 0 ≡ suc j) × (is_late (cell_traffic F) t left d ≡ true) → ⊥
    none j l (d, inside, of_row, late) =
        let r : Seat F.len d = seat F.len d (omega arith) in
        let before : d < c = rows_apart F.len r s (omega (arith, seat_owner F r)) in
        differ (sym (low.before d before) ∙ late)

-- Every cell has an owner.
pub owner_named : (F : Freight) → AboveZero (owners F)
owner_named F c l =
    let s = seat F.len c (omega (arith, owners_long F)) in
    omega (arith, seat_owner F s)

-- A run ends with no late row just where it ends with no late cell.
pub row_stop_none : (F : Freight) (slots : ℕ)
    → ((row_stop F slots).row ≡ 0) ↔ ((stop_of (cell_traffic F) (cell_links F) slots).row ≡ 0)
unfolding row_stop end_by
row_stop_none F slots = (
  λ none. cell_named (owners F) (owner_named F) cell few none,
  λ none. ap (owner_of (owners F)) none ∙ none_named (owners F),
)
  where
    cell : ℕ
    cell = (stop_of (cell_traffic F) (cell_links F) slots).row

    few : cell ≤ length (owners F)
    few =
        omega (
          arith,
          stop_cell (cell_traffic F) (cell_links F) slots,
          owners_long F,
          links_long F,
        )
