-- What the planner needs of the layout.
--     same_largest          the largest due slot of a cell is that of a row, so a plan's size stays
--     told_sends            told in rows it has as many sends as before: one for each link of each cell
-- Assumes nothing.
use mathlib.Core.Path.{◌≡◌, refl, ◌∙◌, ap}
use Prim.Native.Nat.{ℕ, zero, suc, ◌+◌, ◌-◌, ◌≤◌, ◌<◌}
use native.Mathlib.Nat.{le_antisymm}
use native.Mathlib.Omega.{arith}
use mathlib.Core.List.{List, [], ◌∷◌}
use borrow.Author.Tests.{lt-ltb}
use lib.ListN.{length, get_or}
use Rattle.lists.specs.Lists.{total, largest}
use Rattle.lists.proofs.Figures.{at_most_largest, largest_below}
use Rattle.slack.specs.Slack.{plan_of, stop_of}
use Rattle.optimal.specs.Schedule.{busy}
use Rattle.optimal.proofs.Sends.{sends_counted}
use Rattle.cells.specs.Rows.{Freight, owners, cell_links}
use Rattle.cells.specs.Cells.{cell_traffic, owner_of, told_by, row_plan}
use Rattle.cells.specs.Steps.{Laden}
use Rattle.cells.specs.Steps.{AtMost, AboveZero}
use Rattle.cells.proofs.Seats.{Seat, seat, first_cell}
use Rattle.cells.proofs.Telling.{plan_at_most}
use Rattle.best.proofs.Order.{due_long, links_long, seat_due, seat_owner, laid_on_ring}

module _ (F : Freight) where
  pub same_largest : length F.due ≡ length F.len → AboveZero F.len
      → largest (cell_traffic F).due ≡ largest F.due
  same_largest each some =
      le_antisymm (largest_below (largest F.due) (cell_traffic F).due no_later)
      (largest_below (largest (cell_traffic F).due) F.due reached)
    where
      no_later : (c : ℕ) → c < length (cell_traffic F).due → get_or (cell_traffic F).due c 0 ≤ largest F.due
      no_later c l = go (seat F.len c (omega (arith, due_long F)))
        where
          go : Seat F.len c → get_or (cell_traffic F).due c 0 ≤ largest F.due
          go s = omega (arith, seat_due F s, at_most_largest F.due s.row)

      reached : (i : ℕ) → i < length F.due → get_or F.due i 0 ≤ largest (cell_traffic F).due
      reached i l =
          let known : i < length F.len = omega arith in
          let place = get_or F.len i 0 - 1 in
          let cell = first_cell F.len i + place in
          let last : Seat F.len cell
          = record { row = i; place = place; known = known; in_row = omega (arith, some i known); is = refl } in
          omega (arith, seat_due F last, some i known, at_most_largest (cell_traffic F).due cell)

module _ (F : Freight) where
  same_busy : (plan : List ℕ) → AtMost (total F.len) plan → busy (told_by (owners F) plan) ≡ busy plan
  unfolding busy told_by owner_of
  same_busy [] h = refl
  same_busy (zero ∷ plan) h = ap (λ n. 0 + n) (same_busy plan (λ k l. h (suc k) (omega arith)))
  same_busy (suc c ∷ plan) h =
      let s = seat F.len c (omega (arith, h 0 (omega arith))) in
      let some : 0 < get_or (owners F) c 0 = omega (arith, seat_owner F s) in
      let rest = same_busy plan (λ k l. h (suc k) (omega arith)) in
      rw (lt-ltb 0 (get_or (owners F) c 0) some, lt-ltb 0 (suc c) (omega arith), rest)

  pub told_sends : Laden F → (slots : ℕ)
      → ((c : ℕ) → c < length (cell_links F) → get_or (cell_traffic F).due c 0 ≤ slots)
      → (stop_of (cell_traffic F) (cell_links F) slots).row ≡ 0 → busy (row_plan F slots) ≡ total (cell_links F)
  unfolding row_plan
  told_sends laden slots dues on_time =
      let at_most = rw (links_long F) at (plan_at_most (cell_traffic F) (cell_links F) slots) in
      same_busy (plan_of (cell_traffic F) (cell_links F) slots) at_most
      ∙ sends_counted {T = cell_traffic F} {start = cell_links F} (laid_on_ring F laden) {slots = slots} dues on_time
