-- The rows of a jam alone: every table on the same ring that has them among its rows, whatever else it has or lacks,
-- has no schedule.
--     Among               the rows with a cell in the jam are rows of the other table too
--     members_late        so no schedule meets the other table
-- Assumes nothing.
use mathlib.Core.Path.{◌≡◌, ◌∙◌, ap, sym}
use Prim.Native.Nat.{ℕ, zero, suc, pred, ◌+◌, ◌-◌, ◌≤◌, ◌<◌}
use native.Mathlib.Omega.{arith}
use native.Mathlib.Decide.{dec_lt}
use mathlib.Core.Bool.{Bool, true, cond, ◌&&◌}
use mathlib.Core.List.{List}
use borrow.Author.Tests.{eq-eqb}
use lib.Dec.{eqb}
use lib.ListN.{length, get_or}
use Rattle.cells.specs.Rows.{Freight, owners, cell_links, RowSchedule}
use Rattle.cells.specs.Cells.{cell_traffic}
use Rattle.cells.specs.Steps.{Laden}
use Rattle.cells.proofs.Seats.{first_cell, Seat, seat, cell_known, rows_apart}
use Rattle.best.proofs.Order.{links_long, laid_on_ring, seat_owner, seat_links, seat_dst, seat_due}
use Rattle.best.proofs.Best.{cell_dues_lem, rows_late_iff_none}
use Rattle.jam.specs.Jam.{crosses_before, how_many, crossing, overfull, the_jam}
use Rattle.jam.specs.Members.{of_row}
use Rattle.jam.proofs.Search.{some_found}
use Rattle.jam.proofs.Links.{Has, still_overfull, fewest_found, late_iff_found}

-- One that passes the test is counted.
some_counted : (m : ℕ) (test : ℕ → Bool) (c : ℕ) → c < m → test c ≡ true → 0 < how_many m test
unfolding how_many
some_counted zero test c l e = absurd (omega arith)
some_counted (suc m) test c l e = go (dec_lt c m) (some_counted m test c)
  where
    go : Dec (c < m) → (c < m → test c ≡ true → 0 < how_many m test) → 0 < cond (test m) 1 0 + how_many m test
    go (yes d) more = omega (arith, more d e)
    go (no d) more =
        let same : m ≡ c = omega arith in
        let here : cond {A = ℕ} (test m) 1 0 ≡ 1 = rw (same, e) in
        omega arith

-- Row i of the first table, if it has a cell that must cross link p before slot b, is row `at i` of the second, and no
-- two such rows are one there.
pub record Among (F : Freight) (p b : ℕ) (F₂ : Freight) (at : ℕ → ℕ) : Type 0 where
  pub same_ring : F₂.nodes ≡ F.nodes
  pub there : (i : ℕ) → i < length F.len → 0 < of_row F p b i → at i < length F₂.len
  pub same_dst : (i : ℕ) → i < length F.len → 0 < of_row F p b i → get_or F₂.dst (at i) 0 ≡ get_or F.dst i 0
  pub same_len : (i : ℕ) → i < length F.len → 0 < of_row F p b i → get_or F₂.len (at i) 0 ≡ get_or F.len i 0
  pub same_due : (i : ℕ) → i < length F.len → 0 < of_row F p b i → get_or F₂.due (at i) 0 ≡ get_or F.due i 0
  pub same_links : (i : ℕ) → i < length F.len → 0 < of_row F p b i → get_or F₂.links (at i) 0 ≡ get_or F.links i 0
  pub apart : (i j : ℕ) → i < length F.len → j < length F.len → 0 < of_row F p b i → 0 < of_row F p b j
      → at i ≡ at j → i ≡ j

module _ {F : Freight} {p b : ℕ} {F₂ : Freight} {at : ℕ → ℕ} (among : Among F p b F₂ at) where
  -- the row of cell c, and where that cell lies in the other table
  abbrev row_now : ℕ → ℕ
  row_now c = pred (get_or (owners F) c 0)

  abbrev cell_there : ℕ → ℕ
  cell_there c = first_cell F₂.len (at (row_now c)) + (c - first_cell F.len (row_now c))

  -- What is known of a cell of the jam.
  module _ (c : ℕ) (known : c < length (cell_links F))
      (member : crosses_before (cell_traffic F) (cell_links F) p b c ≡ true) where
    its_seat : Seat F.len c
    its_seat = seat F.len c (omega (arith, links_long F))

    its_row : row_now c ≡ its_seat.row
    its_row = ap pred (seat_owner F its_seat)

    counts : 0 < of_row F p b its_seat.row
    unfolding of_row
    counts =
        some_counted (length (cell_links F)) (λ d.
        eqb (get_or (owners F) d 0) (suc its_seat.row) && crosses_before (cell_traffic F) (cell_links F) p b d) c known
        (rw (eq-eqb (get_or (owners F) c 0) (suc its_seat.row) (seat_owner F its_seat)) member)

    seat_there : Seat F₂.len (cell_there c)
    seat_there =
        record {
          row = at its_seat.row;
          place = its_seat.place;
          known = among.there its_seat.row its_seat.known counts;
          in_row = rw (among.same_len its_seat.row its_seat.known counts) its_seat.in_row;
          is = rw its_row (omega (arith, its_seat.is));
        }

    known_there : cell_there c < length (cell_links F₂)
    known_there =
        let s = seat_there in
        omega (arith, s.is, cell_known F₂.len s.row s.place s.known s.in_row, links_long F₂)

    dst_there : get_or (cell_traffic F₂).dst (cell_there c) 0 ≡ get_or (cell_traffic F).dst c 0
    unfolding seat_there
    dst_there =
        seat_dst F₂ seat_there ∙ among.same_dst its_seat.row its_seat.known counts ∙ sym (seat_dst F its_seat)

    links_there : get_or (cell_links F₂) (cell_there c) 0 ≡ get_or (cell_links F) c 0
    unfolding seat_there
    links_there =
        seat_links F₂ seat_there ∙ among.same_links its_seat.row its_seat.known counts
        ∙ sym (seat_links F its_seat)

    due_there : get_or (cell_traffic F₂).due (cell_there c) 0 ≡ get_or (cell_traffic F).due c 0
    unfolding seat_there
    due_there =
        seat_due F₂ seat_there
        ∙ rw (
          among.same_due its_seat.row its_seat.known counts,
          among.same_len its_seat.row its_seat.known counts,
          seat_due F its_seat,
        )

  -- Two cells of the jam that are one there are one here.
  cells_apart : (c d : ℕ) (k : c < length (cell_links F)) (l : d < length (cell_links F))
      (m : crosses_before (cell_traffic F) (cell_links F) p b c ≡ true)
      (n : crosses_before (cell_traffic F) (cell_links F) p b d ≡ true) → cell_there c ≡ cell_there d → c ≡ d
  unfolding seat_there
  cells_apart c d k l m n same =
      go (dec_lt at_c.row at_d.row) (dec_lt at_d.row at_c.row)
    where
      at_c : Seat F₂.len (cell_there c)
      at_c = seat_there c k m

      at_d : Seat F₂.len (cell_there d)
      at_d = seat_there d l n

      go : Dec (at_c.row < at_d.row) → Dec (at_d.row < at_c.row) → c ≡ d
      go (yes a) e = absurd (omega (arith, rows_apart F₂.len at_c at_d a))
      go (no a) (yes e) = absurd (omega (arith, rows_apart F₂.len at_d at_c e))
      go (no a) (no e) =
          let one-there : at_c.row ≡ at_d.row = omega arith in
          let s = its_seat c k m in
          let r = its_seat d l n in
          let one : s.row ≡ r.row
          = among.apart s.row r.row s.known r.known (counts c k m) (counts d l n) one-there in
          let first : first_cell F₂.len at_c.row ≡ first_cell F₂.len at_d.row
          = ap (first_cell F₂.len) one-there in
          let begins : first_cell F.len s.row ≡ first_cell F.len r.row = ap (first_cell F.len) one in
          omega (arith, at_c.is, at_d.is, s.is, r.is)

  has : Has (cell_traffic F) (cell_links F) p b (cell_traffic F₂) (cell_links F₂) cell_there
  has =
      record {
        same_ring = unfold cell_traffic in among.same_ring;
        there = known_there;
        same_dst = dst_there;
        same_due = due_there;
        same_left = links_there;
        apart = cells_apart;
      }

  -- Where the link is overfull before the slot, no schedule of rows meets the other table.
  pub members_late : overfull (cell_traffic F) (cell_links F) p b ≡ true → p < F.nodes → {slots : ℕ} → Laden F₂
      → ((i : ℕ) → i < length F₂.len → get_or F₂.due i 0 ≤ slots)
      → (s : List ℕ) → RowSchedule F₂ slots s → ⊥
  members_late e inside {slots} laden dues =
      let ring = laid_on_ring F₂ laden in
      let in_time = cell_dues_lem {F = F₂} {slots = slots} laden dues in
      let within : p < (cell_traffic F₂).nodes = unfold cell_traffic in rw among.same_ring inside in
      let found = fewest_found ring in_time p b within (still_overfull has e) in
      let some = some_found (the_jam (cell_traffic F₂) (cell_links F₂) slots)
      (crossing (cell_traffic F₂) (cell_links F₂) p b) found in
      (rows_late_iff_none {F = F₂} {slots = slots} laden dues).0 ((late_iff_found ring in_time).1 some)
