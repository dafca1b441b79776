-- A well-formed table: its run can be planned.
--     measuring                  how many links each row has to go can be written down
--     table_laden, table_cells   it is a table of the ring, and each of its rows has a cell
--     soon, few_cells            its largest due slot, and how many cells it has
--     under_way_lem              each of its rows has links to go
--     measured_long, links_front each of its rows has a place for its links
--     runnable                   it can be run in areas of just its size
--     rows_few                   it has at most 512 rows
-- Assumes nothing.
use mathlib.Core.Path.{◌≡◌, ◌∙◌, ap, sym}
use Prim.Native.Nat.{ℕ, ◌≤◌, ◌<◌}
use native.Mathlib.Omega.{arith}
use mathlib.Core.List.{List, map}
use lib.ListN.{length, get_or, take, replicate, length-map}
use Rattle.std.proofs.lemmas.List.{get_or-map}
use Rattle.lists.proofs.Figures.{largest_below}
use Rattle.lists.proofs.Fronts.{front_long}
use Rattle.ring.specs.Ring.{distance}
use Rattle.ring.proofs.Standing.{Away, away}
use Rattle.table.specs.declared.Row.{Row}
use Rattle.table.specs.Table.{WellFormed, cells_in, destinations, lengths, dues, distances, last_due}
use Rattle.table.specs.Steps.{none, Measuring}
use Rattle.table.proofs.Judging.{GoodRow, good_rows}
use Rattle.table.proofs.Whole.{Sound, sound}
use Rattle.cells.specs.Steps.{Laden, AboveZero}
use Rattle.cells.proofs.Laying.{lengths_long}
use Rattle.rows.specs.Steps.{Loaded}
use Rattle.planner.specs.Planner.{freight_of}
use Rattle.planner.specs.Steps.{JustRoom}

pub rows_few : (n : ℕ) (rows : List Row) → WellFormed n rows → length rows ≤ 512
rows_few n rows well = (sound n rows well).few

pub measured_long : (n : ℕ) (rows : List Row) {links : List ℕ} → links ≡ distances n rows → length links ≡ length rows
unfolding distances
measured_long n rows is = ap length is ∙ length-map rows (λ (r : Row). distance n r.src r.dst)

-- The room for the links has a front for the rows.
pub links_front : (n : ℕ) (rows : List Row) → WellFormed n rows → (room : List ℕ) → room ≡ replicate {A = ℕ} 512 0
    → length (take (length rows) room) ≡ length rows
links_front n rows well room blank = sym (front_long 512 (length rows) 0 room blank (rows_few n rows well))

module _ (n : ℕ) (rows : List Row) (well : WellFormed n rows) where
  bounds : Sound n rows
  bounds = sound n rows well

  row : (i : ℕ) → i < length rows → GoodRow n (get_or rows i none)
  row i h = good_rows n rows 0 bounds.each i h

  pub measuring : (left : List ℕ) → length left ≡ length rows → Measuring n rows left
  measuring left e =
      record {
        left_each = e;
        src_inside = λ i h. (row i h).src_inside;
        dst_inside = λ i h. (row i h).dst_inside;
      }

  pub soon : last_due rows ≤ 1024
  unfolding last_due dues
  soon =
      largest_below 1024 (map (λ (r : Row). r.due) rows)
      (λ i h.
      let known : i < length rows = omega (arith, length-map rows (λ (r : Row). r.due)) in
      rw (get_or-map (λ (r : Row). r.due) rows i none 0 known) ((row i known).due_most))

  -- The links that a row has to go.
  its_way : (i : ℕ) → i < length rows → Away n (get_or rows i none).src (get_or rows i none).dst
  its_way i h = away n (get_or rows i none).src (get_or rows i none).dst (row i h).src_inside (row i h).dst_inside

  its_links : (i : ℕ) → i < length rows
      → get_or (distances n rows) i 0 ≡ distance n (get_or rows i none).src (get_or rows i none).dst
  unfolding distances
  its_links i h = get_or-map (λ (r : Row). distance n r.src r.dst) rows i none 0 h

  pub table_laden : Laden (freight_of n rows)
  unfolding destinations
  table_laden =
      record {
        some_node = omega (arith, bounds.least);
        dst_inside = λ i h.
            let known : i < length rows = omega (arith, lengths_long rows) in
            rw (get_or-map (λ (r : Row). r.dst) rows i none 0 known) ((row i known).dst_inside);
        links_inside = λ i h.
            let known : i < length rows = omega (arith, lengths_long rows) in
            rw (its_links i known) ((its_way i known).within);
      }

  -- Every row of a well-formed table has a cell.
  pub table_cells : AboveZero (lengths rows)
  unfolding lengths
  table_cells i h =
      let known : i < length rows = omega (arith, length-map rows (λ (r : Row). r.len)) in
      rw (get_or-map (λ (r : Row). r.len) rows i none 0 known) ((row i known).len_some)

  -- Every row of a well-formed table has links to go.
  pub under_way_lem : (i : ℕ) → i < length rows → 0 < get_or (distances n rows) i 0
  under_way_lem i h = rw (its_links i h) ((its_way i h).some)

  pub few_cells : cells_in rows ≤ 1024
  few_cells = bounds.cells

  pub runnable : {links plan arrivals : List ℕ} → links ≡ distances n rows → JustRoom n rows plan arrivals
      → Loaded n rows links plan arrivals
  runnable e room =
      record {
        laden = rw e table_laden;
        some = table_cells;
        many = bounds.few;
        few = few_cells;
        links_each = measured_long n rows e;
        soon = omega (arith, soon);
        room = room.plan_long;
        each = room.arrivals_long;
      }
