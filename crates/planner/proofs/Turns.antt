-- A row to its own node goes once round: to stand there at instant 0 is not to be delivered.
--     not_sooner        a cell needs a slot for each link that it has to go
--     starts_full       each cell of such a row has N links to go at the start
--     turn_takes_n      so no schedule, legal or not, delivers the row before instant N
-- Assumes nothing.
use mathlib.Core.Path.{◌≡◌, refl, ◌∙◌, ap, sym}
use Prim.Native.Nat.{ℕ, zero, suc, ◌+◌, ◌≤◌, ◌<◌}
use native.Mathlib.Omega.{arith}
use mathlib.Core.List.{List}
use lib.ListN.{length, get_or}
use Rattle.std.proofs.lemmas.List.{get_or-map}
use Rattle.ring.specs.Ring.{distance}
use Rattle.ring.proofs.Standing.{full_turn}
use Rattle.table.specs.declared.Row.{Row}
use Rattle.table.specs.Table.{WellFormed, lengths, distances}
use Rattle.table.specs.Steps.{none}
use Rattle.slack.proofs.Rule.{moved_length, moved_by_one}
use Rattle.optimal.specs.Schedule.{named_in}
use Rattle.cells.specs.Rows.{Freight, cell_links, road, carried, cells_left, Delivered}
use Rattle.cells.proofs.Laying.{lengths_long}
use Rattle.cells.proofs.Seats.{first_cell, cell_known}
use Rattle.best.proofs.Order.{owner_at, links_at, links_long}
use Rattle.planner.specs.Planner.{freight_of}
use Rattle.planner.proofs.Good.{table_cells}

module _ (F : Freight) (schedule : List ℕ) where
  -- No slot changes how many cells there are.
  as_many : (t : ℕ) → length (cells_left F schedule t) ≡ length (cell_links F)
  unfolding cells_left
  as_many zero = refl
  as_many (suc t) =
      let left = cells_left F schedule t in
      moved_length (road F) (carried F (named_in (road F) schedule t) left) left ∙ as_many t

  -- A cell needs a slot for each link that it has to go.
  pub not_sooner : (t c : ℕ) → c < length (cell_links F)
      → get_or (cell_links F) c 0 ≤ t + get_or (cells_left F schedule t) c 0
  unfolding cells_left
  not_sooner zero c known = omega arith
  not_sooner (suc t) c known =
      let left = cells_left F schedule t in
      let there : c < length left = omega (arith, as_many t) in
      let one = moved_by_one (road F) (carried F (named_in (road F) schedule t) left) left c there in
      omega (arith, one, not_sooner t c known)

module _ (n : ℕ) (rows : List Row) (well : WellFormed n rows) (i : ℕ) (known : i < length rows)
    (own : (get_or rows i none).src ≡ (get_or rows i none).dst) where
  abbrev F : Freight
  F = freight_of n rows

  inside : i < length (lengths rows)
  inside = omega (arith, lengths_long rows)

  -- Each cell of such a row has N links to go at the start.
  pub starts_full : (j : ℕ) → j < get_or (lengths rows) i 0 → get_or (cell_links F) (first_cell (lengths rows) i + j) 0 ≡ n
  unfolding distances
  starts_full j in_row =
      links_at F i j inside in_row ∙ get_or-map (λ (r : Row). distance n r.src r.dst) rows i none 0 known
      ∙ ap (distance n (get_or rows i none).src) (sym own) ∙ full_turn n (get_or rows i none).src

  -- So no schedule, legal or not, delivers the row before instant N.
  pub turn_takes_n : (schedule : List ℕ) (t : ℕ) → Delivered F (cells_left F schedule t) i → n ≤ t
  unfolding Delivered
  turn_takes_n schedule t whole =
      let some = table_cells n rows well i inside in
      let c : ℕ = first_cell (lengths rows) i + 0 in
      let there : c < length (cell_links F) = omega (arith, cell_known (lengths rows) i 0 inside some, links_long F) in
      let gone = whole c (omega (arith, as_many F schedule t)) (owner_at F i 0 inside some) in
      omega (arith, not_sooner F schedule t c there, starts_full 0 some, gone)
