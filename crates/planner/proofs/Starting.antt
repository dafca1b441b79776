-- Each cell stands at its row's source at instant 0, and with the links left that lead from there to its destination.
--     starts_at_source      a well-formed table starts with each cell at its row's source
-- Assumes nothing.
use mathlib.Core.Path.{◌≡◌, ◌∙◌, ap}
use Prim.Native.Nat.{ℕ, suc, ◌<◌}
use native.Mathlib.Omega.{arith}
use mathlib.Core.List.{List}
use lib.ListN.{length, get_or}
use Rattle.std.proofs.lemmas.List.{get_or-map}
use Rattle.lists.specs.Lists.{total}
use Rattle.ring.specs.Ring.{distance, standing}
use Rattle.ring.proofs.Standing.{at_source}
use Rattle.table.specs.declared.Row.{Row}
use Rattle.table.specs.Table.{WellFormed, destinations, lengths, distances}
use Rattle.table.specs.Steps.{none}
use Rattle.table.proofs.Judging.{good_rows}
use Rattle.slack.specs.Slack.{place}
use Rattle.cells.specs.Rows.{Freight, owners, cell_links, road}
use Rattle.cells.specs.Cells.{cell_traffic}
use Rattle.cells.proofs.Laying.{lengths_long}
use Rattle.cells.proofs.Seats.{Seat, seat}
use Rattle.best.proofs.Order.{seat_owner, seat_dst, seat_links}
use Rattle.planner.specs.Planner.{freight_of}
use Rattle.table.proofs.Whole.{sound}

-- Cell c is one of row i.
pub starts_at_source : (n : ℕ) (rows : List Row) → WellFormed n rows → (i c : ℕ) → c < total (lengths rows)
    → get_or (owners (freight_of n rows)) c 0 ≡ suc i
    → place (road (freight_of n rows)) (cell_links (freight_of n rows)) c ≡ (get_or rows i none).src
unfolding place road cell_traffic destinations distances
starts_at_source n rows well i c inside of_row =
    let s : Seat (lengths rows) c = seat (lengths rows) c inside in
    let same : s.row ≡ i = omega (arith, seat_owner F s) in
    let known : s.row < length rows = omega (arith, s.known, lengths_long rows) in
    let r = get_or rows s.row none in
    let good = good_rows n rows 0 (sound n rows well).each s.row known in
    ap (λ q. standing n q (get_or (cell_links F) c 0)) (seat_dst F s ∙ get_or-map (λ (x : Row). x.dst) rows s.row none 0 known)
    ∙ ap (standing n r.dst) (seat_links F s ∙ get_or-map (λ (x : Row). distance n x.src x.dst) rows s.row none 0 known)
    ∙ at_source n r.src r.dst good.src_inside good.dst_inside
    ∙ ap (λ j. (get_or rows j none).src) same
  where
    F : Freight
    F = freight_of n rows
