-- From rows laid out in cells to their jam, and back to the rows.
--     rows_fit, cells_fit        there is a place for each row and each cell
--     can_lay                    the rows of a well-formed table can be laid out
--     searched                   the cells that are laid out can be searched
--     marking                    those of a jam can be marked
--     none_found, all_marked     what the search and the marks come to, where there is no jam and where there is one
-- Assumes nothing.
use mathlib.Core.Path.{◌≡◌, ◌∙◌, ap, sym}
use Prim.Native.Nat.{ℕ, suc, ◌≤◌, ◌<◌}
use native.Mathlib.Omega.{arith}
use mathlib.Core.List.{List}
use lib.ListN.{length, get_or, take, replicate, length-map}
use Rattle.std.proofs.Common.{Option, None, Some}
use Rattle.lists.proofs.Fronts.{front_long}
use Rattle.ring.specs.Ring.{distance}
use Rattle.table.specs.declared.Row.{Row}
use Rattle.table.specs.Table.{WellFormed, cells_in, distances, last_due}
use Rattle.table.proofs.Whole.{Sound, sound}
use Rattle.slack.specs.declared.Cell.{Cell}
use Rattle.slack.specs.Slack.{traffic_in, owners_in}
use Rattle.cells.specs.Rows.{Freight, owners, cell_links}
use Rattle.cells.specs.Cells.{cell_traffic}
use Rattle.cells.specs.Steps.{Open, Laid}
use Rattle.cells.proofs.Laid.{traffic_is, owner_is, left_is}
use Rattle.cells.proofs.Laying.{lengths_long}
use Rattle.cells.proofs.Seats.{seat}
use Rattle.best.proofs.Order.{links_long, laid_on_ring, seat_owner}
use Rattle.best.proofs.Best.{cell_dues_lem}
use Rattle.planner.specs.Planner.{freight_of}
use Rattle.planner.proofs.Good.{soon, table_laden}
use Rattle.planner.proofs.Promises.{due_in_time}
use Rattle.jam.specs.declared.Jam.{Jam}
use Rattle.jam.specs.Jam.{the_jam}
use Rattle.jam.specs.Members.{row_jam, of_row, members_of}
use Rattle.jam.proofs.Search.{Found, jam_found}
use Rattle.jam_search.specs.Steps.{Searched}
use Rattle.reason.specs.Reason.{jam_of}
use Rattle.reason.specs.Steps.{Marking, marks_by, members_in, JamFound}

-- There is a place for each row and each cell of a well-formed table.
pub rows_fit : (n : ℕ) (rows : List Row) → WellFormed n rows → {room : List ℕ} → room ≡ replicate {A = ℕ} 512 0
    → length rows ≡ length (take (length rows) room)
rows_fit n rows well {room} blank = front_long 512 (length rows) 0 room blank (sound n rows well).few

pub cells_fit : {A : Type 0} (n : ℕ) (rows : List Row) → WellFormed n rows → {count : ℕ} → count ≡ cells_in rows
    → {room : List A} {none : A} → room ≡ replicate 1024 none → count ≡ length (take count room)
cells_fit n rows well {count} is {room} {none} blank =
    front_long 1024 count none room blank (omega (arith, is, (sound n rows well).cells))

-- The rows of a well-formed table can be laid out where there is a place for each cell.
pub can_lay : (n : ℕ) {rows : List Row} → WellFormed n rows → {links : List ℕ} → links ≡ distances n rows
    → {cells : List Cell} {left : List ℕ} → cells_in rows ≡ length cells → cells_in rows ≡ length left
    → Open rows links cells left
unfolding distances
can_lay n {rows} well e c l =
    record {
      few = omega (arith, (sound n rows well).few);
      links_each = ap length e ∙ length-map rows (λ (r : Row). distance n r.src r.dst);
      cells_room = sym c;
      left_room = sym l;
    }

module _ (n : ℕ) {rows : List Row} (well : WellFormed n rows) {links : List ℕ} (measured : links ≡ distances n rows)
    {cells : List Cell} {left : List ℕ} (laid : Laid rows links cells left) where
  abbrev F : Freight
  F = freight_of n rows

  abbrev last : ℕ
  last = last_due rows

  of_table : Laid rows (distances n rows) cells left
  of_table = rw measured at laid

  bounds : Sound n rows
  bounds = sound n rows well

  in_time : (c : ℕ) → c < length (cell_links F) → get_or (cell_traffic F).due c 0 ≤ last
  in_time = cell_dues_lem {F = F} {slots = last} (table_laden n rows well) (due_in_time n rows well)

  few : length (cell_links F) ≤ 1024
  unfolding cells_in
  few = omega (arith, links_long F, bounds.cells)

  can_search : Searched (cell_traffic F) (cell_links F) (suc last)
  can_search =
      record {
        ring = laid_on_ring F (table_laden n rows well);
        small = unfold cell_traffic in bounds.most;
        few = few;
        dues = λ c l. omega (arith, in_time c l);
        short = omega (arith, soon n rows well);
      }

  -- The cells that are laid out can be searched.
  pub searched : {slots : ℕ} → slots ≡ last → Searched (traffic_in n cells) left (suc slots)
  searched e = rw (traffic_is n of_table, left_is n of_table, e) can_search

  module _ {slots : ℕ} (slots_are : slots ≡ last) {jam : Option Jam}
      (jam_is : jam ≡ the_jam (traffic_in n cells) left slots) where
    the_tables : jam ≡ jam_of n rows
    unfolding jam_of row_jam
    the_tables = jam_is ∙ rw (traffic_is n of_table, left_is n of_table, slots_are)

    -- There is no jam: every count is 0.
    pub none_found : jam ≡ None → {members : ℕ} → members ≡ length rows → {members' : List ℕ}
        → members' ≡ replicate {A = ℕ} members 0 → JamFound n rows None members'
    unfolding members_in
    none_found none each zeros = record { found = sym none ∙ the_tables; marks = zeros ∙ rw each }

    module _ {it : Jam} (some : jam ≡ Some it) {members : ℕ} (each : members ≡ length rows) where
      known : Found (cell_traffic F) (cell_links F) last it
      unfolding jam_of row_jam
      known = jam_found (cell_traffic F) (cell_links F) last (sym the_tables ∙ some)

      can_mark : Marking (cell_traffic F) (owners F) (cell_links F) it.link.0 it.before.0 members
      can_mark =
          record {
            ring = laid_on_ring F (table_laden n rows well);
            small = unfold cell_traffic in bounds.most;
            inside = known.link_inside;
            soon = omega (arith, known.before_inside, soon n rows well);
            few = few;
            named = λ c l.
                let s = seat F.len c (omega (arith, links_long F)) in
                (omega (arith, seat_owner F s), omega (arith, seat_owner F s, s.known, each, lengths_long rows));
          }

      -- The cells of the jam can be marked.
      pub marking : Marking (traffic_in n cells) (owners_in cells) left it.link.0 it.before.0 members
      marking = rw (traffic_is n of_table, owner_is n of_table, left_is n of_table) can_mark

      -- There is one: each row's cells in it are counted.
      pub all_marked : {members' : List ℕ}
          → members' ≡ marks_by (traffic_in n cells) (owners_in cells) left it.link.0 it.before.0 members (length left)
          → JamFound n rows (Some it) members'
      unfolding marks_by members_of of_row members_in
      all_marked counts =
          let rows_are : members ≡ length F.len = omega (arith, each, lengths_long rows) in
          record {
            found = sym some ∙ the_tables;
            marks = counts ∙ rw (traffic_is n of_table, owner_is n of_table, left_is n of_table, rows_are);
          }
