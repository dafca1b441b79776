-- What single steps of the code ask and do. Nothing here has to be believed.
use Rattle.std.specs.Prelude.{ℕ, suc, ◌+◌, ◌-◌, ◌≤◌, ◌<◌, ◌≡◌, cond, List, map, eqb, length, get_or}
use Rattle.lists.specs.Lists.{build, total}
use Rattle.table.specs.declared.Row.{Row}
use Rattle.table.specs.Table.{lengths, destinations, dues, cells_in}
use Rattle.slack.specs.declared.Cell.{Cell}
use Rattle.slack.specs.Slack.{dsts_in, dues_in, owners_in}
use Rattle.cells.specs.Rows.{Freight, per_cell, owners_of, laid_out}
use Rattle.cells.specs.Cells.{dues_of}

-- A table of the ring: destinations on it, and from 0 links to a full turn to go.
pub record Laden (F : Freight) : Type 0 where
  pub some_node : 0 < F.nodes
  pub dst_inside : (i : ℕ) → i < length F.len → get_or F.dst i 0 < F.nodes
  pub links_inside : (i : ℕ) → i < length F.len → get_or F.links i 0 ≤ F.nodes

-- A place for a cell.
abbrev pub no_cell : Cell
no_cell = record { dst = record { 0 = 0 }; due = record { 0 = 0 }; row = 0; place = 0 }

-- Cell j of a row with that number, counted from 0.
abbrev pub cell_of : Row → (number j : ℕ) → Cell
cell_of r number j =
    record { dst = record { 0 = r.dst }; due = record { 0 = r.due - (r.len - suc j) }; row = number; place = j + 1 }

-- Which of its row's cells each cell is, counted from 1: in a list of cells, and as the rows' lengths say.
unfoldable pub places_in : List Cell → List ℕ
places_in = map (λ (c : Cell). c.place)

unfoldable pub places_of : (len : List ℕ) → List ℕ
places_of len = per_cell len (λ i j. suc j)

-- There is a place for each cell in both lists, and an entry for each row.
pub record Open (rows : List Row) (links : List ℕ) (cells : List Cell) (left : List ℕ) : Type 0 where
  pub few : length rows ≤ 65535
  pub links_each : length links ≡ length rows
  pub cells_room : length cells ≡ cells_in rows
  pub left_room : length left ≡ cells_in rows

-- The cells and their links to go are those of the rows.
pub record Laid (rows : List Row) (links : List ℕ) (cells : List Cell) (left : List ℕ) : Type 0 where
  pub dst_is : dsts_in cells ≡ laid_out (lengths rows) (destinations rows)
  pub due_is : dues_in cells ≡ dues_of (lengths rows) (dues rows)
  pub owner_is : owners_in cells ≡ owners_of (lengths rows)
  pub place_is : places_in cells ≡ places_of (lengths rows)
  pub left_is : left ≡ laid_out (lengths rows) links

-- The looks of a run that ends at instant t, from what it leaves: a delivered cell was looked at as often as its stamp
-- says, and one that is not at every instant up to and with t.
unfoldable pub looks_by : (t : ℕ) → (left stamps : List ℕ) → ℕ
looks_by t left stamps = total (build (length left) (λ i. cond (eqb (get_or left i 0) 0) (get_or stamps i 0) (suc t)))

-- No entry is above m.
abbrev pub AtMost : ℕ → List ℕ → Type 0
AtMost m xs = (k : ℕ) → k < length xs → get_or xs k 0 ≤ m

-- Every entry is above 0.
abbrev pub AboveZero : List ℕ → Type 0
AboveZero xs = (k : ℕ) → k < length xs → 0 < get_or xs k 0
