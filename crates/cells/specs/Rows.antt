-- Rows of several cells, and legal schedules that name rows, in the words of documents 01 and 02. Neither the sending
-- rule nor a due slot of a cell is mentioned.
-- Rows, cells and a row's places are counted from 0; a schedule names row i as i + 1, and 0 is idle.
use Rattle.std.specs.Prelude.{ℕ, zero, suc, ◌*◌, ◌<◌, ◌≤◌, ◌≡◌, Bool, cond, ◌&&◌, List, [], ◌∷◌, ◌++◌, eqb, length, get_or}
use Rattle.lists.specs.Lists.{build}
use Rattle.slack.specs.Slack.{Traffic, traffic, under_way, place, moved}
use Rattle.optimal.specs.Schedule.{named_in}

-- The number of the first, of the m from i on, that passes a test; 0 where none does.
unfoldable pub first_that : (ℕ → Bool) → (m i : ℕ) → ℕ
first_that test zero i = 0
first_that test (suc m) i = cond (test i) (suc i) (first_that test m (suc i))

-- A table as a schedule sees it: the number of nodes, and each row's destination, length in cells, due slot, and links
-- to go from its source.
pub record Freight : Type 0 where
  pub nodes : ℕ
  pub dst : List ℕ
  pub len : List ℕ
  pub due : List ℕ
  pub links : List ℕ

abbrev pub freight : ℕ → (dst len due links : List ℕ) → Freight
freight nodes dst len due links = record { nodes = nodes; dst = dst; len = len; due = due; links = links }

-- f i j for each row i and each place j in it, in row order, where row i has as many cells as entry i of the list.
unfoldable pub per_cell : List ℕ → (ℕ → ℕ → ℕ) → List ℕ
per_cell [] f = []
per_cell (l ∷ ls) f = build l (f 0) ++ per_cell ls (λ i. f (suc i))

-- The number of each cell's row.
unfoldable pub owners_of : (len : List ℕ) → List ℕ
owners_of len = per_cell len (λ i j. suc i)

unfoldable pub owners : Freight → List ℕ
owners F = owners_of F.len

-- A column of the rows, laid out over their cells: each cell has its row's entry.
unfoldable pub laid_out : (len column : List ℕ) → List ℕ
laid_out len column = per_cell len (λ i j. get_or column i 0)

-- The links that each cell has to go at the start: its row's.
unfoldable pub cell_links : Freight → List ℕ
cell_links F = laid_out F.len F.links

-- The ring, and each cell's destination, which is its row's; no cell has a due slot.
unfoldable pub road : Freight → Traffic
road F = traffic F.nodes (laid_out F.len F.dst) []

-- Cell c is one of the row with that number, not delivered, and stands at p.
unfoldable pub waits : Freight → (left : List ℕ) → (row p c : ℕ) → Bool
waits F left row p c = eqb (get_or (owners F) c 0) row && (under_way left c && eqb (place (road F) left c) p)

-- The number of the earliest such cell; 0 where there is none.
unfoldable pub earliest : Freight → (left : List ℕ) → (row p : ℕ) → ℕ
earliest F left row p = first_that (waits F left row p) (length left) 0

-- The cells that the links carry where a slot names rows: of a named row its earliest cell at that node. So a row's
-- cells keep their order at every node.
unfoldable pub carried : Freight → (slot left : List ℕ) → List ℕ
carried F slot left = build F.nodes (λ p. earliest F left (get_or slot p 0) p)

-- The links that each cell has still to go at instant t: each starts at its row's source and moves by itself.
unfoldable pub cells_left : Freight → (schedule : List ℕ) → ℕ → List ℕ
cells_left F schedule zero = cell_links F
cells_left F schedule (suc t) =
    let left = cells_left F schedule t in moved (road F) (carried F (named_in (road F) schedule t) left) left

-- Row i has a cell that is not delivered and stands at p.
unfoldable pub Holds : Freight → (left : List ℕ) → (i p : ℕ) → Type 0
Holds F left i p =
    (c : ℕ) × (c < length left) × ((get_or (owners F) c 0 ≡ suc i) × (0 < get_or left c 0) × (place (road F) left c ≡ p))

-- All cells of row i are delivered.
unfoldable pub Delivered : Freight → (left : List ℕ) → (i : ℕ) → Type 0
Delivered F left i = (c : ℕ) → c < length left → get_or (owners F) c 0 ≡ suc i → get_or left c 0 ≡ 0

-- Every row named for link p in slot t has a cell that is not yet delivered at instant t and stands at p.
unfoldable pub LegalRows : Freight → (slots : ℕ) → (schedule : List ℕ) → Type 0
LegalRows F slots schedule =
    (t p i : ℕ) → t < slots → p < F.nodes → get_or (named_in (road F) schedule t) p 0 ≡ suc i →
    Holds F (cells_left F schedule t) i p

-- Every row is delivered whole at some instant no later than its due slot.
unfoldable pub MeetsRows : Freight → (schedule : List ℕ) → Type 0
MeetsRows F schedule =
    (i : ℕ) → i < length F.len → (t : ℕ) × (t ≤ get_or F.due i 0) × Delivered F (cells_left F schedule t) i

-- An entry for each link in each of `slots` slots, legal, and every row there in time.
pub record RowSchedule (F : Freight) (slots : ℕ) (schedule : List ℕ) : Type 0 where
  pub entries : length schedule ≡ slots * F.nodes
  pub legal : LegalRows F slots schedule
  pub meets : MeetsRows F schedule
