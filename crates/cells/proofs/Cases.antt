-- Small tables of several cells, worked out on the definitions alone: lists of entries, and whether each is a schedule
-- of rows; and what the rule over cells makes of a table.
-- A definition that said less, or more, would give another list.
-- Assumes nothing.
use mathlib.Core.Path.{◌≡◌, refl}
use Prim.Native.Nat.{ℕ}
use native.Mathlib.Decide.{ℕ_discrete, dec_le, dec_lt}
use mathlib.Core.Bool.{Bool, true, false, decide}
use mathlib.Core.List.{List, [], ◌∷◌, map}
use Rattle.lists.specs.Lists.{total, largest}
use Rattle.ring.specs.Ring.{distance, standing}
use Rattle.slack.specs.Slack.{under_way, place, slack_of, slack, is_late, late_from, late_row, better, pick, slot_of, moved}
use Rattle.slack.specs.Slack.{state_at, plan_of, delivered_from, arrivals_of, any_under_way, stop_from, stop_of}
use Rattle.optimal.specs.Schedule.{named_in, busy}
use Rattle.optimal.proofs.Count.{find, both_decided}
use Rattle.optimal.proofs.Tests.{alike, all_below, row_named_lem, all_three, some_below, Says, as_decided}
use Rattle.cells.specs.Rows.{first_that, Freight, freight, per_cell, owners_of, owners, laid_out, cell_links, road}
use Rattle.cells.specs.Rows.{waits, earliest, carried, cells_left, LegalRows, MeetsRows, RowSchedule}
use Rattle.cells.specs.Cells.{dues_of, cell_dues, cell_traffic, owner_of, told_by, row_plan}
use Rattle.cells.specs.Cells.{end_by, row_stop, of_last_cells, row_arrivals}
use Rattle.cells.specs.Looks.{looks_to, looks_of, row_looks}
use Rattle.cells.proofs.Tests.{follows, holds_decided, delivered_decided}
use Rattle.cells.proofs.Tests.{legal_rows_decided, meets_rows_decided, row_schedule_decided}

-- A row, source > destination, length / due slot.
record Row : Type 0 where
  src : ℕ
  dst : ℕ
  len : ℕ
  due : ℕ

row : (src dst len due : ℕ) → Row
row src dst len due = record { src = src; dst = dst; len = len; due = due }

-- A table, a list of entries, and what is to be said of it: that it is legal, that it meets the table, and that it is a
-- schedule, which has an entry for each link in each slot besides.
record Case : Type 0 where
  nodes : ℕ
  rows : List Row
  schedule : List ℕ
  legal : Bool
  meets : Bool
  whole : Bool

case : ℕ → List Row → List ℕ → (legal meets whole : Bool) → Case
case nodes rows schedule legal meets whole =
    record { nodes = nodes; rows = rows; schedule = schedule; legal = legal; meets = meets; whole = whole }

-- What the definitions want to know of a case: its freight and its slots.
abbrev freight_of : Case → Freight
freight_of c =
    freight c.nodes (map (λ r. r.dst) c.rows) (map (λ r. r.len) c.rows) (map (λ r. r.due) c.rows)
    (map (λ r. distance c.nodes r.src r.dst) c.rows)

abbrev slots_of : Case → ℕ
slots_of c = largest (map (λ r. r.due) c.rows)

cases : List Case
cases =
    -- two cells over two links, of which both are sent in slot 1
    case 4 (row 0 2 2 3 ∷ []) (1 ∷ 0 ∷ 0 ∷ 0 ∷ 1 ∷ 1 ∷ 0 ∷ 0 ∷ 0 ∷ 1 ∷ 0 ∷ 0 ∷ []) true true true
    -- the same past node 0
    ∷ case 4 (row 3 1 2 3 ∷ []) (0 ∷ 0 ∷ 0 ∷ 1 ∷ 1 ∷ 0 ∷ 0 ∷ 1 ∷ 1 ∷ 0 ∷ 0 ∷ 0 ∷ []) true true true
    -- idling while a cell waits, and the last one comes just at its row's due slot
    ∷ case 2 (row 0 1 2 3 ∷ []) (1 ∷ 0 ∷ 0 ∷ 0 ∷ 1 ∷ 0 ∷ []) true true true
    -- a row named on a link where none of its cells stands
    ∷ case 4 (row 0 1 1 1 ∷ []) (0 ∷ 1 ∷ 0 ∷ 0 ∷ []) false false false
    ∷ case 4 (row 0 2 2 3 ∷ []) (1 ∷ 1 ∷ 0 ∷ 0 ∷ 1 ∷ 1 ∷ 0 ∷ 0 ∷ 0 ∷ 1 ∷ 0 ∷ 0 ∷ []) false true false
    -- a row named where a cell of another row stands
    ∷ case 4 (row 0 1 1 2 ∷ row 1 2 1 2 ∷ []) (1 ∷ 1 ∷ 0 ∷ 0 ∷ 0 ∷ 2 ∷ 0 ∷ 0 ∷ []) false true false
    -- a row named where its delivered cell is, and where it was
    ∷ case 4 (row 0 1 1 2 ∷ []) (1 ∷ 0 ∷ 0 ∷ 0 ∷ 0 ∷ 1 ∷ 0 ∷ 0 ∷ []) false true false
    ∷ case 4 (row 0 1 1 2 ∷ []) (1 ∷ 0 ∷ 0 ∷ 0 ∷ 1 ∷ 0 ∷ 0 ∷ 0 ∷ []) false true false
    -- a row named once more than it has cells
    ∷ case 2 (row 0 1 2 3 ∷ []) (1 ∷ 0 ∷ 1 ∷ 0 ∷ 1 ∷ 0 ∷ []) false true false
    -- a number that is no row's
    ∷ case 2 (row 0 1 2 2 ∷ []) (1 ∷ 2 ∷ 1 ∷ 0 ∷ []) false true false
    -- the first cell comes and the last does not, or a slot too late
    ∷ case 2 (row 0 1 2 2 ∷ []) (1 ∷ 0 ∷ 0 ∷ 0 ∷ []) true false false
    ∷ case 2 (row 0 1 2 2 ∷ []) (0 ∷ 0 ∷ 1 ∷ 0 ∷ 1 ∷ 0 ∷ []) true false false
    -- another row sent between two cells, and behind them, by which it comes too late
    ∷ case 4 (row 0 1 2 3 ∷ row 0 3 1 4 ∷ [])
    (1 ∷ 0 ∷ 0 ∷ 0 ∷ 2 ∷ 0 ∷ 0 ∷ 0 ∷ 1 ∷ 2 ∷ 0 ∷ 0 ∷ 0 ∷ 0 ∷ 2 ∷ 0 ∷ []) true true true
    ∷ case 4 (row 0 1 2 3 ∷ row 0 3 1 4 ∷ [])
    (1 ∷ 0 ∷ 0 ∷ 0 ∷ 1 ∷ 0 ∷ 0 ∷ 0 ∷ 2 ∷ 0 ∷ 0 ∷ 0 ∷ 0 ∷ 2 ∷ 0 ∷ 0 ∷ []) true false false
    -- entries for one slot of two, and for two slots of one
    ∷ case 2 (row 0 1 1 2 ∷ []) (1 ∷ 0 ∷ []) true true false
    ∷ case 2 (row 0 1 1 1 ∷ []) (1 ∷ 0 ∷ 0 ∷ 0 ∷ []) true true false
    -- the empty list for the empty table
    ∷ case 4 [] [] true true true
    ∷ []

-- Each case of a list is as its last three fields say, by the definitions themselves.
AsSaid : Case → Type 0
AsSaid c =
    Says c.legal (LegalRows (freight_of c) (slots_of c) c.schedule)
    × Says c.meets (MeetsRows (freight_of c) c.schedule)
    × Says c.whole (RowSchedule (freight_of c) (slots_of c) c.schedule)

Each : List Case → Type 0
Each [] = Unit {0}
Each (c ∷ cs) = AsSaid c × Each cs

-- What is computed of a case's list.
abbrev legality : (c : Case) → Dec (LegalRows (freight_of c) (slots_of c) c.schedule)
legality c = legal_rows_decided (freight_of c) (slots_of c) c.schedule

abbrev meeting : (c : Case) → Dec (MeetsRows (freight_of c) c.schedule)
meeting c = meets_rows_decided (freight_of c) c.schedule

abbrev wholeness : (c : Case) → Dec (RowSchedule (freight_of c) (slots_of c) c.schedule)
wholeness c = row_schedule_decided (freight_of c) (slots_of c) c.schedule

computed : Case → Case
computed c =
    case c.nodes c.rows c.schedule (decide (legality c)) (decide (meeting c)) (decide (wholeness c))

-- What is computed of a case holds.
holds : (cs : List Case) → Each (map computed cs)
unfolding Each AsSaid computed case
holds [] = tt
holds (c ∷ cs) = ((as_decided (legality c), as_decided (meeting c), as_decided (wholeness c)), holds cs)

-- Every case comes out as said.
row_schedules_computed : map computed cases ≡ cases
unfolding row case cases computed decide largest distance standing under_way place moved named_in first_that per_cell
    owners_of owners laid_out cell_links road waits earliest carried cells_left ℕ_discrete dec_le dec_lt find both_decided
    alike all_below row_named_lem all_three some_below follows holds_decided delivered_decided
    legal_rows_decided meets_rows_decided row_schedule_decided
row_schedules_computed = refl

row_schedules_as_said : Each cases
row_schedules_as_said = rw row_schedules_computed at (holds cases)

-- What the rule makes of a table: the row and the instant at which its run ends, its looks, its plan told in rows, and
-- each row's arrival, over the largest due slot.
abbrev outcome : Freight → List (List ℕ)
outcome F =
    let slots = largest F.due in
    ((row_stop F slots).row ∷ (row_stop F slots).slot.0 ∷ row_looks F slots ∷ []) ∷ row_plan F slots ∷ row_arrivals F slots ∷ []

-- Two cells over two links; two cells once round a ring of two, named on both links in slot 1; two rows that share a
-- link; three cells of which the first two are due at 0 or before; a second row with a late cell.
outcomes_computed : map outcome (
    freight 4 (2 ∷ []) (2 ∷ []) (3 ∷ []) (2 ∷ [])
    ∷ freight 2 (0 ∷ []) (2 ∷ []) (3 ∷ []) (2 ∷ [])
    ∷ freight 4 (1 ∷ 3 ∷ []) (2 ∷ 1 ∷ []) (3 ∷ 4 ∷ []) (1 ∷ 3 ∷ [])
    ∷ freight 2 (1 ∷ []) (3 ∷ []) (1 ∷ []) (1 ∷ [])
    ∷ freight 2 (1 ∷ 1 ∷ []) (2 ∷ 2 ∷ []) (3 ∷ 3 ∷ []) (1 ∷ 1 ∷ [])
    ∷ [])
    ≡ (((0 ∷ 3 ∷ 5 ∷ []) ∷ (1 ∷ 0 ∷ 0 ∷ 0 ∷ 1 ∷ 1 ∷ 0 ∷ 0 ∷ 0 ∷ 1 ∷ 0 ∷ 0 ∷ []) ∷ (3 ∷ []) ∷ [])
    ∷ ((0 ∷ 3 ∷ 5 ∷ []) ∷ (1 ∷ 0 ∷ 1 ∷ 1 ∷ 0 ∷ 1 ∷ []) ∷ (3 ∷ []) ∷ [])
    ∷ ((0 ∷ 4 ∷ 8 ∷ [])
    ∷ (1 ∷ 0 ∷ 0 ∷ 0 ∷ 2 ∷ 0 ∷ 0 ∷ 0 ∷ 1 ∷ 2 ∷ 0 ∷ 0 ∷ 0 ∷ 0 ∷ 2 ∷ 0 ∷ []) ∷ (3 ∷ 4 ∷ []) ∷ [])
    ∷ ((1 ∷ 0 ∷ 3 ∷ []) ∷ (1 ∷ 0 ∷ []) ∷ (1 ∷ []) ∷ [])
    ∷ ((2 ∷ 3 ∷ 10 ∷ []) ∷ (1 ∷ 0 ∷ 2 ∷ 0 ∷ 1 ∷ 0 ∷ []) ∷ (3 ∷ 3 ∷ []) ∷ [])
    ∷ [])
unfolding total largest standing under_way place slack_of slack is_late late_from late_row better pick slot_of moved state_at
    plan_of delivered_from arrivals_of any_under_way stop_from stop_of per_cell owners_of owners laid_out cell_links
    dues_of cell_dues cell_traffic owner_of told_by row_plan end_by row_stop of_last_cells
    row_arrivals busy looks_to looks_of row_looks
outcomes_computed = refl
