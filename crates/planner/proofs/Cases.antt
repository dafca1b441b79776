-- Document 01's sweep table, A to H, J, K with 1025 and L, and tables of several cells and full turns, computed by
-- one statement over the list of cases.
-- Each case lends areas of 25 and 4 entries that hold 7, so that it shows which entries are touched, too.
-- Assumes nothing.
use mathlib.Core.Path.{◌≡◌, refl}
use Prim.Native.Nat.{ℕ}
use mathlib.Core.Bool.{Bool, true, false}
use mathlib.Core.List.{List, [], ◌∷◌, ◌++◌, map}
use lib.Dec.{eqb}
use lib.IntN.{pos, negsuc}
use lib.Ieee.{Float, fin, binary64, div, of_int, of_bits}
use lib.ListN.{replicate}
use Rattle.lists.specs.Lists.{total, largest}
use Rattle.ring.specs.Ring.{distance, standing}
use Rattle.table.specs.declared.Row.{Row}
use Rattle.table.specs.Table.{refuse, row_refusal, after_row, judge_rows, cells_in, after_rows, judge_all, judge, destinations, lengths}
use Rattle.table.specs.Table.{dues, distances, sends_of, last_due}
use Rattle.slack.specs.Slack.{under_way, place, slack_of, slack, is_late, late_from, late_row, better, pick, slot_of, moved}
use Rattle.slack.specs.Slack.{state_at, plan_of, delivered_from, arrivals_of, any_under_way, stop_from, stop_of}
use Rattle.cells.specs.Rows.{per_cell, owners_of, owners, laid_out, cell_links}
use Rattle.cells.specs.Cells.{dues_of, cell_dues, cell_traffic, owner_of, told_by, row_plan, end_by, row_stop}
use Rattle.cells.specs.Cells.{of_last_cells, row_arrivals}
use Rattle.optimal.specs.Schedule.{busy}
use Rattle.cells.specs.Looks.{looks_to, looks_of, row_looks}
use Rattle.std.specs.Prelude.{Ok, Err}
use Rattle.planner.specs.Planner.{Answer, ending, the_plan, the_arrivals, quotient, summary_of, the_summary}
use Rattle.planner.specs.Planner.{answer_to_rows, after_verdict, the_answer, the_looks, looks_after, area_after}

-- A row of several cells: source, destination, length, due slot.
long : ℕ → ℕ → ℕ → ℕ → Row
long src dst len due = record { src = src; dst = dst; len = len; due = due }

-- A row as document 01 writes it, of one cell: source, destination, due slot.
row : ℕ → ℕ → ℕ → Row
row src dst due = long src dst 1 due

-- A table, and what is expected: the answer, its looks, and both areas afterwards.
record Case : Type 0 where
  nodes : ℕ
  rows : List Row
  answer : Answer
  looks : ℕ
  plan : List ℕ
  arrivals : List ℕ

-- An area that was lent and left alone.
abbrev sevens : ℕ → List ℕ
sevens n = replicate n 7

-- An acceptance by its figures; floats as sign, whole number and power of two.
accepted : (last sends sum : ℕ) (mean share : Float) → Answer
accepted last sends sum mean share =
    Ok (record { last = record { 0 = last }; sends = sends; sum = sum; mean = mean; share = share })

refused : (number row slot : ℕ) → Answer
refused number row slot = Err (refuse number row slot)

case : ℕ → List Row → Answer → (looks : ℕ) → (plan arrivals : List ℕ) → Case
case nodes rows answer looks plan arrivals =
    record { nodes = nodes; rows = rows; answer = answer; looks = looks; plan = plan; arrivals = arrivals }

-- The sweep table.
cases : List Case
cases =
    -- A
    case 4 (row 0 2 3 ∷ row 0 1 2 ∷ []) (accepted 2 3 4 (fin false 1 (pos 1)) (fin false 3 (negsuc 2))) 4
    (1 ∷ 0 ∷ 0 ∷ 0 ∷ 2 ∷ 1 ∷ 0 ∷ 0 ∷ 0 ∷ 0 ∷ 0 ∷ 0 ∷ sevens 13) (2 ∷ 2 ∷ sevens 2)
    -- B
    ∷ case 4 (row 0 1 2 ∷ row 0 3 3 ∷ [])
    (accepted 3 4 5 (fin false 5 (negsuc 0)) (fin false 6004799503160661 (negsuc 53))) 5
    (2 ∷ 0 ∷ 0 ∷ 0 ∷ 1 ∷ 2 ∷ 0 ∷ 0 ∷ 0 ∷ 0 ∷ 2 ∷ 0 ∷ sevens 13) (2 ∷ 3 ∷ sevens 2)
    -- C
    ∷ case 4 (row 2 0 2 ∷ row 2 3 2 ∷ []) (accepted 2 3 4 (fin false 1 (pos 1)) (fin false 3 (negsuc 2))) 4
    (0 ∷ 0 ∷ 1 ∷ 0 ∷ 0 ∷ 0 ∷ 2 ∷ 1 ∷ sevens 17) (2 ∷ 2 ∷ sevens 2)
    -- D
    ∷ case 4 (row 0 1 1 ∷ row 0 1 1 ∷ []) (refused 9 2 1) 3 (0 ∷ 0 ∷ 0 ∷ 0 ∷ sevens 21) (0 ∷ 0 ∷ sevens 2)
    -- E
    ∷ case 4 (row 0 2 1 ∷ []) (refused 9 1 0) 1 (0 ∷ 0 ∷ 0 ∷ 0 ∷ sevens 21) (0 ∷ sevens 3)
    -- F
    ∷ case 2 (row 1 0 3 ∷ row 1 0 3 ∷ row 1 0 3 ∷ []) (accepted 3 3 6 (fin false 1 (pos 1)) (fin false 1 (negsuc 0))) 6
    (0 ∷ 1 ∷ 0 ∷ 2 ∷ 0 ∷ 3 ∷ sevens 19) (1 ∷ 2 ∷ 3 ∷ sevens 1)
    -- G
    ∷ case 2 (row 1 0 2 ∷ row 1 0 2 ∷ row 1 0 2 ∷ []) (refused 9 3 2) 6 (0 ∷ 0 ∷ 0 ∷ 0 ∷ sevens 21) (0 ∷ 0 ∷ 0 ∷ sevens 1)
    -- H
    ∷ case 4 [] (accepted 0 0 0 (of_bits binary64 0) (of_bits binary64 0)) 0 (sevens 25) (sevens 4)
    -- J
    ∷ case 4 (row 0 0 1025 ∷ []) (refused 6 1 0) 0 (sevens 25) (sevens 4)
    -- K
    ∷ case 2 (row 0 1 1025 ∷ []) (refused 6 1 0) 0 (sevens 25) (sevens 4)
    -- L
    ∷ case 33 (row 40 0 0 ∷ []) (refused 1 0 0) 0 (sevens 25) (sevens 4)
    -- two cells over two links, one behind the other; with a slot less the first of them is late at once
    ∷ case 4 (long 0 2 2 3 ∷ []) (accepted 3 4 3 (fin false 3 (pos 0)) (fin false 6004799503160661 (negsuc 53))) 5
    (1 ∷ 0 ∷ 0 ∷ 0 ∷ 1 ∷ 1 ∷ 0 ∷ 0 ∷ 0 ∷ 1 ∷ 0 ∷ 0 ∷ sevens 13) (3 ∷ sevens 3)
    ∷ case 4 (long 0 2 2 2 ∷ []) (refused 9 1 0) 2 (replicate 8 0 ++ sevens 17) (0 ∷ sevens 3)
    -- the third cell is late, and its row is named
    ∷ case 4 (long 0 1 2 5 ∷ long 1 2 2 1 ∷ []) (refused 9 2 0) 4 (replicate 20 0 ++ sevens 5) (0 ∷ 0 ∷ sevens 2)
    -- two blocks that share a link; one that passes node 0; one whose cells are parted by another row's
    ∷ case 4 (long 0 1 2 4 ∷ long 0 2 2 4 ∷ []) (accepted 4 6 8 (fin false 1 (pos 2)) (fin false 3 (negsuc 2))) 12
    (2 ∷ 0 ∷ 0 ∷ 0 ∷ 1 ∷ 2 ∷ 0 ∷ 0 ∷ 2 ∷ 0 ∷ 0 ∷ 0 ∷ 1 ∷ 2 ∷ 0 ∷ 0 ∷ sevens 9) (4 ∷ 4 ∷ sevens 2)
    ∷ case 4 (long 2 1 2 4 ∷ []) (accepted 4 6 4 (fin false 1 (pos 2)) (fin false 3 (negsuc 2))) 7
    (0 ∷ 0 ∷ 1 ∷ 0 ∷ 0 ∷ 0 ∷ 1 ∷ 1 ∷ 1 ∷ 0 ∷ 0 ∷ 1 ∷ 1 ∷ 0 ∷ 0 ∷ 0 ∷ sevens 9) (4 ∷ sevens 3)
    ∷ case 2 (long 0 1 2 3 ∷ row 0 1 2 ∷ []) (accepted 3 3 5 (fin false 5 (negsuc 0)) (fin false 1 (negsuc 0))) 6
    (1 ∷ 0 ∷ 2 ∷ 0 ∷ 1 ∷ 0 ∷ sevens 19) (3 ∷ 2 ∷ sevens 2)
    -- the first example of the paper's section 2, with messages of two cells and one of one
    ∷ case 5 (long 0 2 2 5 ∷ long 1 3 2 5 ∷ row 0 4 5 ∷ [])
    (accepted 5 12 14 (fin false 5254199565265579 (negsuc 49)) (fin false 1080863910568919 (negsuc 50))) 19
    (3 ∷ 2 ∷ 0 ∷ 0 ∷ 0 ∷ 1 ∷ 3 ∷ 2 ∷ 0 ∷ 0 ∷ 1 ∷ 1 ∷ 3 ∷ 0 ∷ 0 ∷ 0 ∷ 2 ∷ 0 ∷ 3 ∷ 0 ∷ 0 ∷ 1 ∷ 2 ∷ 0 ∷ 0 ∷ [])
    (5 ∷ 5 ∷ 4 ∷ sevens 1)
    -- 64 cells that are all due at 0 or before but the last: late at once
    ∷ case 2 (long 0 1 64 1 ∷ []) (refused 9 1 0) 64 (0 ∷ 0 ∷ sevens 23) (0 ∷ sevens 3)
    -- once round to its own node: alone, from node 0 and from node N - 1; a slot less is late at once
    ∷ case 4 (row 1 1 4 ∷ []) (accepted 4 4 4 (fin false 1 (pos 2)) (fin false 1 (negsuc 1))) 4
    (0 ∷ 1 ∷ 0 ∷ 0 ∷ 0 ∷ 0 ∷ 1 ∷ 0 ∷ 0 ∷ 0 ∷ 0 ∷ 1 ∷ 1 ∷ 0 ∷ 0 ∷ 0 ∷ sevens 9) (4 ∷ sevens 3)
    ∷ case 4 (row 0 0 4 ∷ []) (accepted 4 4 4 (fin false 1 (pos 2)) (fin false 1 (negsuc 1))) 4
    (1 ∷ 0 ∷ 0 ∷ 0 ∷ 0 ∷ 1 ∷ 0 ∷ 0 ∷ 0 ∷ 0 ∷ 1 ∷ 0 ∷ 0 ∷ 0 ∷ 0 ∷ 1 ∷ sevens 9) (4 ∷ sevens 3)
    ∷ case 4 (row 3 3 5 ∷ []) (accepted 4 4 4 (fin false 1 (pos 2)) (fin false 1 (negsuc 1))) 4
    (0 ∷ 0 ∷ 0 ∷ 1 ∷ 1 ∷ 0 ∷ 0 ∷ 0 ∷ 0 ∷ 1 ∷ 0 ∷ 0 ∷ 0 ∷ 0 ∷ 1 ∷ 0 ∷ 0 ∷ 0 ∷ 0 ∷ 0 ∷ sevens 5) (4 ∷ sevens 3)
    ∷ case 4 (row 1 1 3 ∷ []) (refused 9 1 0) 1 (replicate 12 0 ++ sevens 13) (0 ∷ sevens 3)
    -- two from one node; two cells; on the smallest ring; before a row with more slack and fewer links
    ∷ case 4 (row 2 2 4 ∷ row 2 2 5 ∷ []) (accepted 5 8 9 (fin false 9 (negsuc 0)) (fin false 3602879701896397 (negsuc 52))) 9
    (0 ∷ 0 ∷ 1 ∷ 0 ∷ 0 ∷ 0 ∷ 2 ∷ 1 ∷ 1 ∷ 0 ∷ 0 ∷ 2 ∷ 2 ∷ 1 ∷ 0 ∷ 0 ∷ 0 ∷ 2 ∷ 0 ∷ 0 ∷ sevens 5) (4 ∷ 5 ∷ sevens 2)
    ∷ case 3 (long 1 1 2 4 ∷ []) (accepted 4 6 4 (fin false 1 (pos 2)) (fin false 1 (negsuc 0))) 7
    (0 ∷ 1 ∷ 0 ∷ 0 ∷ 1 ∷ 1 ∷ 1 ∷ 0 ∷ 1 ∷ 1 ∷ 0 ∷ 0 ∷ sevens 13) (4 ∷ sevens 3)
    ∷ case 2 (row 0 0 2 ∷ row 1 1 2 ∷ []) (accepted 2 4 4 (fin false 1 (pos 1)) (fin false 1 (pos 0))) 4
    (1 ∷ 2 ∷ 2 ∷ 1 ∷ sevens 21) (2 ∷ 2 ∷ sevens 2)
    ∷ case 4 (row 0 0 5 ∷ row 0 1 3 ∷ []) (accepted 4 5 6 (fin false 3 (pos 0)) (fin false 5 (negsuc 3))) 6
    (1 ∷ 0 ∷ 0 ∷ 0 ∷ 2 ∷ 1 ∷ 0 ∷ 0 ∷ 0 ∷ 0 ∷ 1 ∷ 0 ∷ 0 ∷ 0 ∷ 0 ∷ 1 ∷ 0 ∷ 0 ∷ 0 ∷ 0 ∷ sevens 5) (4 ∷ 2 ∷ sevens 2)
    -- a wrong length, before 6
    ∷ case 4 (long 0 1 0 1 ∷ []) (refused 10 1 0) 0 (sevens 25) (sevens 4)
    ∷ case 4 (long 0 1 65 1025 ∷ []) (refused 10 1 0) 0 (sevens 25) (sevens 4)
    ∷ case 4 (long 0 0 0 1 ∷ []) (refused 10 1 0) 0 (sevens 25) (sevens 4)
    -- just as many cells as there may be; too many, before areas that are too short and behind every row
    ∷ case 4 (replicate 16 (long 0 1 64 1024)) (refused 7 0 0) 0 (sevens 25) (sevens 4)
    ∷ case 4 (replicate 17 (long 0 1 64 1024)) (refused 11 0 0) 0 (sevens 25) (sevens 4)
    ∷ case 4 (replicate 17 (long 0 1 64 1024) ++ row 0 1 0 ∷ []) (refused 6 18 0) 0 (sevens 25) (sevens 4)
    ∷ []

-- What the definitions say of a case's table in the lent areas. An area that is left alone is not computed.
areas : Answer → ℕ → List Row → Bool → List ℕ × List ℕ
areas answer n rows true =
    (area_after answer (the_plan n rows) (sevens 25), area_after answer (the_arrivals n rows) (sevens 4))
areas answer n rows false =
    let none : List ℕ = [] in (area_after answer none (sevens 25), area_after answer none (sevens 4))

used : Answer → Bool
used (Ok s) = true
used (Err r) = eqb r.number 9

computed : Case → Case
computed c =
    let answer = the_answer c.nodes c.rows 25 4 in
    let after = areas answer c.nodes c.rows (used answer) in
    case c.nodes c.rows answer (looks_after answer (the_looks c.nodes c.rows)) after.0 after.1

-- Every case comes out as document 01 says.
sweep_table : map computed cases ≡ cases
unfolding long row accepted case refused cases areas used computed total largest distance standing
    row_refusal after_row judge_rows cells_in after_rows judge_all judge destinations lengths dues distances last_due
    under_way place slack_of slack is_late late_from late_row better pick slot_of moved state_at plan_of delivered_from
    arrivals_of any_under_way stop_from stop_of per_cell owners_of owners laid_out cell_links dues_of cell_dues cell_traffic owner_of
    told_by row_plan end_by row_stop of_last_cells row_arrivals
    ending the_plan the_arrivals sends_of quotient summary_of the_summary answer_to_rows after_verdict the_answer looks_after area_after
    busy looks_to looks_of row_looks the_looks div of_int
sweep_table = refl
