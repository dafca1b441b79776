-- The rule of least slack, in the words and order of document 01.
-- A state is one list: the links that each row has still to go, 0 where it is delivered. Rows are counted from 0 here; a plan names row i as i + 1.
use Rattle.std.specs.Prelude.{ℕ, zero, suc, pred, ◌-◌, ◌≤◌, ◌<◌, ◌≡◌, Bool, false, cond, ◌&&◌, ◌||◌, List, [], ◌∷◌, ◌++◌, map, eqb, ltb, ℤ, pos, ◌-ℤ◌, length, get_or}
use Rattle.std.specs.Int.Signed.{lt_z}
use Rattle.lists.specs.Lists.{build}
use Rattle.ring.specs.Ring.{standing}
use Rattle.slack.specs.declared.Cargo.{Cargo}
use Rattle.slack.specs.declared.Cell.{Cell}
use Rattle.slack.specs.declared.Stop.{Stop}

-- What stays as it is during a run: the number of nodes, and each row's destination and due slot.
pub record Traffic : Type 0 where
  pub nodes : ℕ
  pub dst : List ℕ
  pub due : List ℕ

abbrev pub traffic : ℕ → List ℕ → List ℕ → Traffic
traffic nodes dst due = record { nodes = nodes; dst = dst; due = due }

-- The destinations, the due slots and the row numbers of a list of cells.
unfoldable pub dsts_in : List Cell → List ℕ
dsts_in = map (λ (c : Cell). c.dst.0)

unfoldable pub dues_in : List Cell → List ℕ
dues_in = map (λ (c : Cell). c.due.0)

unfoldable pub owners_in : List Cell → List ℕ
owners_in = map (λ (c : Cell). c.row)

-- The traffic of a list of cells.
abbrev pub traffic_in : ℕ → List Cell → Traffic
traffic_in nodes cells = traffic nodes (dsts_in cells) (dues_in cells)

-- The traffic of a cargo.
abbrev pub traffic_of : Cargo → Traffic
traffic_of cargo = traffic_in cargo.nodes cargo.cells.now

-- A state of that traffic: each row has a destination on the ring, a due slot, and no more links to go than the ring has.
pub record OnRing (T : Traffic) (left : List ℕ) : Type 0 where
  pub some_node : 0 < T.nodes
  pub dst_each : length T.dst ≡ length left
  pub due_each : length T.due ≡ length left
  pub dst_inside : (i : ℕ) → i < length left → get_or T.dst i 0 < T.nodes
  pub left_inside : (i : ℕ) → i < length left → get_or left i 0 ≤ T.nodes

-- Row i is not delivered yet.
unfoldable pub under_way : List ℕ → ℕ → Bool
under_way left i = ltb 0 (get_or left i 0)

-- The node at which row i stands.
unfoldable pub place : Traffic → List ℕ → ℕ → ℕ
place T left i = standing T.nodes (get_or T.dst i 0) (get_or left i 0)

-- (due - t) less the links still to go: a signed number, which may be below zero.
unfoldable pub slack_of : (due t left : ℕ) → ℤ
slack_of due t left = (pos due -ℤ pos t) -ℤ pos left

-- The slack of row i at instant t.
unfoldable pub slack : Traffic → ℕ → List ℕ → ℕ → ℤ
slack T t left i = slack_of (get_or T.due i 0) t (get_or left i 0)

-- Row i is under way and its slack is below zero.
unfoldable pub is_late : Traffic → ℕ → List ℕ → ℕ → Bool
is_late T t left i = under_way left i && lt_z (slack T t left i) (pos 0)

-- The number of the lowest late row of the m rows from row i on, 0 where none is late.
unfoldable pub late_from : Traffic → ℕ → List ℕ → (m i : ℕ) → ℕ
late_from T t left zero i = 0
late_from T t left (suc m) i = cond (is_late T t left i) (suc i) (late_from T t left m (suc i))

-- The number of the lowest late row at instant t, 0 where none is late.
unfoldable pub late_row : Traffic → ℕ → List ℕ → ℕ
late_row T t left = late_from T t left (length left) 0

-- Row i stands at p, not delivered, and has less slack than the row numbered best, or there is none such.
unfoldable pub better : Traffic → ℕ → List ℕ → (p best i : ℕ) → Bool
better T t left p best i =
    under_way left i && (eqb (place T left i) p && (eqb best 0 || lt_z (slack T t left i) (slack T t left (pred best))))

-- The number of the row of least slack that stands at p, of the first i rows; the lower row on a tie; 0 where none stands there.
unfoldable pub pick : Traffic → ℕ → List ℕ → (p i : ℕ) → ℕ
pick T t left p zero = 0
pick T t left p (suc i) = let best = pick T t left p i in cond (better T t left p best i) (suc i) best

-- What the links carry in slot t: each node that holds rows under way sends the one of least slack.
unfoldable pub slot_of : Traffic → ℕ → List ℕ → List ℕ
slot_of T t left = build T.nodes (λ p. pick T t left p (length left))

-- The state after a slot: a row that is named on the link where it stands has one link less to go.
unfoldable pub moved : Traffic → (slot left : List ℕ) → List ℕ
moved T slot left =
    build (length left) (λ i. get_or left i 0 - cond (eqb (get_or slot (place T left i) 0) (suc i)) 1 0)

-- The state at instant t of the rule's run from the state start.
unfoldable pub state_at : Traffic → List ℕ → ℕ → List ℕ
state_at T start zero = start
state_at T start (suc t) = let left = state_at T start t in moved T (slot_of T t left) left

-- The plan of the first t slots: entry s × N + p is what link p carries in slot s.
unfoldable pub plan_of : Traffic → List ℕ → ℕ → List ℕ
plan_of T start zero = []
plan_of T start (suc t) = plan_of T start t ++ slot_of T t (state_at T start t)

-- The first instant, from t on and at most m later, at which row i is delivered.
unfoldable pub delivered_from : Traffic → List ℕ → (i m t : ℕ) → ℕ
delivered_from T start i zero t = t
delivered_from T start i (suc m) t =
    cond (under_way (state_at T start t) i) (delivered_from T start i m (suc t)) t

-- Each row's delivery instant, in row order, in a run of at most `slots` slots.
unfoldable pub arrivals_of : Traffic → List ℕ → ℕ → List ℕ
arrivals_of T start slots = build (length start) (λ i. delivered_from T start i slots 0)

-- Some row of the list has links to go.
unfoldable pub any_under_way : List ℕ → Bool
any_under_way [] = false
any_under_way (l ∷ ls) = ltb 0 l || any_under_way ls

-- Where a run ends: at the first instant at which a row is late, with the lowest such row, or at which all are delivered, with row 0.
-- It is looked for from instant t on, in the state left, over m slots at most.
unfoldable pub stop_from : Traffic → (m t : ℕ) → List ℕ → Stop
stop_from T zero t left = record { row = late_row T t left; slot = record { 0 = t } }
stop_from T (suc m) t left =
    cond (any_under_way left && eqb (late_row T t left) 0) (stop_from T m (suc t) (moved T (slot_of T t left) left))
    (record { row = late_row T t left; slot = record { 0 = t } })

-- Where the run from the state start ends, over `slots` slots, the largest due slot.
unfoldable pub stop_of : Traffic → List ℕ → ℕ → Stop
stop_of T start slots = stop_from T slots 0 start
