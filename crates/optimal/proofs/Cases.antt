-- Small lists of entries, and whether each is legal and meets its table, computed on the definitions by one statement
-- over the list of cases.
-- A definition of `Legal`, `Meets` or `Schedule` that said less, or more, of them would give another list.
-- Assumes nothing.
use mathlib.Core.Path.{◌≡◌, refl}
use Prim.Native.Nat.{ℕ}
use native.Mathlib.Decide.{ℕ_discrete, dec_le, dec_lt}
use mathlib.Core.Bool.{Bool, true, false, decide}
use mathlib.Core.List.{List, [], ◌∷◌, map}
use Rattle.lists.specs.Lists.{largest}
use Rattle.ring.specs.Ring.{distance, standing}
use Rattle.slack.specs.Slack.{Traffic, traffic, place, moved}
use Rattle.optimal.specs.Schedule.{Schedule, Legal, Meets, named_in, left_at}
use Rattle.optimal.proofs.Count.{find, both_decided}
use Rattle.optimal.proofs.Tests.{
  alike,
  all_below,
  row_named_lem,
  all_three,
  some_below,
  legal_decided,
  meets_decided,
  schedule_decided,
  Says,
  as_decided,
}

-- A row as document 01 writes it, source > destination / due slot.
record Row : Type 0 where
  src : ℕ
  dst : ℕ
  due : ℕ

row : ℕ → ℕ → ℕ → Row
row src dst due = record { src = src; dst = dst; due = due }

-- A table, a list of entries, and what is to be said of it: that it is legal, that it meets the table, and that it is a
-- schedule, which has an entry for each link in each slot besides.
record Case : Type 0 where
  nodes : ℕ
  rows : List Row
  schedule : List ℕ
  legal : Bool
  meets : Bool
  whole : Bool

case : ℕ → List Row → List ℕ → (legal meets whole : Bool) → Case
case nodes rows schedule legal meets whole =
    record { nodes = nodes; rows = rows; schedule = schedule; legal = legal; meets = meets; whole = whole }

-- What the definitions want to know of a case: its traffic, the links that each row has to go, and its slots.
abbrev traffic_of : Case → Traffic
traffic_of c = traffic c.nodes (map (λ r. r.dst) c.rows) (map (λ r. r.due) c.rows)

abbrev start_of : Case → List ℕ
start_of c = map (λ r. distance c.nodes r.src r.dst) c.rows

abbrev slots_of : Case → ℕ
slots_of c = largest (map (λ r. r.due) c.rows)

cases : List Case
cases =
    -- a row named on a link at which it does not stand
    case 4 (row 0 1 1 ∷ []) (0 ∷ 1 ∷ 0 ∷ 0 ∷ []) false false false
    -- the same a slot later: it was not carried on meanwhile
    ∷ case 4 (row 0 2 2 ∷ []) (0 ∷ 0 ∷ 0 ∷ 0 ∷ 0 ∷ 1 ∷ 0 ∷ 0 ∷ []) false false false
    -- a row named on two links in one slot
    ∷ case 4 (row 0 2 2 ∷ []) (1 ∷ 1 ∷ 0 ∷ 0 ∷ 0 ∷ 1 ∷ 0 ∷ 0 ∷ []) false true false
    -- a delivered row named where it was delivered
    ∷ case 4 (row 0 1 2 ∷ []) (1 ∷ 0 ∷ 0 ∷ 0 ∷ 0 ∷ 1 ∷ 0 ∷ 0 ∷ []) false true false
    -- a number that is no row's
    ∷ case 4 (row 3 1 2 ∷ []) (2 ∷ 0 ∷ 0 ∷ 1 ∷ 1 ∷ 0 ∷ 0 ∷ 0 ∷ []) false true false
    -- idling while a row waits, which comes just at its due slot
    ∷ case 4 (row 0 1 2 ∷ []) (0 ∷ 0 ∷ 0 ∷ 0 ∷ 1 ∷ 0 ∷ 0 ∷ 0 ∷ []) true true true
    -- idling for too long
    ∷ case 4 (row 0 1 1 ∷ []) (0 ∷ 0 ∷ 0 ∷ 0 ∷ []) true false false
    -- the higher row first on a tie of slack
    ∷ case 4 (row 0 2 3 ∷ row 0 1 2 ∷ []) (2 ∷ 0 ∷ 0 ∷ 0 ∷ 1 ∷ 0 ∷ 0 ∷ 0 ∷ 0 ∷ 1 ∷ 0 ∷ 0 ∷ []) true true true
    -- the earlier due slot first, by which row 2 comes too late
    ∷ case 4 (row 0 1 2 ∷ row 0 3 3 ∷ []) (1 ∷ 0 ∷ 0 ∷ 0 ∷ 2 ∷ 0 ∷ 0 ∷ 0 ∷ 0 ∷ 2 ∷ 0 ∷ 0 ∷ []) true false false
    -- the later due slot first, by which row 1 comes a slot too late
    ∷ case 4 (row 0 1 1 ∷ row 0 1 2 ∷ []) (2 ∷ 0 ∷ 0 ∷ 0 ∷ 1 ∷ 0 ∷ 0 ∷ 0 ∷ []) true false false
    -- the rule's own plan, past node 0
    ∷ case 4 (row 2 0 2 ∷ row 2 3 2 ∷ []) (0 ∷ 0 ∷ 1 ∷ 0 ∷ 0 ∷ 0 ∷ 2 ∷ 1 ∷ []) true true true
    -- entries for one slot of two, and for two slots of one
    ∷ case 4 (row 0 1 2 ∷ []) (1 ∷ 0 ∷ 0 ∷ 0 ∷ []) true true false
    ∷ case 4 (row 0 1 1 ∷ []) (1 ∷ 0 ∷ 0 ∷ 0 ∷ 0 ∷ 0 ∷ 0 ∷ 0 ∷ []) true true false
    -- the empty list for the empty table
    ∷ case 4 [] [] true true true
    ∷ []

-- Each case of a list is as its last three fields say, by `Legal`, `Meets` and `Schedule` themselves.
AsSaid : Case → Type 0
AsSaid c =
    Says c.legal (Legal (traffic_of c) (start_of c) (slots_of c) c.schedule)
    × Says c.meets (Meets (traffic_of c) (start_of c) c.schedule)
    × Says c.whole (Schedule (traffic_of c) (start_of c) (slots_of c) c.schedule)

Each : List Case → Type 0
Each [] = Unit {0}
Each (c ∷ cs) = AsSaid c × Each cs

-- What is computed of a case's list.
abbrev legality : (c : Case) → Dec (Legal (traffic_of c) (start_of c) (slots_of c) c.schedule)
legality c = legal_decided (traffic_of c) (start_of c) (slots_of c) c.schedule

abbrev meeting : (c : Case) → Dec (Meets (traffic_of c) (start_of c) c.schedule)
meeting c = meets_decided (traffic_of c) (start_of c) c.schedule

abbrev wholeness : (c : Case) → Dec (Schedule (traffic_of c) (start_of c) (slots_of c) c.schedule)
wholeness c = schedule_decided (traffic_of c) (start_of c) (slots_of c) c.schedule

computed : Case → Case
computed c =
    case c.nodes c.rows c.schedule (decide (legality c)) (decide (meeting c)) (decide (wholeness c))

-- What is computed of a case holds.
holds : (cs : List Case) → Each (map computed cs)
unfolding Each AsSaid computed case
holds [] = tt
holds (c ∷ cs) = ((as_decided (legality c), as_decided (meeting c), as_decided (wholeness c)), holds cs)

-- Every case comes out as said.
schedules_computed : map computed cases ≡ cases
unfolding row case cases computed decide largest distance standing place moved named_in left_at
    ℕ_discrete dec_le dec_lt find both_decided alike all_below row_named_lem all_three some_below
    legal_decided meets_decided schedule_decided
schedules_computed = refl

-- Of each case, that its list is legal, or that it is not; that it meets its table, or not; that it is a schedule, or
-- not.
schedules_as_said : Each cases
schedules_as_said = rw schedules_computed at (holds cases)
