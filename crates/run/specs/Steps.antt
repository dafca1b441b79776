-- What a run asks and gives, and what its steps do. The planner's promise speaks of Slack.antt of the room above;
-- nothing here has to be believed.
use Rattle.std.specs.Prelude.{ℕ, zero, suc, ◌*◌, ◌<◌, ◌^◌, ◌≡◌, cond, List, ◌++◌, eqb, ℤ, length, drop, replicate}
use Rattle.lists.specs.Lists.{largest}
use Rattle.slack.specs.Slack.{Traffic, OnRing, slot_of, state_at, plan_of, arrivals_of, stop_of}
use Rattle.slack.specs.Figure.{figures_of}
use Rattle.slack.specs.declared.Stop.{Stop}
use Rattle.slot.specs.Steps.{stamped, SlotPlannedBy}
use Rattle.cells.specs.Cells.{told_by, end_by}
use Rattle.cells.specs.Looks.{looks_of}
use Rattle.cells.specs.Steps.{AboveZero}
use Rattle.run.specs.declared.Ending.{Ending}

-- The list after the first t slots of a run, each of which has stamped its rows with the instant at which it ends.
unfoldable pub stamped_by : Traffic → (start list : List ℕ) → ℕ → List ℕ
stamped_by T start list zero = list
stamped_by T start list (suc t) = stamped (slot_of T t (state_at T start t)) (suc t) (stamped_by T start list t)

-- A run of cells can be planned: there is an entry for each link in each slot below the largest due slot, and an
-- arrival and an owner for each cell. Any cell may have nothing to go.
pub record Ready (T : Traffic) (owner left plan arrivals : List ℕ) : Type 0 where
  pub ring : OnRing T left
  pub few : length left < 2 ^ 16
  pub soon : largest T.due < 2 ^ 16
  pub room : length plan ≡ T.nodes * largest T.due
  pub rows : length arrivals ≡ length left
  pub owned : length owner ≡ length left
  pub named : AboveZero owner

-- What planning one slot gives that is then told in rows: some slot of cells is planned, and what the links carry is
-- told by its owners.
abbrev pub SlotTold : (owner : List ℕ) (n : ℕ) (dst : List ℕ) (t : ℕ) (left : List ℕ) (figures : List ℤ)
    (arrivals slot left' : List ℕ) (figures' : List ℤ) (arrivals' : List ℕ) → Type 0
SlotTold owner n dst t left figures arrivals slot left' figures' arrivals' =
    (sent : List ℕ) × (slot ≡ told_by owner sent)
    × SlotPlannedBy n dst t left figures arrivals sent left' figures' arrivals'

-- What the walk over the instants gives: where it stopped, the state there and its figures, and the slots, told in
-- rows, and stamps up to there.
pub record Walked (T : Traffic) (owner start plan arrivals : List ℕ) (stop : Stop)
    (left' : List ℕ) (figures' : List ℤ) (plan' arrivals' : List ℕ) : Type 0 where
  pub stops : stop ≡ stop_of T start (largest T.due)
  pub state : left' ≡ state_at T start stop.slot.0
  pub figured : figures' ≡ figures_of T (state_at T start stop.slot.0)
  pub carries : plan' ≡ told_by owner (plan_of T start stop.slot.0) ++ drop (stop.slot.0 * T.nodes) plan
  pub stamps : arrivals' ≡ stamped_by T start arrivals stop.slot.0

-- What a run gives: where it ended and with which row, its looks, the state there, and both areas, which hold the plan,
-- told in rows, and the cells' arrivals where no cell is late and zeros where one is.
pub record Ran (T : Traffic) (owner start : List ℕ) (room : ℕ) (ending : Ending)
    (left' plan' arrivals' : List ℕ) : Type 0 where
  pub stops : ending.stop ≡ end_by owner (stop_of T start (largest T.due))
  pub looked : ending.looks ≡ looks_of T start (largest T.due)
  pub leaves : left' ≡ state_at T start ending.stop.slot.0
  pub carries : plan'
      ≡ cond (eqb ending.stop.row 0) (told_by owner (plan_of T start (largest T.due))) (replicate room 0)
  pub arrives : arrivals'
      ≡ cond (eqb ending.stop.row 0) (arrivals_of T start (largest T.due)) (replicate (length start) 0)
