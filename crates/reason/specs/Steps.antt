-- What single steps of the code ask and give. Nothing here has to be believed.
use Rattle.std.specs.Prelude.{ℕ, suc, ◌≤◌, ◌<◌, ◌≡◌, ◌&&◌, List, Option, None, Some, eqb, length, get_or, replicate}
use Rattle.lists.specs.Lists.{build}
use Rattle.table.specs.declared.Row.{Row}
use Rattle.slack.specs.Slack.{Traffic, OnRing}
use Rattle.planner.specs.Planner.{freight_of}
use Rattle.jam.specs.declared.Jam.{Jam}
use Rattle.jam.specs.Jam.{crosses_before, how_many}
use Rattle.jam.specs.Members.{members_of}
use Rattle.reason.specs.Reason.{jam_of}

-- What marking asks: cells on the ring, each with a row of so many.
pub record Marking (T : Traffic) (owner start : List ℕ) (p b rows : ℕ) : Type 0 where
  pub ring : OnRing T start
  pub small : T.nodes ≤ 32
  pub inside : p < T.nodes
  pub soon : b ≤ 1024
  pub few : length start ≤ 1024
  pub named : (c : ℕ) → c < length start → (0 < get_or owner c 0) × (get_or owner c 0 ≤ rows)

-- For each row below `rows`, how many of the first m cells are its own and must cross link p before slot b.
unfoldable pub marks_by : Traffic → (owner start : List ℕ) → (p b rows m : ℕ) → List ℕ
marks_by T owner start p b rows m =
    build rows (λ i. how_many m (λ c. eqb (get_or owner c 0) (suc i) && crosses_before T start p b c))

-- How many of each row's cells are in the jam; zeros where there is none.
unfoldable pub members_in : ℕ → List Row → Option Jam → List ℕ
members_in n rows None = replicate (length rows) 0
members_in n rows (Some jam) = members_of (freight_of n rows) jam.link.0 jam.before.0

-- What looking for the jam gives: the jam, and each row's cells in it.
pub record JamFound (n : ℕ) (rows : List Row) (jam : Option Jam) (members' : List ℕ) : Type 0 where
  pub found : jam ≡ jam_of n rows
  pub marks : members' ≡ members_in n rows jam
