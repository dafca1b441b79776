-- Why a table is late, and which rows are to blame: the jam of fewest cells, of those the lowest link's.
use Rattle.std.specs.Prelude.{ℕ, ◌≡◌, cond, List, ◌++◌, ltb, length, drop, replicate, Option, None, Some, Result, Ok, Err}
use Rattle.table.specs.declared.Row.{Row}
use Rattle.table.specs.declared.Refusal.{Refusal}
use Rattle.table.specs.Table.{Verdict, judge, refuse, last_due}
use Rattle.planner.specs.Planner.{freight_of}
use Rattle.jam.specs.declared.Jam.{Jam}
use Rattle.jam.specs.Members.{row_jam, members_of}

-- The jam of a table, if a link is overfull.
unfoldable pub jam_of : ℕ → List Row → Option Jam
jam_of n rows = row_jam (freight_of n rows) (last_due rows)

-- Why a table is late, if it is: a jam, or none; or why it was not looked for.
abbrev pub Reason : Type 0
Reason = Result (Option Jam) Refusal

-- What judging the table came to, where it is no good table, and else what follows.
unfoldable pub after_verdict : Verdict → Reason → Reason
after_verdict (Ok _) next = next
after_verdict (Err r) next = Err r

-- The refusal of a table that is not well-formed, then 8 for a list shorter than the rows, then the jam. 9 is never
-- given.
unfoldable pub the_reason : ℕ → List Row → (lent : ℕ) → Reason
the_reason n rows lent =
    after_verdict (judge n rows) (cond (ltb lent (length rows)) (Err (refuse 8 0 0)) (Ok (jam_of n rows)))

-- What the lent list holds afterwards: for each row how many of its cells are in the jam, zeros where there is none,
-- and behind the rows what stood there; a refused call leaves it as it was.
unfoldable pub members_after : Reason → ℕ → List Row → (before : List ℕ) → List ℕ
members_after (Ok (Some jam)) n rows before =
    members_of (freight_of n rows) jam.link.0 jam.before.0 ++ drop (length rows) before
members_after (Ok None) n rows before = replicate (length rows) 0 ++ drop (length rows) before
members_after (Err r) n rows before = before

-- The full outcome: the reason, and every entry of the lent list.
pub record Reasoned (n : ℕ) (rows : List Row) (members : List ℕ) (reason : Reason) (members' : List ℕ) : Type 0 where
  pub answers : reason ≡ the_reason n rows (length members)
  pub fills : members' ≡ members_after reason n rows members
