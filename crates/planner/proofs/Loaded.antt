-- Of more than 512 rows none is looked at: what is promised of the rows that were given for those of a table is promised of the
-- table's own.
-- Assumes nothing.
use mathlib.Core.Path.{◌≡◌}
use Prim.Native.Nat.{ℕ, ◌≤◌, ◌<◌}
use mathlib.Core.List.{List}
use lib.ListN.{length}
use Rattle.std.specs.Prelude.{Err}
use Rattle.table.specs.declared.Row.{Row}
use Rattle.table.specs.declared.Refusal.{Refusal}
use Rattle.table.specs.Table.{judge}
use Rattle.table.proofs.Whole.{loaded_as}
use Rattle.planner.specs.declared.Reply.{Reply}
use Rattle.planner.specs.Planner.{Planned}
use Rattle.planner.specs.Steps.{before_run, room_for}
use Rattle.planner.proofs.Judged.{turned_away}
use Rattle.planner.proofs.Promises.{one_outcome}

-- A refused table has no room.
no_room : (n : ℕ) (rows : List Row) (p a : ℕ) (x : Refusal) → judge n rows ≡ Err x → room_for n rows p a ≡ Err x
unfolding room_for before_run
no_room n rows p a x e = rw e

-- Where two tables are refused alike before 7, what is promised of the one is promised of the other.
same_refusal : {n : ℕ} {p a p' a' : List ℕ} {reply : Reply} (x : Refusal) (given lent : List Row)
    → judge n given ≡ Err x → judge n lent ≡ Err x
    → Planned n given p a reply p' a' → Planned n lent p a reply p' a'
same_refusal {n} {p} {a} x given lent g l out =
    let (replies, plans, arrivals) = one_outcome out (turned_away (no_room n given (length p) (length a) x g)) in
    rw (replies, plans, arrivals) (turned_away (no_room n lent (length p) (length a) x l))

pub loaded_planned : (n : ℕ) (given lent : List Row) {p a p' a' : List ℕ} {r : Reply}
    → (length lent ≤ 512 → given ≡ lent) → (512 < length lent → 512 < length given)
    → Planned n given p a r p' a' → Planned n lent p a r p' a'
loaded_planned n given lent {p} {a} {p'} {a'} {r} few many =
    loaded_as n (λ xs. Planned n xs p a r p' a') same_refusal given lent few many
