-- What is said of a table.
--     turned_away, too_few     one that is not well-formed, and a list that is shorter than the rows
--     said                     else what is found is what is promised
--     one_reason               two outcomes are equal
--     loaded_reasoned          what is said of rows that were loaded is said of those that were lent
-- Assumes nothing.
use mathlib.Core.Path.{◌≡◌, refl, ◌∙◌, ap, sym}
use Prim.Native.Nat.{ℕ, ◌≤◌, ◌<◌}
use mathlib.Core.List.{List, ◌++◌}
use borrow.Author.Tests.{lt-ltb, le-ltb}
use lib.ListN.{length, drop}
use Rattle.std.proofs.Common.{Option, None, Some, Ok, Err}
use Rattle.table.specs.declared.Row.{Row}
use Rattle.table.specs.declared.Refusal.{Refusal}
use Rattle.table.specs.Table.{WellFormed, judge, refuse}
use Rattle.table.proofs.Whole.{loaded_as}
use Rattle.jam.specs.declared.Jam.{Jam}
use Rattle.reason.specs.Reason.{Reason, after_verdict, the_reason, members_after, Reasoned}
use Rattle.reason.specs.Steps.{members_in, JamFound}

module _ {n : ℕ} {rows : List Row} {members : List ℕ} where
  -- A table that is not well-formed gets its refusal, and the list is left as it was.
  pub turned_away : {r : Refusal} → judge n rows ≡ Err r → Reasoned n rows members (Err r) members
  unfolding the_reason after_verdict members_after
  turned_away e = record { answers = rw e; fills = refl }

  -- So is a list that is shorter than the rows.
  pub too_few : WellFormed n rows → length members < length rows
      → Reasoned n rows members (Err (refuse 8 0 0)) members
  unfolding the_reason after_verdict members_after
  too_few well l = record { answers = rw (well, lt-ltb (length members) (length rows) l); fills = refl }

  -- Where it is long enough, what is found is what is promised.
  pub said : {jam : Option Jam} {part : List ℕ} → WellFormed n rows → length rows ≤ length members
      → JamFound n rows jam part → Reasoned n rows members (Ok jam) (part ++ drop (length rows) members)
  unfolding the_reason after_verdict members_after members_in
  said {jam} {part} well enough from =
      record {
        answers = rw (well, le-ltb (length members) (length rows) enough, from.found);
        fills = go jam from.marks;
      }
    where
      go : (j : Option Jam) → part ≡ members_in n rows j
          → part ++ drop (length rows) members ≡ members_after (Ok j) n rows members
      go None e = rw e
      go (Some it) e = rw e

-- Two outcomes that fit the promise are equal: the reason, and every entry of the lent list.
pub one_reason : {n : ℕ} {rows : List Row} {members members₁ members₂ : List ℕ} {r₁ r₂ : Reason}
    → Reasoned n rows members r₁ members₁ → Reasoned n rows members r₂ members₂ → (r₁ ≡ r₂) × (members₁ ≡ members₂)
one_reason {n} {rows} {members} a b =
    let same = a.answers ∙ sym b.answers in
    (same, a.fills ∙ ap (λ r. members_after r n rows members) same ∙ sym b.fills)

-- Of more than 512 rows none is looked at: what is said of them, or of more than 512 of them, is their refusal.
pub loaded_reasoned : (n : ℕ) (given lent : List Row) → (length lent ≤ 512 → given ≡ lent)
    → (512 < length lent → 512 < length given) → {members members' : List ℕ} {r : Reason}
    → Reasoned n given members r members' → Reasoned n lent members r members'
loaded_reasoned n given lent few many {members} {members'} {r} =
    loaded_as n (λ rows. Reasoned n rows members r members')
    (λ x given lent g l out.
    let (reasons, lists) = one_reason out (turned_away g) in
    rw (reasons, lists) (turned_away l))
    given lent few many
