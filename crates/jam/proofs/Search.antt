-- What the search over all links and slots finds is an overfull link, and no overfull link has fewer cells.
--     Found           what is known of a jam that is found
--     jam_found       the jam that is found is one
--     NoMoreThan      there is a jam, and it has no more than so many cells
--     HasCells        there is a jam, and it has a cell
--     jam_fewest      where a link is overfull the search finds a jam of no more cells
-- Assumes nothing.
use mathlib.Core.Path.{◌≡◌, refl, ◌∙◌, sym, subst}
use mathlib.Core.Bool.{Bool, true, false, cond}
use Prim.Native.Nat.{ℕ, zero, suc, ◌+◌, ◌≤◌, ◌<◌}
use native.Mathlib.Omega.{arith}
use native.Mathlib.Decide.{ℕ_discrete}
use mathlib.Core.List.{List}
use borrow.Author.Tests.{ltb-true, ltb-false}
use lib.Dec.{ltb}
use Rattle.std.proofs.Common.{Option, None, Some, IsSome, IsSomeAnd, IfSome}
use Rattle.lists.proofs.Truth.{differ}
use Rattle.slack.specs.Slack.{Traffic}
use Rattle.jam.specs.declared.Jam.{Jam}
use Rattle.jam.specs.Jam.{crossing, overfull, jam, first_from, first_in, fewer, fewest_below, the_jam}

-- There is a jam, of no more than c cells.
abbrev pub NoMoreThan : Option Jam → ℕ → Type 0
NoMoreThan found c = IsSomeAnd found (λ best. best.cells ≤ c)

-- Where c is no more than d.
pub no_more_than : (found : Option Jam) (c d : ℕ) → c ≤ d → NoMoreThan found c → NoMoreThan found d
no_more_than None c d l u = u
no_more_than (Some best) c d l u = omega arith

-- There is a jam, and it has a cell.
abbrev pub HasCells : Option Jam → Type 0
HasCells found = IsSomeAnd found (λ best. 0 < best.cells)

pub has_some : (found : Option Jam) → HasCells found → IsSome found
has_some None u = absurd u
has_some (Some best) u = refl

-- There is a jam.
pub some_found : (found : Option Jam) (c : ℕ) → NoMoreThan found c → IsSome found
some_found None c u = absurd u
some_found (Some best) c u = refl

-- A property of both jams is one of the fewer.
one_of : (b : Bool) (best next : Jam) (P : Jam → Type 0) → P best → P next → P (cond b next best)
one_of true best next P old new = new
one_of false best next P old new = old

fewer_old : (best next : Option Jam) (c : ℕ) → NoMoreThan best c → NoMoreThan (fewer best next) c
unfolding fewer
fewer_old None next c u = absurd u
fewer_old (Some best) None c u = u
fewer_old (Some best) (Some next) c u = go (ltb next.cells best.cells) refl
  where
    go : (f : Bool) → ltb next.cells best.cells ≡ f → (cond f next best).cells ≤ c
    go true e = omega (arith, ltb-true next.cells best.cells e)
    go false e = u

fewer_new : (best next : Option Jam) (c : ℕ) → NoMoreThan next c → NoMoreThan (fewer best next) c
unfolding fewer
fewer_new best None c u = absurd u
fewer_new None (Some next) c u = u
fewer_new (Some best) (Some next) c u = go (ltb next.cells best.cells) refl
  where
    go : (f : Bool) → ltb next.cells best.cells ≡ f → (cond f next best).cells ≤ c
    go true e = u
    go false e = omega (arith, ltb-false next.cells best.cells e)

module _ (T : Traffic) (start : List ℕ) (slots : ℕ) where
  -- What is found is an overfull link of the ring, before a slot up to the last due slot, with its count.
  pub record Found (found : Jam) : Type 0 where
    pub link_inside : found.link.0 < T.nodes
    pub before_inside : found.before.0 ≤ slots
    pub cells_are : found.cells ≡ crossing T start found.link.0 found.before.0
    pub too_many : overfull T start found.link.0 found.before.0 ≡ true

  abbrev IfFound : Option Jam → Type 0
  IfFound found = IfSome found Found

  fewer_found : (best next : Option Jam) → IfFound best → IfFound next → IfFound (fewer best next)
  unfolding fewer
  fewer_found None next old new = new
  fewer_found (Some best) None old new = old
  fewer_found (Some best) (Some next) old new = one_of (ltb next.cells best.cells) best next Found old new

  first_found : (p : ℕ) → p < T.nodes → (m b : ℕ) → b + m ≤ suc slots → IfFound (first_from T start p m b)
  unfolding first_from
  first_found p inside zero b fits = tt
  first_found p inside (suc m) b fits = go (overfull T start p b) refl (first_found p inside m (suc b) (omega arith))
    where
      go : (o : Bool) → overfull T start p b ≡ o → IfFound (first_from T start p m (suc b))
          → IfFound (cond o (Some (jam (crossing T start p b) p b)) (first_from T start p m (suc b)))
      go true e rest = record { link_inside = inside; before_inside = omega arith; cells_are = refl; too_many = e }
      go false e rest = rest

  below_found : (p : ℕ) → p ≤ T.nodes → IfFound (fewest_below T start slots p)
  unfolding fewest_below first_in
  below_found zero fits = tt
  below_found (suc p) fits =
      fewer_found (fewest_below T start slots p) (first_in T start slots p) (below_found p (omega arith))
      (first_found p (omega arith) (suc slots) 0 (omega arith))

  -- The jam that is found is an overfull link.
  pub jam_found : {found : Jam} → the_jam T start slots ≡ Some found → Found found
  unfolding the_jam
  jam_found {found} e = let P : Option Jam → Type 0 = IfFound in subst P e (below_found T.nodes (omega arith))

  module _ (p b : ℕ) (too_many : overfull T start p b ≡ true)
      (more : (b₁ : ℕ) → b₁ ≤ b → crossing T start p b₁ ≤ crossing T start p b) where
    abbrev there : ℕ
    there = crossing T start p b

    -- The first slot before which the link is overfull has no more cells before it.
    first_no_more : (m b₁ : ℕ) → b₁ ≤ b → b < b₁ + m → NoMoreThan (first_from T start p m b₁) there
    unfolding first_from
    first_no_more zero b₁ l fits = absurd (omega arith)
    first_no_more (suc m) b₁ l fits = go (overfull T start p b₁) refl (ℕ_discrete b₁ b) (first_no_more m (suc b₁))
      where
        go : (o : Bool) → overfull T start p b₁ ≡ o → Dec (b₁ ≡ b)
            → (suc b₁ ≤ b → b < suc b₁ + m → NoMoreThan (first_from T start p m (suc b₁)) there)
            → NoMoreThan (cond o (Some (jam (crossing T start p b₁) p b₁)) (first_from T start p m (suc b₁))) there
        go true e d rest = more b₁ l
        go false e (yes s) rest = absurd (differ (sym e ∙ rw s too_many))
        go false e (no s) rest = rest (omega arith) (omega arith)

    below_no_more : b ≤ slots → (q : ℕ) → p < q → NoMoreThan (fewest_below T start slots q) there
    unfolding fewest_below first_in
    below_no_more fits zero l = absurd (omega arith)
    below_no_more fits (suc q) l = go (ℕ_discrete p q) (below_no_more fits q)
      where
        so_far : Option Jam
        so_far = fewest_below T start slots q

        first : ℕ → Option Jam
        first r = first_from T start r (suc slots) 0

        go : Dec (p ≡ q) → (p < q → NoMoreThan so_far there) → NoMoreThan (fewer so_far (first q)) there
        go (yes s) rest =
            fewer_new so_far (first q) there
            (subst (λ (r : ℕ). NoMoreThan (first r) there) s (first_no_more (suc slots) 0 (omega arith) (omega arith)))
        go (no s) rest = fewer_old so_far (first q) there (rest (omega arith))

  -- Where a link is overfull before some slot up to the last due slot, a jam is found, of no more cells.
  pub jam_fewest : (p b : ℕ) → p < T.nodes → b ≤ slots → overfull T start p b ≡ true
      → ((b₁ : ℕ) → b₁ ≤ b → crossing T start p b₁ ≤ crossing T start p b)
      → NoMoreThan (the_jam T start slots) (crossing T start p b)
  unfolding the_jam
  jam_fewest p b inside fits too_many more = below_no_more p b too_many more fits T.nodes inside
