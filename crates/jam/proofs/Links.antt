-- A table of cells is late just where some link is overfull: more cells must cross it before some slot than there are
-- slots before it.
--     starts_at_once        where too many cells cannot be at a link for k slots, a link further back is overfull
--     overfull_none         where a link is overfull no legal schedule meets the table
--     fewest                where a link is overfull the search finds a jam that has cells, and no more
--     found_cells           a jam that is found has a cell
--     late_iff_found        the rule's run ends late just where the search finds a jam
--     Has                   the cells of an overfull link are cells of another table too
--     still_overfull        so the link is overfull there too
-- Assumes nothing.
use mathlib.Core.Path.{◌≡◌, refl, ◌∙◌, subst}
use mathlib.Core.Logic.{◌↔◌}
use mathlib.Core.Bool.{true}
use Prim.Native.Nat.{ℕ, zero, suc, ◌+◌, ◌-◌, ◌≤◌, ◌<◌}
use native.Mathlib.Omega.{arith, by_contra}
use native.Mathlib.Decide.{dec_le}
use mathlib.Core.List.{List}
use borrow.Author.Tests.{ltb-true, lt-ltb}
use lib.ListN.{length, get_or}
use Rattle.std.proofs.Common.{Option, None, Some, IsSome, IsSomeAnd}
use Rattle.lists.proofs.Truth.{differ}
use Rattle.slack.specs.Slack.{Traffic, OnRing, state_at, stop_of}
use Rattle.slack.proofs.Ending.{stop_first}
use Rattle.slack.proofs.Rule.{state_on_ring}
use Rattle.optimal.specs.Schedule.{named_in, left_at, Meets, Schedule}
use Rattle.optimal.proofs.Count.{count, find, count_within, count_none, count_into}
use Rattle.optimal.proofs.Window.{Way}
use Rattle.optimal.proofs.Round.{ring_way, node_of, links_from}
use Rattle.optimal.proofs.Slots.{RingWindow}
use Rattle.optimal.proofs.Optimal.{ring_window_after, window_not_late, window_of_run, late_iff_none}
use Rattle.jam.specs.declared.Jam.{Jam}
use Rattle.jam.specs.Jam.{crosses_before, crossing, overfull, the_jam}
use Rattle.jam.proofs.Tally.{Crosses, crosses, crosses_must, must_crosses, crossing_is}
use Rattle.jam.proofs.Search.{NoMoreThan, no_more_than, HasCells, some_found, jam_found, jam_fewest}

module _ {T : Traffic} {start : List ℕ} (ring : OnRing T start) where
  over_more : (p b : ℕ) → overfull T start p b ≡ true → b < count (length start) (crosses T start p 0 b)
  unfolding overfull
  over_more p b e = omega (arith, ltb-true b (crossing T start p b) e, crossing_is T start p b)

  more_over : (p b : ℕ) → b < count (length start) (crosses T start p 0 b) → overfull T start p b ≡ true
  unfolding overfull
  more_over p b l = lt-ltb b (crossing T start p b) (omega (arith, crossing_is T start p b))

  -- No fewer must cross before a later slot.
  later_more : (p b b₁ : ℕ) → b₁ ≤ b → crossing T start p b₁ ≤ crossing T start p b
  later_more p b b₁ l =
      omega (
        arith,
        crossing_is T start p b,
        crossing_is T start p b₁,
        count_within (crosses T start p 0 b₁) (crosses T start p 0 b) (length start)
            (λ i known m. (m.0, omega (arith, m.1))),
      )

  -- Where more cells cannot be at link p for k slots, and must cross it before b, than there are slots in between, the
  -- link k further back is overfull before slot b - k.
  pub starts_at_once : (p k b : ℕ) → p < T.nodes → b - k < count (length start) (crosses T start p k b)
      → (q : ℕ) × (q < T.nodes) × (overfull T start q (b - k) ≡ true)
  starts_at_once p k b inside l = go (find (length start) (crosses T start p k b))
    where
      way : Way (length start) T.nodes (λ i. T.nodes) (node_of T) (links_from T)
      way = ring_way T start ring

      go : Dec ((x : ℕ) × (x < length start) × Crosses T start p k b x)
          → (q : ℕ) × (q < T.nodes) × (overfull T start q (b - k) ≡ true)
      go (no h) =
          absurd (omega (arith, count_none (crosses T start p k b) (length start) (λ i known m. h (i, known, m))))
      go (yes (x, known, m)) = (q, stands, more_over q (b - k) (omega (arith, no_fewer)))
        where
          links : 0 < k + links_from T p x
          links = omega (arith, way.positive p x inside known)

          near : k + links_from T p x ≤ T.nodes
          near = omega (arith, m.0, ring.left_inside x known)

          q : ℕ
          q = node_of T x (k + links_from T p x)

          stands : q < T.nodes
          stands = way.inside x (k + links_from T p x) known links near

          from_q : links_from T q x ≡ k + links_from T p x
          from_q = way.away x (k + links_from T p x) known links near

          no_fewer : count (length start) (crosses T start p k b) ≤ count (length start) (crosses T start q 0 (b - k))
          no_fewer =
              count_within (crosses T start p k b) (crosses T start q 0 (b - k)) (length start) (λ i l n.
              let far : links_from T q x ≤ T.nodes = omega (arith, from_q, near) in
              let reach : k + links_from T p i ≤ T.nodes = omega (arith, n.0, ring.left_inside i l) in
              let through : links_from T q i ≡ k + links_from T p i
              = way.one_way p q k x i inside stands known l from_q far reach in
              (omega (arith, n.0), omega (arith, n.1)))

  module _ {slots : ℕ} (dues : (i : ℕ) → i < length start → get_or T.due i 0 ≤ slots) where
    abbrev found : Option Jam
    found = the_jam T start slots

    -- Where a link is overfull no legal schedule meets the table.
    pub overfull_none : (p b : ℕ) → p < T.nodes → overfull T start p b ≡ true
        → (schedule : List ℕ) → Schedule T start slots schedule → ⊥
    unfolding left_at Meets
    overfull_none p b inside e schedule meeting =
        let window : RingWindow T 0 start
        = window_of_run T (left_at T start schedule) (named_in T schedule) (λ t. refl) ring slots dues
        (λ i known. let met = meeting.meets i known in (met.0, met.1, met.2)) slots 0 (omega arith) in
        omega (arith, window p 0 b inside, over_more p b e)

    -- Where a link is overfull before any slot, a jam is found, of no more cells.
    pub fewest_found : (p b : ℕ) → p < T.nodes → overfull T start p b ≡ true → NoMoreThan found (crossing T start p b)
    fewest_found p b inside e = go (dec_le b slots)
      where
        no_more : count (length start) (crosses T start p 0 b) ≤ count (length start) (crosses T start p 0 slots)
        no_more = count_within (crosses T start p 0 b) (crosses T start p 0 slots) (length start) (λ i known m.
            (m.0, omega (arith, dues i known, (ring_way T start ring).positive p i inside known)))

        go : Dec (b ≤ slots) → NoMoreThan found (crossing T start p b)
        go (yes f) = jam_fewest T start slots p b inside f e (later_more p b)
        go (no f) =
            let over = more_over p slots (omega (arith, over_more p b e, no_more)) in
            let u = jam_fewest T start slots p slots inside (omega arith) over (later_more p slots) in
            no_more_than found _ _ (later_more p b slots (omega arith)) u

    -- A jam that is found has a cell.
    pub found_cells : IsSome found → HasCells found
    found_cells = go found refl
      where
        go : (o : Option Jam) → found ≡ o → IsSome o → HasCells o
        go None e some = absurd (differ some)
        go (Some best) e some =
            let it = jam_found T start slots e in
            let p = best.link.0 in
            let b = best.before.0 in
            omega (arith, it.cells_are, crossing_is T start p b, over_more p b it.too_many)

    -- So it has a cell, and no overfull link has fewer.
    pub fewest : (p b : ℕ) → p < T.nodes → overfull T start p b ≡ true
        → IsSomeAnd found (λ best. (0 < best.cells) × (best.cells ≤ crossing T start p b))
    fewest p b inside e =
        let more = fewest_found p b inside e in both found (found_cells (some_found found _ more)) more
      where
        both : (o : Option Jam) → HasCells o → NoMoreThan o (crossing T start p b)
            → IsSomeAnd o (λ best. (0 < best.cells) × (best.cells ≤ crossing T start p b))
        both None h u = u
        both (Some best) h u = (h, u)

    -- Where no jam is found every window holds at the start.
    found_else_window : found ≡ None → RingWindow T 0 start
    found_else_window nothing p k b inside =
        by_contra (count (length start) (crosses T start p k b)) (b - (0 + k))
        (λ l. none (starts_at_once p k b inside (omega arith)))
      where
        none : (q : ℕ) × (q < T.nodes) × (overfull T start q (b - k) ≡ true) → ⊥
        none (q, stands, e) =
            let P : Option Jam → Type 0 = λ j. NoMoreThan j (crossing T start q (b - k)) in
            subst P nothing (fewest_found q (b - k) stands e)

    -- Where the rule's run ends late, a jam is found.
    late_found : ((stop_of T start slots).row ≡ 0 → ⊥) → IsSome found
    unfolding state_at
    late_found late = go found refl
      where
        windows : found ≡ None → (t : ℕ) → RingWindow T t (state_at T start t)
        windows nothing zero = found_else_window nothing
        windows nothing (suc t) =
            ring_window_after T t (state_at T start t) (state_on_ring T start ring t) (windows nothing t)

        go : (o : Option Jam) → found ≡ o → IsSome o
        go (Some jam) e = refl
        go None e =
            let t = (stop_of T start slots).slot.0 in
            let on_ring = state_on_ring T start ring t in
            let in_time = window_not_late T t (state_at T start t) on_ring (windows e t) in
            absurd (late ((stop_first T start slots).row_is ∙ in_time))

    found_none : IsSome found → (schedule : List ℕ) → Schedule T start slots schedule → ⊥
    found_none = go found refl
      where
        go : (o : Option Jam) → found ≡ o → IsSome o → (schedule : List ℕ) → Schedule T start slots schedule → ⊥
        go None e some = absurd (differ some)
        go (Some jam) e some =
            let it = jam_found T start slots e in
            overfull_none jam.link.0 jam.before.0 it.link_inside it.too_many

    -- The rule's run ends late just where a jam is found.
    pub late_iff_found : ((stop_of T start slots).row ≡ 0 → ⊥) ↔ IsSome found
    late_iff_found = (late_found, λ some. (late_iff_none ring dues).1 (found_none some))

-- ---- the cells of an overfull link in another table

-- Each cell that must cross link p before slot b is in the other table too, with the same destination, due slot and
-- links to go, and no two are one cell there.
pub record Has (T : Traffic) (start : List ℕ) (p b : ℕ) (T₂ : Traffic) (start₂ : List ℕ) (at : ℕ → ℕ) : Type 0 where
  pub same_ring : T₂.nodes ≡ T.nodes
  pub there : (i : ℕ) → i < length start → crosses_before T start p b i ≡ true → at i < length start₂
  pub same_dst : (i : ℕ) → i < length start → crosses_before T start p b i ≡ true
      → get_or T₂.dst (at i) 0 ≡ get_or T.dst i 0
  pub same_due : (i : ℕ) → i < length start → crosses_before T start p b i ≡ true
      → get_or T₂.due (at i) 0 ≡ get_or T.due i 0
  pub same_left : (i : ℕ) → i < length start → crosses_before T start p b i ≡ true
      → get_or start₂ (at i) 0 ≡ get_or start i 0
  pub apart : (i j : ℕ) → i < length start → j < length start → crosses_before T start p b i ≡ true
      → crosses_before T start p b j ≡ true → at i ≡ at j → i ≡ j

module _ {T : Traffic} {start : List ℕ} {p b : ℕ} {T₂ : Traffic} {start₂ : List ℕ} {at : ℕ → ℕ}
    (has : Has T start p b T₂ start₂ at) where
  member_same : (i : ℕ) → i < length start → crosses_before T start p b i ≡ true
      → crosses_before T₂ start₂ p b (at i) ≡ true
  unfolding crosses_before
  member_same i known m =
      rw (has.same_ring, has.same_dst i known m, has.same_due i known m, has.same_left i known m) m

  -- A link that is overfull in the first table is so in the other.
  pub still_overfull : overfull T start p b ≡ true → overfull T₂ start₂ p b ≡ true
  unfolding overfull
  still_overfull e =
      let no_fewer =
      count_into (crosses T start p 0 b) (length start₂) at (length start) (crosses T₂ start₂ p 0 b)
      (λ i known m.
      let c = must_crosses T start p b i m in
      (has.there i known c, crosses_must T₂ start₂ p b (at i) (member_same i known c)))
      (λ i j l n m o. has.apart i j l n (must_crosses T start p b i m) (must_crosses T start p b j o)) in
      lt-ltb b (crossing T₂ start₂ p b)
      (omega (arith, ltb-true b (crossing T start p b) e, crossing_is T start p b, crossing_is T₂ start₂ p b, no_fewer))
