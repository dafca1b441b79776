-- Counting by ends: a cell's end is the first slot before which it must cross a link. The cells whose end is b or
-- earlier are those that must cross before b.
--     count_before, count_next                 the cells that must cross before one slot more
--     count_few                               they are no more than there are
--     ends_none, ends_long, ends_entry         the list of the counts by end
--     counted_nowhere                         a cell that does not cross
--     end_inside, end_known, count_small, counted     one that does
--     counted_all                             all cells
-- Assumes nothing.
use mathlib.Core.Path.{◌≡◌, refl, ◌∙◌, ap, sym}
use mathlib.Core.Bool.{Bool, true, false, cond, ◌&&◌, and-false}
use Prim.Native.Nat.{ℕ, zero, suc, ◌+◌, ◌-◌, ◌≤◌, ◌<◌}
use native.Mathlib.Numerals.{add-one}
use native.Mathlib.Omega.{arith}
use native.Mathlib.Decide.{dec_lt, ℕ_discrete}
use mathlib.Core.List.{List}
use borrow.Author.Tests.{lt-ltb, le-ltb, le-leb, lt-leb, leb-true, leb-false, eq-eqb, ne_eqb}
use lib.Dec.{leb, ltb, eqb}
use lib.ListN.{length, get_or, set, replicate}
use Rattle.std.proofs.Common.{Option, None, Some}
use Rattle.std.proofs.lemmas.Option.{none-some, same_Some}
use Rattle.lists.proofs.Build.{length-build, get_or_build, build_ext, build_const, set-build}
use Rattle.slack.specs.declared.Cell.{Cell}
use Rattle.slack.proofs.Cells.{no_cell, dst_at, due_at}
use Rattle.slack.specs.Slack.{Traffic, traffic_in, dsts_in, dues_in}
use Rattle.ring.specs.Ring.{distance}
use Rattle.ring.proofs.Standing.{away}
use Rattle.jam.specs.Jam.{must_cross, crosses_before, how_many, crossing}
use Rattle.jam.proofs.Tally.{how_many_few}
use Rattle.jam_search.specs.Steps.{Searched, end_of, ends_at, ends}
use Rattle.jam_search.proofs.Cells.{left_long, left_known}

-- ---- how many

how_many_sum : (u v w : ℕ → Bool) → ((i : ℕ) → cond (u i) 1 0 + cond (v i) 1 0 ≡ cond {A = ℕ} (w i) 1 0) → (m : ℕ)
    → how_many m u + how_many m v ≡ how_many m w
unfolding how_many
how_many_sum u v w h zero = refl
how_many_sum u v w h (suc m) = omega (arith, h m, how_many_sum u v w h m)

how_many_same : (u w : ℕ → Bool) → ((i : ℕ) → u i ≡ w i) → (m : ℕ) → how_many m u ≡ how_many m w
unfolding how_many
how_many_same u w h zero = refl
how_many_same u w h (suc m) = rw (h m, how_many_same u w h m)

-- ---- the end of one cell

end_now : (due on : ℕ) → eqb (suc due - on) 0 ≡ ltb due (0 + on)
end_now due on = go (dec_lt due (0 + on))
  where
    go : Dec (due < 0 + on) → eqb (suc due - on) 0 ≡ ltb due (0 + on)
    go (yes d) = eq-eqb (suc due - on) 0 (omega arith) ∙ sym (lt-ltb due (0 + on) d)
    go (no d) = ne_eqb (suc due - on) 0 (λ e. omega arith) ∙ sym (le-ltb due (0 + on) (omega arith))

end_next : (due on b : ℕ) → cond {A = ℕ} (ltb due (b + on)) 1 0 + cond (eqb (suc due - on) (suc b)) 1 0
    ≡ cond (ltb due (suc b + on)) 1 0
end_next due on b = go (dec_lt due (b + on)) (ℕ_discrete due (b + on))
  where
    go : Dec (due < b + on) → Dec (due ≡ b + on)
        → cond {A = ℕ} (ltb due (b + on)) 1 0 + cond (eqb (suc due - on) (suc b)) 1 0 ≡ cond (ltb due (suc b + on)) 1 0
    go (yes d) e =
        let later = ne_eqb (suc due - on) (suc b) (λ s. omega arith) in
        rw (lt-ltb due (b + on) d, later, lt-ltb due (suc b + on) (omega arith))
    go (no d) (yes e) =
        let here = eq-eqb (suc due - on) (suc b) (omega arith) in
        rw (le-ltb due (b + on) (omega arith), here, lt-ltb due (suc b + on) (omega arith))
    go (no d) (no e) =
        let later = ne_eqb (suc due - on) (suc b) (λ s. omega arith) in
        rw (le-ltb due (b + on) (omega arith), later, le-ltb due (suc b + on) (omega arith))

module _ (T : Traffic) (start : List ℕ) (p : ℕ) where
  -- The links that cell i has to go from link p on.
  abbrev on : ℕ → ℕ
  on i = distance T.nodes p (get_or T.dst i 0)

  -- How many cells must cross before the slot in front of b; none where b is the first.
  abbrev pub count_before : ℕ → ℕ
  count_before zero = 0
  count_before (suc b) = crossing T start p b

  -- No more cells must cross than there are.
  pub count_few : (b : ℕ) → crossing T start p b ≤ length start
  unfolding crossing
  count_few b = how_many_few (length start) (crosses_before T start p b)

  end_step : (b i : ℕ)
      → cond {A = ℕ} (crosses_before T start p b i) 1 0 + cond (ends_at T start p (suc b) i) 1 0
      ≡ cond (crosses_before T start p (suc b) i) 1 0
  unfolding crosses_before must_cross ends_at
  end_step b i = go (leb (on i) (get_or start i 0))
    where
      due : ℕ
      due = get_or T.due i 0

      go : (t : Bool)
          → cond {A = ℕ} (t && ltb due (b + on i)) 1 0 + cond (t && eqb (suc due - on i) (suc b)) 1 0
          ≡ cond (t && ltb due (suc b + on i)) 1 0
      go true = end_next due (on i) b
      go false = refl

  end_first : (i : ℕ) → ends_at T start p 0 i ≡ crosses_before T start p 0 i
  unfolding crosses_before must_cross ends_at
  end_first i = rw (end_now (get_or T.due i 0) (on i))

  -- Those that must cross before slot b are those that must cross before the slot in front, and those whose end is b.
  pub count_next : (b : ℕ) → count_before b + how_many (length start) (ends_at T start p b) ≡ crossing T start p b
  unfolding crossing
  count_next zero =
      omega (arith, how_many_same (ends_at T start p 0) (crosses_before T start p 0) end_first (length start))
  count_next (suc b) =
      how_many_sum (crosses_before T start p b) (ends_at T start p (suc b)) (crosses_before T start p (suc b))
      (end_step b) (length start)

  -- ---- the counts by end

  -- Of no cells all are 0.
  pub ends_none : (size : ℕ) → replicate {A = ℕ} size 0 ≡ ends T start p size 0
  unfolding ends how_many
  ends_none size = sym (build_const size 0)

  -- There are as many as asked for.
  ends_long : (size i : ℕ) → length (ends T start p size i) ≡ size
  unfolding ends
  ends_long size i = length-build size (λ b. how_many i (ends_at T start p b))

  -- Each is how many cells have that end.
  pub ends_entry : (size i b : ℕ) → b < size → get_or (ends T start p size i) b 0 ≡ how_many i (ends_at T start p b)
  unfolding ends
  ends_entry size i b l = get_or_build size (λ c. how_many i (ends_at T start p c)) b 0 l

  -- A cell that does not cross is counted nowhere.
  ends_skip : (size i : ℕ) → get_or start i 0 < on i → ends T start p size (suc i) ≡ ends T start p size i
  unfolding ends how_many ends_at
  ends_skip size i l =
      build_ext size (λ b. how_many (suc i) (ends_at T start p b)) (λ b. how_many i (ends_at T start p b))
      (λ b h. rw (lt-leb (on i) (get_or start i 0) l) (omega arith))

  -- One that does is counted at its end, and nowhere else.
  ends_count : (size i e : ℕ) → on i ≤ get_or start i 0 → e ≡ suc (get_or T.due i 0) - on i → e < size
      → set (ends T start p size i) e (get_or (ends T start p size i) e 0 + 1) ≡ ends T start p size (suc i)
  unfolding ends how_many ends_at
  ends_count size i e there is l =
      ap (set (ends T start p size i) e) (ap (λ x. x + 1) (ends_entry size i e l) ∙ sym here)
      ∙ set-build size (λ b. how_many i (ends_at T start p b)) (λ b. how_many (suc i) (ends_at T start p b)) e
      (λ b h differs.
      let elsewhere = ne_eqb (suc (get_or T.due i 0) - on i) b (λ s. differs (sym s ∙ sym is)) in
      rw (elsewhere, and-false) (omega arith))
    where
      here : how_many (suc i) (ends_at T start p e) ≡ how_many i (ends_at T start p e) + 1
      here = rw (le-leb (on i) (get_or start i 0) there, eq-eqb (suc (get_or T.due i 0) - on i) e (sym is)) (omega arith)

-- ---- one cell counted

module _ (cells : List Cell) {nodes : ℕ} {left : List ℕ} {size : ℕ} (searched : Searched (traffic_in nodes cells) left size)
    {i : ℕ} (known : i < length cells) where
  in_left : i < length left
  in_left = left_known cells searched.ring known

  module _ {p : ℕ} (inside : p < nodes) {counts : List ℕ} (so_far : counts ≡ ends (traffic_in nodes cells) left p size i)
      {end : Option ℕ}
      (end_is : end ≡ end_of nodes (get_or cells i no_cell).dst.0 (get_or cells i no_cell).due.0 (get_or left i 0) p)
    where
      abbrev T : Traffic
      T = traffic_in nodes cells

      abbrev far : ℕ
      far = distance nodes p (get_or (dsts_in cells) i 0)

      said : end ≡ cond (leb far (get_or left i 0)) (Some (suc (get_or (dues_in cells) i 0) - far)) None
      unfolding end_of
      said = end_is ∙ rw (dst_at cells i, due_at cells i)

      -- A cell that does not have to cross the link is counted nowhere.
      pub counted_nowhere : end ≡ None → counts ≡ ends T left p size (i + 1)
      counted_nowhere e = go (leb far (get_or left i 0)) refl (sym said ∙ e)
        where
          go : (t : Bool) → leb far (get_or left i 0) ≡ t
              → ◌≡◌ {A = Option ℕ} (cond t (Some (suc (get_or (dues_in cells) i 0) - far)) None) None
              → counts ≡ ends T left p size (i + 1)
          go true f g = absurd (none-some _ (sym g))
          go false f g =
              so_far ∙ sym (rw (add-one i) (ends_skip T left p size i (leb-false far (get_or left i 0) f)))

      module _ {e : ℕ} (some : end ≡ Some e) where
        there : (far ≤ get_or left i 0) × (e ≡ suc (get_or (dues_in cells) i 0) - far)
        there = go (leb far (get_or left i 0)) refl (sym said ∙ some)
          where
            go : (t : Bool) → leb far (get_or left i 0) ≡ t
                → ◌≡◌ {A = Option ℕ} (cond t (Some (suc (get_or (dues_in cells) i 0) - far)) None) (Some e)
                → (far ≤ get_or left i 0) × (e ≡ suc (get_or (dues_in cells) i 0) - far)
            go true f g = (leb-true far (get_or left i 0) f, sym (same_Some _ _ g))
            go false f g = absurd (none-some e g)

        -- Its end lies among the slots that are counted for.
        pub end_inside : e < size
        end_inside =
            let links = (away nodes p (get_or (dsts_in cells) i 0) inside (searched.ring.dst_inside i in_left)).some in
            omega (arith, there.1, searched.dues i in_left, links)

        -- So there is a count for it.
        pub end_known : e < length counts
        end_known = omega (arith, end_inside, ap length so_far, ends_long T left p size i)

        -- The count so far is below 1,024.
        pub count_small : get_or counts e 0 < 1024
        count_small =
            omega (
              arith,
              ap (λ (l : List ℕ). get_or l e 0) so_far,
              ends_entry T left p size i e end_inside,
              how_many_few i (ends_at T left p e),
              in_left,
              searched.few,
            )

        -- A cell that has to cross is counted at its end.
        pub counted : set counts e (get_or counts e 0 + 1) ≡ ends T left p size (i + 1)
        counted =
            ap (λ (l : List ℕ). set l e (get_or l e 0 + 1)) so_far
            ∙ rw (add-one i) (ends_count T left p size i e there.0 there.1 end_inside)

-- Once every cell is counted the counts are those of all.
pub counted_all : (cells : List Cell) (p : ℕ) {nodes : ℕ} {left counts : List ℕ} {size i : ℕ}
    → Searched (traffic_in nodes cells) left size → counts ≡ ends (traffic_in nodes cells) left p size i
    → i ≡ length cells → counts ≡ ends (traffic_in nodes cells) left p size (length left)
counted_all cells p {nodes} {left} {counts} {size} {i} searched so_far all =
    let same : i ≡ length left = all ∙ sym (left_long cells searched.ring) in
    so_far ∙ rw same
