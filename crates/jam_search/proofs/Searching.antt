-- The search, slot by slot and link by link.
--     Scanned, scanned_none, scanned_end        the scan of a link's slots, at the first and behind the last
--     sum_small, scanned_here, scanned_more     one slot
--     compared_more                             one link more is compared
-- Assumes nothing.
use mathlib.Core.Path.{◌≡◌, refl, ◌∙◌, ap, sym}
use Prim.Native.Nat.{ℕ, suc, ◌+◌, ◌-◌, ◌≤◌, ◌<◌}
use native.Mathlib.Numerals.{add-one}
use native.Mathlib.Omega.{arith}
use mathlib.Core.List.{List}
use borrow.Author.Tests.{lt-ltb, le-ltb}
use lib.ListN.{length, get_or}
use Rattle.std.proofs.Common.{Option, None, Some}
use Rattle.slack.specs.Slack.{Traffic}
use Rattle.jam.specs.declared.Jam.{Jam}
use Rattle.jam.specs.Jam.{first_from, first_in, fewer, fewest_below}
use Rattle.jam.specs.Jam.{how_many, crossing, overfull, jam}
use Rattle.jam_search.specs.Steps.{Searched, ends_at, ends}
use Rattle.jam_search.proofs.Counting.{count_before, count_next, count_few, ends_entry}

-- ---- the search, one slot further on

module _ (T : Traffic) (start : List ℕ) (p slots b : ℕ) where
  first_here : b ≤ slots → b < crossing T start p b
      → first_from T start p (suc slots - b) b ≡ Some (jam (crossing T start p b) p b)
  first_here fits l = rw more first
    where
      more : suc slots - b ≡ suc (slots - b)
      more = omega arith

      first : first_from T start p (suc (slots - b)) b ≡ Some (jam (crossing T start p b) p b)
      first = unfold first_from overfull in rw (lt-ltb b (crossing T start p b) l)

  first_next : b ≤ slots → crossing T start p b ≤ b
      → first_from T start p (suc slots - b) b ≡ first_from T start p (suc slots - (b + 1)) (b + 1)
  first_next fits l = rw (more, less, add-one b) next
    where
      more : suc slots - b ≡ suc (slots - b)
      more = omega arith

      less : suc slots - (b + 1) ≡ slots - b
      less = omega arith

      next : first_from T start p (suc (slots - b)) b ≡ first_from T start p (slots - b) (suc b)
      next = unfold first_from overfull in rw (le-ltb b (crossing T start p b) l)

  first_end : slots < b → first_from T start p (suc slots - b) b ≡ None
  first_end l = rw over (unfold first_from in refl)
    where
      over : suc slots - b ≡ 0
      over = omega arith

-- The scan has come to slot b, and the link is overfull before none of the slots in front of it.
pub record Scanned (T : Traffic) (start : List ℕ) (p slots b cells : ℕ) : Type 0 where
  pub sum : cells ≡ count_before T start p b
  pub rest : first_in T start slots p ≡ first_from T start p (suc slots - b) b

-- The scan begins at slot 0, with no cells.
pub scanned_none : {T : Traffic} {start : List ℕ} {p slots : ℕ} → Scanned T start p slots 0 0
unfolding first_in
scanned_none {T} {start} {p} {slots} =
    let all : suc slots - 0 ≡ suc slots = omega arith in
    record { sum = refl; rest = rw all }

module _ {T : Traffic} {start : List ℕ} {p slots b cells : ℕ} (scanned : Scanned T start p slots b cells) where
  -- Behind the last due slot nothing is found.
  pub scanned_end : slots < b → None ≡ first_in T start slots p
  scanned_end l = sym (scanned.rest ∙ first_end T start p slots b l)

  module _ {size : ℕ} {counts : List ℕ} (searched : Searched T start size)
      (all : counts ≡ ends T start p size (length start)) (inside : b ≤ slots) (fits : slots < size) where
    sum_is : cells + get_or counts b 0 ≡ crossing T start p b
    sum_is =
        let entry : get_or counts b 0 ≡ how_many (length start) (ends_at T start p b)
        = ap (λ (l : List ℕ). get_or l b 0) all ∙ ends_entry T start p size (length start) b (omega arith) in
        omega (arith, scanned.sum, count_next T start p b)

    -- The cells with those of slot b are at most 1,024.
    pub sum_small : cells + get_or counts b 0 < 1025
    sum_small = omega (arith, sum_is, count_few T start p b, searched.few)

    -- Where they are more than the slots before b, that is the jam of the link.
    pub scanned_here : b < cells + get_or counts b 0
        → Some (jam (cells + get_or counts b 0) p b) ≡ first_in T start slots p
    scanned_here l = rw sum_is (sym (scanned.rest ∙ first_here T start p slots b inside (rw sum_is at l)))

    -- Where they are not, the scan goes on.
    pub scanned_more : cells + get_or counts b 0 ≤ b → Scanned T start p slots (b + 1) (cells + get_or counts b 0)
    scanned_more l =
        record {
          sum = rw (add-one b) sum_is;
          rest = scanned.rest ∙ first_next T start p slots b inside (rw sum_is at l);
        }

-- ---- one link further on

module _ (T : Traffic) (start : List ℕ) (slots : ℕ) where
  -- The fewer of the jam so far and the next link's is the jam of one link more.
  pub compared_more : (p : ℕ) {found next better : Option Jam} → found ≡ fewest_below T start slots p
      → next ≡ first_in T start slots p → better ≡ fewer found next → better ≡ fewest_below T start slots (p + 1)
  unfolding fewest_below
  compared_more p so_far first e = rw (add-one p) (e ∙ rw (so_far, first))
