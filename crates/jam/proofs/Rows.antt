-- The theorem of the links, over rows of several cells and schedules that name rows.
--     late_iff_jam       there is no legal schedule that meets a table exactly when there is a jam
--     links_theorem      there is one exactly when no link is overfull before any slot
--     members_sum        the cells of all rows in a jam are as many as it says
-- Assumes nothing.
use mathlib.Core.Path.{◌≡◌, refl, ◌∙◌, ap}
use mathlib.Core.Logic.{◌↔◌}
use Prim.Native.Nat.{ℕ, zero, suc, ◌≤◌, ◌<◌}
use native.Mathlib.Nat.{mul-zero}
use native.Mathlib.Omega.{arith, by_contra}
use native.Mathlib.Decide.{ℕ_discrete}
use mathlib.Core.Bool.{Bool, cond, ◌&&◌}
use mathlib.Core.List.{List}
use borrow.Author.Tests.{lt-ltb, ltb-true}
use lib.Dec.{eqb, eqb-zero-suc, eqb-suc-zero, eqb-suc-suc}
use lib.ListN.{length, get_or}
use Rattle.std.proofs.Common.{Option, None, Some, IsSome}
use Rattle.lists.specs.Lists.{build, total}
use Rattle.lists.proofs.Truth.{differ}
use Rattle.lists.proofs.Build.{build_ext}
use Rattle.lists.proofs.Sums.{total_both, total_same}
use Rattle.slack.specs.Slack.{Traffic, OnRing, stop_of}
use Rattle.cells.specs.Rows.{Freight, owners, cell_links, RowSchedule}
use Rattle.cells.specs.Cells.{cell_traffic, row_plan}
use Rattle.cells.specs.Steps.{Laden}
use Rattle.cells.proofs.Seats.{seat}
use Rattle.best.proofs.Order.{links_long, laid_on_ring, seat_owner}
use Rattle.best.proofs.Best.{cell_dues_lem, told_is_schedule, rows_late_iff_none}
use Rattle.jam.specs.declared.Jam.{Jam}
use Rattle.jam.specs.Jam.{crosses_before, how_many, crossing, overfull, the_jam}
use Rattle.jam.specs.Members.{row_jam, of_row, members_of}
use Rattle.jam.proofs.Search.{HasCells, has_some, some_found, jam_found}
use Rattle.jam.proofs.Links.{fewest_found, found_cells, late_iff_found}

module _ {F : Freight} {slots : ℕ} (laden : Laden F)
    (dues : (i : ℕ) → i < length F.len → get_or F.due i 0 ≤ slots) where
  abbrev T : Traffic
  T = cell_traffic F

  abbrev start : List ℕ
  start = cell_links F

  ring : OnRing T start
  ring = laid_on_ring F laden

  in_time : (c : ℕ) → c < length start → get_or T.due c 0 ≤ slots
  in_time = cell_dues_lem {F = F} {slots = slots} laden dues

  -- No schedule of rows meets the table exactly when there is a jam.
  pub late_iff_jam : ((s : List ℕ) → RowSchedule F slots s → ⊥) ↔ HasCells (row_jam F slots)
  unfolding row_jam
  late_iff_jam =
      let rule = rows_late_iff_none {F = F} {slots = slots} laden dues in
      let found = late_iff_found ring in_time in
      (λ none. found_cells ring in_time (found.0 (rule.1 none)), λ jammed. rule.0 (found.1 (has_some _ jammed)))

  -- A table has a legal schedule that meets it exactly when, for every link and every slot, no more cells must cross
  -- the link before the slot than there are slots before it. The rule is not mentioned.
  pub links_theorem : ((s : List ℕ) × RowSchedule F slots s)
      ↔ ((p b : ℕ) → p < F.nodes → crossing T start p b ≤ b)
  unfolding overfull cell_traffic row_jam
  links_theorem = (λ meeting. room meeting.0 meeting.1, planned)
    where
      room : (s : List ℕ) → RowSchedule F slots s → (p b : ℕ) → p < F.nodes → crossing T start p b ≤ b
      room s meeting p b inside =
          by_contra (crossing T start p b) b (λ more.
          let found = fewest_found ring in_time p b inside (lt-ltb b (crossing T start p b) more) in
          late_iff_jam.1 (found_cells ring in_time (some_found (row_jam F slots) (crossing T start p b) found)) s meeting)

      planned : ((p b : ℕ) → p < F.nodes → crossing T start p b ≤ b) → (s : List ℕ) × RowSchedule F slots s
      planned room = go (the_jam T start slots) refl
        where
          go : (o : Option Jam) → the_jam T start slots ≡ o → (s : List ℕ) × RowSchedule F slots s
          go (Some jam) e =
              let p = jam.link.0 in
              let b = jam.before.0 in
              let found = jam_found T start slots e in
              let more = ltb-true b (crossing T start p b) found.too_many in
              absurd (omega (arith, more, room p b found.link_inside))
          go None e = (row_plan F slots, told_is_schedule {F = F} {slots = slots} laden dues (in_time_stop (ℕ_discrete (stop_of T start slots).row 0)))
            where
              in_time_stop : Dec ((stop_of T start slots).row ≡ 0) → (stop_of T start slots).row ≡ 0
              in_time_stop (yes z) = z
              in_time_stop (no late) = absurd (let some = (late_iff_found ring in_time).0 late in differ (rw e at some))

-- ---- the members

none_of : (m : ℕ) → total (build {A = ℕ} m (λ i. 0)) ≡ 0
none_of m = total_same m 0 ∙ mul-zero m

one_further : (n o : ℕ) (t : Bool) → total (build n (λ i. cond (eqb (suc o) (suc i) && t) 1 0))
    ≡ total (build n (λ i. cond (eqb o i && t) 1 0))
one_further n o t =
    ap total (build_ext n (λ i. cond (eqb (suc o) (suc i) && t) 1 0) (λ i. cond (eqb o i && t) 1 0) (λ i h.
    rw (eqb-suc-suc o i)))

-- Of n rows, the one that is named is counted once.
counted_once : (n o : ℕ) (t : Bool) → o < n → total (build n (λ i. cond (eqb o i && t) 1 0)) ≡ cond t 1 0
unfolding total
counted_once zero o t l = absurd (omega arith)
counted_once (suc n) zero t l = omega (arith, none_behind)
  where
    none_behind : total (build n (λ i. cond (eqb 0 (suc i) && t) 1 0)) ≡ 0
    none_behind =
        ap total (build_ext n (λ i. cond (eqb 0 (suc i) && t) 1 0) (λ i. 0) (λ i h. rw (eqb-zero-suc i))) ∙ none_of n
counted_once (suc n) (suc o) t l =
    rw (eqb-suc-zero o) (omega (arith, one_further n o t, counted_once n o t (omega arith)))

-- Counted row by row, each cell whose row is known is counted once.
by_rows : (n : ℕ) (owner : ℕ → ℕ) (test : ℕ → Bool) (m : ℕ)
    → ((c : ℕ) → c < m → (i : ℕ) × (i < n) × (owner c ≡ suc i))
    → total (build n (λ i. how_many m (λ c. eqb (owner c) (suc i) && test c))) ≡ how_many m test
unfolding how_many
by_rows n owner test zero known = none_of n
by_rows n owner test (suc m) known =
    let (i, inside, is) = known m (omega arith) in
    let here : total (build n (λ j. cond (eqb (owner m) (suc j) && test m) 1 0)) ≡ cond (test m) 1 0
    = rw is (one_further n i (test m) ∙ counted_once n i (test m) inside) in
    omega (
      arith,
      here,
      by_rows n owner test m (λ c l. known c (omega arith)),
      total_both n (λ j. cond (eqb (owner m) (suc j) && test m) 1 0)
          (λ j. how_many m (λ c. eqb (owner c) (suc j) && test c)),
    )

-- The cells of all rows that must cross a link before a slot are as many as must cross it.
pub members_sum : (F : Freight) (p b : ℕ) → total (members_of F p b) ≡ crossing (cell_traffic F) (cell_links F) p b
unfolding members_of of_row crossing
members_sum F p b =
    by_rows (length F.len) (λ c. get_or (owners F) c 0) (crosses_before (cell_traffic F) (cell_links F) p b)
    (length (cell_links F)) (λ c l.
    let s = seat F.len c (omega (arith, links_long F)) in
    (s.row, s.known, seat_owner F s))
