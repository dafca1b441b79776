-- A row arrives with its last cell: in the plan of a run that ends with no late cell, it is delivered whole from its
-- arrival on, and not before.
--     state_ordered        in the rule's run earlier cells of a row are never behind later ones
--     row_arrives          a row is delivered whole at an instant just where its arrival is no later
-- Assumes nothing.
use mathlib.Core.Path.{◌≡◌, ◌∙◌, ap, sym}
use mathlib.Core.Logic.{◌↔◌}
use Prim.Native.Nat.{ℕ, suc, pred, ◌+◌, ◌-◌, ◌≤◌, ◌<◌}
use native.Mathlib.Omega.{arith, by_contra}
use native.Mathlib.Numerals.{add-one}
use native.Mathlib.Decide.{ℕ_discrete}
use lib.ListN.{length, get_or, take}
use Rattle.lists.specs.Lists.{total}
use Rattle.lists.proofs.Build.{get_or_build}
use Rattle.lists.proofs.Figures.{total_more}
use Rattle.slack.specs.Slack.{state_at, plan_of, delivered_from, arrivals_of, stop_of}
use Rattle.slack.proofs.Rule.{state_length, state_less}
use Rattle.optimal.specs.Schedule.{left_at}
use Rattle.optimal.proofs.Plan.{plan_state}
use Rattle.optimal.proofs.Deliveries.{delivered_first, plan_delivers}
use Rattle.cells.specs.Rows.{Freight, owners, cell_links, cells_left, Delivered}
use Rattle.cells.specs.Cells.{cell_traffic, row_plan, of_last_cells, row_arrivals}
use Rattle.cells.specs.Steps.{Laden}
use Rattle.cells.proofs.Seats.{first_cell, seat, cell_known}
use Rattle.best.proofs.Order.{links_long, owner_at, seat_owner, Pair, pair, ordered}
use Rattle.best.proofs.Best.{told_state, cell_dues_lem}

module _ (F : Freight) (laden : Laden F) where
  -- the links that cell c has to go at instant t of the rule's run
  abbrev togo : ℕ → ℕ → ℕ
  togo t c = get_or (state_at (cell_traffic F) (cell_links F) t) c 0

  pub state_ordered : (t c d : ℕ) → Pair F c d → togo t c ≤ togo t d
  state_ordered t c d pr = rw (told_state F laden t t (omega arith)) at (ordered F laden (row_plan F t) t c d pr)

  module _ (i : ℕ) (known : i < length F.len) (some : 0 < get_or F.len i 0) where
    abbrev pub last : ℕ
    last = pred (total (take (suc i) F.len))

    pub last_is : last ≡ first_cell F.len i + (get_or F.len i 0 - 1)
    unfolding first_cell
    last_is =
        let e : total (take (suc i) F.len) ≡ total (take i F.len) + get_or F.len i 0
        = rw add-one at (total_more F.len i known) in
        rw e (omega arith)

    last_owner : get_or (owners F) last 0 ≡ suc i
    last_owner =
        ap (λ c. get_or (owners F) c 0) last_is ∙ owner_at F i (get_or F.len i 0 - 1) known (omega arith)

    pub last_known : last < length (cell_links F)
    last_known =
        let inside = cell_known F.len i (get_or F.len i 0 - 1) known (omega arith) in
        omega (arith, links_long F, last_is)

    -- Every other cell of the row comes before its last.
    before_last : (c : ℕ) → c < total F.len → get_or (owners F) c 0 ≡ suc i → (c ≡ last → ⊥) → c < last
    before_last c l of_row other =
        let s = seat F.len c l in
        let row : s.row ≡ i = omega (arith, seat_owner F s) in
        let first : first_cell F.len s.row ≡ first_cell F.len i = ap (first_cell F.len) row in
        let long : get_or F.len s.row 0 ≡ get_or F.len i 0 = ap (λ r. get_or F.len r 0) row in
        omega (arith, s.is, s.in_row, last_is)

    -- Where the last cell is delivered, all cells of the row are.
    last_then_all : (t : ℕ) → togo t last ≡ 0 → Delivered F (state_at (cell_traffic F) (cell_links F) t) i
    unfolding Delivered
    last_then_all t gone c l of_row = go (ℕ_discrete c last)
      where
        inside : c < total F.len
        inside = omega (arith, state_length (cell_traffic F) (cell_links F) t, links_long F)

        go : Dec (c ≡ last) → togo t c ≡ 0
        go (yes e) = rw e gone
        go (no e) =
            let same = of_row ∙ sym last_owner in
            let pr = pair F c last (before_last c inside of_row e) (omega (arith, last_known, links_long F)) same in
            omega (arith, state_ordered t c last pr)

    -- The row's arrival is the instant found for its last cell.
    pub arrival_is : (slots : ℕ)
        → get_or (row_arrivals F slots) i 0 ≡ delivered_from (cell_traffic F) (cell_links F) last slots 0
    unfolding row_arrivals of_last_cells arrivals_of
    arrival_is slots =
        let arrivals = arrivals_of (cell_traffic F) (cell_links F) slots in
        let found : ℕ → ℕ = λ c. delivered_from (cell_traffic F) (cell_links F) c slots 0 in
        get_or_build (length F.len) (λ i. get_or arrivals (pred (total (take (suc i) F.len))) 0) i 0 known
        ∙ get_or_build (length (cell_links F)) found last 0 last_known

    module _ (slots : ℕ) (dues : (i : ℕ) → i < length F.len → get_or F.due i 0 ≤ slots)
        (on_time : (stop_of (cell_traffic F) (cell_links F) slots).row ≡ 0) where
      abbrev arrival : ℕ
      arrival = delivered_from (cell_traffic F) (cell_links F) last slots 0

      within : arrival ≤ slots
      within = omega (arith, (delivered_first (cell_traffic F) (cell_links F) last slots 0).within)

      -- where the rule's run is at an instant, as the plan's run is
      state_is : (t : ℕ) → t ≤ slots
          → left_at (cell_traffic F) (cell_links F) (plan_of (cell_traffic F) (cell_links F) slots) t
          ≡ state_at (cell_traffic F) (cell_links F) t
      state_is = plan_state (cell_traffic F) (cell_links F) slots

      there : togo arrival last ≡ 0
      there =
          let T = cell_traffic F in
          let found = plan_delivers T (cell_links F) slots (cell_dues_lem laden dues) on_time last last_known in
          rw (state_is arrival within) at found.there

      not_before : (t : ℕ) → t < arrival → 0 < togo t last
      not_before t l =
          let T = cell_traffic F in
          let found = plan_delivers T (cell_links F) slots (cell_dues_lem laden dues) on_time last last_known in
          rw (state_is t (omega (arith, within))) at (found.not_before t l)

      whole_then : (t : ℕ) → Delivered F (state_at (cell_traffic F) (cell_links F) t) i → arrival ≤ t
      unfolding Delivered
      whole_then t whole =
          let inside : last < length (state_at (cell_traffic F) (cell_links F) t)
          = omega (arith, last_known, state_length (cell_traffic F) (cell_links F) t) in
          by_contra arrival t (λ late. omega (arith, not_before t late, whole last inside last_owner))

      -- In the plan, told in rows, the row is delivered whole from its arrival on, and not before.
      pub row_arrives : (t : ℕ) → t ≤ slots
          → (get_or (row_arrivals F slots) i 0 ≤ t) ↔ Delivered F (cells_left F (row_plan F slots) t) i
      row_arrives t l =
          rw (told_state F laden slots t l) (
            λ late.
                let less : arrival ≤ t = omega (arith, arrival_is slots) in
                let gone = state_less (cell_traffic F) (cell_links F) last last_known arrival t less in
                last_then_all t (omega (arith, there)),
            λ whole. omega (arith, arrival_is slots, whole_then t whole),
          )
