-- The rule over cells, each with its own due slot, is best for schedules that name rows and know the rows' due slots
-- alone.
--     rows_never_late       where some schedule of rows meets the table, no cell of the rule's run is late
--     told_is_schedule      the plan of a run that ends with no late cell, told in rows, is such a schedule
--     rows_late_iff_none    so the run ends with a late cell just where there is no such schedule
-- Assumes nothing.
use mathlib.Core.Path.{◌≡◌, refl, ◌∙◌, ap, sym}
use mathlib.Core.Logic.{◌↔◌}
use Prim.Native.Nat.{ℕ, zero, suc, ◌+◌, ◌-◌, ◌*◌, ◌≤◌, ◌<◌}
use native.Mathlib.Omega.{arith}
use native.Mathlib.Decide.{dec_lt}
use mathlib.Core.Bool.{Bool, true, false}
use mathlib.Core.List.{List, [], ◌∷◌, map}
use lib.ListN.{length, get_or, take, drop, get_or-map}
use Rattle.lists.specs.Lists.{total}
use Rattle.lists.proofs.Build.{build_ext}
use Rattle.slack.specs.Slack.{Traffic, OnRing, moved, slot_of, pick, state_at, plan_of, late_row, stop_of}
use Rattle.slack.proofs.Rule.{Stands, Picked, pick_least, pick_none, slot_entry, plan_length}
use Rattle.slack.proofs.Rule.{state_length, state_on_ring, state_less}
use Rattle.slack.proofs.Ending.{stop_first}
use Rattle.optimal.specs.Schedule.{named_in, Meets}
use Rattle.optimal.proofs.Plan.{plan_names, plan_state}
use Rattle.optimal.proofs.Optimal.{InTime, never_late_beside, plan_is_schedule}
use Rattle.cells.specs.Rows.{Freight, owners, cell_links, road, waits, earliest, carried, cells_left}
use Rattle.cells.specs.Rows.{Holds, Delivered, LegalRows, MeetsRows, RowSchedule}
use Rattle.cells.specs.Cells.{cell_traffic, owner_of, told_by, row_plan}
use Rattle.cells.specs.Steps.{Laden}
use Rattle.cells.proofs.Seats.{first_cell, Seat, seat, cell_known}
use Rattle.cells.proofs.Telling.{told_long}
use Rattle.best.proofs.First.{first_is, first_none}
use Rattle.best.proofs.Order.{links_long, owner_at, seat_owner, seat_due, laid_on_ring}
use Rattle.best.proofs.Order.{pair, pair_dst, pair_due, same_place, same_move, waits_then, then_waits, same_left}
use Rattle.best.proofs.Order.{left, slot, next, at_start, left_long, far_behind}

-- ---- a cell comes before its own due slot in every schedule that meets the rows' due slots

module _ {F : Freight} (laden : Laden F) (schedule : List ℕ) where
  -- the links that cell c has to go at instant t
  abbrev togo : ℕ → ℕ → ℕ
  togo t c = get_or (left F laden schedule t) c 0

  -- an instant no later than its own due slot at which cell c is delivered
  abbrev Arrives : ℕ → Type 0
  Arrives c = (t : ℕ) × (t ≤ get_or (cell_traffic F).due c 0) × (togo t c ≡ 0)

  -- Where row i is delivered whole at an instant t no later than its due slot, its cell with k cells behind it was
  -- delivered k instants before.
  module _ {c : ℕ} (s : Seat F.len c) (t : ℕ) (in_time : t ≤ get_or F.due s.row 0)
      (whole : Delivered F (left F laden schedule t) s.row) where
    -- the cells behind this one
    abbrev behind : ℕ
    behind = get_or F.len s.row 0 - suc s.place

    -- place m behind this one
    abbrev cell : ℕ → ℕ
    cell m = first_cell F.len s.row + (s.place + m)

    there : (m : ℕ) → s.place + m < get_or F.len s.row 0 → togo t (cell m) ≡ 0
    unfolding Delivered
    there m inside =
        let known = cell_known F.len s.row (s.place + m) s.known inside in
        whole (cell m) (omega (arith, left_long F laden schedule t))
        (owner_at F s.row (s.place + m) s.known inside)

    ahead : (m u : ℕ) → u + m ≡ t → s.place + m < get_or F.len s.row 0 → togo u c ≡ 0
    ahead m u e inside =
        let farther = rw e at (far_behind F laden schedule s.row s.place m u s.known inside) in
        ap (togo u) s.is ∙ omega (arith, farther, there m inside)

    arrives : Arrives c
    arrives = before (dec_lt t behind)
      where
        before : Dec (t < behind) → Arrives c
        before (yes d) = (0, omega arith, ahead t 0 (omega arith) (omega arith))
        before (no d) =
            let known : s.place + behind < get_or F.len s.row 0 = omega (arith, s.in_row) in
            (t - behind, omega (arith, seat_due F s), ahead behind (t - behind) (omega arith) known)

  -- Cell j of l is delivered l - j instants before the last at the latest.
  pub cells_in_time : MeetsRows F schedule
      → InTime (cell_traffic F) (left F laden schedule) (slot F laden schedule) (next F laden schedule)
  unfolding MeetsRows
  cells_in_time meets c l =
      let s = seat F.len c (omega (arith, left_long F laden schedule 0)) in
      let (t, in_time, whole) = meets s.row s.known in
      arrives s t in_time whole

-- ---- the rule's slot, told in rows, moves the cells that the rule chose

map-take : {A B : Type 0} (f : A → B) (n : ℕ) (l : List A) → take n (map f l) ≡ map f (take n l)
map-take f zero l = refl
map-take f (suc n) [] = refl
map-take {A} {B} f (suc n) (x ∷ l) = ap {B = List B} (λ m. f x ∷ m) (map-take f n l)

map-drop : {A B : Type 0} (f : A → B) (n : ℕ) (l : List A) → drop n (map f l) ≡ map f (drop n l)
map-drop f zero l = refl
map-drop f (suc n) [] = refl
map-drop f (suc n) (x ∷ l) = map-drop f n l

module _ (F : Freight) where
  abbrev T : Traffic
  T = cell_traffic F

  pub named_in_rows : (plan : List ℕ) (t : ℕ)
      → named_in (road F) (told_by (owners F) plan) t ≡ told_by (owners F) (named_in T plan t)
  unfolding named_in told_by road cell_traffic
  named_in_rows plan t =
      let told = owner_of (owners F) in
      ap (take F.nodes) (map-drop told (t * F.nodes) plan) ∙ map-take told F.nodes (drop (t * F.nodes) plan)

  pub told_at : (plan : List ℕ) (p : ℕ) → get_or (told_by (owners F) plan) p 0 ≡ owner_of (owners F) (get_or plan p 0)
  unfolding told_by owner_of
  told_at plan p = get_or-map (owner_of (owners F)) plan p 0

  row_of_cell : (c : ℕ) → owner_of (owners F) (suc c) ≡ get_or (owners F) c 0
  unfolding owner_of
  row_of_cell c = refl

  row_of_none : owner_of (owners F) 0 ≡ 0
  unfolding owner_of
  row_of_none = refl

  module _ (t : ℕ) (state : List ℕ) (ring : OnRing T state) (long : length state ≡ total F.len) where
    not_waiting : (row p c : ℕ) → (waits F state row p c ≡ true → ⊥) → waits F state row p c ≡ false
    not_waiting row p c h = go (waits F state row p c) refl
      where
        go : (b : Bool) → waits F state row p c ≡ b → waits F state row p c ≡ false
        go true e = absurd (h e)
        go false e = e

    -- The cell that the rule sends is its row's earliest at that node: an earlier one there has as far to go and no
    -- later due slot.
    chosen_earliest : (p n : ℕ) → pick T t state p (length state) ≡ n → earliest F state (owner_of (owners F) n) p ≡ n
    unfolding earliest
    chosen_earliest p zero e =
        first_none (waits F state (owner_of (owners F) 0) p) (length state) 0 (λ c l m.
        not_waiting (owner_of (owners F) 0) p c (λ w.
        pick_none T t state p (length state) e c (omega arith) (waits_then F state (owner_of (owners F) 0) p c w).1))
    chosen_earliest p (suc c) e =
        first_is (waits F state row p) (length state) 0 c
        (record {
          from = omega arith;
          below = omega (arith, best.inside);
          passes = then_waits F state row p c (sym (row_of_cell c)) best.stands;
          none_before = λ d l m. not_waiting row p d (λ w. none d m (waits_then F state row p d w));
        })
      where
        row : ℕ
        row = owner_of (owners F) (suc c)

        best : Picked T t state p (length state) c
        best = pick_least T t state p (length state) c e

        none : (d : ℕ) → d < c → (get_or (owners F) d 0 ≡ row) × Stands T state p d → ⊥
        none d m (of_row, stands) =
            let pr = pair F d c m (omega (arith, best.inside)) (of_row ∙ row_of_cell c) in
            let known : d < length state = omega (arith, best.inside) in
            let as-far = same_left F state ring d c p known best.inside (pair_dst F pr) stands best.stands in
            omega (arith, best.lowest d m stands, pair_due F pr, as-far)

    pub told_carries : carried F (told_by (owners F) (slot_of T t state)) state ≡ slot_of T t state
    unfolding carried slot_of cell_traffic
    told_carries =
        let told = told_by (owners F) (slot_of T t state) in
        build_ext F.nodes (λ p. earliest F state (get_or told p 0) p) (λ p. pick T t state p (length state))
        (λ p l.
        ap (λ row. earliest F state row p)
        (told_at (slot_of T t state) p ∙ ap (owner_of (owners F)) (slot_entry T t state p l))
        ∙ chosen_earliest p (pick T t state p (length state)) refl)

  -- So the plan's run, told in rows, is the rule's.
  pub told_state : Laden F → (slots t : ℕ) → t ≤ slots → cells_left F (row_plan F slots) t ≡ state_at T (cell_links F) t
  unfolding cells_left state_at row_plan
  told_state laden slots zero l = refl
  told_state laden slots (suc t) l = so_far (told_state laden slots t (omega arith))
    where
      state : List ℕ
      state = state_at T (cell_links F) t

      plan : List ℕ
      plan = plan_of T (cell_links F) slots

      names : named_in (road F) (told_by (owners F) plan) t ≡ told_by (owners F) (slot_of T t state)
      names = named_in_rows plan t ∙ ap (told_by (owners F)) (plan_names T (cell_links F) slots t l)

      carries : carried F (told_by (owners F) (slot_of T t state)) state ≡ slot_of T t state
      carries =
          told_carries t state (state_on_ring T (cell_links F) (laid_on_ring F laden) t)
          (state_length T (cell_links F) t ∙ links_long F)

      told : List ℕ
      told = told_by (owners F) plan

      so_far : cells_left F told t ≡ state
          → moved (road F) (carried F (named_in (road F) told t) (cells_left F told t)) (cells_left F told t)
          ≡ moved T (slot_of T t state) state
      so_far e = rw (e, names, carries) (same_move F (slot_of T t state) state)

-- ---- the rule's plan, told in rows, is legal, late or not

module _ {F : Freight} (laden : Laden F) (slots : ℕ) where
  abbrev cells : Traffic
  cells = cell_traffic F

  abbrev start : List ℕ
  start = cell_links F

  abbrev state : ℕ → List ℕ
  state t = state_at cells start t

  -- the cell that the rule sends at p at instant t
  abbrev sent : ℕ → ℕ → ℕ
  sent t p = pick cells t (state t) p (length (state t))

  pub row_plan_long : length (row_plan F slots) ≡ slots * F.nodes
  unfolding row_plan cell_traffic
  row_plan_long = told_long (owners F) (plan_of cells start slots) ∙ plan_length cells start slots

  told_names : (t p : ℕ) → t < slots → p < F.nodes
      → get_or (named_in (road F) (row_plan F slots) t) p 0 ≡ owner_of (owners F) (sent t p)
  unfolding row_plan cell_traffic
  told_names t p l inside =
      let plan = plan_of cells start slots in
      ap (λ s. get_or s p 0) (named_in_rows F plan t) ∙ told_at F (named_in cells plan t) p
      ∙ ap (λ s. owner_of (owners F) (get_or s p 0)) (plan_names cells start slots t l)
      ∙ ap (owner_of (owners F)) (slot_entry cells t (state t) p inside)

  -- the row of a cell that is sent at p has a cell there
  holds : (t p i n : ℕ) → sent t p ≡ n → owner_of (owners F) n ≡ suc i → Holds F (state t) i p
  unfolding Holds
  holds t p i zero e f = absurd (omega (arith, row_of_none F))
  holds t p i (suc c) e f =
      let best = pick_least cells t (state t) p (length (state t)) c e in
      let here = same_place F (state t) c ∙ best.stands.here in
      (c, best.inside, (sym (row_of_cell F c) ∙ f, best.stands.under_way_lem, here))

  pub told_is_legal : LegalRows F slots (row_plan F slots)
  unfolding LegalRows
  told_is_legal t p i l inside named =
      rw (told_state F laden slots t (omega arith))
      (holds t p i (sent t p) refl (sym (told_names t p l inside) ∙ named))

-- ---- the theorems

module _ {F : Freight} {slots : ℕ} (laden : Laden F)
    (dues : (i : ℕ) → i < length F.len → get_or F.due i 0 ≤ slots) where
  ring : OnRing (cell_traffic F) (cell_links F)
  ring = laid_on_ring F laden

  -- No cell is due after the last slot.
  pub cell_dues_lem : (c : ℕ) → c < length (cell_links F) → get_or (cell_traffic F).due c 0 ≤ slots
  cell_dues_lem c l =
      let s = seat F.len c (omega (arith, links_long F)) in
      omega (arith, seat_due F s, dues s.row s.known)

  -- Where some schedule of rows meets the table, no cell of the rule's run is late at any instant.
  pub rows_never_late : {schedule : List ℕ} → RowSchedule F slots schedule
      → (t : ℕ) → late_row (cell_traffic F) t (state_at (cell_traffic F) (cell_links F) t) ≡ 0
  rows_never_late {schedule} meeting t =
      let from = at_start F laden schedule in
      let in_time = cells_in_time laden schedule meeting.meets in
      rw from
      at (never_late_beside (cell_traffic F) (left F laden schedule) (slot F laden schedule) (next F laden schedule)
      (rw from ring) slots (rw from cell_dues_lem) in_time t)

  -- A run that ends with no late cell delivers each row by its due slot, since no cell is due later than its row.
  pub delivered_by_due : (stop_of (cell_traffic F) (cell_links F) slots).row ≡ 0 → (i : ℕ) → i < length F.len
      → Delivered F (state_at (cell_traffic F) (cell_links F) (get_or F.due i 0)) i
  unfolding Delivered Meets
  delivered_by_due on_time i known c l of_row =
      let inside : c < length (cell_links F) = omega (arith, state_length T (cell_links F) due) in
      let (t, in_time, done) = (plan_is_schedule ring cell_dues_lem on_time).meets c inside in
      let s = seat F.len c (omega (arith, links_long F)) in
      let row : s.row ≡ i = omega (arith, seat_owner F s) in
      let same : get_or F.due s.row 0 ≡ due = ap (λ k. get_or F.due k 0) row in
      let early : t ≤ due = omega (arith, seat_due F s) in
      let gone : get_or (state_at T (cell_links F) t) c 0 ≡ 0
      = rw (plan_state T (cell_links F) slots t (omega (arith, dues i known))) at done in
      omega (arith, state_less T (cell_links F) c inside t due early)
    where
      T : Traffic
      T = cell_traffic F

      due : ℕ
      due = get_or F.due i 0

  -- The plan of such a run, told in rows, is legal and meets the table.
  pub told_is_schedule : (stop_of (cell_traffic F) (cell_links F) slots).row ≡ 0 → RowSchedule F slots (row_plan F slots)
  told_is_schedule on_time =
      record { entries = row_plan_long laden slots; legal = told_is_legal laden slots; meets = meets }
    where
      meets : MeetsRows F (row_plan F slots)
      meets = unfold MeetsRows in λ i known.
          let due = get_or F.due i 0 in
          (due, omega arith, rw (told_state F laden slots due (dues i known)) (delivered_by_due on_time i known))

  -- The run ends with a late cell just where no legal schedule of rows meets the table.
  pub rows_late_iff_none : ((stop_of (cell_traffic F) (cell_links F) slots).row ≡ 0 → ⊥)
      ↔ ((schedule : List ℕ) → RowSchedule F slots schedule → ⊥)
  rows_late_iff_none =
      let stop = stop_of (cell_traffic F) (cell_links F) slots in (
        λ late schedule meeting.
            late ((stop_first (cell_traffic F) (cell_links F) slots).row_is ∙ rows_never_late meeting stop.slot.0),
        λ none on_time. none (row_plan F slots) (told_is_schedule on_time),
      )
