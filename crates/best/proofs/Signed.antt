-- Due slots of cells that would lie before instant 0 stand as 0. Here that is shown to change no refusal. With k slots
-- added to every due slot, enough that none lies before 0, the slack at instant k + t is the signed slack at instant t;
-- a run that is looked at so ends at the same cell and instant.
--     uncut                 with k slots more no due slot of a cell is cut
--     same_late             the same cell is late at every instant, in any state
--     same_ending           and the run ends at the same cell, k instants later
-- Assumes nothing.
use mathlib.Core.Path.{◌≡◌, refl, ◌∙◌, ap, sym}
use Prim.Native.Nat.{ℕ, zero, suc, ◌+◌, ◌-◌, ◌≤◌, ◌<◌}
use native.Mathlib.Omega.{arith}
use mathlib.Core.Bool.{Bool, true, false, cond, ◌&&◌}
use mathlib.Core.List.{List}
use borrow.Author.Tests.{eqb-true}
use lib.Dec.{eqb}
use lib.ListN.{length, get_or}
use Rattle.lists.specs.Lists.{build, total}
use Rattle.lists.proofs.Build.{get_or_build}
use Rattle.slack.specs.Slack.{Traffic, is_late, late_from, late_row, moved, slot_of, any_under_way, stop_from}
use Rattle.slack.specs.declared.Stop.{Stop}
use Rattle.lists.proofs.Truth.{both_hold}
use Rattle.slack.proofs.Rule.{late_then, then_late, not_late_then, then_not_late, late_none, moved_length}
use Rattle.cells.specs.Rows.{Freight, freight}
use Rattle.cells.specs.Cells.{cell_dues, cell_traffic}
use Rattle.cells.proofs.Seats.{Seat, seat}
use Rattle.best.proofs.Order.{seat_due}
use Rattle.best.proofs.Choice.{Agree, shifted_agree, same_step}

-- A table with k slots added to every due slot.
abbrev pub later : ℕ → Freight → Freight
later k F = freight F.nodes F.dst F.len (build (length F.len) (λ i. k + get_or F.due i 0)) F.links

-- With k slots more no cell of the table is due before instant 0.
abbrev pub Enough : ℕ → Freight → Type 0
Enough k F = (i : ℕ) → i < length F.len → get_or F.len i 0 ≤ suc (k + get_or F.due i 0)

module _ (F : Freight) where
  -- A cell's due slot with k slots added to its row's.
  pub later_due : (k : ℕ) {c : ℕ} (s : Seat F.len c) → get_or (cell_traffic (later k F)).due c 0
      ≡ k + get_or F.due s.row 0 - (get_or F.len s.row 0 - suc s.place)
  later_due k s =
      let row-due = get_or_build (length F.len) (λ i. k + get_or F.due i 0) s.row 0 s.known in
      seat_due (later k F) s ∙ ap (λ d. d - (get_or F.len s.row 0 - suc s.place)) row-due

module _ (F : Freight) (k : ℕ) (enough : Enough k F) where
  abbrev T : Traffic
  T = cell_traffic F

  abbrev T' : Traffic
  T' = cell_traffic (later k F)

  -- No due slot of the later table is cut: each cell's is its row's, k later, less one for each cell behind it.
  pub uncut : {c : ℕ} (s : Seat F.len c)
      → get_or T'.due c 0 + (get_or F.len s.row 0 - suc s.place) ≡ k + get_or F.due s.row 0
  uncut s = omega (arith, later_due F k s, enough s.row s.known, s.in_row)

  -- above 0 a due slot is k later; at 0 it is no more than k later
  shift : {c : ℕ} → Seat F.len c → 0 < get_or T.due c 0 → k + get_or T.due c 0 ≡ get_or T'.due c 0
  shift s above = omega (arith, later_due F k s, seat_due F s, enough s.row s.known, s.in_row)

  no_more : {c : ℕ} → Seat F.len c → get_or T'.due c 0 ≤ k + get_or T.due c 0
  no_more s = omega (arith, later_due F k s, seat_due F s)

  module _ (t : ℕ) (left : List ℕ) (long : length left ≡ total F.len) where
    seat_of : (c : ℕ) → c < length left → Seat F.len c
    seat_of c l = seat F.len c (omega arith)

    same_lateness : (c : ℕ) → c < length left → is_late T t left c ≡ is_late T' (k + t) left c
    same_lateness c l = go (is_late T t left c) refl
      where
        go : (b : Bool) → is_late T t left c ≡ b → is_late T t left c ≡ is_late T' (k + t) left c
        go true e =
            let h = late_then T t left c e in
            e ∙ sym (then_late T' (k + t) left c h.0 (omega (arith, h.1, no_more (seat_of c l))))
        go false e =
            e ∙ sym (then_not_late T' (k + t) left c (λ w.
            let h = not_late_then T t left c e w in
            omega (arith, shift (seat_of c l) (omega arith))))

    -- The same cell is the lowest late one.
    pub same_late : late_row T t left ≡ late_row T' (k + t) left
    unfolding late_row late_from
    same_late = lates (length left) 0 (omega arith)
      where
        lates : (m i : ℕ) → i + m ≤ length left → late_from T t left m i ≡ late_from T' (k + t) left m i
        lates zero i l = refl
        lates (suc m) i l = rw (same_lateness i (omega arith), lates m (suc i) (omega arith))

    -- Where no cell is late, every cell under way is due after instant 0, so the next slot is the same.
    same_next : late_row T t left ≡ 0 → moved T (slot_of T t left) left ≡ moved T' (slot_of T' (k + t) left) left
    unfolding cell_traffic
    same_next none = same_step F.nodes T.dst (cell_dues F) (cell_dues (later k F)) t (k + t) left agree
      where
        agree : Agree F.nodes T.dst (cell_dues F) (cell_dues (later k F)) left
        agree =
            shifted_agree F.nodes T.dst (cell_dues F) (cell_dues (later k F)) k 0 left (λ c l w.
            let h = not_late_then T t left c (late_none T t left none c l) w in
            omega (arith, shift (seat_of c l) (omega arith)))

  -- The run ends at the same cell and instant, with k added.
  pub same_ending : (m t : ℕ) (left : List ℕ) → length left ≡ total F.len
      → ((stop_from T m t left).row ≡ (stop_from T' m (k + t) left).row)
      × (k + (stop_from T m t left).slot.0 ≡ (stop_from T' m (k + t) left).slot.0)
  unfolding stop_from
  same_ending zero t left long = (same_late t left long, refl)
  same_ending (suc m) t left long =
      go (any_under_way left && eqb (late_row T t left) 0) refl (same_ending m (suc t) (moved T (slot_of T t left) left))
    where
      next : List ℕ
      next = moved T (slot_of T t left) left

      next' : List ℕ
      next' = moved T' (slot_of T' (k + t) left) left

      test : any_under_way left && eqb (late_row T t left) 0 ≡ any_under_way left && eqb (late_row T' (k + t) left) 0
      test = ap (λ r. any_under_way left && eqb r 0) (same_late t left long)

      here : Stop
      here = record { row = late_row T t left; slot = record { 0 = t } }

      here' : Stop
      here' = record { row = late_row T' (k + t) left; slot = record { 0 = k + t } }

      Same : Stop → Stop → Type 0
      Same x y = (x.row ≡ y.row) × (k + x.slot.0 ≡ y.slot.0)

      go : (b : Bool) → any_under_way left && eqb (late_row T t left) 0 ≡ b
          → (length next ≡ total F.len → Same (stop_from T m (suc t) next) (stop_from T' m (k + suc t) next))
          → Same (cond (any_under_way left && eqb (late_row T t left) 0) (stop_from T m (suc t) next) here)
          (cond (any_under_way left && eqb (late_row T' (k + t) left) 0) (stop_from T' m (suc (k + t)) next') here')
      go false e more = rw (sym test, e) (same_late t left long, refl)
      go true e more =
          let on_time = (both_hold (any_under_way left) (eqb (late_row T t left) 0) e).1 in
          let none : late_row T t left ≡ 0 = eqb-true (late_row T t left) 0 on_time in
          let one : k + suc t ≡ suc (k + t) = omega arith in
          rw (sym test, e, sym (same_next t left long none), sym one)
          (more (moved_length T (slot_of T t left) left ∙ long))
