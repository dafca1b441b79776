-- Where a run ends, in document 01's words: at the first instant at which a row is late, or at which all rows are
-- delivered, and with the lowest late row.
--     stop_first            the facts of the place where the run from a state ends
--     stop_delivered        a run over enough slots that ends with no late row has delivered all
-- Assumes nothing.
use mathlib.Core.Path.{◌≡◌, refl, ◌∙◌, ap, sym}
use Prim.Native.Nat.{ℕ, zero, suc, ◌+◌, ◌≤◌, ◌<◌}
use native.Mathlib.Omega.{arith}
use native.Mathlib.Decide.{dec_lt}
use mathlib.Core.Bool.{Bool, true, false, cond, ◌&&◌}
use mathlib.Core.List.{List}
use borrow.Author.Tests.{eqb-true, eq-eqb}
use lib.Dec.{eqb}
use lib.ListN.{length, get_or}
use Rattle.slack.specs.Slack.{Traffic, late_row, state_at, any_under_way, stop_from, stop_of}
use Rattle.slack.specs.declared.Stop.{Stop}
use Rattle.lists.proofs.Truth.{differ, both_hold, not_both}
use Rattle.slack.proofs.Rule.{late_none, not_late_then, state_length, some_under_way}

-- the run ends at instant t, with the lowest row that is late in the state left
abbrev ending : Traffic → ℕ → List ℕ → Stop
ending T t left = record { row = late_row T t left; slot = record { 0 = t } }

module _ (T : Traffic) (start : List ℕ) where
  -- the two tests by which it goes on at instant t: some row is under way, and none is late
  abbrev busy : ℕ → Bool
  busy t = any_under_way (state_at T start t)

  abbrev in_time : ℕ → Bool
  in_time t = eqb (late_row T t (state_at T start t)) 0

  goes_on : ℕ → Bool
  goes_on t = busy t && in_time t

  -- a run that is looked at from instant t on, for m slots, ends with `stop`
  record From (m t : ℕ) (stop : Stop) : Type 0 where
    from : t ≤ stop.slot.0
    within : stop.slot.0 ≤ t + m
    row_is : stop.row ≡ late_row T stop.slot.0 (state_at T start stop.slot.0)
    before : (s : ℕ) → t ≤ s → s < stop.slot.0 → goes_on s ≡ true
    stopped : stop.slot.0 < t + m → goes_on stop.slot.0 ≡ false

  stop_from_lem : (m t : ℕ) → From m t (stop_from T m t (state_at T start t))
  unfolding stop_from state_at goes_on
  stop_from_lem zero t =
      record {
        from = omega arith;
        within = omega arith;
        row_is = refl;
        before = λ s k l. absurd (omega arith);
        stopped = λ l. absurd (omega arith);
      }
  stop_from_lem (suc m) t = go (goes_on t) refl (stop_from_lem m (suc t))
    where
      later : Stop
      later = stop_from T m (suc t) (state_at T start (suc t))

      go : (b : Bool) → goes_on t ≡ b → From m (suc t) later
          → From (suc m) t (cond b later (ending T t (state_at T start t)))
      go true e more =
          record {
            from = omega (arith, more.from);
            within = omega (arith, more.within);
            row_is = more.row_is;
            before = λ s k l. at_or_after s k l (dec_lt t s);
            stopped = λ l. more.stopped (omega arith);
          }
        where
          at_or_after : (s : ℕ) → t ≤ s → s < later.slot.0 → Dec (t < s) → goes_on s ≡ true
          at_or_after s k l (yes d) = more.before s d l
          at_or_after s k l (no d) = let q : s ≡ t = omega arith in ap goes_on q ∙ e
      go false e more =
          record {
            from = omega arith;
            within = omega arith;
            row_is = refl;
            before = λ s k l. absurd (omega arith);
            stopped = λ l. e;
          }

  -- The run over at most `slots` slots ends with `stop`: no later than that, with the lowest row that is late then,
  -- and at no instant before it was a row late or all delivered.
  pub record Ended (slots : ℕ) (stop : Stop) : Type 0 where
    pub within : stop.slot.0 ≤ slots
    pub row_is : stop.row ≡ late_row T stop.slot.0 (state_at T start stop.slot.0)
    pub none_late_before : (t : ℕ) → t < stop.slot.0 → late_row T t (state_at T start t) ≡ 0
    pub under_way_before : (t : ℕ) → t < stop.slot.0 → any_under_way (state_at T start t) ≡ true

  whole : (slots : ℕ) → From slots 0 (stop_of T start slots)
  unfolding stop_of state_at
  whole slots = stop_from_lem slots 0

  -- A run ends where document 01 says.
  pub stop_first : (slots : ℕ) → Ended slots (stop_of T start slots)
  unfolding goes_on
  stop_first slots =
      record {
        within = omega (arith, (whole slots).within);
        row_is = (whole slots).row_is;
        none_late_before = λ t l. eqb-true (late_row T t (state_at T start t)) 0 (both t l).1;
        under_way_before = λ t l. (both t l).0;
      }
    where
      both : (t : ℕ) → t < (stop_of T start slots).slot.0 → (busy t ≡ true) × (in_time t ≡ true)
      both t l = both_hold (busy t) (in_time t) ((whole slots).before t (omega arith) l)

  -- A run over enough slots that ends with no late row ends with all rows delivered:
  -- a row under way at its due slot would be late.
  pub stop_delivered : (slots : ℕ) → ((i : ℕ) → i < length start → get_or T.due i 0 ≤ slots)
      → (stop_of T start slots).row ≡ 0 → any_under_way (state_at T start (stop_of T start slots).slot.0) ≡ false
  unfolding goes_on
  stop_delivered slots dues on_time = go (any_under_way left) refl (dec_lt end slots)
    where
      end : ℕ
      end = (stop_of T start slots).slot.0

      left : List ℕ
      left = state_at T start end

      none_late : late_row T end left ≡ 0
      none_late = sym (stop_first slots).row_is ∙ on_time

      go : (b : Bool) → any_under_way left ≡ b → Dec (end < slots) → any_under_way left ≡ false
      go false e d = e
      go true e (yes d) =
          let h = not_both (busy end) (in_time end) ((whole slots).stopped (omega arith)) e in
          absurd (differ (sym h ∙ eq-eqb (late_row T end left) 0 none_late))
      go true e (no d) =
          let (i, inside, links) = some_under_way left e in
          let known : i < length start = rw (state_length T start end) at inside in
          let before-due = not_late_then T end left i (late_none T end left none_late i inside) links in
          absurd (omega (arith, dues i known, (stop_first slots).within))
