-- The arrivals of a run are the instants at which its plan delivers.
--     delivered_first       the instant found for a row is the first at which it has no link to go
--     plan_delivers         in the run of the plan itself, where no row is late
-- Assumes nothing.
use mathlib.Core.Path.{◌≡◌, refl}
use Prim.Native.Nat.{ℕ, zero, suc, ◌+◌, ◌≤◌, ◌<◌}
use native.Mathlib.Omega.{arith}
use native.Mathlib.Decide.{dec_lt}
use mathlib.Core.Bool.{Bool, true, false, cond}
use mathlib.Core.List.{List}
use borrow.Author.Tests.{ltb-true, ltb-false}
use lib.ListN.{length, get_or}
use Rattle.slack.specs.Slack.{Traffic, under_way, state_at, plan_of, delivered_from, stop_of}
use Rattle.slack.proofs.Rule.{state_less, none_under_way}
use Rattle.slack.proofs.Ending.{stop_first, stop_delivered}
use Rattle.optimal.specs.Schedule.{left_at}
use Rattle.optimal.proofs.Plan.{plan_state}

-- Row i of a schedule is delivered at instant d, and not before.
pub record Delivered (T : Traffic) (start schedule : List ℕ) (i d : ℕ) : Type 0 where
  pub there : get_or (left_at T start schedule d) i 0 ≡ 0
  pub not_before : (t : ℕ) → t < d → 0 < get_or (left_at T start schedule t) i 0

-- Instant d is the first from t on, and at most m later, at which row i has no link to go; or it is t + m.
pub record First (T : Traffic) (start : List ℕ) (i m t d : ℕ) : Type 0 where
  pub from : t ≤ d
  pub within : d ≤ t + m
  pub before : (s : ℕ) → t ≤ s → s < d → 0 < get_or (state_at T start s) i 0
  pub there : d < t + m → get_or (state_at T start d) i 0 ≡ 0

module _ (T : Traffic) (start : List ℕ) where
  pub delivered_first : (i m t : ℕ) → First T start i m t (delivered_from T start i m t)
  unfolding delivered_from under_way
  delivered_first i zero t =
      record {
        from = omega arith;
        within = omega arith;
        before = λ s k l. absurd (omega arith);
        there = λ l. absurd (omega arith);
      }
  delivered_first i (suc m) t = go (under_way (state_at T start t) i) refl (delivered_first i m (suc t))
    where
      later : ℕ
      later = delivered_from T start i m (suc t)

      go : (b : Bool) → under_way (state_at T start t) i ≡ b → First T start i m (suc t) later
          → First T start i (suc m) t (cond b later t)
      go true e rest =
          record {
            from = omega (arith, rest.from);
            within = omega (arith, rest.within);
            before = λ s k l. at_or_after s k l (dec_lt t s);
            there = λ l. rest.there (omega arith);
          }
        where
          at_or_after : (s : ℕ) → t ≤ s → s < later → Dec (t < s) → 0 < get_or (state_at T start s) i 0
          at_or_after s k l (yes d) = rest.before s d l
          at_or_after s k l (no d) =
              let now : s ≡ t = omega arith in
              rw now (ltb-true 0 (get_or (state_at T start t) i 0) e)
      go false e rest =
          record {
            from = omega arith;
            within = omega arith;
            before = λ s k l. absurd (omega arith);
            there = λ l. omega (arith, ltb-false 0 (get_or (state_at T start t) i 0) e);
          }

  -- The plan of a run that ends with no late row delivers each row at the instant found for it, and not before.
  pub plan_delivers : (slots : ℕ) → ((i : ℕ) → i < length start → get_or T.due i 0 ≤ slots)
      → (stop_of T start slots).row ≡ 0
      → (i : ℕ) → i < length start → Delivered T start (plan_of T start slots) i (delivered_from T start i slots 0)
  plan_delivers slots dues on_time i known =
      record {
        there = rw (plan_state T start slots d (omega (arith, found.within))) (there (dec_lt d slots));
        not_before = λ t l.
            rw (plan_state T start slots t (omega (arith, found.within))) (found.before t (omega arith) l);
      }
    where
      d : ℕ
      d = delivered_from T start i slots 0

      end : ℕ
      end = (stop_of T start slots).slot.0

      found : First T start i slots 0 d
      found = delivered_first i slots 0

      all_there : get_or (state_at T start end) i 0 ≡ 0
      all_there = none_under_way (state_at T start end) (stop_delivered T start slots dues on_time) i

      there : Dec (d < slots) → get_or (state_at T start d) i 0 ≡ 0
      there (yes l) = found.there (omega arith)
      there (no l) =
          let late-enough : end ≤ d = omega (arith, (stop_first T start slots).within) in
          omega (arith, all_there, state_less T start i known end d late-enough)
