-- How many looks a run takes, cell by cell.
--     looks_by_cells                the looks at the first t instants, summed up over the cells
--     looked                        how often a cell was looked at, as code counts it
--     seen_waiting, seen_there      how often a cell is looked at that is still under way, and one that is delivered
--     looks_are_instants            where no cell is late the looks are the sum of all delivery instants
--     looks_bounded                 there are never more than cells × (slots + 1)
-- Assumes nothing.
use mathlib.Core.Path.{◌≡◌, refl, ◌∙◌, ap}
use Prim.Native.Nat.{ℕ, zero, suc, ◌+◌, ◌-◌, ◌*◌, ◌≤◌, ◌<◌}
use native.Mathlib.Nat.{mul-le-mul_left, mul-suc, mul-zero}
use native.Mathlib.Omega.{arith, by_contra}
use native.Mathlib.Decide.{dec_lt}
use mathlib.Core.Bool.{Bool, true, false, cond}
use mathlib.Core.List.{List, [], ◌∷◌}
use borrow.Author.Tests.{lt-ltb, le-ltb}
use lib.Dec.{eqb, ltb}
use lib.ListN.{length, get_or}
use Rattle.lists.specs.Lists.{build, total}
use Rattle.lists.proofs.Build.{build_ext}
use Rattle.lists.proofs.Sums.{total_both, total_same}
use Rattle.slack.specs.Slack.{Traffic, under_way, state_at, delivered_from, arrivals_of, stop_of}
use Rattle.slack.proofs.Rule.{state_length, state_less, none_under_way}
use Rattle.slack.proofs.Ending.{stop_first, stop_delivered}
use Rattle.optimal.specs.Schedule.{busy}
use Rattle.optimal.proofs.Deliveries.{First, delivered_first}
use Rattle.cells.specs.Looks.{looks_to, looks_of}

-- The entries above 0, as a sum of ones.
busy_sum : (xs : List ℕ) → busy xs ≡ total (build (length xs) (λ i. cond (ltb 0 (get_or xs i 0)) 1 0))
unfolding busy total
busy_sum [] = refl
busy_sum (x ∷ xs) = omega (arith, busy_sum xs)

busy_most : (xs : List ℕ) → busy xs ≤ length xs
unfolding busy
busy_most [] = omega arith
busy_most (x ∷ xs) = omega (arith, busy_most xs, one (ltb 0 x))
  where
    one : (b : Bool) → cond b 1 0 ≤ 1
    one true = omega arith
    one false = omega arith

-- How often cell j was looked at, from what a run left.
abbrev pub looked : (left stamps : List ℕ) (all j : ℕ) → ℕ
looked left stamps all j = cond (eqb (get_or left j 0) 0) (get_or stamps j 0) all

module _ (T : Traffic) (start : List ℕ) where
  -- The links that cell i has to go at instant t.
  abbrev togo : ℕ → ℕ → ℕ
  togo t i = get_or (state_at T start t) i 0

  -- How often cell i is looked at, at the first t instants.
  unfoldable pub seen : ℕ → ℕ → ℕ
  seen zero i = 0
  seen (suc t) i = seen t i + cond (under_way (state_at T start t) i) 1 0

  -- The looks at the first t instants, summed up over the cells.
  pub looks_by_cells : (t : ℕ) → looks_to T start t ≡ total (build (length start) (seen t))
  unfolding looks_to seen under_way
  looks_by_cells zero = omega (arith, total_same (length start) 0, mul-zero (length start))
  looks_by_cells (suc t) =
      omega (
        arith,
        looks_by_cells t,
        rw (state_length T start t) at (busy_sum (state_at T start t)),
        total_both (length start) (seen t) (λ i. cond (ltb 0 (togo t i)) 1 0),
      )

  -- A cell that is under way at all of them is looked at at all of them.
  pub seen_waiting : (i t : ℕ) → ((s : ℕ) → s < t → 0 < togo s i) → seen t i ≡ t
  unfolding seen under_way
  seen_waiting i zero under_way_lem = refl
  seen_waiting i (suc t) under_way_lem =
      rw (lt-ltb 0 (togo t i) (under_way_lem t (omega arith)))
      (omega (arith, seen_waiting i t (λ s l. under_way_lem s (omega arith))))

  later : (i d k : ℕ) → i < length start → ((s : ℕ) → s < d → 0 < togo s i) → togo d i ≡ 0 → seen (d + k) i ≡ d
  unfolding seen under_way
  later i d zero known under_way_lem there =
      let e : d + 0 ≡ d = omega arith in
      rw e (seen_waiting i d under_way_lem)
  later i d (suc k) known under_way_lem there =
      let e : d + suc k ≡ suc (d + k) = omega arith in
      let gone : togo (d + k) i ≤ 0 = omega (arith, state_less T start i known d (d + k) (omega arith)) in
      rw (e, le-ltb 0 (togo (d + k) i) gone) (omega (arith, later i d k known under_way_lem there))

  -- One that is delivered at d, and not before, is looked at d times.
  pub seen_there : (i d t : ℕ) → i < length start → ((s : ℕ) → s < d → 0 < togo s i) → togo d i ≡ 0 → d ≤ t
      → seen t i ≡ d
  seen_there i d t known under_way_lem there l =
      let e : t ≡ d + (t - d) = omega arith in
      ap (λ s. seen s i) e ∙ later i d (t - d) known under_way_lem there

  module _ (slots end : ℕ) (within : end ≤ slots) (All-there : (i : ℕ) → togo end i ≡ 0) where
    -- Where all cells are delivered at some instant, the looks up to it are the sum of their delivery instants.
    looks_to_end : looks_to T start (suc end) ≡ total (arrivals_of T start slots)
    unfolding arrivals_of
    looks_to_end =
        looks_by_cells (suc end)
        ∙ ap total (build_ext (length start) (seen (suc end)) (λ i. delivered_from T start i slots 0) each)
      where
        each : (i : ℕ) → i < length start → seen (suc end) i ≡ delivered_from T start i slots 0
        each i known = seen_there i d (suc end) known earlier there (omega (arith, soon))
          where
            d : ℕ
            d = delivered_from T start i slots 0

            first : First T start i slots 0 d
            first = delivered_first T start i slots 0

            earlier : (s : ℕ) → s < d → 0 < togo s i
            earlier s l = first.before s (omega arith) l

            soon : d ≤ end
            soon = by_contra d end (λ late. omega (arith, earlier end late, All-there i))

            there : togo d i ≡ 0
            there = go (dec_lt d slots)
              where
                go : Dec (d < slots) → togo d i ≡ 0
                go (yes l) = first.there (omega arith)
                go (no l) =
                    let same : d ≡ end = omega (arith, soon) in
                    rw same (All-there i)

-- Where no cell is late the looks are the sum of all delivery instants.
pub looks_are_instants : (T : Traffic) (start : List ℕ) (slots : ℕ)
    → ((i : ℕ) → i < length start → get_or T.due i 0 ≤ slots) → (stop_of T start slots).row ≡ 0
    → looks_of T start slots ≡ total (arrivals_of T start slots)
unfolding looks_of
looks_are_instants T start slots dues on_time =
    looks_to_end T start slots (stop_of T start slots).slot.0 (stop_first T start slots).within
    (none_under_way (state_at T start (stop_of T start slots).slot.0) (stop_delivered T start slots dues on_time))

-- There are never more than cells × (slots + 1).
pub looks_bounded : (T : Traffic) (start : List ℕ) (slots : ℕ) → looks_of T start slots ≤ length start * suc slots
unfolding looks_of looks_to
looks_bounded T start slots =
    let ends : suc (stop_of T start slots).slot.0 ≤ suc slots = omega (arith, (stop_first T start slots).within) in
    omega (arith, up_to (suc (stop_of T start slots).slot.0), mul-le-mul_left (length start) ends)
  where
    up_to : (t : ℕ) → looks_to T start t ≤ length start * t
    up_to zero = omega arith
    up_to (suc t) =
        omega (arith, up_to t, busy_most (state_at T start t), state_length T start t, mul-suc (length start) t)
