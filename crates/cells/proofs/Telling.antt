-- A plan of cells, told in rows.
--     numbered                         the row of one cell
--     told_long, told_joined           a plan told in rows is as long, and is told part by part
--     told_idle                        idle links stay idle
--     cell_named                       only no cell at all is told as row 0
--     slot_at_most, plan_at_most       a slot or a plan of the rule names no cell that there is not, as telling it asks
--     stop_cell                        nor does a run end with one
-- Assumes nothing.
use mathlib.Core.Path.{◌≡◌, refl, ap, sym}
use Prim.Native.Nat.{ℕ, zero, suc, ◌+◌, ◌-◌, ◌≤◌, ◌<◌}
use native.Mathlib.Nat.{not-suc-le-zero}
use native.Mathlib.Omega.{arith}
use native.Mathlib.Decide.{dec_lt}
use mathlib.Core.List.{List, [], ◌∷◌, ◌++◌}
use lib.ListN.{length, get_or, replicate, length-map, length-append, get_or-append}
use lib.Seq.{get_or-append-add}
use Rattle.std.proofs.lemmas.List.{get_or-map}
use Rattle.slack.specs.declared.Cell.{Cell}
use Rattle.slack.specs.Slack.{owners_in, Traffic, pick, slot_of, state_at, plan_of, late_row, stop_of}
use Rattle.slack.proofs.Rule.{pick_least, slot_length, slot_entry, state_length, late_lowest}
use Rattle.slack.proofs.Ending.{stop_first}
use Rattle.cells.specs.Cells.{owner_of, told_by}
use Rattle.cells.specs.Steps.{AtMost, AboveZero}

-- The row of a cell by its number.
pub numbered : (cells : List Cell) (cell : ℕ) (none : Cell) → 0 < cell → cell ≤ length cells
    → (get_or cells (cell - 1) none).row ≡ owner_of (owners_in cells) cell
unfolding owner_of owners_in
numbered cells zero none l m = absurd (not-suc-le-zero l)
numbered cells (suc c) none l m =
    let e : suc c - 1 ≡ c = omega arith in
    rw e (sym (get_or-map (λ (x : Cell). x.row) cells c none 0 (omega arith)))

module _ (owner : List ℕ) where
  pub told_long : (plan : List ℕ) → length (told_by owner plan) ≡ length plan
  unfolding told_by
  told_long plan = length-map plan (owner_of owner)

  pub told_joined : (xs ys : List ℕ) → told_by owner (xs ++ ys) ≡ told_by owner xs ++ told_by owner ys
  unfolding told_by
  told_joined [] ys = refl
  told_joined (x ∷ xs) ys = ap {B = List ℕ} (λ l. owner_of owner x ∷ l) (told_joined xs ys)

  pub told_idle : (n : ℕ) → told_by owner (replicate {A = ℕ} n 0) ≡ replicate {A = ℕ} n 0
  unfolding told_by owner_of
  told_idle zero = refl
  told_idle (suc n) = ap {B = List ℕ} (λ l. 0 ∷ l) (told_idle n)

  -- Where each owner is a row, only no cell at all is told as row 0.
  pub cell_named : AboveZero owner → (cell : ℕ) → cell ≤ length owner → owner_of owner cell ≡ 0 → cell ≡ 0
  unfolding owner_of
  cell_named rows zero l e = refl
  cell_named rows (suc c) l e = absurd (omega (arith, rows c l))

  pub none_named : owner_of owner 0 ≡ 0
  unfolding owner_of
  none_named = refl

pub slot_at_most : (T : Traffic) (t : ℕ) (left : List ℕ) → AtMost (length left) (slot_of T t left)
slot_at_most T t left p l = go (pick T t left p (length left)) refl
  where
    inside : p < T.nodes
    inside = omega (arith, slot_length T t left)

    go : (n : ℕ) → pick T t left p (length left) ≡ n → get_or (slot_of T t left) p 0 ≤ length left
    go zero e = omega (arith, slot_entry T t left p inside)
    go (suc i) e = omega (arith, slot_entry T t left p inside, (pick_least T t left p (length left) i e).inside)

both_at_most : (m : ℕ) (xs ys : List ℕ) → AtMost m xs → AtMost m ys → AtMost m (xs ++ ys)
both_at_most m xs ys a b k l = go (dec_lt k (length xs))
  where
    go : Dec (k < length xs) → get_or (xs ++ ys) k 0 ≤ m
    go (yes d) = rw (get_or-append xs ys 0 k d) (a k d)
    go (no d) =
        let e : k ≡ length xs + (k - length xs) = omega arith in
        let there : k - length xs < length ys = omega (arith, length-append xs ys) in
        rw (e, get_or-append-add xs ys (k - length xs) 0) (b (k - length xs) there)

pub plan_at_most : (T : Traffic) (start : List ℕ) (slots : ℕ) → AtMost (length start) (plan_of T start slots)
unfolding plan_of
plan_at_most T start zero = λ k l. absurd (omega arith)
plan_at_most T start (suc t) =
    both_at_most (length start) (plan_of T start t) (slot_of T t (state_at T start t)) (plan_at_most T start t)
    (rw (state_length T start t) at (slot_at_most T t (state_at T start t)))

-- A run ends with a cell that there is, or with none.
pub stop_cell : (T : Traffic) (start : List ℕ) (slots : ℕ) → (stop_of T start slots).row ≤ length start
stop_cell T start slots = go (stop_of T start slots).row (sym (stop_first T start slots).row_is)
  where
    end : ℕ
    end = (stop_of T start slots).slot.0

    go : (r : ℕ) → late_row T end (state_at T start end) ≡ r → r ≤ length start
    go zero e = omega arith
    go (suc c) e = omega (arith, (late_lowest T end (state_at T start end) c e).inside, state_length T start end)
