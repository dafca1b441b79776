-- The search for the first bad row: the whole judgement is that of the rows from row i on.
--     never_good                             a refusal is no praise
--     judge_here, judge_next, judge_end      row i is bad; it is good; there is no row any more
--     good_rows                              every row of a table without a bad row is good
--     all_bad, all_many, all_few              a bad row, too many cells, neither: the verdict on rows and cells
--     all_good                               what is known of a table that is let through
--     judged_early                           no table is refused as late before it is planned
-- Assumes nothing.
use mathlib.Core.Path.{◌≡◌, refl, ◌∙◌, subst}
use Prim.Native.Nat.{ℕ, zero, suc, ◌+◌, ◌≤◌, ◌<◌}
use native.Mathlib.Numerals.{add-one}
use native.Mathlib.Omega.{arith}
use borrow.Author.Tests.{lt-ltb, le-ltb, leb-false, eqb-false, ltb-false}
use lib.Dec.{leb, ltb, eqb}
use mathlib.Core.Bool.{Bool, true, false, cond, ◌||◌}
use mathlib.Core.List.{List, [], ◌∷◌}
use lib.ListN.{length, get_or, drop, drop_of_length-le}
use lib.Seq.{drop-cons}
use Rattle.std.specs.Prelude.{Result, Ok, Err}
use Rattle.table.specs.declared.Row.{Row}
use Rattle.table.specs.declared.Refusal.{Refusal}
use Rattle.table.specs.Table.{latest_due, most_length, most_cells, refuse, Verdict, row_refusal, after_row, judge_rows}
use Rattle.table.specs.Table.{after_rows, judge_all, cells_in}
use Rattle.table.specs.Steps.{none}

-- A refusal is no praise.
pub never_good : (x : Refusal) → ◌≡◌ {A = Verdict} (Err x) (Ok tt) → ⊥
never_good x e = absurd cc

module _ (n : ℕ) (rows : List Row) (i : ℕ) where
  pub judge_here : (number : ℕ) → i < length rows → row_refusal n (get_or rows i none) ≡ Err number
      → judge_rows n (drop i rows) i ≡ Err (refuse number (i + 1) 0)
  unfolding judge_rows after_row
  judge_here number h bad = rw (drop-cons rows i none h, bad, add-one)

  pub judge_next : i < length rows → row_refusal n (get_or rows i none) ≡ Ok tt
      → judge_rows n (drop i rows) i ≡ judge_rows n (drop (i + 1) rows) (i + 1)
  unfolding judge_rows after_row
  judge_next h good = rw (drop-cons rows i none h, good, add-one)

  pub judge_end : length rows ≤ i → judge_rows n (drop i rows) i ≡ Ok tt
  unfolding judge_rows
  judge_end h = rw (drop_of_length-le rows h)

-- A row that no refusal holds of.
pub record GoodRow (n : ℕ) (r : Row) : Type 0 where
  pub src_inside : r.src < n
  pub dst_inside : r.dst < n
  pub len_some : 0 < r.len
  pub len_most : r.len ≤ most_length
  pub due_some : 0 < r.due
  pub due_most : r.due ≤ latest_due

pub good_row : (n : ℕ) (r : Row) → row_refusal n r ≡ Ok tt → GoodRow n r
unfolding row_refusal
good_row n r e =
    go (leb n r.src) refl (leb n r.dst) refl (eqb r.len 0) refl
    (ltb most_length r.len) refl (eqb r.due 0) refl (ltb latest_due r.due) refl e
  where
    go : (a : Bool) → leb n r.src ≡ a → (b : Bool) → leb n r.dst ≡ b
        → (g : Bool) → eqb r.len 0 ≡ g → (h : Bool) → ltb most_length r.len ≡ h
        → (d : Bool) → eqb r.due 0 ≡ d → (f : Bool) → ltb latest_due r.due ≡ f
        → ◌≡◌ {A = Result Unit ℕ}
        (cond a (Err 3) (cond b (Err 4) (cond (g || h) (Err 10) (cond (d || f) (Err 6) (Ok tt))))) (Ok tt)
        → GoodRow n r
    go true ha b hb g hg h hh d hd f hf z = absurd cc
    go false ha true hb g hg h hh d hd f hf z = absurd cc
    go false ha false hb true hg h hh d hd f hf z = absurd cc
    go false ha false hb false hg true hh d hd f hf z = absurd cc
    go false ha false hb false hg false hh true hd f hf z = absurd cc
    go false ha false hb false hg false hh false hd true hf z = absurd cc
    go false ha false hb false hg false hh false hd false hf z =
        record {
          src_inside = leb-false n r.src ha;
          dst_inside = leb-false n r.dst hb;
          len_some = omega (arith, eqb-false r.len 0 hg);
          len_most = ltb-false most_length r.len hh;
          due_some = omega (arith, eqb-false r.due 0 hd);
          due_most = ltb-false latest_due r.due hf;
        }

-- Every row of a table without a bad row is good.
pub good_rows : (n : ℕ) (rows : List Row) (above : ℕ) → judge_rows n rows above ≡ Ok tt → (i : ℕ) → i < length rows
    → GoodRow n (get_or rows i none)
unfolding judge_rows after_row
good_rows n [] above e i h = absurd (omega arith)
good_rows n (r ∷ rs) above e i h = go (row_refusal n r) refl e i h (good_rows n rs (suc above))
  where
    go : (k : Result Unit ℕ) → row_refusal n r ≡ k
        → after_row k (suc above) (judge_rows n rs (suc above)) ≡ Ok tt → (i : ℕ)
        → i < suc (length rs)
        → (judge_rows n rs (suc above) ≡ Ok tt → (j : ℕ) → j < length rs → GoodRow n (get_or rs j none))
        → GoodRow n (get_or (r ∷ rs) i none)
    go (Ok tt) k z zero l rest = good_row n r k
    go (Ok tt) k z (suc j) l rest = rest z j (omega arith)
    go (Err m) k z j l rest = absurd cc

-- ---- a bad row is refused by a number that is neither 0 nor 9
-- The numbers by which a row is refused.
pub record OfRow (number : ℕ) : Type 0 where
  pub least : 3 ≤ number
  pub most : number ≤ 10
  pub early : number ≡ 9 → ⊥

pub bad_row : (n : ℕ) (x : Row) (number : ℕ) → row_refusal n x ≡ Err number → OfRow number
unfolding row_refusal
bad_row n x number =
    go (leb n x.src) (leb n x.dst) (eqb x.len 0 || ltb most_length x.len)
    (eqb x.due 0 || ltb latest_due x.due)
  where
    is : (m : ℕ) → 3 ≤ m → m ≤ 10 → (m ≡ 9 → ⊥) → ◌≡◌ {A = Result Unit ℕ} (Err m) (Err number) → OfRow number
    is m l u never e = let same : m ≡ number = cc in record { least = omega arith; most = omega arith; early = λ z. never (same ∙ z) }

    go : (a b c d : Bool) → ◌≡◌ {A = Result Unit ℕ}
        (cond a (Err 3) (cond b (Err 4) (cond c (Err 10) (cond d (Err 6) (Ok tt))))) (Err number) → OfRow number
    go true b c d z = is 3 (omega arith) (omega arith) (λ e. omega arith) z
    go false true c d z = is 4 (omega arith) (omega arith) (λ e. omega arith) z
    go false false true d z = is 10 (omega arith) (omega arith) (λ e. omega arith) z
    go false false false true z = is 6 (omega arith) (omega arith) (λ e. omega arith) z
    go false false false false z = absurd cc

pub bad_rows : (n : ℕ) (rows : List Row) (above : ℕ) (r : Refusal) → judge_rows n rows above ≡ Err r → OfRow r.number
unfolding judge_rows after_row
bad_rows n [] above r e = absurd cc
bad_rows n (x ∷ rows) above r e = go (row_refusal n x) refl e (bad_rows n rows (suc above) r)
  where
    go : (k : Result Unit ℕ) → row_refusal n x ≡ k
        → after_row k (suc above) (judge_rows n rows (suc above)) ≡ Err r
        → (judge_rows n rows (suc above) ≡ Err r → OfRow r.number) → OfRow r.number
    go (Ok _) h f rest = rest f
    go (Err m) h f rest = let is : refuse m (suc above) 0 ≡ r = cc in subst (λ (q : Refusal). OfRow q.number) is (bad_row n x m h)

-- ---- the rows, and then their cells
module _ (n : ℕ) (rows : List Row) where
  pub all_bad : {r : Refusal} → judge_rows n rows 0 ≡ Err r → judge_all n rows ≡ Err r
  unfolding judge_all after_rows
  all_bad e = rw e

  pub all_many : judge_rows n rows 0 ≡ Ok tt → most_cells < cells_in rows → judge_all n rows ≡ Err (refuse 11 0 0)
  unfolding judge_all after_rows
  all_many e h = rw (e, lt-ltb most_cells (cells_in rows) h)

  pub all_few : judge_rows n rows 0 ≡ Ok tt → cells_in rows ≤ most_cells → judge_all n rows ≡ Ok tt
  unfolding judge_all after_rows
  all_few e h = rw (e, le-ltb most_cells (cells_in rows) h)

  -- A table that is let through has no bad row, and no more cells than it may have.
  pub all_good : judge_all n rows ≡ Ok tt → (judge_rows n rows 0 ≡ Ok tt) × (cells_in rows ≤ most_cells)
  unfolding judge_all after_rows
  all_good = go (judge_rows n rows 0)
    where
      few : (b : Bool) → ltb most_cells (cells_in rows) ≡ b
          → ◌≡◌ {A = Verdict} (cond b (Err (refuse 11 0 0)) (Ok tt)) (Ok tt) → cells_in rows ≤ most_cells
      few true h e = absurd cc
      few false h e = ltb-false most_cells (cells_in rows) h

      go : (v : Verdict) → after_rows v (cells_in rows) ≡ Ok tt → (v ≡ Ok tt) × (cells_in rows ≤ most_cells)
      go (Ok tt) e = (refl, few (ltb most_cells (cells_in rows)) refl e)
      go (Err r) e = absurd cc

  -- A refusal of the rows and their cells has a number of 3 to 11, and not that of a late table.
  pub all_early : (r : Refusal) → judge_all n rows ≡ Err r → (3 ≤ r.number) × (r.number ≡ 9 → ⊥)
  unfolding judge_all after_rows
  all_early r e = go (judge_rows n rows 0) refl e
    where
      many : (b : Bool) → ◌≡◌ {A = Verdict} (cond b (Err (refuse 11 0 0)) (Ok tt)) (Err r)
          → (3 ≤ r.number) × (r.number ≡ 9 → ⊥)
      many true e = let is : 11 ≡ r.number = cc in (omega arith, λ z. omega arith)
      many false e = absurd cc

      go : (v : Verdict) → judge_rows n rows 0 ≡ v → after_rows v (cells_in rows) ≡ Err r
          → (3 ≤ r.number) × (r.number ≡ 9 → ⊥)
      go (Ok _) h e = many (ltb most_cells (cells_in rows)) e
      go (Err x) h e =
          let is : x ≡ r = cc in
          let bad = bad_rows n rows 0 r (h ∙ e) in (omega (arith, bad.least), bad.early)

  -- No table is refused as late by its rows and cells alone.
  pub judged_early : (r : Refusal) → judge_all n rows ≡ Err r → r.number ≡ 9 → ⊥
  judged_early r e z = (all_early r e).1 z
