-- The judgement of a whole table.
--     judge_few, judge_wide, judge_many, judge_each      by the nodes, the number of rows, the rows and their cells
--     sound                         what is known of a well-formed table
--     table_refused, table_early    a table is refused by a number that is neither 0 nor 9
--     loaded_as                     of more than 512 rows none is looked at
-- Assumes nothing.
use mathlib.Core.Path.{◌≡◌, refl, subst}
use Prim.Native.Nat.{ℕ, ◌≤◌, ◌<◌}
use native.Mathlib.Omega.{arith}
use mathlib.Core.Bool.{Bool, true, false, cond, ◌||◌, or-true}
use mathlib.Core.List.{List}
use borrow.Author.Tests.{lt-ltb, le-ltb, ltb-true, ltb-false}
use lib.Dec.{ltb}
use lib.ListN.{length}
use Rattle.std.specs.Prelude.{Ok, Err}
use Rattle.table.specs.declared.Row.{Row}
use Rattle.table.specs.declared.Refusal.{Refusal}
use Rattle.table.specs.Table.{most_rows, most_cells, refuse, Verdict, judge_rows, cells_in, judge_all, judge, WellFormed}
use Rattle.table.proofs.Judging.{all_good, all_early}

module _ (n : ℕ) (rows : List Row) where
  pub judge_few : n < 2 → judge n rows ≡ Err (refuse 1 0 0)
  unfolding judge
  judge_few h = rw (lt-ltb n 2 h)

  pub judge_wide : 32 < n → judge n rows ≡ Err (refuse 1 0 0)
  unfolding judge
  judge_wide h = rw (lt-ltb 32 n h, or-true)

  pub judge_many : 2 ≤ n → n ≤ 32 → 512 < length rows → judge n rows ≡ Err (refuse 2 0 0)
  unfolding judge
  judge_many l m h = rw (le-ltb n 2 l, le-ltb 32 n m, lt-ltb 512 (length rows) h)

  pub judge_each : 2 ≤ n → n ≤ 32 → length rows ≤ 512 → judge n rows ≡ judge_all n rows
  unfolding judge
  judge_each l m h = rw (le-ltb n 2 l, le-ltb 32 n m, le-ltb 512 (length rows) h)

-- What a well-formed table is known to be.
pub record Sound (n : ℕ) (rows : List Row) : Type 0 where
  pub least : 2 ≤ n
  pub most : n ≤ 32
  pub few : length rows ≤ 512
  pub all : judge_all n rows ≡ Ok tt
  pub each : judge_rows n rows 0 ≡ Ok tt
  pub cells : cells_in rows ≤ most_cells

pub sound : (n : ℕ) (rows : List Row) → WellFormed n rows → Sound n rows
unfolding judge
sound n rows e = go (ltb n 2) refl (ltb 32 n) refl (ltb 512 (length rows)) refl e
  where
    go : (a : Bool) → ltb n 2 ≡ a → (b : Bool) → ltb 32 n ≡ b → (c : Bool) → ltb 512 (length rows) ≡ c
        → ◌≡◌ {A = Verdict} (cond (a || b) (Err (refuse 1 0 0)) (cond c (Err (refuse 2 0 0)) (judge_all n rows))) (Ok tt)
        → Sound n rows
    go true ha b hb c hc f = absurd cc
    go false ha true hb c hc f = absurd cc
    go false ha false hb true hc f = absurd cc
    go false ha false hb false hc f =
        record {
          least = ltb-false n 2 ha;
          most = ltb-false 32 n hb;
          few = ltb-false 512 (length rows) hc;
          all = f;
          each = (all_good n rows f).0;
          cells = (all_good n rows f).1;
        }

-- A table is refused by a number that is neither 0 nor that of a late table.
table_number : (n : ℕ) (rows : List Row) (x : Refusal) → judge n rows ≡ Err x → (0 < x.number) × (x.number ≡ 9 → ⊥)
unfolding judge
table_number n rows x e = go (ltb n 2 || ltb 32 n) (ltb most_rows (length rows)) e
  where
    go : (a b : Bool)
        → ◌≡◌ {A = Verdict} (cond a (Err (refuse 1 0 0)) (cond b (Err (refuse 2 0 0)) (judge_all n rows))) (Err x)
        → (0 < x.number) × (x.number ≡ 9 → ⊥)
    go true b h = let number : ◌≡◌ {A = ℕ} 1 x.number = cc in (omega arith, λ z. omega arith)
    go false true h = let number : ◌≡◌ {A = ℕ} 2 x.number = cc in (omega arith, λ z. omega arith)
    go false false h = let early = all_early n rows x h in (omega (arith, early.0), early.1)

-- A refusal of the table has a number other than 0.
pub table_refused : (n : ℕ) (rows : List Row) (x : Refusal) → judge n rows ≡ Err x → x.number ≡ 0 → ⊥
table_refused n rows x e z = omega (arith, (table_number n rows x e).0)

-- No table is refused as late before it is planned.
pub table_early : (n : ℕ) (rows : List Row) (x : Refusal) → judge n rows ≡ Err x → x.number ≡ 9 → ⊥
table_early n rows x e = (table_number n rows x e).1

-- Of more than 512 rows none is looked at. So what is said of 513 of them is said of all that were lent, where of a
-- refused table only the refusal counts.
module _ (n : ℕ) (Said : List Row → Type 0)
    (counts : (x : Refusal) (given lent : List Row) → judge n given ≡ Err x → judge n lent ≡ Err x
    → Said given → Said lent) where
  too_many : (rows : List Row) → 512 < length rows
      → judge n rows ≡ Err (refuse (cond (ltb n 2 || ltb 32 n) 1 2) 0 0)
  unfolding judge
  too_many rows l = go (ltb n 2 || ltb 32 n)
    where
      go : (b : Bool)
          → ◌≡◌ {A = Verdict}
          (cond b (Err (refuse 1 0 0)) (cond (ltb most_rows (length rows)) (Err (refuse 2 0 0)) (judge_all n rows)))
          (Err (refuse (cond b 1 2) 0 0))
      go true = refl
      go false = rw (lt-ltb most_rows (length rows) l)

  pub loaded_as : (given lent : List Row) → (length lent ≤ 512 → given ≡ lent)
      → (512 < length lent → 512 < length given) → Said given → Said lent
  loaded_as given lent few many said = go (ltb 512 (length lent)) refl
    where
      go : (t : Bool) → ltb 512 (length lent) ≡ t → Said lent
      go true e =
          let lots : 512 < length lent = ltb-true 512 (length lent) e in
          counts _ given lent (too_many given (many lots)) (too_many lent lots) said
      go false e = subst Said (few (ltb-false 512 (length lent) e)) said
