-- The outcomes of opening, of an edit and of asking for a row, as the code meets them.
--     wrong_none, wrong_some                        what a verdict says of what is wrong
--     told                                          a verdict that is known
--     add_roomy, there_to_remove, there_to_change   what an edit that is not refused shows of the area
--     coming_number                                 an added row is named under its coming number
--     refused_edit, good_edit, refused_opening, good_opening, no_entry, an_entry      the outcomes
-- Assumes nothing.
use mathlib.Core.Path.{◌≡◌, refl, sym, ◌∙◌, ap}
use mathlib.Core.Bool.{Bool, true, false, cond, ◌||◌}
use mathlib.Core.List.{List, [], ◌∷◌, ◌++◌}
use Prim.Native.Nat.{ℕ, suc, ◌+◌, ◌*◌, ◌-◌, ◌≤◌, ◌<◌, min}
use native.Mathlib.Omega.{arith}
use borrow.Author.Tests.{lt-ltb, ltb-true, ltb-false}
use lib.Dec.{eqb, ltb}
use lib.ListN.{length, replicate, set, replicate-append-replicate}
use Rattle.std.proofs.Common.{Result, Ok, Err, is_ok}
use Rattle.lists.proofs.Build.{build_const}
use Rattle.table.specs.declared.Row.{Row}
use Rattle.table.specs.declared.Refusal.{Refusal}
use Rattle.table.specs.Table.{most_rows, Verdict, row_refusal}
use Rattle.area.specs.Area.{most_links, row_width, room, load, numbers, laid, area_of, nodes_in, count_in, row_in}
use Rattle.edit_judge.specs.Judge.{Edit, Add, Change, Remove, first_of, size_refusal, refusal_of, row_named, answer_by}
use Rattle.edit_judge.specs.Judge.{verdict_by}
use Rattle.edit_judge.proofs.Refusals.{Sized, Fits, edit_fits}
use Rattle.edit_store.specs.Store.{edited}
use Rattle.edit_store.specs.Steps.{Roomy, There}
use Rattle.edit.specs.Edit.{edit_refusal, about_row, area_after, Opened, Edited, entry_of}

-- A verdict that is good has nothing wrong behind it, and one that refuses has something.
pub wrong_none : (wrong : Result Unit ℕ) (row : ℕ) → verdict_by wrong row ≡ Ok tt → wrong ≡ Ok tt
unfolding answer_by
wrong_none (Ok _) row e = refl
wrong_none (Err _) row e = absurd cc

pub wrong_some : (wrong : Result Unit ℕ) (row : ℕ) {x : Refusal} → verdict_by wrong row ≡ Err x → is_ok wrong ≡ false
unfolding answer_by
wrong_some (Ok _) row e = absurd cc
wrong_some (Err _) row e = refl

-- A verdict that is known, told of what is wrong by its definition.
pub told : {v v' : Verdict} {wrong wrong' : Result Unit ℕ} (row : ℕ)
    → v ≡ verdict_by wrong row → wrong ≡ wrong' → v ≡ v' → verdict_by wrong' row ≡ v'
told row is so known = ap (λ (w : Result Unit ℕ). verdict_by w row) (sym so) ∙ sym is ∙ known

-- What an edit that is not refused shows of a whole area.
module _ (s : List ℕ) (whole : length s ≡ room) where
  pub add_roomy : (r : Row) → edit_refusal s (Add r) ≡ Ok tt → Roomy s
  unfolding Fits
  add_roomy r h =
      let fits = edit_fits (nodes_in s) (count_in s) (Add r) h in
      record { whole = whole; on_ring = fits.0.most; more = fits.1.0 }

  there : (k : ℕ) → Sized (nodes_in s) (count_in s) → (0 < k) × (k ≤ count_in s) → There s k
  there k size at = record { whole = whole; on_ring = size.most; few = size.few; first = at.0; last = at.1 }

  pub there_to_remove : (k : ℕ) → edit_refusal s (Remove k) ≡ Ok tt → There s k
  unfolding Fits
  there_to_remove k h =
      let fits = edit_fits (nodes_in s) (count_in s) (Remove k) h in
      there k fits.0 fits.1

  pub there_to_change : (k : ℕ) (r : Row) → edit_refusal s (Change k r) ≡ Ok tt → There s k
  unfolding Fits
  there_to_change k r h =
      let fits = edit_fits (nodes_in s) (count_in s) (Change k r) h in
      there k fits.0 fits.1.0

-- A table that is larger than a table may be is refused by its size, about no row.
large_refused : (n count row : ℕ) (r : Row) → most_rows < count
    → verdict_by (refusal_of n count (Add r)) row ≡ verdict_by (refusal_of n count (Add r)) (suc count)
unfolding refusal_of first_of size_refusal row_named answer_by
large_refused n count row r h = go (ltb n 2 || ltb most_links n)
  where
    rest : Result Unit ℕ
    rest = first_of (cond (eqb count most_rows) (Err 2) (Ok tt)) (row_refusal n r)

    why : Bool → Result Unit ℕ
    why b = first_of (cond b (Err 1) (cond (ltb most_rows count) (Err 2) (Ok tt))) rest

    go : (b : Bool) → verdict_by (why b) row ≡ verdict_by (why b) (suc count)
    go true = refl
    go false = rw (lt-ltb most_rows count h)

-- An added row is named under its coming number.
pub coming_number : (n count : ℕ) (r : Row)
    → verdict_by (refusal_of n count (Add r)) (min (count + 1) 65535) ≡ verdict_by (refusal_of n count (Add r)) (suc count)
coming_number n count r = go (ltb count 65535) refl
  where
    go : (b : Bool)
        → ltb count 65535 ≡ b
        → verdict_by (refusal_of n count (Add r)) (min (count + 1) 65535) ≡ verdict_by (refusal_of n count (Add r)) (suc count)
    go true e =
        let held : min (count + 1) 65535 ≡ suc count = omega (arith, ltb-true count 65535 e) in
        ap (verdict_by (refusal_of n count (Add r))) held
    go false e = large_refused n count (min (count + 1) 65535) r (omega (arith, ltb-false count 65535 e))

-- The outcome of an edit, refused and not.
module _ (s : List ℕ) (e : Edit) (row : ℕ) where
  pub refused_edit : {x : Refusal}
      → verdict_by (edit_refusal s e) row ≡ verdict_by (edit_refusal s e) (about_row s e)
      → verdict_by (edit_refusal s e) row ≡ Err x
      → Edited s e (Err x) s
  unfolding area_after
  refused_edit names is =
      record { answers = sym is ∙ names; fills = rw (wrong_some (edit_refusal s e) row is) }

  pub good_edit : {s' : List ℕ} → verdict_by (edit_refusal s e) row ≡ Ok tt → s' ≡ edited s e → Edited s e (Ok tt) s'
  unfolding answer_by area_after
  good_edit is so = let none = wrong_none (edit_refusal s e) row is in record { answers = rw none; fills = rw none so }

-- An area of zeros in which the nodes are noted is that of no rows.
empty_area : (n : ℕ) → area_of n [] ≡ n ∷ 0 ∷ (replicate most_links 0 ++ replicate (row_width * most_rows) 0)
unfolding area_of laid load numbers
empty_area n =
    ap (λ (l : List ℕ). n ∷ 0 ∷ (l ++ replicate (row_width * most_rows) 0)) (build_const most_links 0)

cleared : (n a b : ℕ) → set (replicate (suc (suc (a + b))) 0) 0 n ≡ n ∷ 0 ∷ (replicate a 0 ++ replicate b 0)
cleared n a b = ap {B = List ℕ} (λ l. n ∷ 0 ∷ l) (sym (replicate-append-replicate a b 0))

-- The outcome of opening.
module _ (n : ℕ) (s : List ℕ) where
  pub refused_opening : {x : Refusal} → verdict_by (size_refusal n 0) 0 ≡ Err x → Opened n s (Err x) s
  refused_opening is = record { answers = sym is; fills = rw (wrong_some (size_refusal n 0) 0 is) }

  pub good_opening : {zeros : List ℕ}
      → verdict_by (size_refusal n 0) 0 ≡ Ok tt
      → length s ≡ room
      → zeros ≡ replicate {A = ℕ} (length s) 0
      → Opened n s (Ok tt) (set zeros 0 n)
  good_opening {zeros} is whole so =
      record { answers = sym is; fills = rw (wrong_none (size_refusal n 0) 0 is) (opened zeros (so ∙ rw whole)) }
    where
      opened : (zeros : List ℕ) → zeros ≡ replicate {A = ℕ} room 0 → set zeros 0 n ≡ area_of n []
      opened zeros is = rw is (cleared n most_links (row_width * most_rows)) ∙ sym (empty_area n)

-- A row that is asked for.
module _ (s : List ℕ) (k : ℕ) where
  pub no_entry : {x : Refusal} → verdict_by (edit_refusal s (Remove k)) k ≡ Err x → Err x ≡ entry_of s k
  unfolding entry_of answer_by
  no_entry is = go (edit_refusal s (Remove k)) is
    where
      go : {x : Refusal} (wrong : Result Unit ℕ) → verdict_by wrong k ≡ Err x → Err x ≡ answer_by wrong k (row_in s (k - 1))
      go (Ok _) e = absurd cc
      go (Err _) e = cc

  pub an_entry : {r : Row} → verdict_by (edit_refusal s (Remove k)) k ≡ Ok tt → r ≡ row_in s (k - 1) → Ok r ≡ entry_of s k
  unfolding entry_of answer_by
  an_entry is so = rw (wrong_none (edit_refusal s (Remove k)) k is, so)
