-- What follows of every outcome that fits the promise of an entry point, and of every list of edits.
--     one_opening, one_edit          two outcomes that fit a promise are equal
--     edits_make_rows                after any edits the area is that of the rows edited, every number of it
--     rows_are_those_entered         its rows are those entered
--     counts_are_fresh               its counts are those that counting afresh gives
--     no_count_overflows             no count is above 512 times 64
--     edited_is_well_formed          an edited table is never refused with 1 to 6 or 10; 11 comes by its cells alone
--     sizes_stay_good                its sizes are never refused
--     loads_are_sends                all its counts together are its sends: length times distance, over its rows
--     refused_changes_nothing        a refused edit leaves the area as it was
--     refused_opening_leaves, refused_edit_leaves      the same of an outcome whose verdict is a refusal
--     only_on_the_ways               an edit changes no count off the ways of its rows
--     adding_raises, removing_lowers, changing_moves      and by how much it changes those on them
--     busiest_of_edited              the busiest link of an edited table: the lowest of those that the most cells cross
-- Assumes nothing.
use mathlib.Core.Path.{◌≡◌, refl, ◌∙◌, ap, sym}
use Prim.Native.Nat.{ℕ, ◌+◌, ◌-◌, ◌*◌, ◌≤◌, ◌<◌, min}
use native.Mathlib.Omega.{arith}
use mathlib.Core.Bool.{Bool, true, false, cond, ◌||◌, true≢false}
use mathlib.Core.List.{List, [], ◌∷◌}
use lib.Dec.{ltb}
use Rattle.std.proofs.Common.{Result, Ok, Err, is_ok}
use lib.ListN.{length, get_or}
use Rattle.lists.specs.Lists.{build, total}
use Rattle.lists.proofs.Build.{build_ext}
use Rattle.table.specs.declared.Row.{Row}
use Rattle.table.specs.declared.Refusal.{Refusal}
use Rattle.table.specs.Table.{most_rows, most_length, most_cells, Verdict, refuse, sends_of, cells_in, judge}
use Rattle.table.specs.Steps.{none}
use Rattle.area.specs.Area.{most_links, crosses, load, area_of, nodes_in, count_in, load_in, row_in, rows_in}
use Rattle.area.specs.Area.{loads_in, busiest_in}
use Rattle.area.proofs.Areas.{load_in_laid, nodes_in_area, count_in_area, load_in_area, row_in_area, rows_in_area}
use Rattle.area.proofs.Loads.{load_more}
use Rattle.area.proofs.GoodRows.{AllGood, judged_good}
use Rattle.area.proofs.Ways.{loads_sum_to_sends}
use Rattle.area.proofs.Promises.{Busiest, busiest_built}
use Rattle.edit_judge.specs.Judge.{Edit, Add, Change, Remove, size_refusal}
use Rattle.edit_judge.proofs.Refusals.{size_of, size_fits, Fits, edit_fits, judged_by_cells}
use Rattle.edit_store.specs.Store.{rows_after, raised, lowered, step_for, load_after, behind_after, edited}
use Rattle.edit.specs.Edit.{edit_refusal, about_row, area_after, Opened, Edited, after_edits, rows_by}
use Rattle.edit.proofs.RowsAfter.{few_after, good_after}
use Rattle.edit.proofs.Editing.{load_fewer, load_changed, load_held, edited_area, rows_next, area_after_lem}
use Rattle.edit.proofs.Editing.{keeps_next, keeps}
use Rattle.edit.proofs.Outcomes.{wrong_some}

-- ---- one outcome
-- Two outcomes of opening a table that fit its promise are equal: the verdict, and every number of the area.
pub one_opening : {n : ℕ} {s s₁ s₂ : List ℕ} {v₁ v₂ : Verdict}
    → Opened n s v₁ s₁
    → Opened n s v₂ s₂
    → (v₁ ≡ v₂) × (s₁ ≡ s₂)
one_opening a b = (a.answers ∙ sym b.answers, a.fills ∙ sym b.fills)

-- Two outcomes of an edit that fit its promise are equal: the verdict, and every number of the area.
pub one_edit : {s s₁ s₂ : List ℕ} {e : Edit} {v₁ v₂ : Verdict}
    → Edited s e v₁ s₁
    → Edited s e v₂ s₂
    → (v₁ ≡ v₂) × (s₁ ≡ s₂)
one_edit a b = (a.answers ∙ sym b.answers, a.fills ∙ sym b.fills)

-- ---- any list of edits
-- At most 512 rows, of which none is bad.
abbrev pub Kept : ℕ → List Row → Type 0
Kept n rows = (length rows ≤ most_rows) × AllGood n rows

-- A good edit leaves such rows.
kept_after : (n : ℕ) (rows : List Row) (e : Edit) → Kept n rows → Fits n (length rows) e → Kept n (rows_after rows e)
kept_after n rows e h fits = (few_after n rows e h.0 fits, good_after n rows e fits h.1)

-- Edits of the area of a table without a bad row make the area of the rows edited.
pub edits_make_rows_from : (n : ℕ) (es : List Edit) (rows : List Row)
    → Kept n rows
    → after_edits (area_of n rows) es ≡ area_of n (rows_by n rows es)
unfolding after_edits rows_by
edits_make_rows_from n [] rows h = refl
edits_make_rows_from n (e ∷ es) rows h =
    ap (λ (s : List ℕ). after_edits s es) (area_after_lem n rows h.0 h.1 e)
    ∙ edits_make_rows_from n es (rows_next n rows e) (keeps_next n (Kept n) (kept_after n) rows e h)

module _ (n : ℕ) (es : List Edit) where
  -- After any edits of a table that was opened, the area is that of the rows edited, every number of it.
  pub edits_make_rows : after_edits (area_of n []) es ≡ area_of n (rows_by n [] es)
  unfolding AllGood
  edits_make_rows = edits_make_rows_from n es [] (omega arith, tt)

  -- The area after the edits, and the rows edited.
  abbrev s : List ℕ
  s = after_edits (area_of n []) es

  abbrev rows : List Row
  rows = rows_by n [] es

  -- Its rows are those entered.
  pub rows_are_those_entered : rows_in s ≡ rows
  rows_are_those_entered = ap rows_in edits_make_rows ∙ rows_in_area n rows

  -- The load of a link is that of the rows edited.
  its_load : (p : ℕ) → p < most_links → load_in s p ≡ load n rows p
  its_load p l = ap (λ (a : List ℕ). load_in a p) edits_make_rows ∙ load_in_area n rows p l

  -- Its counts are those that counting its rows afresh gives.
  pub counts_are_fresh : (p : ℕ) → p < most_links → load_in s p ≡ load n (rows_in s) p
  counts_are_fresh p l = its_load p l ∙ ap (λ (rs : List Row). load n rs p) (sym rows_are_those_entered)

  -- It never has more than 512 rows, and none of them is bad.
  kept : Kept n rows
  unfolding AllGood
  kept = keeps n (Kept n) (kept_after n) es [] (omega arith, tt)

  -- No count is above 512 rows times 64 cells, 32,768.
  pub no_count_overflows : (p : ℕ) → p < most_links → load_in s p ≤ most_rows * most_length
  no_count_overflows p l = omega (arith, its_load p l, load_held n p rows kept.0 kept.1)

  -- A table that could be opened is never refused with 1 to 6 or 10, however it was edited: it is well-formed, or it
  -- has more than 1,024 cells and is refused with 11.
  pub edited_is_well_formed : size_refusal n 0 ≡ Ok tt
      → judge n rows ≡ cond (ltb most_cells (cells_in rows)) (Err (refuse 11 0 0)) (Ok tt)
  edited_is_well_formed opened = judged_by_cells n rows (size_of n (length rows) kept.0 ∙ opened) kept.1

  -- Its sizes are never refused.
  pub sizes_stay_good : size_refusal n 0 ≡ Ok tt → size_refusal (nodes_in s) (count_in s) ≡ Ok tt
  sizes_stay_good opened =
      rw (edits_make_rows, nodes_in_area n rows, count_in_area n rows) (size_of n (length rows) kept.0 ∙ opened)

  -- The loads of the ring's links are those of the rows edited.
  its_loads : n ≤ most_links → loads_in s ≡ build n (load n rows)
  unfolding loads_in
  its_loads h =
      let links : min n most_links ≡ n = omega arith in
      ap (λ (k : ℕ). build (min k most_links) (load_in s)) (ap nodes_in edits_make_rows ∙ nodes_in_area n rows)
      ∙ ap (λ (k : ℕ). build k (load_in s)) links
      ∙ build_ext n (load_in s) (load n rows) (λ p l. its_load p (omega arith))

  -- All its counts together are its sends: the sum of length times distance over its rows.
  pub loads_are_sends : size_refusal n 0 ≡ Ok tt → total (loads_in s) ≡ sends_of n (rows_in s)
  loads_are_sends opened =
      ap total (its_loads (size_fits n 0 opened).most)
      ∙ loads_sum_to_sends n rows (judged_good n rows 0 kept.1)
      ∙ ap (sends_of n) (sym rows_are_those_entered)

  -- How much one more edit changes the counts: a row counts its cells on its way and 0 elsewhere.
  -- An edit that isn't refused fits the rows edited.
  fits_it : (e : Edit) → edit_refusal s e ≡ Ok tt → Fits n (length rows) e
  fits_it e h =
      let there : edit_refusal (area_of n rows) e ≡ Ok tt = ap (λ (a : List ℕ). edit_refusal a e) (sym edits_make_rows) ∙ h in
      (edit_fits n (length rows) e (rw (nodes_in_area n rows, count_in_area n rows) at there)).1

  -- After one more edit a load is that of the rows then.
  load_then : (p : ℕ)
      → p < most_links
      → (e : Edit)
      → edit_refusal s e ≡ Ok tt
      → load_in (area_after s e) p ≡ load n (rows_after rows e) p
  unfolding area_after
  load_then p l e h =
      let made : edited s e ≡ area_of n (rows_after rows e) =
      ap (λ (a : List ℕ). edited a e) edits_make_rows ∙ edited_area n rows kept.0 kept.1 e (fits_it e h)
      in
      rw (h, made) (load_in_area n (rows_after rows e) p l)

  -- Row k is that of the rows edited.
  its_row : (k : ℕ) → 0 < k → k ≤ length rows → row_in s (k - 1) ≡ get_or rows (k - 1) none
  its_row k first last = ap (λ (a : List ℕ). row_in a (k - 1)) edits_make_rows ∙ row_in_area n rows (k - 1) (omega arith)

  module _ (p : ℕ) (l : p < most_links) where
    -- Adding a row raises each count on its way by exactly its length, and no other.
    pub adding_raises : (r : Row)
        → edit_refusal s (Add r) ≡ Ok tt
        → load_in (area_after s (Add r)) p ≡ cond (crosses n r p) r.len 0 + load_in s p
    unfolding rows_after
    adding_raises r h = omega (arith, load_then p l (Add r) h, load_more n p rows r, its_load p l)

    -- Removing a row lowers each count on its way by exactly its length, and no other.
    pub removing_lowers : (k : ℕ)
        → edit_refusal s (Remove k) ≡ Ok tt
        → load_in s p ≡ cond (crosses n (row_in s (k - 1)) p) (row_in s (k - 1)).len 0 + load_in (area_after s (Remove k)) p
    unfolding Fits
    removing_lowers k h =
        let there = fits_it (Remove k) h in
        let fewer = load_fewer n p rows k there.0 there.1 in
        rw (its_row k there.0 there.1) (omega (arith, load_then p l (Remove k) h, fewer, its_load p l))

    -- Changing a row counts it out as it was, and in as it is now.
    pub changing_moves : (k : ℕ) (r : Row)
        → edit_refusal s (Change k r) ≡ Ok tt
        → cond (crosses n (row_in s (k - 1)) p) (row_in s (k - 1)).len 0 + load_in (area_after s (Change k r)) p
        ≡ cond (crosses n r p) r.len 0 + load_in s p
    unfolding Fits
    changing_moves k r h =
        let there = (fits_it (Change k r) h).0 in
        let moved = load_changed n p rows k there.0 there.1 r in
        rw (its_row k there.0 there.1) (omega (arith, load_then p l (Change k r) h, moved, its_load p l))

-- ---- one edit
-- A refused edit leaves the area as it was.
pub refused_changes_nothing : (s : List ℕ) (e : Edit) → is_ok (edit_refusal s e) ≡ false → area_after s e ≡ s
unfolding area_after
refused_changes_nothing s e bad = rw bad

-- An opening that is refused leaves the area as it was.
pub refused_opening_leaves : {n : ℕ} {s s' : List ℕ} {x : Refusal} → Opened n s (Err x) s' → s' ≡ s
refused_opening_leaves {n} o = o.fills ∙ rw (wrong_some (size_refusal n 0) 0 (sym o.answers))

-- An edit that is refused leaves the area as it was.
pub refused_edit_leaves : {s s' : List ℕ} {e : Edit} {x : Refusal} → Edited s e (Err x) s' → s' ≡ s
refused_edit_leaves {s} {e = e} o =
    o.fills ∙ refused_changes_nothing s e (wrong_some (edit_refusal s e) (about_row s e) (sym o.answers))

-- Link p lies on the way of the row put in or on that of the row taken out.
unfoldable pub on_way : List ℕ → Edit → ℕ → Bool
on_way s (Add r) p = crosses (nodes_in s) r p
on_way s (Change k r) p = crosses (nodes_in s) (row_in s (k - 1)) p || crosses (nodes_in s) r p
on_way s (Remove k) p = crosses (nodes_in s) (row_in s (k - 1)) p

-- A count off the way of a row isn't touched.
off_way : (by : ℕ → ℕ) (n : ℕ) (r : Row) (p x : ℕ) → crosses n r p ≡ false → step_for by n r p x ≡ x
unfolding step_for
off_way by n r p x off = rw off

-- Neither of two tests holds.
both_false : (a b : Bool) → (a || b) ≡ false → (a ≡ false) × (b ≡ false)
both_false true b e = absurd (true≢false e)
both_false false b e = (refl, e)

-- A count off the ways stays through a good edit.
load_off : (s : List ℕ) (e : Edit) (p : ℕ) → on_way s e p ≡ false → load_after s e p ≡ load_in s p
unfolding on_way load_after
load_off s (Add r) p off = off_way (raised r.len) (nodes_in s) r p (load_in s p) off
load_off s (Change k r) p off =
    let neither = both_false (crosses (nodes_in s) (row_in s (k - 1)) p) (crosses (nodes_in s) r p) off in
    off_way (raised r.len) (nodes_in s) r p _ neither.1
    ∙ off_way (lowered (row_in s (k - 1)).len) (nodes_in s) (row_in s (k - 1)) p (load_in s p) neither.0
load_off s (Remove k) p off = off_way (lowered (row_in s (k - 1)).len) (nodes_in s) (row_in s (k - 1)) p (load_in s p) off

-- An edit of any area changes no count of a link that lies neither on the way of the row put in nor on that of the row
-- taken out.
pub only_on_the_ways : (s : List ℕ) (e : Edit) (p : ℕ)
    → p < most_links
    → on_way s e p ≡ false
    → load_in (area_after s e) p ≡ load_in s p
unfolding area_after edited
only_on_the_ways s e p l off = go (edit_refusal s e)
  where
    go : (v : Result Unit ℕ) → load_in (cond (is_ok v) (edited s e) s) p ≡ load_in s p
    go (Ok _) =
        load_in_laid (nodes_in s) (load_after s e) (rows_after (rows_in s) e) (behind_after s e) p l ∙ load_off s e p off
    go (Err _) = refl

-- ---- the busiest link
-- The busiest link of an edited table is the lowest of those that the most cells cross, counted afresh.
pub busiest_of_edited : (n : ℕ) (es : List Edit)
    → size_refusal n 0 ≡ Ok tt
    → Busiest n (load n (rows_in (after_edits (area_of n []) es))) (busiest_in (loads_in (after_edits (area_of n []) es)))
busiest_of_edited n es opened =
    let sized = size_fits n 0 opened in
    rw (its_loads n es sized.most, rows_are_those_entered n es)
    (busiest_built n (load n (rows n es)) (omega (arith, sized.least)))
