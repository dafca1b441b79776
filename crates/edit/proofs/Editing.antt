-- One edit of the area of a table: a good one makes the area of the rows afterwards, count by count.
--     load_fewer, load_changed      the load of a link, counted afresh, when row k is removed, or changed
--     step_in, step_out             a row counted in or out
--     load_held                     no load comes near the end of a number
--     load_after_lem                    the counts are those of the rows afterwards
--     behind_after_lem                  the zeros come out right
--     edited_area                   a good edit makes the area of the rows afterwards
--     area_after_lem                    any edit makes the area of the rows that it leaves
--     keeps_next, keeps             what every good edit keeps, one edit and any edits keep
--     length_stays                  an edit keeps the length of a whole area
-- Assumes nothing.
use mathlib.Core.Path.{◌≡◌, refl, ◌∙◌, ap, sym, subst}
use Prim.Native.Nat.{ℕ, suc, ◌+◌, ◌-◌, ◌*◌, ◌≤◌, ◌<◌, min}
use native.Mathlib.Omega.{arith}
use mathlib.Core.Bool.{Bool, true, false, cond}
use mathlib.Core.List.{List, [], ◌∷◌, ◌++◌}
use Rattle.std.proofs.Common.{Result, Ok, Err, is_ok}
use lib.ListN.{length, get_or, take, drop, replicate}
use lib.ListN.{length-append, length-drop, length-replicate, replicate-append-replicate}
use lib.Seq.{split_at, drop_at, drop-drop}
use Rattle.table.specs.declared.Row.{Row}
use Rattle.table.specs.Table.{most_rows, most_length}
use Rattle.table.specs.Steps.{none}
use Rattle.area.specs.Area.{most_links, row_width, row_place, room, crosses, load, laid, area_of}
use Rattle.area.specs.Area.{nodes_in, count_in, load_in, row_in, rows_in}
use Rattle.area.proofs.Areas.{nodes_in_area, count_in_area, load_in_area, row_in_area, rows_in_area, behind_area}
use Rattle.area.proofs.Areas.{laid_long, laid_ext, rows_counted}
use Rattle.area.proofs.Loads.{counted, load_between, load_more, load_few}
use Rattle.area.proofs.GoodRows.{AllGood, cells_few}
use Rattle.edit_judge.specs.Judge.{Edit, Add, Change, Remove, refusal_of}
use Rattle.edit_judge.proofs.Refusals.{Fits, edit_fits}
use Rattle.edit_store.specs.Store.{rows_after, raised, lowered, step_for, load_after, behind_after, edited}
use Rattle.edit.specs.Edit.{edit_refusal, area_after, rows_by}
use Rattle.edit.proofs.RowsAfter.{count_after, rows_after_long, few_after, good_after}

-- ---- the load of link p, when row k goes or changes
module _ (n p : ℕ) (rows : List Row) (k : ℕ) (first : 0 < k) (last : k ≤ length rows) where
  -- A row removed is counted out.
  pub load_fewer : load n rows p ≡ counted n (get_or rows (k - 1) none) p + load n (rows_after rows (Remove k)) p
  unfolding rows_after
  load_fewer =
      let old : Row = get_or rows (k - 1) none in
      let next : suc (k - 1) ≡ k = omega arith in
      let here : rows ≡ take (k - 1) rows ++ old ∷ drop k rows =
      split_at rows (k - 1) none (omega arith) ∙ ap (λ (j : ℕ). take (k - 1) rows ++ old ∷ drop j rows) next
      in
      ap (λ (l : List Row). load n l p) here ∙ load_between n p (take (k - 1) rows) old (drop k rows)

  -- A row changed is counted out as it was, and in as it is.
  pub load_changed : (r : Row)
      → counted n (get_or rows (k - 1) none) p + load n (rows_after rows (Change k r)) p ≡ counted n r p + load n rows p
  unfolding rows_after
  load_changed r = omega (arith, load_between n p (take (k - 1) rows) r (drop k rows), load_fewer)

-- ---- one count
-- A row counted in, where the count doesn't come past its end.
pub step_in : (n : ℕ) (r : Row) (p x : ℕ) → counted n r p + x ≤ 65535 → step_for (raised r.len) n r p x ≡ counted n r p + x
unfolding step_for
step_in n r p x = go (crosses n r p)
  where
    go : (b : Bool)
        → cond b r.len 0 + x ≤ 65535
        → cond b (min (x + r.len) 65535) x ≡ cond b r.len 0 + x
    go true h = omega arith
    go false h = omega arith

-- A row counted out that was counted in.
pub step_out : (n : ℕ) (r : Row) (p x : ℕ) → step_for (lowered r.len) n r p (counted n r p + x) ≡ x
unfolding step_for
step_out n r p x = go (crosses n r p)
  where
    go : (b : Bool) → cond b (cond b r.len 0 + x - r.len) (cond b r.len 0 + x) ≡ x
    go true = omega arith
    go false = omega arith

-- No load of at most 512 rows of which none is bad is above 512 times 64.
pub load_held : (n p : ℕ) (rows : List Row)
    → length rows ≤ most_rows
    → AllGood n rows
    → load n rows p ≤ most_rows * most_length
load_held n p rows few good = omega (arith, load_few n p rows, cells_few n rows good)

-- ---- the parts of an area
-- As many zeros as stand behind `count` rows.
abbrev zeros : ℕ → List ℕ
zeros count = replicate (row_width * (most_rows - count)) 0

-- One row fewer gives the zeros of a row back.
more_zeros : (count : ℕ) → 0 < count → count ≤ most_rows → replicate row_width 0 ++ zeros count ≡ zeros (count - 1)
more_zeros count some h =
    let row : row_width + row_width * (most_rows - count) ≡ row_width * (most_rows - (count - 1)) = omega arith in
    rw (replicate-append-replicate {A = ℕ} row_width (row_width * (most_rows - count)) 0, row)

-- One row more takes the zeros of a row.
fewer_zeros : (count : ℕ) → count < most_rows → drop row_width (zeros count) ≡ zeros (suc count)
fewer_zeros count h =
    let back : suc count - 1 ≡ count = omega arith in
    let row : replicate row_width 0 ++ zeros (suc count) ≡ zeros count =
    more_zeros (suc count) (omega arith) h ∙ ap zeros back
    in
    ap (drop row_width) (sym row)
    ∙ drop_at (replicate row_width 0) (zeros (suc count)) row_width (length-replicate {A = ℕ} row_width 0)

-- The area of a table, laid out.
area_is : (n : ℕ) (rows : List Row) → area_of n rows ≡ laid n (load n rows) rows (zeros (length rows))
unfolding area_of
area_is n rows = refl

module _ (n : ℕ) (rows : List Row) (few : length rows ≤ most_rows) (good : AllGood n rows) where
  -- The table's area.
  abbrev s : List ℕ
  s = area_of n rows

  -- With row k counted out, the counts are those of the other rows.
  counted_out : (k : ℕ)
      → 0 < k
      → k ≤ length rows
      → (p : ℕ)
      → p < most_links
      → step_for (lowered (row_in s (k - 1)).len) (nodes_in s) (row_in s (k - 1)) p (load_in s p) ≡ load n (rows_after rows (Remove k)) p
  counted_out k first last p l =
      let old = row_in_area n rows (k - 1) (omega arith) in
      rw (nodes_in_area n rows, old, load_in_area n rows p l, load_fewer n p rows k first last)
      (step_out n (get_or rows (k - 1) none) p (load n (rows_after rows (Remove k)) p))

  -- No count comes near its end.
  held : (e : Edit) → Fits n (length rows) e → (p : ℕ) → load n (rows_after rows e) p ≤ most_rows * most_length
  held e fits p = load_held n p (rows_after rows e) (few_after n rows e few fits) (good_after n rows e fits good)

  -- The counts after an edit are those of the rows afterwards.
  pub load_after_lem : (e : Edit)
      → Fits n (length rows) e
      → (p : ℕ)
      → p < most_links
      → load_after s e p ≡ load n (rows_after rows e) p
  unfolding Fits load_after rows_after
  load_after_lem (Add r) h p l =
      let most = held (Add r) h p in
      rw (nodes_in_area n rows, load_in_area n rows p l, load_more n p rows r)
      (step_in n r p (load n rows p) (omega (arith, most, load_more n p rows r)))
  load_after_lem (Change k r) h p l =
      let others : ℕ = load n (rows_after rows (Remove k)) p in
      let fewer = load_fewer n p rows k h.0.0 h.0.1 in
      let moved = load_changed n p rows k h.0.0 h.0.1 r in
      let below : counted n r p + others ≤ 65535 = omega (arith, held (Change k r) h p, fewer, moved) in
      rw (counted_out k h.0.0 h.0.1 p l, nodes_in_area n rows)
      (step_in n r p others below ∙ omega (arith, fewer, moved))
  load_after_lem (Remove k) h p l = counted_out k h.0 h.1 p l

  -- The zeros behind the rows are as many as there should be.
  pub behind_after_lem : (e : Edit) → Fits n (length rows) e → behind_after s e ≡ zeros (count_after (length rows) e)
  unfolding Fits behind_after count_after
  behind_after_lem (Add r) h =
      let past : row_place (suc (length rows)) ≡ row_place (length rows) + row_width = omega arith in
      rw (count_in_area n rows, past)
      (sym (drop-drop row_width (row_place (length rows)) s) ∙ ap (drop row_width) (behind_area n rows)
      ∙ fewer_zeros (length rows) h.0)
  behind_after_lem (Change k r) h = rw (count_in_area n rows) (behind_area n rows)
  behind_after_lem (Remove k) h =
      rw (count_in_area n rows, behind_area n rows) (more_zeros (length rows) (omega (arith, h.0, h.1)) few)

  -- A good edit of the area of a table makes the area of the rows afterwards.
  pub edited_area : (e : Edit) → Fits n (length rows) e → edited s e ≡ area_of n (rows_after rows e)
  unfolding edited
  edited_area e fits =
      let after : List Row = rows_after rows e in
      rw (nodes_in_area n rows, rows_in_area n rows, behind_after_lem e fits)
      (laid_ext n (load_after s e) (load n after) after (zeros (count_after (length rows) e)) (load_after_lem e fits)
      ∙ ap (λ (k : ℕ). laid n (load n after) after (zeros k)) (sym (rows_after_long n rows e fits))
      ∙ sym (area_is n after))

-- The rows after an edit: a refused one leaves them.
abbrev pub rows_next : ℕ → List Row → Edit → List Row
rows_next n rows e = cond (is_ok (refusal_of n (length rows) e)) (rows_after rows e) rows

-- Any edit of the area of a table makes the area of the rows that it leaves.
pub area_after_lem : (n : ℕ) (rows : List Row)
    → length rows ≤ most_rows
    → AllGood n rows
    → (e : Edit)
    → area_after (area_of n rows) e ≡ area_of n (rows_next n rows e)
unfolding area_after
area_after_lem n rows few good e = rw (nodes_in_area n rows, count_in_area n rows) (go (refusal_of n (length rows) e) refl)
  where
    go : (v : Result Unit ℕ)
        → refusal_of n (length rows) e ≡ v
        → cond (is_ok v) (edited (area_of n rows) e) (area_of n rows) ≡ area_of n (cond (is_ok v) (rows_after rows e) rows)
    go (Ok _) f = edited_area n rows few good e (edit_fits n (length rows) e f).1
    go (Err _) f = refl

-- What every good edit keeps, one edit keeps, refused or not, and so do any edits.
module _ (n : ℕ) (P : List Row → Type 0)
    (one : (rows : List Row) (e : Edit) → P rows → Fits n (length rows) e → P (rows_after rows e)) where
  pub keeps_next : (rows : List Row) (e : Edit) → P rows → P (rows_next n rows e)
  keeps_next rows e h = go (refusal_of n (length rows) e) refl
    where
      go : (v : Result Unit ℕ) → refusal_of n (length rows) e ≡ v → P (cond (is_ok v) (rows_after rows e) rows)
      go (Ok _) f = one rows e h (edit_fits n (length rows) e f).1
      go (Err _) f = h

  pub keeps : (es : List Edit) (rows : List Row) → P rows → P (rows_by n rows es)
  unfolding rows_by
  keeps [] rows h = h
  keeps (e ∷ es) rows h = keeps es (rows_next n rows e) (keeps_next rows e h)

-- ---- any whole area
-- What stands behind the rows afterwards fills the area.
behind_long : (s : List ℕ) (e : Edit)
    → length s ≡ room
    → count_in s ≤ most_rows
    → Fits (nodes_in s) (count_in s) e
    → row_place (count_after (count_in s) e) + length (behind_after s e) ≡ room
unfolding Fits count_after behind_after
behind_long s (Add r) whole few h = omega (arith, h.0, length-drop (row_place (suc (count_in s))) s)
behind_long s (Change k r) whole few h = omega (arith, length-drop (row_place (count_in s)) s)
behind_long s (Remove k) whole few h =
    let behind : List ℕ = drop (row_place (count_in s)) s in
    let both = length-append (replicate {A = ℕ} row_width 0) behind in
    omega (arith, h.0, h.1, both, length-replicate {A = ℕ} row_width 0, length-drop (row_place (count_in s)) s)

-- A good edit of a whole area makes a whole area.
edited_long : (s : List ℕ) (e : Edit) → length s ≡ room → edit_refusal s e ≡ Ok tt → length (edited s e) ≡ room
unfolding edited
edited_long s e whole h =
    let ok = edit_fits (nodes_in s) (count_in s) e h in
    let fits : Fits (nodes_in s) (length (rows_in s)) e =
    subst (λ (c : ℕ). Fits (nodes_in s) c e) (sym (rows_counted s)) ok.1
    in
    let many : length (rows_after (rows_in s) e) ≡ count_after (count_in s) e =
    rows_after_long (nodes_in s) (rows_in s) e fits ∙ ap (λ (c : ℕ). count_after c e) (rows_counted s)
    in
    laid_long (nodes_in s) (load_after s e) (rows_after (rows_in s) e) (behind_after s e)
    ∙ omega (arith, many, behind_long s e whole ok.0.few ok.1)

-- An edit keeps the length of a whole area, whatever stands in it.
pub length_stays : (s : List ℕ) (e : Edit) → length s ≡ room → length (area_after s e) ≡ room
unfolding area_after
length_stays s e whole = go (edit_refusal s e) refl
  where
    go : (v : Result Unit ℕ) → edit_refusal s e ≡ v → length (cond (is_ok v) (edited s e) s) ≡ room
    go (Ok _) f = edited_long s e whole f
    go (Err _) f = whole
