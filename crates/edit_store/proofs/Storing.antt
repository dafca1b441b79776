-- What the stores of an edit make of a laid area.
--     way_counted                              the counts of a row's way stepped
--     row_added, row_changed, row_removed      the row put in or taken out, and the number of rows
--     way_put, row_put_lem                         the part of the area that is lent for each
--     added, changed, removed                  the same for an area as it was lent, in the words of the promise
-- Assumes nothing.
use mathlib.Core.Path.{◌≡◌, refl, ◌∙◌, ap, sym}
use mathlib.Core.List.{List, [], ◌∷◌, ◌++◌, append_assoc, append-nil}
use Prim.Native.Nat.{ℕ, suc, ◌+◌, ◌-◌, ◌≤◌, ◌<◌}
use native.Mathlib.Omega.{arith}
use borrow.Rule.Slice.PartMut.{mid_of, put_mid}
use lib.ListN.{length, get_or, take, drop, set, replicate, length-append, length-drop, take-append-drop}
use lib.Seq.{take_at, drop_at, drop-drop, length-take-le, drop-cons}
use Rattle.lists.specs.Lists.{build}
use Rattle.lists.proofs.Build.{length-build, build_ext, get_or_build}
use Rattle.table.specs.declared.Row.{Row}
use Rattle.table.specs.Table.{most_rows, row_numbers}
use Rattle.table.specs.Steps.{none}
use Rattle.area.specs.Area.{most_links, row_width, loads_begin, row_place, room, numbers, laid}
use Rattle.area.specs.Area.{nodes_in, count_in, load_in, row_in, rows_in}
use Rattle.area.proofs.RowNumbers.{numbers_long, numbers_cons, numbers_parted, numbers_later}
use Rattle.area.proofs.Areas.{head, head_long, laid_is, laid_again, rows_counted}
use Rattle.edit_judge.specs.Judge.{Add, Change, Remove}
use Rattle.edit_store.specs.Store.{raised, lowered, step_for, load_after, rows_after, behind_after, edited}
use Rattle.edit_store.specs.Steps.{stepped_way, way_stepped, row_put, Roomy, There}

-- A part put into a list behind a front, and a part taken out of it.
put_at : (p q ys : List ℕ) (a m : ℕ) → length p ≡ a → put_mid a m (p ++ q) ys ≡ p ++ (ys ++ drop m q)
put_at p q ys a m e = rw (take_at p q a e, drop_at p q a e)

mid_at : (p q : List ℕ) (a m : ℕ) → length p ≡ a → mid_of a m (p ++ q) ≡ take m q
mid_at p q a m e = rw (drop_at p q a e)

-- The counts of an area, and an area with other counts.
abbrev counts_of : List ℕ → List ℕ
counts_of s = mid_of loads_begin most_links s

abbrev with_counts : List ℕ → List ℕ → List ℕ
with_counts s counts = put_mid loads_begin most_links s counts

-- An area with other numbers where a row stands.
abbrev with_row : (s : List ℕ) (at : ℕ) (ys : List ℕ) → List ℕ
with_row s at ys = put_mid at (at + row_width - at) s ys

-- The numbers of a row that is taken out.
abbrev zeros : List ℕ
zeros = replicate row_width 0

-- Row i of a list between those before it and those behind it.
parted : (rows : List Row) (i : ℕ) → i < length rows → rows ≡ take i rows ++ (get_or rows i none ∷ drop (suc i) rows)
parted rows i h = sym (take-append-drop i rows) ∙ ap (λ (l : List Row). take i rows ++ l) (drop-cons rows i none h)

-- The stores, in an area that is laid out.
module _ (n : ℕ) (f : ℕ → ℕ) (rows : List Row) (behind : List ℕ) where
  abbrev area : List ℕ
  area = laid n f rows behind

  -- The numbers of its rows, and what stands behind them.
  abbrev body : List ℕ
  body = numbers rows ++ behind

  -- The counts of a row's way stepped.
  pub way_counted : (by : ℕ → ℕ) (r : Row) (counts : List ℕ)
      → counts ≡ stepped_way by n r (counts_of area)
      → with_counts area counts ≡ laid n (λ p. step_for by n r p (f p)) rows behind
  unfolding laid stepped_way
  way_counted by r counts so =
      put_at (n ∷ length rows ∷ []) (build most_links f ++ body) counts loads_begin most_links refl
      ∙ rw (drop_at (build most_links f) body most_links (length-build most_links f))
      (ap (λ (l : List ℕ). n ∷ length rows ∷ (l ++ body)) (so ∙ build_ext most_links old new stepped))
    where
      entry : (p : ℕ) → p < most_links → get_or (counts_of area) p 0 ≡ f p
      entry p h =
          ap (λ (l : List ℕ). get_or l p 0) (take_at (build most_links f) body most_links (length-build most_links f))
          ∙ get_or_build most_links f p 0 h

      old : ℕ → ℕ
      old p = step_for by n r p (get_or (counts_of area) p 0)

      new : ℕ → ℕ
      new p = step_for by n r p (f p)

      stepped : (p : ℕ) → p < most_links → old p ≡ new p
      stepped p h = ap (step_for by n r p) (entry p h)

  -- The numbers before a row of the area.
  abbrev before : List Row → List ℕ
  before above = head n (length rows) f ++ numbers above

  before_long : (above : List Row) (at : ℕ) → at ≡ row_place (length above) → length (before above) ≡ at
  before_long above at e =
      let both = length-append (head n (length rows) f) (numbers above) in
      omega (arith, both, head_long n (length rows) f, numbers_long above)

  -- The area in two parts: the numbers before a row, and the rest.
  area_parted : (above : List Row) (rest : List ℕ) → body ≡ numbers above ++ rest → area ≡ before above ++ rest
  area_parted above rest so =
      laid_is n f rows behind ∙ ap (λ (l : List ℕ). head n (length rows) f ++ l) so
      ∙ sym (append_assoc (head n (length rows) f) (numbers above) rest)

  -- A part put where the rest begins.
  put_body : (above : List Row) (rest ys : List ℕ) (at m : ℕ)
      → body ≡ numbers above ++ rest
      → at ≡ row_place (length above)
      → put_mid at m area ys ≡ head n (length rows) f ++ (numbers above ++ (ys ++ drop m rest))
  put_body above rest ys at m so e =
      ap (λ (l : List ℕ). put_mid at m l ys) (area_parted above rest so)
      ∙ put_at (before above) rest ys at m (before_long above at e)
      ∙ append_assoc (head n (length rows) f) (numbers above) (ys ++ drop m rest)

  -- The number of rows set.
  count_set : (count : ℕ) (l : List ℕ) → set (head n (length rows) f ++ l) 1 count ≡ head n count f ++ l
  unfolding head
  count_set count l = refl

  -- What is laid out of so many rows.
  laid_by : (rows' : List Row) (behind' : List ℕ) (count : ℕ) (l : List ℕ)
      → length rows' ≡ count
      → numbers rows' ++ behind' ≡ l
      → head n count f ++ l ≡ laid n f rows' behind'
  laid_by rows' behind' count l long so = rw (laid_is n f rows' behind', long, so)

  -- Row i and those behind it.
  abbrev later_of : ℕ → List Row
  later_of i = get_or rows i none ∷ drop (suc i) rows

  abbrev rest_of : ℕ → List ℕ
  rest_of i = numbers (later_of i) ++ behind

  body_of : (i : ℕ) → i < length rows → body ≡ numbers (take i rows) ++ rest_of i
  body_of i h =
      ap (λ (l : List Row). numbers l ++ behind) (parted rows i h) ∙ numbers_parted (take i rows) (later_of i) behind

  above_of : (i : ℕ) → i < length rows → length (take i rows) ≡ i
  above_of i h = length-take-le i rows (omega arith)

  row_at : (i at : ℕ) → i < length rows → at ≡ row_place i → at ≡ row_place (length (take i rows))
  row_at i at h e = omega (arith, above_of i h)

  module _ (r : Row) where
    -- A row put behind the last, and counted.
    pub row_added : (at count : ℕ) (ys : List ℕ)
        → at ≡ row_place (length rows)
        → count ≡ length rows + 1
        → ys ≡ row_numbers r
        → set (with_row area at ys) 1 count ≡ laid n f (rows ++ (r ∷ [])) (drop row_width behind)
    unfolding numbers
    row_added at count ys e k so =
        ap (λ (l : List ℕ). set l 1 count) (put_body rows behind ys at (at + row_width - at) refl e)
        ∙ count_set count (numbers rows ++ (ys ++ drop (at + row_width - at) behind))
        ∙ laid_by (rows ++ (r ∷ [])) (drop row_width behind) count _ (length-append rows (r ∷ []) ∙ sym k) joined
      where
        joined : numbers (rows ++ (r ∷ [])) ++ drop row_width behind
            ≡ numbers rows ++ (ys ++ drop (at + row_width - at) behind)
        joined =
            let wide : at + row_width - at ≡ row_width = omega arith in
            rw (wide, so, numbers_parted rows (r ∷ []) (drop row_width behind))

    -- A row put in the place of row i.
    pub row_changed : (i at : ℕ) (ys : List ℕ)
        → i < length rows
        → at ≡ row_place i
        → ys ≡ row_numbers r
        → with_row area at ys ≡ laid n f (take i rows ++ (r ∷ drop (suc i) rows)) behind
    row_changed i at ys h e so =
        put_body (take i rows) (rest_of i) ys at (at + row_width - at) (body_of i h) (row_at i at h e)
        ∙ laid_by rows' behind (length rows) _ same joined
      where
        rows' : List Row
        rows' = take i rows ++ (r ∷ drop (suc i) rows)

        same : length rows' ≡ length rows
        same =
            let both = length-append (take i rows) (r ∷ drop (suc i) rows) in
            omega (arith, both, above_of i h, length-drop (suc i) rows)

        joined : numbers rows' ++ behind ≡ numbers (take i rows) ++ (ys ++ drop (at + row_width - at) (rest_of i))
        joined =
            let wide : at + row_width - at ≡ row_width = omega arith in
            let later = numbers_later (get_or rows i none) (drop (suc i) rows) behind in
            numbers_parted (take i rows) (r ∷ drop (suc i) rows) behind
            ∙ rw (wide, so, numbers_cons r (drop (suc i) rows) behind, later)

  -- Row i taken out: the later ones moved down, zeros behind them, and one row fewer counted.
  pub row_removed : (i at end count : ℕ) (ys : List ℕ)
      → i < length rows
      → at ≡ row_place i
      → end ≡ row_place (length rows)
      → count ≡ length rows - 1
      → ys ≡ drop row_width (mid_of at (end - at) area) ++ zeros
      → set (put_mid at (end - at) area ys) 1 count ≡ laid n f (take i rows ++ drop (suc i) rows) (zeros ++ behind)
  row_removed i at end count ys h e g k so =
      ap (λ (l : List ℕ). set l 1 count)
      (put_body (take i rows) (rest_of i) ys at (end - at) (body_of i h) (row_at i at h e))
      ∙ count_set count (numbers (take i rows) ++ (ys ++ drop (end - at) (rest_of i)))
      ∙ laid_by rows' (zeros ++ behind) count _ fewer joined
    where
      later : List Row
      later = drop (suc i) rows

      rows' : List Row
      rows' = take i rows ++ later

      fewer : length rows' ≡ count
      fewer = omega (arith, length-append (take i rows) later, above_of i h, length-drop (suc i) rows)

      long : length (numbers (later_of i)) ≡ end - at
      long = omega (arith, numbers_long (later_of i), length-drop (suc i) rows)

      taken : mid_of at (end - at) area ≡ numbers (later_of i)
      taken =
          ap (λ (l : List ℕ). mid_of at (end - at) l) (area_parted (take i rows) (rest_of i) (body_of i h))
          ∙ mid_at (before (take i rows)) (rest_of i) at (end - at) (before_long (take i rows) at (row_at i at h e))
          ∙ take_at (numbers (later_of i)) behind (end - at) long

      moved : ys ≡ numbers later ++ zeros
      moved =
          let down = numbers_later (get_or rows i none) later [] in
          so ∙ ap (λ (l : List ℕ). drop row_width l ++ zeros) (taken ∙ sym (append-nil (numbers (later_of i))))
          ∙ ap (λ (l : List ℕ). l ++ zeros) (down ∙ append-nil (numbers later))

      left : drop (end - at) (rest_of i) ≡ behind
      left = drop_at (numbers (later_of i)) behind (end - at) long

      joined : numbers rows' ++ (zeros ++ behind) ≡ numbers (take i rows) ++ (ys ++ drop (end - at) (rest_of i))
      joined =
          numbers_parted (take i rows) later (zeros ++ behind)
          ∙ rw (moved, left)
          (ap (λ (l : List ℕ). numbers (take i rows) ++ l) (sym (append_assoc (numbers later) zeros behind)))

-- The counts of a way put in their place.
pub way_put : (by : ℕ → ℕ) (n : ℕ) (r : Row) (s counts : List ℕ)
    → counts ≡ stepped_way by n r (counts_of s)
    → with_counts s counts ≡ way_stepped by n r s
unfolding way_stepped
way_put by n r s counts so =
    ap (λ (l : List ℕ). take loads_begin s ++ (l ++ drop most_links (drop loads_begin s))) so
    ∙ ap (λ (l : List ℕ). take loads_begin s ++ (stepped_way by n r (counts_of s) ++ l))
    (drop-drop most_links loads_begin s)

-- The numbers of a row put in their place.
pub row_put_lem : (i : ℕ) (r : Row) (s ys : List ℕ) → ys ≡ row_numbers r → with_row s (row_place i) ys ≡ row_put i r s
unfolding row_put
row_put_lem i r s ys so =
    ap (λ (l : List ℕ). take at s ++ (l ++ drop (at + row_width - at) (drop at s))) so
    ∙ ap (λ (l : List ℕ). take at s ++ (row_numbers r ++ l)) past
  where
    at : ℕ
    at = row_place i

    past : drop (at + row_width - at) (drop at s) ≡ drop (row_place (suc i)) s
    past =
        let next : at + (at + row_width - at) ≡ row_place (suc i) = omega arith in
        drop-drop (at + row_width - at) at s ∙ ap (λ (k : ℕ). drop k s) next

-- The stores, in an area as it was lent.
module _ (s : List ℕ) where
  -- What stands behind its rows.
  abbrev behind_in : List ℕ
  behind_in = drop (row_place (count_in s)) s

  -- The area, laid out with other counts.
  abbrev laid_with : (ℕ → ℕ) → List ℕ
  laid_with f = laid (nodes_in s) f (rows_in s) behind_in

  laid_here : length s ≡ room → count_in s ≤ most_rows → s ≡ laid_with (load_in s)
  laid_here whole few = sym (laid_again s whole few)

  -- A way counted, where the counts were f.
  counted : (by : ℕ → ℕ) (f : ℕ → ℕ) (t t' : List ℕ) (r : Row)
      → t ≡ laid_with f
      → t' ≡ way_stepped by (nodes_in s) r t
      → t' ≡ laid_with (λ p. step_for by (nodes_in s) r p (f p))
  counted by f t t' r e so =
      so ∙ ap (way_stepped by (nodes_in s) r) e
      ∙ sym (way_put by (nodes_in s) r (laid_with f) (stepped_way by (nodes_in s) r (counts_of (laid_with f))) refl)
      ∙ way_counted (nodes_in s) f (rows_in s) behind_in by r _ refl

  -- A row put, where the counts were f.
  put : (i : ℕ) (f : ℕ → ℕ) (t t' : List ℕ) (r : Row)
      → t ≡ laid_with f
      → t' ≡ row_put i r t
      → t' ≡ with_row (laid_with f) (row_place i) (row_numbers r)
  put i f t t' r e so = so ∙ ap (row_put i r) e ∙ sym (row_put_lem i r (laid_with f) (row_numbers r) refl)

  -- The way of a new row counted in, the row put behind the last, and the number of rows raised.
  pub added : (r : Row) (t u : List ℕ)
      → Roomy s
      → t ≡ way_stepped (raised r.len) (nodes_in s) r s
      → u ≡ row_put (count_in s) r t
      → set u 1 (count_in s + 1) ≡ edited s (Add r)
  unfolding edited load_after rows_after behind_after
  added r t u roomy so is =
      let here = laid_here roomy.whole (omega (arith, roomy.more)) in
      let last : at ≡ row_place (length (rows_in s)) = omega (arith, rows_counted s) in
      let more : count_in s + 1 ≡ length (rows_in s) + 1 = omega (arith, rows_counted s) in
      let past : at + row_width ≡ row_place (suc (count_in s)) = omega arith in
      let way = counted (raised r.len) (load_in s) s t r here so in
      ap (λ (l : List ℕ). set l 1 (count_in s + 1)) (put (count_in s) loads t u r way is)
      ∙ row_added (nodes_in s) loads (rows_in s) behind_in r at (count_in s + 1) (row_numbers r) last more refl
      ∙ ap (laid (nodes_in s) loads (rows_in s ++ (r ∷ [])))
      (drop-drop row_width at s ∙ ap (λ (k : ℕ). drop k s) past)
    where
      at : ℕ
      at = row_place (count_in s)

      loads : ℕ → ℕ
      loads p = step_for (raised r.len) (nodes_in s) r p (load_in s p)

  module _ (k : ℕ) (there : There s k) where
    index : k - 1 < length (rows_in s)
    index = omega (arith, rows_counted s, there.first, there.last)

    number : suc (k - 1) ≡ k
    number = omega (arith, there.first)

    here : s ≡ laid_with (load_in s)
    here = laid_here there.whole there.few

    -- The way of the old row counted out, that of the new one in, and the row put in its place.
    pub changed : (r old : Row) (t u v : List ℕ)
        → old ≡ row_in s (k - 1)
        → t ≡ way_stepped (lowered old.len) (nodes_in s) old s
        → u ≡ way_stepped (raised r.len) (nodes_in s) r t
        → v ≡ row_put (k - 1) r u
        → v ≡ edited s (Change k r)
    unfolding edited load_after rows_after behind_after
    changed r old t u v was so then is =
        let out = counted (lowered old.len) (load_in s) s t old here so in
        let in' = counted (raised r.len) fewer t u r out then in
        put (k - 1) loads u v r in' is
        ∙ row_changed (nodes_in s) loads (rows_in s) behind_in r (k - 1) (row_place (k - 1)) (row_numbers r) index refl refl
        ∙ rw (number, was)
      where
        fewer : ℕ → ℕ
        fewer p = step_for (lowered old.len) (nodes_in s) old p (load_in s p)

        loads : ℕ → ℕ
        loads p = step_for (raised r.len) (nodes_in s) r p (fewer p)

    -- The way of the old row counted out, the gap closed, and the number of rows lowered.
    pub removed : (old : Row) (t ys : List ℕ) (at end : ℕ)
        → at ≡ row_place (k - 1)
        → end ≡ row_place (count_in s)
        → old ≡ row_in s (k - 1)
        → t ≡ way_stepped (lowered old.len) (nodes_in s) old s
        → ys ≡ drop row_width (mid_of at (end - at) t) ++ zeros
        → set (put_mid at (end - at) t ys) 1 (count_in s - 1) ≡ edited s (Remove k)
    unfolding edited load_after rows_after behind_after
    removed old t ys at end e g was so is =
        let out = counted (lowered old.len) (load_in s) s t old here so in
        let moved : ys ≡ drop row_width (mid_of at (end - at) (laid_with fewer)) ++ zeros =
        is ∙ ap (λ (l : List ℕ). drop row_width (mid_of at (end - at) l) ++ zeros) out
        in
        let last : end ≡ row_place (length (rows_in s)) = omega (arith, rows_counted s) in
        let less : count_in s - 1 ≡ length (rows_in s) - 1 = omega (arith, rows_counted s) in
        ap (λ (l : List ℕ). set (put_mid at (end - at) l ys) 1 (count_in s - 1)) out
        ∙ row_removed (nodes_in s) fewer (rows_in s) behind_in (k - 1) at end (count_in s - 1) ys index e last less moved
        ∙ rw (number, was)
      where
        fewer : ℕ → ℕ
        fewer p = step_for (lowered old.len) (nodes_in s) old p (load_in s p)
