-- What stands where in a laid area, and that every whole area is laid out so.
--     laid_long, area_long               how many numbers a laid area has; the area of a table fills its room
--     nodes_in_laid, count_in_laid, load_in_laid, row_in_laid, rows_in_laid, behind_laid
--                                        what is read of it, part by part
--     nodes_in_area, count_in_area, load_in_area, row_in_area, rows_in_area, behind_area
--                                        the same of the area of a table
--     laid_again                         a whole area, laid out of what is read of it, is that area
--     laid_ext                           loads that agree on all links give one area
-- Assumes nothing.
use mathlib.Core.Path.{◌≡◌, refl, ◌∙◌, ap, sym}
use Prim.Native.Nat.{ℕ, ◌+◌, ◌-◌, ◌*◌, ◌≤◌, ◌<◌}
use native.Mathlib.Omega.{arith}
use mathlib.Core.List.{List, [], ◌∷◌, ◌++◌}
use lib.ListN.{length, get_or, drop, replicate, length-append, length-drop, length-replicate, get_or-append}
use lib.Seq.{drop_at, drop-drop, get_or-drop, get_or-append-add}
use Rattle.lists.specs.Lists.{build}
use Rattle.lists.proofs.Build.{length-build, get_or_build, build_ext, build_of}
use Rattle.table.specs.declared.Row.{Row}
use Rattle.table.specs.Table.{most_rows}
use Rattle.table.specs.Steps.{none}
use Rattle.area.specs.Area.{most_links, row_width, loads_begin, rows_begin, row_place, room}
use Rattle.area.specs.Area.{load, numbers, laid, area_of, nodes_in, count_in, load_in, row_in, rows_in}
use Rattle.area.proofs.RowNumbers.{row_by_ext, build_front, numbers_long, row_at, row_in_numbers, numbers_again}

-- A row of an area is a row of the numbers that stand where the rows begin.
row_past : (s : List ℕ) (i : ℕ) → row_in s i ≡ row_at (drop rows_begin s) i
unfolding row_in
row_past s i = row_by_ext _ _ same
  where
    same : (j : ℕ) → j < row_width → get_or s (row_place i + j) 0 ≡ get_or (drop rows_begin s) (row_width * i + j) 0
    same j l =
        let past : row_place i + j ≡ rows_begin + (row_width * i + j) = omega arith in
        ap (λ (k : ℕ). get_or s k 0) past ∙ sym (get_or-drop rows_begin s (row_width * i + j) 0)

-- ---- a laid area
-- Its numbers before the rows.
unfoldable pub head : (n count : ℕ) (loads : ℕ → ℕ) → List ℕ
head n count loads = n ∷ count ∷ build most_links loads

pub head_long : (n count : ℕ) (loads : ℕ → ℕ) → length (head n count loads) ≡ rows_begin
unfolding head
head_long n count loads = refl

module _ (n : ℕ) (loads : ℕ → ℕ) (rows : List Row) (behind : List ℕ) where
  pub laid_is : laid n loads rows behind ≡ head n (length rows) loads ++ (numbers rows ++ behind)
  unfolding laid head
  laid_is = refl

  -- A laid area has the numbers before the rows, those of each row, and those behind them.
  pub laid_long : length (laid n loads rows behind) ≡ row_place (length rows) + length behind
  laid_long =
      let front : List ℕ = head n (length rows) loads in
      let body = length-append (numbers rows) behind in
      let all = length-append front (numbers rows ++ behind) in
      ap length laid_is ∙ omega (arith, all, body, head_long n (length rows) loads, numbers_long rows)

  -- The number of nodes is that laid.
  pub nodes_in_laid : nodes_in (laid n loads rows behind) ≡ n
  unfolding laid
  nodes_in_laid = refl

  -- The number of rows is that of the rows laid.
  pub count_in_laid : count_in (laid n loads rows behind) ≡ length rows
  unfolding laid
  count_in_laid = refl

  -- The load of a link is that laid.
  pub load_in_laid : (p : ℕ) → p < most_links → load_in (laid n loads rows behind) p ≡ loads p
  unfolding load_in laid
  load_in_laid p h =
      let counts : List ℕ = build most_links loads in
      get_or-append-add (n ∷ length rows ∷ []) (counts ++ (numbers rows ++ behind)) p 0
      ∙ get_or-append counts (numbers rows ++ behind) 0 p (omega (arith, length-build most_links loads))
      ∙ get_or_build most_links loads p 0 h

  -- Row i is that laid.
  pub row_in_laid : (i : ℕ) → i < length rows → row_in (laid n loads rows behind) i ≡ get_or rows i none
  row_in_laid i h =
      let body : drop rows_begin (laid n loads rows behind) ≡ numbers rows ++ behind =
      ap (drop rows_begin) laid_is
      ∙ drop_at (head n (length rows) loads) (numbers rows ++ behind) rows_begin (head_long n (length rows) loads)
      in
      row_past (laid n loads rows behind) i ∙ ap (λ (l : List ℕ). row_at l i) body ∙ row_in_numbers rows behind i h

  -- The rows are those laid.
  pub rows_in_laid : rows_in (laid n loads rows behind) ≡ rows
  unfolding rows_in
  rows_in_laid =
      let s : List ℕ = laid n loads rows behind in
      ap (λ (k : ℕ). build k (row_in s)) count_in_laid
      ∙ build_ext (length rows) (row_in s) (λ i. get_or rows i none) row_in_laid
      ∙ build_of (length rows) none rows refl

  -- What stands behind the rows is that laid.
  pub behind_laid : drop (row_place (length rows)) (laid n loads rows behind) ≡ behind
  behind_laid =
      let front : List ℕ = head n (length rows) loads in
      let body : drop rows_begin (laid n loads rows behind) ≡ numbers rows ++ behind =
      ap (drop rows_begin) laid_is ∙ drop_at front (numbers rows ++ behind) rows_begin (head_long n (length rows) loads)
      in
      sym (drop-drop (row_width * length rows) rows_begin (laid n loads rows behind))
      ∙ ap (drop (row_width * length rows)) body
      ∙ drop_at (numbers rows) behind (row_width * length rows) (numbers_long rows)

-- What stands where in the area of a table.
module _ (n : ℕ) (rows : List Row) where
  -- The zeros behind its rows.
  abbrev zeros : List ℕ
  zeros = replicate (row_width * (most_rows - length rows)) 0

  -- The area of a table fills its room.
  pub area_long : length rows ≤ most_rows → length (area_of n rows) ≡ room
  unfolding area_of
  area_long few =
      let filled = length-replicate {A = ℕ} (row_width * (most_rows - length rows)) 0 in
      laid_long n (load n rows) rows zeros ∙ omega (arith, filled)

  -- It gives the table's nodes.
  pub nodes_in_area : nodes_in (area_of n rows) ≡ n
  unfolding area_of
  nodes_in_area = nodes_in_laid n (load n rows) rows zeros

  -- It gives the number of rows.
  pub count_in_area : count_in (area_of n rows) ≡ length rows
  unfolding area_of
  count_in_area = count_in_laid n (load n rows) rows zeros

  -- It gives each link's load.
  pub load_in_area : (p : ℕ) → p < most_links → load_in (area_of n rows) p ≡ load n rows p
  unfolding area_of
  load_in_area = load_in_laid n (load n rows) rows zeros

  -- It gives each row.
  pub row_in_area : (i : ℕ) → i < length rows → row_in (area_of n rows) i ≡ get_or rows i none
  unfolding area_of
  row_in_area = row_in_laid n (load n rows) rows zeros

  -- It gives the rows.
  pub rows_in_area : rows_in (area_of n rows) ≡ rows
  unfolding area_of
  rows_in_area = rows_in_laid n (load n rows) rows zeros

  -- Zeros stand behind the rows.
  pub behind_area : drop (row_place (length rows)) (area_of n rows) ≡ zeros
  unfolding area_of
  behind_area = behind_laid n (load n rows) rows zeros

-- Loads that agree on all links give one area.
pub laid_ext : (n : ℕ) (loads loads' : ℕ → ℕ) (rows : List Row) (behind : List ℕ)
    → ((p : ℕ) → p < most_links → loads p ≡ loads' p)
    → laid n loads rows behind ≡ laid n loads' rows behind
unfolding laid
laid_ext n loads loads' rows behind same =
    let counts : build most_links loads ≡ build most_links loads' = build_ext most_links loads loads' same in
    ap (λ (l : List ℕ). n ∷ length rows ∷ (l ++ (numbers rows ++ behind))) counts

-- ---- a whole area
-- An area has the number of rows that it gives.
pub rows_counted : (s : List ℕ) → length (rows_in s) ≡ count_in s
unfolding rows_in
rows_counted s = length-build (count_in s) (row_in s)

-- The numbers before the rows are the nodes, the number of rows and the loads.
head_again : (s : List ℕ)
    → rows_begin ≤ length s
    → head (nodes_in s) (count_in s) (load_in s) ++ drop rows_begin s ≡ s
unfolding head load_in
head_again [] h = absurd (omega arith)
head_again (a ∷ []) h = absurd (omega arith)
head_again (a ∷ b ∷ xs) h =
    let loads : build most_links (λ p. get_or (a ∷ b ∷ xs) (loads_begin + p) 0) ≡ build most_links (λ p. get_or xs p 0) =
    build_ext most_links _ _ (λ p l. get_or-append-add (a ∷ b ∷ []) xs p 0)
    in
    ap (λ (l : List ℕ). a ∷ b ∷ (l ++ drop most_links xs)) loads
    ∙ ap {B = List ℕ} (λ l. a ∷ b ∷ l) (build_front most_links xs 0 (omega arith))

-- The numbers where the rows begin are those of the first rows, and what stands behind them.
body_again : (s : List ℕ) (k : ℕ)
    → row_place k ≤ length s
    → numbers (build k (row_in s)) ++ drop (row_place k) s ≡ drop rows_begin s
body_again s k h =
    let body : List ℕ = drop rows_begin s in
    let rows : build k (row_in s) ≡ build k (row_at body) = build_ext k (row_in s) (row_at body) (λ i l. row_past s i) in
    ap (λ (rs : List Row). numbers rs ++ drop (row_place k) s) rows
    ∙ ap (λ (l : List ℕ). numbers (build k (row_at body)) ++ l) (sym (drop-drop (row_width * k) rows_begin s))
    ∙ numbers_again k body (omega (arith, length-drop rows_begin s))

-- A whole area, laid out of what is read of it, is that area.
pub laid_again : (s : List ℕ)
    → length s ≡ room
    → count_in s ≤ most_rows
    → laid (nodes_in s) (load_in s) (rows_in s) (drop (row_place (count_in s)) s) ≡ s
unfolding rows_in
laid_again s whole few =
    laid_is (nodes_in s) (load_in s) (rows_in s) behind
    ∙ ap (λ (k : ℕ). head (nodes_in s) k (load_in s) ++ (numbers (rows_in s) ++ behind)) (rows_counted s)
    ∙ ap (λ (l : List ℕ). head (nodes_in s) (count_in s) (load_in s) ++ l) (body_again s (count_in s) (omega arith))
    ∙ head_again s (omega arith)
  where
    behind : List ℕ
    behind = drop (row_place (count_in s)) s
