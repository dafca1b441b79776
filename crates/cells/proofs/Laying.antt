-- Rows that are laid out over their cells, row by row, and a list of the cells that is gathered by rows.
--     laying_none, laying_more, laying_all             at the start; one row more; at the end
--     laying_inside, laying_room                       the next row's cells have places, in the list as it came and is
--     column_laid                                      a column of a list of which a part was written
--     rows_none, rows_room, rows_more, rows_all        the same for all columns of the cells and their links to go
--     its_length                                       a row's length, in the list of all
--     gathering_none, gathering_more, gathering_all    at the start; one row more; at the end
--     gathering_inside                                 the next row's last cell is one of the cells
-- Assumes nothing.
use mathlib.Core.Path.{◌≡◌, refl, ◌∙◌, ap, sym}
use Prim.Native.Nat.{ℕ, zero, suc, pred, ◌+◌, ◌-◌, ◌≤◌, ◌<◌}
use native.Mathlib.Nat.{not-suc-le-zero}
use native.Mathlib.Numerals.{add-one}
use native.Mathlib.Omega.{arith}
use mathlib.Core.List.{List, [], ◌∷◌, ◌++◌, map, append-nil, append_assoc}
use borrow.Rule.Slice.PartMut.{put_mid, Post-is}
use lib.ListN.{length, get_or, take, drop, set, replicate, length-append, length-drop, length-map, drop_of_length-le}
use lib.Seq.{take-length, take_at, drop-append-add, drop-drop}
use Rattle.std.proofs.lemmas.List.{map-append, take-map, drop-map, get_or-map}
use Rattle.lists.specs.Lists.{build, total}
use Rattle.lists.proofs.Build.{build_ext, build_const, map-build}
use Rattle.lists.proofs.Filling.{filled, filled_more, filled_whole}
use Rattle.table.specs.declared.Row.{Row}
use Rattle.table.specs.Table.{lengths, destinations, dues, cells_in}
use Rattle.slack.specs.declared.Cell.{Cell}
use Rattle.slack.specs.Slack.{dsts_in, dues_in, owners_in}
use Rattle.cells.specs.Rows.{per_cell, laid_out, owners_of}
use Rattle.cells.specs.Cells.{dues_of, of_last_cells}
use Rattle.cells.specs.Steps.{cell_of, places_in, places_of, Open, Laid, AboveZero}
use Rattle.cells.proofs.Seats.{first_cell, first_more, first_all, per_cell_length, row_inside}

-- ---- a column laid out

-- The cells of the first i rows are written, and what lies behind them is as it was.
pub record Laying (f : ℕ → ℕ → ℕ) (len before : List ℕ) (i first : ℕ) (cells : List ℕ) : Type 0 where
  pub known : i ≤ length len
  pub room : length before ≡ total len
  pub at : first ≡ first_cell len i
  pub laid : cells ≡ per_cell (take i len) f ++ drop (first_cell len i) before

pub laying_none : (f : ℕ → ℕ → ℕ) (len before : List ℕ) → length before ≡ total len → Laying f len before 0 0 before
unfolding per_cell first_cell total
laying_none f len before room = record { known = omega arith; room = room; at = refl; laid = refl }

-- the cells of one row more
per_cell_more : (f : ℕ → ℕ → ℕ) (len : List ℕ) (i : ℕ) → i < length len
    → per_cell (take (suc i) len) f ≡ per_cell (take i len) f ++ build (get_or len i 0) (f i)
unfolding per_cell
per_cell_more f [] i l = absurd (not-suc-le-zero l)
per_cell_more f (n ∷ ls) zero l = append-nil (build n (f 0))
per_cell_more f (n ∷ ls) (suc i) l =
    ap (λ rest. build n (f 0) ++ rest) (per_cell_more (λ k. f (suc k)) ls i (omega arith))
    ∙ sym (append_assoc (build n (f 0)) (per_cell (take i ls) (λ k. f (suc k))) (build (get_or ls i 0) (f (suc i))))

module _ {f : ℕ → ℕ → ℕ} {len before : List ℕ} {i first : ℕ} {cells : List ℕ}
    (h : Laying f len before i first cells) where
  -- where the next row ends
  abbrev next : ℕ
  next = first + get_or len i 0

  abbrev front : List ℕ
  front = per_cell (take i len) f

  front_long : length front ≡ first
  front_long = per_cell_length (take i len) f ∙ sym (unfold first_cell in h.at)

  pub laying_inside : i < length len → next ≤ length before
  laying_inside l = omega (arith, h.at, h.room, row_inside len i l)

  pub laying_room : i < length len → next ≤ length cells
  laying_room l =
      let long = ap length h.laid ∙ length-append front (drop (first_cell len i) before) in
      omega (arith, long, front_long, length-drop (first_cell len i) before, h.at, laying_inside l)

  -- The cells of the next row are written.
  pub laying_more : (l : i < length len) (after : List ℕ)
      → after ≡ take first cells ++ (build (get_or len i 0) (f i) ++ drop next cells)
      → Laying f len before (i + 1) next after
  laying_more l after is =
      record {
        known = omega arith;
        room = h.room;
        at = omega (arith, h.at, first_more len i l);
        laid = rw (first_more len i l, add-one, per_cell_more f len i l, sym h.at) (is ∙ joined);
      }
    where
      row : List ℕ
      row = build (get_or len i 0) (f i)

      behind : drop next cells ≡ drop next before
      behind =
          ap (drop next) (h.laid ∙ ap (λ k. front ++ drop k before) (sym h.at))
          ∙ ap (λ k. drop (k + get_or len i 0) (front ++ drop first before)) (sym front_long)
          ∙ drop-append-add front (drop first before) (get_or len i 0) ∙ drop-drop (get_or len i 0) first before

      in_front : take first cells ≡ front
      in_front = ap (take first) h.laid ∙ take_at front (drop (first_cell len i) before) first front_long

      joined : take first cells ++ (row ++ drop next cells) ≡ (front ++ row) ++ drop next before
      joined = rw (in_front, behind) (sym (append_assoc front row (drop next before)))

  pub laying_all : length len ≤ i → cells ≡ per_cell len f
  laying_all l =
      let e : i ≡ length len = omega (arith, h.known) in
      let none = drop_of_length-le before {i = total len} (omega (arith, h.room)) in
      h.laid ∙ ap (λ k. per_cell (take k len) f ++ drop (first_cell len k) before) e
      ∙ rw (take-length len, first_all len, none, append-nil)

-- A list of which a part was written.
put_is : {A : Type 0} (a k : ℕ) (xs ys : List A) → put_mid a (a + k - a) xs ys ≡ take a xs ++ (ys ++ drop (a + k) xs)
put_is a k xs ys = ap (λ r. take a xs ++ (ys ++ r)) (Post-is a (a + k) xs (omega arith))

-- A column of such a list.
pub column_laid : {A : Type 0} (col : A → ℕ) (xs part : List A) (first next n : ℕ) (g : ℕ → A) (f : ℕ → ℕ)
    → part ≡ build n g → ((j : ℕ) → j < n → col (g j) ≡ f j)
    → map col (take first xs ++ (part ++ drop next xs)) ≡ take first (map col xs) ++ (build n f ++ drop next (map col xs))
column_laid col xs part first next n g f is same =
    rw (
      is,
      map-append col (take first xs) (build n g ++ drop next xs),
      map-append col (build n g) (drop next xs),
      map-build n col g,
      build_ext n (λ j. col (g j)) f same,
      take-map col first xs,
      drop-map col next xs,
    )

-- A row's length, in the list of all.
pub its_length : (rows : List Row) (i : ℕ) (d : Row) → i < length rows → get_or (lengths rows) i 0 ≡ (get_or rows i d).len
unfolding lengths
its_length rows i d l = get_or-map (λ (r : Row). r.len) rows i d 0 l

pub lengths_long : (rows : List Row) → length (lengths rows) ≡ length rows
unfolding lengths
lengths_long rows = length-map rows (λ (r : Row). r.len)

-- ---- rows laid out

-- The cells of the first i rows are written in each column, and their links to go.
pub record LayingRows (rows : List Row) (links : List ℕ) (cells₀ : List Cell) (left₀ : List ℕ) (i first : ℕ)
    (cells : List Cell) (left : List ℕ) : Type 0 where
  pub dst_laid : Laying (λ i j. get_or (destinations rows) i 0) (lengths rows) (dsts_in cells₀) i first (dsts_in cells)
  pub due_laid : Laying (λ i j. get_or (dues rows) i 0 - (get_or (lengths rows) i 0 - suc j)) (lengths rows) (dues_in cells₀) i first
      (dues_in cells)
  pub owner_laid : Laying (λ i j. suc i) (lengths rows) (owners_in cells₀) i first (owners_in cells)
  pub place_laid : Laying (λ i j. suc j) (lengths rows) (places_in cells₀) i first (places_in cells)
  pub left_laid : Laying (λ i j. get_or links i 0) (lengths rows) left₀ i first left

pub rows_none : {rows : List Row} {links : List ℕ} {cells : List Cell} {left : List ℕ} → Open rows links cells left
    → LayingRows rows links cells left 0 0 cells left
unfolding cells_in dsts_in dues_in owners_in places_in
rows_none {rows} {links} {cells} {left} o =
    record {
      dst_laid = laying_none _ _ _ (length-map cells _ ∙ o.cells_room);
      due_laid = laying_none _ _ _ (length-map cells _ ∙ o.cells_room);
      owner_laid = laying_none _ _ _ (length-map cells _ ∙ o.cells_room);
      place_laid = laying_none _ _ _ (length-map cells _ ∙ o.cells_room);
      left_laid = laying_none _ _ _ o.left_room;
    }

module _ {rows : List Row} {links : List ℕ} {cells₀ : List Cell} {left₀ : List ℕ} {i first : ℕ} {cells : List Cell} {left : List ℕ}
    (h : LayingRows rows links cells₀ left₀ i first cells left) where
  -- The next row's cells have places.
  pub rows_room : (d : Row) → i < length rows
      → (first + (get_or rows i d).len ≤ length cells) × (first + (get_or rows i d).len ≤ length left)
  unfolding dsts_in
  rows_room d l =
      let inside : i < length (lengths rows) = omega (arith, lengths_long rows) in
      let long = its_length rows i d l in (
        omega (arith, laying_room h.dst_laid inside, length-map cells (λ (c : Cell). c.dst.0), long),
        omega (arith, laying_room h.left_laid inside, long),
      )

  -- The next row's cells are written.
  pub rows_more : (r : Row) → (l : i < length rows) → r ≡ get_or rows i r
      → (part : List Cell) → part ≡ build r.len (cell_of r (i + 1))
      → (to_go : List ℕ) → to_go ≡ replicate r.len (get_or links i 0)
      → LayingRows rows links cells₀ left₀ (i + 1) (first + r.len)
      (put_mid first (first + r.len - first) cells part) (put_mid first (first + r.len - first) left to_go)
  unfolding dsts_in dues_in owners_in places_in destinations dues
  rows_more r l is part written to_go all_same =
      rw (put_is first r.len cells part, put_is first r.len left to_go)
      (record {
        dst_laid = rw long at (laying_more h.dst_laid inside _ (column (λ c. c.dst.0) (λ j. get_or (destinations rows) i 0) (λ j. dst_is)));
        due_laid = rw long at (laying_more h.due_laid inside _ (column (λ c. c.due.0) (λ j. get_or (dues rows) i 0 - (get_or (lengths rows) i 0 - suc j)) (λ j. rw (due_is, long))));
        owner_laid = rw long at (laying_more h.owner_laid inside _ (column (λ c. c.row) (λ j. suc i) (λ j. add-one i)));
        place_laid = rw long at (laying_more h.place_laid inside _ (column (λ c. c.place) (λ j. suc j) (λ j. add-one j)));
        left_laid = rw long at (laying_more h.left_laid inside _ there);
      })
    where
      inside : i < length (lengths rows)
      inside = omega (arith, lengths_long rows)

      long : get_or (lengths rows) i 0 ≡ r.len
      long = its_length rows i r l ∙ ap (λ (x : Row). x.len) (sym is)

      column : (col : Cell → ℕ) (f : ℕ → ℕ) → ((j : ℕ) → col (cell_of r (i + 1) j) ≡ f j)
          → map col (take first cells ++ (part ++ drop (first + r.len) cells))
          ≡ take first (map col cells) ++ (build (get_or (lengths rows) i 0) f ++ drop (first + get_or (lengths rows) i 0) (map col cells))
      column col f same =
          rw long (column_laid col cells part first (first + r.len) r.len (cell_of r (i + 1)) f written (λ j m. same j))

      there : take first left ++ (to_go ++ drop (first + r.len) left)
          ≡ take first left ++ (build (get_or (lengths rows) i 0) (λ j. get_or links i 0) ++ drop (first + get_or (lengths rows) i 0) left)
      there = rw (long, all_same, build_const r.len (get_or links i 0))

      dst_is : r.dst ≡ get_or (map (λ (x : Row). x.dst) rows) i 0
      dst_is = ap (λ (x : Row). x.dst) is ∙ sym (get_or-map (λ (x : Row). x.dst) rows i r 0 l)

      due_is : get_or (map (λ (x : Row). x.due) rows) i 0 ≡ r.due
      due_is = get_or-map (λ (x : Row). x.due) rows i r 0 l ∙ ap (λ (x : Row). x.due) (sym is)

  pub rows_all : length rows ≤ i → Laid rows links cells left
  unfolding laid_out dues_of owners_of places_of
  rows_all l =
      let end : length (lengths rows) ≤ i = omega (arith, lengths_long rows) in
      record {
        dst_is = laying_all h.dst_laid end;
        due_is = laying_all h.due_laid end;
        owner_is = laying_all h.owner_laid end;
        place_is = laying_all h.place_laid end;
        left_is = laying_all h.left_laid end;
      }

-- ---- a list gathered

-- What the list says of row i's last cell.
abbrev last_of : (rows : List Row) (stamps : List ℕ) → ℕ → ℕ
last_of rows stamps i = get_or stamps (pred (total (take (suc i) (lengths rows)))) 0

-- The first i rows have what is said of their last cells.
pub record Gathering (rows : List Row) (stamps before : List ℕ) (i next : ℕ) (arrivals : List ℕ) : Type 0 where
  pub some : AboveZero (lengths rows)
  pub each : length stamps ≡ cells_in rows
  pub room : length before ≡ length rows
  pub known : i ≤ length rows
  pub at : next ≡ first_cell (lengths rows) i
  pub gathered : arrivals ≡ filled (last_of rows stamps) before i

pub gathering_none : (rows : List Row) (stamps before : List ℕ) → AboveZero (lengths rows) → length stamps ≡ cells_in rows
    → length before ≡ length rows → Gathering rows stamps before 0 0 before
unfolding first_cell total
gathering_none rows stamps before some each room =
    record { some = some; each = each; room = room; known = omega arith; at = refl; gathered = refl }

module _ {rows : List Row} {stamps before : List ℕ} {i next : ℕ} {arrivals : List ℕ}
    (h : Gathering rows stamps before i next arrivals) (d : Row) (l : i < length rows) where
  -- where the next row ends
  abbrev end : ℕ
  end = next + (get_or rows i d).len

  pub gathering_inside : (0 < end) × (end ≤ length stamps)
  unfolding cells_in
  gathering_inside =
      omega (
        arith,
        h.some i (omega (arith, lengths_long rows)),
        h.at,
        h.each,
        its_length rows i d l,
        row_inside (lengths rows) i (omega (arith, lengths_long rows)),
      )

  ends : first_cell (lengths rows) (i + 1) ≡ end
  ends = omega (arith, first_more (lengths rows) i (omega (arith, lengths_long rows)), its_length rows i d l, h.at)

  -- The last cell of row i is the one before the next row's first.
  last_there : last_of rows stamps i ≡ get_or stamps (end - 1) 0
  unfolding first_cell
  last_there =
      let p : pred end ≡ end - 1 = omega arith in
      rw (rw add-one at ends, p)

  pub gathering_more : Gathering rows stamps before (i + 1) end (set arrivals i (get_or stamps (end - 1) 0))
  gathering_more =
      record {
        some = h.some;
        each = h.each;
        room = h.room;
        known = omega arith;
        at = sym ends;
        gathered =
            rw (sym last_there, h.gathered) (filled_more (last_of rows stamps) before i (omega (arith, h.room)));
      }

pub gathering_all : {rows : List Row} {stamps before : List ℕ} {i next : ℕ} {arrivals : List ℕ}
    → Gathering rows stamps before i next arrivals → length rows ≤ i → arrivals ≡ of_last_cells (lengths rows) stamps
unfolding of_last_cells
gathering_all {rows} {stamps} {before} {i} h l =
    h.gathered
    ∙ filled_whole (last_of rows stamps) before i (length (lengths rows)) (omega (arith, h.known, lengths_long rows)) (h.room ∙ sym (lengths_long rows))
