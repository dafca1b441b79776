-- Where cells lie: row i begins at the sum of the lengths before it, and its cells follow one another.
--     per_cell_length, per_cell_entry      how many cells there are, and what is said of place j of row i
--     seat                                 every cell is a place of a row
--     row_ends, rows_apart                 rows lie one behind the other
-- Assumes nothing.
use mathlib.Core.Path.{◌≡◌, refl, ◌∙◌, ap, sym}
use Prim.Native.Nat.{ℕ, zero, suc, ◌+◌, ◌-◌, ◌≤◌, ◌<◌}
use native.Mathlib.Nat.{not-suc-le-zero, zero-add}
use native.Mathlib.Omega.{arith}
use native.Mathlib.Decide.{dec_lt}
use mathlib.Core.List.{List, [], ◌∷◌, ◌++◌}
use lib.ListN.{length, get_or, take, length-append, get_or-append}
use lib.Seq.{get_or-append-add, take-length}
use Rattle.lists.specs.Lists.{build, total}
use Rattle.lists.proofs.Build.{length-build, get_or_build}
use Rattle.lists.proofs.Figures.{total_more}
use Rattle.cells.specs.Rows.{per_cell}

-- The first cell of row i.
unfoldable pub first_cell : List ℕ → ℕ → ℕ
first_cell len i = total (take i len)

pub first_more : (len : List ℕ) (i : ℕ) → i < length len → first_cell len (i + 1) ≡ first_cell len i + get_or len i 0
unfolding first_cell
first_more len i l = total_more len i l

pub first_all : (len : List ℕ) → first_cell len (length len) ≡ total len
unfolding first_cell
first_all len = ap total (take-length len)

pub per_cell_length : (len : List ℕ) (f : ℕ → ℕ → ℕ) → length (per_cell len f) ≡ total len
unfolding per_cell total
per_cell_length [] f = refl
per_cell_length (l ∷ ls) f =
    length-append (build l (f 0)) (per_cell ls (λ i. f (suc i)))
    ∙ omega (arith, length-build l (f 0), per_cell_length ls (λ i. f (suc i)))

pub per_cell_entry : (len : List ℕ) (f : ℕ → ℕ → ℕ) (i j : ℕ) → i < length len → j < get_or len i 0
    → get_or (per_cell len f) (first_cell len i + j) 0 ≡ f i j
unfolding per_cell first_cell total
per_cell_entry [] f i j known place = absurd (not-suc-le-zero known)
per_cell_entry (l ∷ ls) f zero j known place =
    let row = build l (f 0) in
    let rest = per_cell ls (λ i. f (suc i)) in
    let here : j < length row = omega (arith, length-build l (f 0)) in
    ap (λ c. get_or (row ++ rest) c 0) (zero-add j) ∙ get_or-append row rest 0 j here ∙ get_or_build l (f 0) j 0 place
per_cell_entry (l ∷ ls) f (suc i) j known place =
    let row = build l (f 0) in
    let rest = per_cell ls (λ k. f (suc k)) in
    let behind = total (take i ls) + j in
    let there : l + total (take i ls) + j ≡ length row + behind = omega (arith, length-build l (f 0)) in
    ap (λ c. get_or (row ++ rest) c 0) there ∙ get_or-append-add row rest behind 0
    ∙ per_cell_entry ls (λ k. f (suc k)) i j (omega arith) place

-- The row of a cell, and the cell's place in it.
pub record Seat (len : List ℕ) (c : ℕ) : Type 0 where
  pub row : ℕ
  pub place : ℕ
  pub known : row < length len
  pub in_row : place < get_or len row 0
  pub is : c ≡ first_cell len row + place

pub seat : (len : List ℕ) (c : ℕ) → c < total len → Seat len c
unfolding first_cell total
seat [] c l = absurd (not-suc-le-zero l)
seat (n ∷ ls) c l = go (dec_lt c n) (seat ls (c - n))
  where
    go : Dec (c < n) → (c - n < total ls → Seat ls (c - n)) → Seat (n ∷ ls) c
    go (yes d) more = record { row = 0; place = c; known = omega arith; in_row = d; is = sym (zero-add c) }
    go (no d) more =
        let s = more (omega arith) in
        record {
          row = suc s.row;
          place = s.place;
          known = omega (arith, s.known);
          in_row = s.in_row;
          is = omega (arith, s.is);
        }

-- The places of a row lie among the cells.
pub cell_known : (len : List ℕ) (i j : ℕ) → i < length len → j < get_or len i 0 → first_cell len i + j < total len
unfolding first_cell total
cell_known [] i j known place = absurd (not-suc-le-zero known)
cell_known (l ∷ ls) zero j known place = omega arith
cell_known (l ∷ ls) (suc i) j known place = omega (arith, cell_known ls i j (omega arith) place)

-- A row ends where the next begins, or before.
pub row_ends : (len : List ℕ) (i k : ℕ) → i < k → k ≤ length len → first_cell len i + get_or len i 0 ≤ first_cell len k
unfolding first_cell total
row_ends [] i k l m = absurd (omega arith)
row_ends (n ∷ ls) i zero l m = absurd (omega arith)
row_ends (n ∷ ls) zero (suc k) l m = omega arith
row_ends (n ∷ ls) (suc i) (suc k) l m = omega (arith, row_ends ls i k (omega arith) (omega arith))

-- A row ends among the cells.
pub row_inside : (len : List ℕ) (i : ℕ) → i < length len → first_cell len i + get_or len i 0 ≤ total len
row_inside len i l = omega (arith, first_all len, row_ends len i (length len) l (omega arith))

-- A cell of an earlier row comes before each cell of a later one.
pub rows_apart : (len : List ℕ) {c d : ℕ} (a : Seat len c) (b : Seat len d) → a.row < b.row → c < d
rows_apart len a b l =
    let apart = row_ends len a.row b.row l (omega (arith, b.known)) in
    omega (arith, a.is, b.is, a.in_row, apart)
