-- Rows as the numbers that they have in an area. Only the first four laws see which numbers a row has.
--     row_numbers_long                 a row has `row_width` numbers
--     row_by_ext                       numbers that agree make one row
--     row_by_numbers, numbers_by       a row is made of its numbers, and has the numbers that it is made of
--     numbers_long                     how many numbers rows have
--     numbers_cons, numbers_parted, numbers_later
--                                      the numbers of a row and others, of two lists of rows, and behind the first row
--     row_at, row_in_numbers            row i of a list of numbers
--     numbers_again                    numbers that are read as rows are the numbers of these rows
--     build_front                      the first entries of a list, built, and the rest
-- Assumes nothing.
use mathlib.Core.Path.{◌≡◌, refl, ◌∙◌, ap, sym}
use Prim.Native.Nat.{ℕ, zero, suc, ◌+◌, ◌*◌, ◌≤◌, ◌<◌}
use native.Mathlib.Nat.{le_of_suc-le-suc}
use native.Mathlib.Omega.{arith}
use mathlib.Core.List.{List, [], ◌∷◌, ◌++◌, append_assoc}
use lib.ListN.{length, get_or, drop, length-append, length-drop}
use lib.Seq.{drop_at, drop-drop, get_or-drop}
use Rattle.lists.specs.Lists.{build}
use Rattle.lists.proofs.Build.{build_ext}
use Rattle.table.specs.declared.Row.{Row}
use Rattle.table.specs.Table.{row_numbers, row_by}
use Rattle.table.specs.Steps.{none}
use Rattle.area.specs.Area.{row_width, numbers}

-- A row has `row_width` numbers.
pub row_numbers_long : (r : Row) → length (row_numbers r) ≡ row_width
row_numbers_long r = refl

-- Numbers that agree make one row.
pub row_by_ext : (f g : ℕ → ℕ) → ((j : ℕ) → j < row_width → f j ≡ g j) → row_by f ≡ row_by g
row_by_ext f g same = ap (λ (l : List ℕ). row_by (λ j. get_or l j 0)) (build_ext row_width f g same)

-- A row is made of its numbers.
pub row_by_numbers : (r : Row) (behind : List ℕ) → row_by (λ j. get_or (row_numbers r ++ behind) j 0) ≡ r
row_by_numbers r behind = refl

-- It has the numbers that it is made of.
pub numbers_by : (f : ℕ → ℕ) → row_numbers (row_by f) ≡ build row_width f
numbers_by f = refl

-- The first entries of a list, built, and the rest.
pub build_front {ℓ} : {A : Type ℓ} (m : ℕ) (xs : List A) (d : A)
    → m ≤ length xs
    → build m (λ i. get_or xs i d) ++ drop m xs ≡ xs
build_front zero xs d h = refl
build_front (suc m) [] d h = absurd (omega arith)
build_front {A} (suc m) (x ∷ xs) d h = ap {B = List A} (λ l. x ∷ l) (build_front m xs d (le_of_suc-le-suc h))

-- The numbers of one row more.
pub numbers_cons : (r : Row) (rows : List Row) (behind : List ℕ)
    → numbers (r ∷ rows) ++ behind ≡ row_numbers r ++ (numbers rows ++ behind)
unfolding numbers
numbers_cons r rows behind = append_assoc (row_numbers r) (numbers rows) behind

-- Rows have `row_width` numbers each.
pub numbers_long : (rows : List Row) → length (numbers rows) ≡ row_width * length rows
unfolding numbers
numbers_long [] = refl
numbers_long (r ∷ rows) =
    omega (arith, length-append (row_numbers r) (numbers rows), row_numbers_long r, numbers_long rows)

-- The numbers of two lists of rows, one behind the other.
numbers_joined : (xs ys : List Row) → numbers (xs ++ ys) ≡ numbers xs ++ numbers ys
unfolding numbers
numbers_joined [] ys = refl
numbers_joined (x ∷ xs) ys =
    ap (λ (l : List ℕ). row_numbers x ++ l) (numbers_joined xs ys)
    ∙ sym (append_assoc (row_numbers x) (numbers xs) (numbers ys))

-- The numbers of two lists of rows, and what stands behind them.
pub numbers_parted : (xs ys : List Row) (behind : List ℕ)
    → numbers (xs ++ ys) ++ behind ≡ numbers xs ++ (numbers ys ++ behind)
numbers_parted xs ys behind =
    ap (λ (l : List ℕ). l ++ behind) (numbers_joined xs ys) ∙ append_assoc (numbers xs) (numbers ys) behind

-- The numbers behind the first row.
pub numbers_later : (r : Row) (rows : List Row) (behind : List ℕ)
    → drop row_width (numbers (r ∷ rows) ++ behind) ≡ numbers rows ++ behind
numbers_later r rows behind =
    ap (drop row_width) (numbers_cons r rows behind)
    ∙ drop_at (row_numbers r) (numbers rows ++ behind) row_width (row_numbers_long r)

-- Row i of a list of numbers.
abbrev pub row_at : List ℕ → ℕ → Row
row_at xs i = row_by (λ j. get_or xs (row_width * i + j) 0)

-- The first row.
row_first : (xs : List ℕ) → row_at xs 0 ≡ row_by (λ j. get_or xs j 0)
row_first xs =
    row_by_ext (λ j. get_or xs (row_width * 0 + j) 0) (λ j. get_or xs j 0) (λ j l. ap (λ (k : ℕ). get_or xs k 0) (omega arith))

-- A later row.
row_later : (xs : List ℕ) (i : ℕ) → row_at xs (suc i) ≡ row_at (drop row_width xs) i
row_later xs i =
    row_by_ext (λ j. get_or xs (row_width * suc i + j) 0) (λ j. get_or (drop row_width xs) (row_width * i + j) 0) same
  where
    same : (j : ℕ) → j < row_width → get_or xs (row_width * suc i + j) 0 ≡ get_or (drop row_width xs) (row_width * i + j) 0
    same j l =
        let past : row_width * suc i + j ≡ row_width + (row_width * i + j) = omega arith in
        ap (λ (k : ℕ). get_or xs k 0) past ∙ sym (get_or-drop row_width xs (row_width * i + j) 0)

-- Row i of the numbers of a list of rows is row i of the list.
pub row_in_numbers : (rows : List Row) (behind : List ℕ) (i : ℕ)
    → i < length rows
    → row_at (numbers rows ++ behind) i ≡ get_or rows i none
row_in_numbers [] behind i h = absurd (omega arith)
row_in_numbers (r ∷ rows) behind zero h =
    ap (λ (l : List ℕ). row_at l 0) (numbers_cons r rows behind)
    ∙ row_first (row_numbers r ++ (numbers rows ++ behind)) ∙ row_by_numbers r (numbers rows ++ behind)
row_in_numbers (r ∷ rows) behind (suc i) h =
    row_later (numbers (r ∷ rows) ++ behind) i ∙ ap (λ (l : List ℕ). row_at l i) (numbers_later r rows behind)
    ∙ row_in_numbers rows behind i (le_of_suc-le-suc h)

-- Numbers that are read as rows are the numbers of these rows.
pub numbers_again : (k : ℕ) (xs : List ℕ)
    → row_width * k ≤ length xs
    → numbers (build k (row_at xs)) ++ drop (row_width * k) xs ≡ xs
unfolding numbers
numbers_again zero xs h = refl
numbers_again (suc k) xs h =
    let later : build k (λ i. row_at xs (suc i)) ≡ build k (row_at ys) =
    build_ext k _ (row_at ys) (λ i l. row_later xs i)
    in
    let first : row_numbers (row_at xs 0) ≡ front = ap row_numbers (row_first xs) ∙ numbers_by (λ j. get_or xs j 0) in
    ap (λ (rows : List Row). numbers (row_at xs 0 ∷ rows) ++ drop (row_width * suc k) xs) later
    ∙ numbers_cons (row_at xs 0) (build k (row_at ys)) (drop (row_width * suc k) xs)
    ∙ ap (λ (l : List ℕ). l ++ (numbers (build k (row_at ys)) ++ drop (row_width * suc k) xs)) first
    ∙ ap (λ (l : List ℕ). front ++ (numbers (build k (row_at ys)) ++ l)) gone
    ∙ ap (λ (l : List ℕ). front ++ l) (numbers_again k ys (omega (arith, length-drop row_width xs)))
    ∙ build_front row_width xs 0 (omega arith)
  where
    ys : List ℕ
    ys = drop row_width xs

    front : List ℕ
    front = build row_width (λ j. get_or xs j 0)

    gone : drop (row_width * suc k) xs ≡ drop (row_width * k) ys
    gone =
        let past : row_width * suc k ≡ row_width + row_width * k = omega arith in
        ap (λ (m : ℕ). drop m xs) past ∙ sym (drop-drop (row_width * k) row_width xs)
