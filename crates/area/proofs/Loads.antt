-- The load of a link, counted afresh, when rows come.
--     counted                      what one row adds to a load
--     load_append                  two lists of rows, one behind the other
--     load_between, load_more      one row more between others, or at the end
--     load_few                     no load is above the number of cells
-- Assumes nothing.
use mathlib.Core.Path.{◌≡◌, refl, ◌∙◌}
use Prim.Native.Nat.{ℕ, ◌+◌, ◌≤◌}
use native.Mathlib.Omega.{arith}
use mathlib.Core.Bool.{Bool, true, false, cond}
use mathlib.Core.List.{List, [], ◌∷◌, ◌++◌, append-nil}
use Rattle.lists.specs.Lists.{total}
use Rattle.table.specs.declared.Row.{Row}
use Rattle.table.specs.Table.{lengths, cells_in}
use Rattle.area.specs.Area.{crosses, load}

-- What one row adds to the load of link p.
abbrev pub counted : ℕ → Row → ℕ → ℕ
counted n r p = cond (crosses n r p) r.len 0

module _ (n p : ℕ) where
  -- One row more in front.
  load_cons : (r : Row) (rows : List Row) → load n (r ∷ rows) p ≡ counted n r p + load n rows p
  unfolding load
  load_cons r rows = refl

  -- The load of two lists of rows is the sum of both loads.
  pub load_append : (xs ys : List Row) → load n (xs ++ ys) p ≡ load n xs p + load n ys p
  unfolding load
  load_append [] ys = omega arith
  load_append (r ∷ xs) ys = omega (arith, load_append xs ys)

  -- A row put between two lists of rows is counted in.
  pub load_between : (xs : List Row) (r : Row) (ys : List Row)
      → load n (xs ++ r ∷ ys) p ≡ counted n r p + load n (xs ++ ys) p
  load_between xs r ys = omega (arith, load_append xs (r ∷ ys), load_cons r ys, load_append xs ys)

  -- A row added at the end is counted in.
  pub load_more : (rows : List Row) (r : Row) → load n (rows ++ (r ∷ [])) p ≡ counted n r p + load n rows p
  load_more rows r = load_between rows r [] ∙ rw (append-nil rows)

  -- No load is above the number of cells.
  pub load_few : (rows : List Row) → load n rows p ≤ cells_in rows
  unfolding load cells_in lengths total
  load_few [] = omega arith
  load_few (r ∷ rows) = go (crosses n r p) (load_few rows)
    where
      go : (b : Bool) → load n rows p ≤ cells_in rows → cond b r.len 0 + load n rows p ≤ r.len + cells_in rows
      go true h = omega arith
      go false h = omega arith
