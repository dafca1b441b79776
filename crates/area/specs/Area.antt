-- A table as it lies in its lent area, and what is asked of it: document 02, Ask 2. The panel lends one area: the
-- number of nodes, the number of rows, the load of each of 32 links, and the numbers of each of 512 rows.
use Rattle.std.specs.Prelude.{ℕ, ◌+◌, ◌-◌, ◌*◌, min, Bool, cond, ◌||◌, ◌&&◌, List, [], ◌∷◌, ◌++◌, ltb, leb, length, get_or, replicate}
use Rattle.lists.specs.Lists.{build, largest, first_place}
use Rattle.table.specs.declared.Row.{Row}
use Rattle.table.specs.Table.{most_rows, row_numbers, row_by}
use Rattle.area.specs.declared.LinkLoad.{LinkLoad}

-- The most links that a ring may have.
abbrev pub most_links : ℕ
most_links = 32

-- How many numbers a row has in an area.
abbrev pub row_width : ℕ
row_width = 4

-- Where the loads begin: behind the number of nodes and the number of rows.
abbrev pub loads_begin : ℕ
loads_begin = 2

-- Where the rows begin: behind the loads.
abbrev pub rows_begin : ℕ
rows_begin = loads_begin + most_links

-- Where row i begins, counted from 0.
abbrev pub row_place : ℕ → ℕ
row_place i = rows_begin + row_width * i

-- How many numbers an area has.
abbrev pub room : ℕ
room = row_place most_rows

-- Link p lies on a row's way: from its source up to its destination, round node 0 where that is not above the source.
unfoldable pub crosses : ℕ → Row → ℕ → Bool
crosses n r p =
    ltb p n && cond (ltb r.src r.dst) (leb r.src p && ltb p r.dst) (leb r.src p || ltb p r.dst)

-- The load of link p: how many cells cross it, all those of each row whose way it lies on, counted afresh.
unfoldable pub load : ℕ → List Row → ℕ → ℕ
load n [] p = 0
load n (r ∷ rows) p = cond (crosses n r p) r.len 0 + load n rows p

-- The numbers of a list of rows, one row behind the other.
unfoldable pub numbers : List Row → List ℕ
numbers [] = []
numbers (r ∷ rows) = row_numbers r ++ numbers rows

-- An area laid out: nodes, number of rows, loads, rows, and what stands behind them.
unfoldable pub laid : (n : ℕ) (loads : ℕ → ℕ) (rows : List Row) (behind : List ℕ) → List ℕ
laid n loads rows behind = n ∷ length rows ∷ (build most_links loads ++ (numbers rows ++ behind))

-- The area of a table: its loads are those of its rows, and zeros stand behind them.
unfoldable pub area_of : ℕ → List Row → List ℕ
area_of n rows = laid n (load n rows) rows (replicate (row_width * (most_rows - length rows)) 0)

-- What an area holds, read place by place.
abbrev pub nodes_in : List ℕ → ℕ
nodes_in s = get_or s 0 0

abbrev pub count_in : List ℕ → ℕ
count_in s = get_or s 1 0

unfoldable pub load_in : List ℕ → ℕ → ℕ
load_in s p = get_or s (loads_begin + p) 0

unfoldable pub row_in : List ℕ → ℕ → Row
row_in s i = row_by (λ field. get_or s (row_place i + field) 0)

unfoldable pub rows_in : List ℕ → List Row
rows_in s = build (count_in s) (row_in s)

-- The loads of the ring's links.
unfoldable pub loads_in : List ℕ → List ℕ
loads_in s = build (min (nodes_in s) most_links) (load_in s)

-- The busiest of a list of loads: the lowest link of those with the largest load, and that load.
unfoldable pub busiest_in : List ℕ → LinkLoad
busiest_in loads = record { link = record { 0 = first_place (largest loads) loads }; load = largest loads }
