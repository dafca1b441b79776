-- What a run of rows asks and gives, and the room that it takes.
use Rattle.std.specs.Prelude.{ℕ, ◌*◌, ◌<◌, ◌≤◌, ◌^◌, ◌≡◌, cond, List, eqb, length, replicate}
use Rattle.lists.specs.Lists.{largest}
use Rattle.table.specs.declared.Row.{Row}
use Rattle.table.specs.Table.{destinations, lengths, dues, cells_in, last_due}
use Rattle.cells.specs.Rows.{Freight, freight}
use Rattle.cells.specs.Cells.{row_plan, row_arrivals, row_stop}
use Rattle.cells.specs.Looks.{row_looks}
use Rattle.cells.specs.Steps.{Laden, AboveZero}
use Rattle.run.specs.declared.Ending.{Ending}

-- The rows of a table with so many links to go each.
abbrev pub bound_for : ℕ → List Row → (links : List ℕ) → Freight
bound_for n rows links = freight n (destinations rows) (lengths rows) (dues rows) links

-- A run of rows can be planned: each has a cell or more, of at most 1,024 in all, and there is an entry for each link
-- in each slot below the largest due slot, and an arrival for each row.
pub record Loaded (n : ℕ) (rows : List Row) (links plan arrivals : List ℕ) : Type 0 where
  pub laden : Laden (bound_for n rows links)
  pub some : AboveZero (lengths rows)
  pub many : length rows ≤ 512
  pub few : cells_in rows ≤ 1024
  pub links_each : length links ≡ length rows
  pub soon : last_due rows < 2 ^ 16
  pub room : length plan ≡ n * last_due rows
  pub each : length arrivals ≡ length rows

-- What a run of rows gives: where it ended and with which row, its looks, and both areas, which hold the plan and the
-- rows' arrivals where no row is late and zeros where one is.
pub record RanRows (F : Freight) (room : ℕ) (ending : Ending) (plan' arrivals' : List ℕ) : Type 0 where
  pub stops : ending.stop ≡ row_stop F (largest F.due)
  pub looked : ending.looks ≡ row_looks F (largest F.due)
  pub carries : plan' ≡ cond (eqb ending.stop.row 0) (row_plan F (largest F.due)) (replicate room 0)
  pub arrives : arrivals'
      ≡ cond (eqb ending.stop.row 0) (row_arrivals F (largest F.due)) (replicate (length F.len) 0)
