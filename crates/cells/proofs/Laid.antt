-- Cells that are laid out: they are the freight's.
--     traffic_is, owner_is, left_is      the traffic, the owners and the links to go
-- Assumes nothing.
use mathlib.Core.Path.{◌≡◌}
use Prim.Native.Nat.{ℕ}
use mathlib.Core.List.{List}
use Rattle.table.specs.declared.Row.{Row}
use Rattle.table.specs.Table.{lengths, destinations, dues}
use Rattle.slack.specs.declared.Cell.{Cell}
use Rattle.slack.specs.Slack.{traffic_in, owners_in}
use Rattle.cells.specs.Rows.{Freight, freight, owners, cell_links}
use Rattle.cells.specs.Cells.{cell_dues, cell_traffic}
use Rattle.cells.specs.Steps.{Laid}

module _ (n : ℕ) {rows : List Row} {links : List ℕ} {cells : List Cell} {left : List ℕ}
    (laid : Laid rows links cells left) where
  abbrev F : Freight
  F = freight n (destinations rows) (lengths rows) (dues rows) links

  -- The destinations and due slots.
  pub traffic_is : traffic_in n cells ≡ cell_traffic F
  unfolding cell_traffic cell_dues
  traffic_is = rw (laid.dst_is, laid.due_is)

  -- The rows that the cells belong to.
  pub owner_is : owners_in cells ≡ owners F
  unfolding owners
  owner_is = laid.owner_is

  -- The links to go.
  pub left_is : left ≡ cell_links F
  unfolding cell_links
  left_is = laid.left_is
