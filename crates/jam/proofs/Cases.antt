-- Small tables, computed on the definitions: the jam of each. A definition that said less, or more, would give another.
-- Assumes nothing.
use mathlib.Core.Path.{◌≡◌, refl}
use Prim.Native.Nat.{ℕ}
use mathlib.Core.List.{List, [], ◌∷◌, map}
use Rattle.std.proofs.Common.{Option, None, Some}
use Rattle.lists.specs.Lists.{largest}
use Rattle.ring.specs.Ring.{distance}
use Rattle.cells.specs.Rows.{Freight, freight, per_cell, owners_of, owners, laid_out, cell_links}
use Rattle.cells.specs.Cells.{dues_of, cell_dues, cell_traffic}
use Rattle.jam.specs.declared.Jam.{Jam}
use Rattle.jam.specs.Jam.{must_cross, crosses_before, how_many, crossing, overfull, jam}
use Rattle.jam.specs.Jam.{first_from, first_in, fewer, fewest_below, the_jam}
use Rattle.jam.specs.Members.{row_jam, of_row, members_of}

-- Each row's cells in the jam; where there is none, those that must cross link 0 before slot 0, of which there are none.
abbrev marked : Freight → Option Jam → List ℕ
marked F None = members_of F 0 0
marked F (Some found) = members_of F found.link.0 found.before.0

-- The jam of a table, and each row's cells in it.
abbrev told : Freight → Option Jam × List ℕ
told F = let found = row_jam F (largest F.due) in (found, marked F found)

-- Destinations, lengths, due slots and links to go. Three cells for two slots of link 1; one that is too far at once;
-- two from node 0 and one from node 1 that just fit; two for one slot of link 0, and a third row that is not among
-- them; links 0 and 2 with two cells each, of which the lower is told; three cells on link 0 and two on link 2, which
-- has fewer; a row of three cells of which two are in the jam; once round, a slot too early; no rows.
jams_computed : map told (
    freight 4 (2 ∷ 2 ∷ 2 ∷ []) (1 ∷ 1 ∷ 1 ∷ []) (2 ∷ 2 ∷ 2 ∷ []) (1 ∷ 1 ∷ 1 ∷ [])
    ∷ freight 4 (3 ∷ []) (1 ∷ []) (2 ∷ []) (3 ∷ [])
    ∷ freight 4 (2 ∷ 2 ∷ 2 ∷ []) (1 ∷ 1 ∷ 1 ∷ []) (3 ∷ 3 ∷ 3 ∷ []) (2 ∷ 2 ∷ 1 ∷ [])
    ∷ freight 4 (2 ∷ 2 ∷ 2 ∷ []) (1 ∷ 1 ∷ 1 ∷ []) (2 ∷ 4 ∷ 2 ∷ []) (2 ∷ 1 ∷ 2 ∷ [])
    ∷ freight 4 (1 ∷ 1 ∷ 3 ∷ 3 ∷ []) (1 ∷ 1 ∷ 1 ∷ 1 ∷ []) (1 ∷ 1 ∷ 1 ∷ 1 ∷ []) (1 ∷ 1 ∷ 1 ∷ 1 ∷ [])
    ∷ freight 4 (1 ∷ 1 ∷ 1 ∷ 3 ∷ 3 ∷ []) (1 ∷ 1 ∷ 1 ∷ 1 ∷ 1 ∷ []) (2 ∷ 2 ∷ 2 ∷ 1 ∷ 1 ∷ []) (1 ∷ 1 ∷ 1 ∷ 1 ∷ 1 ∷ [])
    ∷ freight 2 (1 ∷ 1 ∷ []) (3 ∷ 1 ∷ []) (3 ∷ 2 ∷ []) (1 ∷ 1 ∷ [])
    ∷ freight 3 (1 ∷ []) (1 ∷ []) (2 ∷ []) (3 ∷ [])
    ∷ freight 4 [] [] [] []
    ∷ [])
    ≡ ((Some (jam 3 1 2), 1 ∷ 1 ∷ 1 ∷ [])
    ∷ (Some (jam 1 0 0), 1 ∷ [])
    ∷ (None, 0 ∷ 0 ∷ 0 ∷ [])
    ∷ (Some (jam 2 0 1), 1 ∷ 0 ∷ 1 ∷ [])
    ∷ (Some (jam 2 0 1), 1 ∷ 1 ∷ 0 ∷ 0 ∷ [])
    ∷ (Some (jam 2 2 1), 0 ∷ 0 ∷ 0 ∷ 1 ∷ 1 ∷ [])
    ∷ (Some (jam 3 0 2), 2 ∷ 1 ∷ [])
    ∷ (Some (jam 1 1 0), 1 ∷ [])
    ∷ (None, [])
    ∷ [])
unfolding largest distance per_cell owners_of owners laid_out cell_links dues_of cell_dues cell_traffic must_cross crosses_before
    how_many crossing overfull first_from first_in fewer fewest_below the_jam row_jam of_row members_of
jams_computed = refl
