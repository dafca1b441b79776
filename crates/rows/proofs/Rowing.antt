-- A run of rows is a run of their cells, told in rows.
--     fits, opens   there is room for the cells
--     can_run       the cells that are laid out can be run
--     rows_ran      what their run gives is what the run of the rows does
-- Assumes nothing.
use mathlib.Core.Path.{◌≡◌, refl, ◌∙◌, ap, sym}
use Prim.Native.Nat.{ℕ, suc, pred, ◌≤◌, ◌<◌}
use native.Mathlib.Omega.{arith}
use native.Mathlib.Decide.{dec_lt}
use mathlib.Core.Bool.{Bool, true, false, cond}
use mathlib.Core.List.{List}
use lib.Dec.{eqb}
use lib.ListN.{length, get_or, take, replicate, length-map, length-replicate, get_or-replicate, get_or-eq_default}
use Rattle.lists.specs.Lists.{total, largest}
use Rattle.lists.proofs.Fronts.{front_long}
use Rattle.lists.proofs.Build.{build_ext, build_const}
use Rattle.table.specs.declared.Row.{Row}
use Rattle.table.specs.Table.{dues, cells_in, last_due}
use Rattle.slack.specs.declared.Cell.{Cell}
use Rattle.slack.specs.Slack.{traffic_in, owners_in, arrivals_of}
use Rattle.cells.specs.Rows.{Freight, owners, cell_links}
use Rattle.cells.specs.Cells.{cell_traffic, row_plan, row_stop, of_last_cells, row_arrivals}
use Rattle.cells.specs.Looks.{row_looks}
use Rattle.cells.specs.Steps.{no_cell, Open, Laid}
use Rattle.cells.proofs.Laid.{traffic_is, owner_is, left_is}
use Rattle.cells.proofs.Laying.{lengths_long}
use Rattle.best.proofs.Order.{owners_long, links_long, laid_on_ring}
use Rattle.best.proofs.Named.{owner_named}
use Rattle.best.proofs.Planning.{same_largest}
use Rattle.run.specs.Steps.{Ready, Ran}
use Rattle.run.specs.declared.Ending.{Ending}
use Rattle.rows.specs.Steps.{bound_for, Loaded, RanRows}

-- Where no cell arrives, no row does.
none_gathered : (len : List ℕ) (n : ℕ) → of_last_cells len (replicate {A = ℕ} n 0) ≡ replicate {A = ℕ} (length len) 0
unfolding of_last_cells
none_gathered len n =
    build_ext (length len) (λ i. get_or (replicate {A = ℕ} n 0) (pred (total (take (suc i) len))) 0) (λ i. 0)
    (λ i l. none (pred (total (take (suc i) len))) (dec_lt (pred (total (take (suc i) len))) n))
    ∙ build_const (length len) 0
  where
    none : (c : ℕ) → Dec (c < n) → get_or (replicate {A = ℕ} n 0) c 0 ≡ 0
    none c (yes l) = get_or-replicate n c 0 0 l
    none c (no l) =
        get_or-eq_default (replicate {A = ℕ} n 0) 0 {n = c} (omega (arith, length-replicate {A = ℕ} n 0))

module _ (n : ℕ) (rows : List Row) (links : List ℕ) {plan arrivals : List ℕ} (loaded : Loaded n rows links plan arrivals) where
  abbrev F : Freight
  F = bound_for n rows links

  -- The fixed memory has a front for the cells.
  module _ {count : ℕ} (counted : count ≡ cells_in rows) where
    pub fits : {A : Type 0} {none : A} (places : List A) → places ≡ replicate 1024 none
        → length (take count places) ≡ cells_in rows
    fits {A} {none} places blank = sym (front_long 1024 count none places blank (omega (arith, loaded.few))) ∙ counted

    pub opens : {cells : List Cell} {left : List ℕ} → cells ≡ replicate 1024 no_cell → left ≡ replicate {A = ℕ} 1024 0
        → Open rows links (take count cells) (take count left)
    opens blank cleared =
        record {
          few = omega (arith, loaded.many);
          links_each = loaded.links_each;
          cells_room = fits _ blank;
          left_room = fits _ cleared;
        }

  last_is : largest (cell_traffic F).due ≡ largest F.due
  unfolding dues
  last_is = same_largest F (omega (arith, length-map rows (λ (r : Row). r.due), lengths_long rows)) loaded.some

  ready : (stamps : List ℕ) → length stamps ≡ cells_in rows
      → Ready (cell_traffic F) (owners F) (cell_links F) plan stamps
  unfolding cells_in last_due cell_traffic
  ready stamps each =
      record {
        ring = laid_on_ring F loaded.laden;
        few = omega (arith, links_long F, loaded.few);
        soon = rw last_is loaded.soon;
        room = rw last_is loaded.room;
        rows = each ∙ sym (links_long F);
        owned = owners_long F ∙ sym (links_long F);
        named = owner_named F;
      }

  module _ {cells : List Cell} {left : List ℕ} (laid : Laid rows links cells left) where
    -- The cells can be run.
    pub can_run : (stamps : List ℕ) → length stamps ≡ cells_in rows
        → Ready (traffic_in n cells) (owners_in cells) left plan stamps × (length left ≤ 1024)
    unfolding cells_in
    can_run stamps each = (
      rw (traffic_is n laid, owner_is n laid, left_is n laid) (ready stamps each),
      rw (left_is n laid) (omega (arith, links_long F, loaded.few)),
    )

    -- What their run gives, with the rows' arrivals gathered from the cells', is what the run of the rows does.
    pub rows_ran : {room : ℕ} {ending : Ending} {left' plan' stamps' arrivals' : List ℕ}
        → Ran (traffic_in n cells) (owners_in cells) left room ending left' plan' stamps'
        → arrivals' ≡ of_last_cells F.len stamps' → RanRows F room ending plan' arrivals'
    rows_ran {room} {ending} {left'} {plan'} {stamps'} {arrivals'} from gathered =
        record { stops = stops; looked = looked; carries = carries; arrives = arrives }
      where
        ran : Ran (cell_traffic F) (owners F) (cell_links F) room ending left' plan' stamps'
        ran = rw (traffic_is n laid, owner_is n laid, left_is n laid) at from

        stops : ending.stop ≡ row_stop F (largest F.due)
        stops = unfold row_stop in rw last_is at ran.stops

        looked : ending.looks ≡ row_looks F (largest F.due)
        looked = unfold row_looks in rw last_is at ran.looked

        carries : plan' ≡ cond (eqb ending.stop.row 0) (row_plan F (largest F.due)) (replicate room 0)
        carries = unfold row_plan in rw last_is at ran.carries

        stamped : List ℕ
        stamped = arrivals_of (cell_traffic F) (cell_links F) (largest F.due)

        gathers : (b : Bool) → of_last_cells F.len (cond b stamped (replicate (length (cell_links F)) 0))
            ≡ cond b (row_arrivals F (largest F.due)) (replicate (length F.len) 0)
        gathers true = unfold row_arrivals in refl
        gathers false = none_gathered F.len (length (cell_links F))

        arrives : arrivals'
            ≡ cond (eqb ending.stop.row 0) (row_arrivals F (largest F.due)) (replicate (length F.len) 0)
        arrives =
            gathered ∙ ap (of_last_cells F.len) (rw last_is at ran.arrives) ∙ gathers (eqb ending.stop.row 0)
