-- Marking, one cell after the other: each that is in the jam adds one to its own row's count.
--     marked_none, marked_all                 the counts of no cell, and of all
--     row_some, row_known                     there is a count for its row
--     marked_past, mark_small, marked_more    a cell that is not in the jam, and one that is
-- Assumes nothing.
use mathlib.Core.Path.{◌≡◌, ◌∙◌, ap, sym}
use Prim.Native.Nat.{ℕ, suc, ◌+◌, ◌-◌, ◌<◌}
use native.Mathlib.Numerals.{add-one}
use native.Mathlib.Omega.{arith}
use mathlib.Core.Bool.{Bool, true, false, ◌&&◌, and-false}
use mathlib.Core.List.{List}
use borrow.Author.Tests.{eq-eqb, ne_eqb}
use lib.Dec.{eqb}
use lib.ListN.{length, get_or, set, replicate}
use Rattle.lists.specs.Lists.{build}
use Rattle.lists.proofs.Build.{length-build, get_or_build, build_ext, build_const, set-build}
use Rattle.slack.specs.declared.Cell.{Cell}
use Rattle.slack.specs.Slack.{Traffic, traffic_in, owners_in}
use Rattle.slack.proofs.Cells.{no_cell, dst_at, due_at, owner_at}
use Rattle.jam.specs.Jam.{must_cross, crosses_before, how_many}
use Rattle.jam.proofs.Tally.{how_many_few}
use Rattle.jam_search.proofs.Cells.{left_long, left_known}
use Rattle.reason.specs.Steps.{Marking, marks_by}

-- Of no cell all counts are 0.
pub marked_none : (T : Traffic) (owner start : List ℕ) (p b rows : ℕ)
    → replicate {A = ℕ} rows 0 ≡ marks_by T owner start p b rows 0
unfolding marks_by how_many
marked_none T owner start p b rows = sym (build_const rows 0)

module _ (cells : List Cell) {nodes p b rows : ℕ} {left : List ℕ}
    (h : Marking (traffic_in nodes cells) (owners_in cells) left p b rows) where
  abbrev T : Traffic
  T = traffic_in nodes cells

  -- Once every cell is looked at the counts are those of all.
  pub marked_all : {i : ℕ} {marks : List ℕ} → marks ≡ marks_by T (owners_in cells) left p b rows i → i ≡ length cells
      → marks ≡ marks_by T (owners_in cells) left p b rows (length left)
  marked_all {i} so_far all =
      let same : i ≡ length left = all ∙ sym (left_long cells h.ring) in
      so_far ∙ rw same

  module _ {i : ℕ} (known : i < length cells) where
    in_left : i < length left
    in_left = left_known cells h.ring known

    abbrev cell : Cell
    cell = get_or cells i no_cell

    abbrev row : ℕ
    row = cell.row - 1

    -- Its row has a number.
    pub row_some : 0 < cell.row
    row_some = omega (arith, (h.named i in_left).0, owner_at cells i)

    row_inside : row < rows
    row_inside = omega (arith, (h.named i in_left).0, (h.named i in_left).1, owner_at cells i)

    module _ {marks : List ℕ} (so_far : marks ≡ marks_by T (owners_in cells) left p b rows i) where
      abbrev counted : ℕ → ℕ → ℕ
      counted m r = how_many m (λ c. eqb (get_or (owners_in cells) c 0) (suc r) && crosses_before T left p b c)

      -- There is a count for its row.
      pub row_known : row < length marks
      unfolding marks_by
      row_known = omega (arith, ap length so_far, length-build rows (counted i), row_inside)

      entry : get_or marks row 0 ≡ counted i row
      unfolding marks_by
      entry = ap (λ (l : List ℕ). get_or l row 0) so_far ∙ get_or_build rows (counted i) row 0 row_inside

      -- The row's count so far is below 1,024.
      pub mark_small : get_or marks row 0 < 1024
      mark_small =
          omega (
            arith,
            entry,
            how_many_few i (λ c. eqb (get_or (owners_in cells) c 0) (suc row) && crosses_before T left p b c),
            in_left,
            h.few,
          )

      module _ {must : Bool} (must_is : must ≡ must_cross nodes cell.dst.0 cell.due.0 (get_or left i 0) p b) where
        crosses : crosses_before T left p b i ≡ must
        unfolding crosses_before
        crosses = rw (dst_at cells i, due_at cells i) (sym must_is)

        -- A cell that is not in the jam is counted nowhere.
        pub marked_past : must ≡ false → marks ≡ marks_by T (owners_in cells) left p b rows (i + 1)
        unfolding marks_by how_many
        marked_past e =
            let off : crosses_before T left p b i ≡ false = crosses ∙ e in
            so_far ∙ rw (add-one i) (build_ext rows (counted i) (counted (suc i)) (λ r l.
            rw (off, and-false) (omega arith)))

        -- One that is is counted for its row, and for no other.
        pub marked_more : must ≡ true
            → set marks row (get_or marks row 0 + 1) ≡ marks_by T (owners_in cells) left p b rows (i + 1)
        unfolding marks_by how_many
        marked_more e =
            rw (add-one i)
            (ap (λ (l : List ℕ). set l row (get_or marks row 0 + 1)) so_far
            ∙ ap (set (build rows (counted i)) row) here
            ∙ set-build rows (counted i) (counted (suc i)) row others)
          where
            own : get_or (owners_in cells) i 0 ≡ suc row
            own = omega (arith, row_some, owner_at cells i)

            on : crosses_before T left p b i ≡ true
            on = crosses ∙ e

            here : get_or marks row 0 + 1 ≡ counted (suc i) row
            here = rw (eq-eqb (get_or (owners_in cells) i 0) (suc row) own, on) (omega (arith, entry))

            others : (r : ℕ) → r < rows → (r ≡ row → ⊥) → counted (suc i) r ≡ counted i r
            others r l differs =
                rw (ne_eqb (get_or (owners_in cells) i 0) (suc r) (λ s. differs (omega (arith, own)))) (omega arith)
