-- The definitions at work: a table for 4 nodes is opened, edited and asked, step by step, good edits and refused ones.
-- Link p goes from node p to node p + 1; so the row from 3 to 1 crosses links 3 and 0.
-- Assumes nothing.
use mathlib.Core.Path.{◌≡◌, refl}
use Prim.Native.Nat.{ℕ}
use mathlib.Core.List.{List, [], ◌∷◌, map}
use lib.ListN.{replicate}
use Rattle.lists.specs.Lists.{total, largest, first_place}
use Rattle.table.specs.declared.Row.{Row}
use Rattle.std.proofs.Common.{Ok, Err}
use Rattle.table.specs.Table.{Verdict, refuse, row_refusal, after_row, judge_rows, lengths, cells_in, after_rows, judge_all, judge}
use Rattle.area.specs.declared.LinkLoad.{LinkLoad}
use Rattle.area.specs.Area.{crosses, load, numbers, laid, area_of, load_in, row_in, rows_in, loads_in}
use Rattle.area.specs.Area.{busiest_in, rows_begin, room}
use Rattle.edit_judge.specs.Judge.{Edit, Add, Change, Remove, first_of, size_refusal, number_refusal, refusal_of}
use Rattle.edit_judge.specs.Judge.{row_named, answer_by, verdict_by}
use Rattle.edit_store.specs.Store.{rows_after, step_for, load_after, behind_after, edited}
use Rattle.edit.specs.Edit.{edit_refusal, about_row, area_after, entry_of}

-- A row by source, destination, length and due slot; a refusal of an edit; a link and its load.
row : (src dst len due : ℕ) → Row
row src dst len due = record { src = src; dst = dst; len = len; due = due }

refused : (number row : ℕ) → Verdict
refused number row = Err (refuse number row 0)

busiest : (link load : ℕ) → LinkLoad
busiest link load = record { link = record { 0 = link }; load = load }

-- An edit, and what is expected: the verdict, and then the rows, the loads and the busiest link.
record Step : Type 0 where
  edit : Edit
  verdict : Verdict
  rows : List Row
  loads : List ℕ
  most : LinkLoad

step : Edit → Verdict → List Row → List ℕ → LinkLoad → Step
step e v rows loads most = record { edit = e; verdict = v; rows = rows; loads = loads; most = most }

-- The steps, one behind the other.
steps : List Step
steps =
    step (Add (row 0 2 3 4)) (Ok tt) (row 0 2 3 4 ∷ []) (3 ∷ 3 ∷ 0 ∷ 0 ∷ []) (busiest 0 3)
    ∷ step (Add (row 3 1 1 5)) (Ok tt) (row 0 2 3 4 ∷ row 3 1 1 5 ∷ []) (4 ∷ 3 ∷ 0 ∷ 1 ∷ []) (busiest 0 4)
    ∷ step (Add (row 1 0 2 9)) (Ok tt) (row 0 2 3 4 ∷ row 3 1 1 5 ∷ row 1 0 2 9 ∷ []) (4 ∷ 5 ∷ 2 ∷ 3 ∷ []) (busiest 1 5)
    -- a source that isn't there
    ∷ step (Add (row 4 1 1 5)) (refused 3 4) (row 0 2 3 4 ∷ row 3 1 1 5 ∷ row 1 0 2 9 ∷ []) (4 ∷ 5 ∷ 2 ∷ 3 ∷ [])
    (busiest 1 5)
    -- too many cells for one row
    ∷ step (Add (row 0 1 65 5)) (refused 10 4) (row 0 2 3 4 ∷ row 3 1 1 5 ∷ row 1 0 2 9 ∷ []) (4 ∷ 5 ∷ 2 ∷ 3 ∷ [])
    (busiest 1 5)
    ∷ step (Change 1 (row 2 3 4 1)) (Ok tt) (row 2 3 4 1 ∷ row 3 1 1 5 ∷ row 1 0 2 9 ∷ []) (1 ∷ 2 ∷ 6 ∷ 3 ∷ [])
    (busiest 2 6)
    -- a row that isn't there
    ∷ step (Change 9 (row 2 3 4 1)) (refused 12 9) (row 2 3 4 1 ∷ row 3 1 1 5 ∷ row 1 0 2 9 ∷ []) (1 ∷ 2 ∷ 6 ∷ 3 ∷ [])
    (busiest 2 6)
    -- another length, and nothing else
    ∷ step (Change 3 (row 1 0 64 9)) (Ok tt) (row 2 3 4 1 ∷ row 3 1 1 5 ∷ row 1 0 64 9 ∷ []) (1 ∷ 64 ∷ 68 ∷ 65 ∷ [])
    (busiest 2 68)
    ∷ step (Remove 2) (Ok tt) (row 2 3 4 1 ∷ row 1 0 64 9 ∷ []) (0 ∷ 64 ∷ 68 ∷ 64 ∷ []) (busiest 2 68)
    ∷ step (Remove 0) (refused 12 0) (row 2 3 4 1 ∷ row 1 0 64 9 ∷ []) (0 ∷ 64 ∷ 68 ∷ 64 ∷ []) (busiest 2 68)
    -- once round: every link, once for each cell
    ∷ step (Add (row 3 3 2 9)) (Ok tt) (row 2 3 4 1 ∷ row 1 0 64 9 ∷ row 3 3 2 9 ∷ []) (2 ∷ 66 ∷ 70 ∷ 66 ∷ [])
    (busiest 2 70)
    ∷ []

-- What the definitions say of the steps from an area on.
computed : List ℕ → List Step → List Step
computed s [] = []
computed s (c ∷ cs) =
    let after = area_after s c.edit in
    step c.edit (verdict_by (edit_refusal s c.edit) (about_row s c.edit)) (rows_in after) (loads_in after)
    (busiest_in (loads_in after))
    ∷ computed after cs

-- Every step comes out as expected.
steps_come_out : computed (area_of 4 []) steps ≡ steps
unfolding row refused busiest step steps computed largest row_refusal crosses load numbers laid area_of
    load_in row_in rows_in first_of size_refusal number_refusal refusal_of about_row row_named answer_by rows_after step_for
    load_after behind_after edited area_after loads_in first_place busiest_in
steps_come_out = refl

-- An area, an edit of it, and the refusal expected.
record Wrong : Type 0 where
  area : List ℕ
  edit : Edit
  number : ℕ
  about : ℕ

wrong : List ℕ → Edit → (number about : ℕ) → Wrong
wrong s e number about = record { area = s; edit = e; number = number; about = about }

-- A table of one row, and a full one.
single : List ℕ
single = area_of 4 (row 0 1 1 1 ∷ [])

full : List ℕ
full = area_of 4 (replicate {A = Row} 512 (row 0 1 1 1))

-- One case a line: what comes first where several things are wrong.
wrongs : List Wrong
wrongs =
    -- a row that isn't there, before what is wrong with the row given
    wrong (area_of 4 []) (Remove 1) 12 1
    ∷ wrong single (Change 2 (row 4 4 0 0)) 12 2
    ∷ wrong single (Change 1 (row 4 4 0 0)) 3 1
    ∷ wrong single (Change 1 (row 0 4 0 0)) 4 1
    ∷ wrong single (Change 1 (row 2 2 0 0)) 10 1
    -- a length, before the due slot
    ∷ wrong single (Change 1 (row 0 1 0 0)) 10 1
    ∷ wrong single (Add (row 0 1 65 1025)) 10 2
    ∷ wrong single (Change 1 (row 0 1 1 0)) 6 1
    ∷ wrong single (Add (row 0 1 64 1025)) 6 2
    -- a full table, before what is wrong with the row
    ∷ wrong full (Add (row 4 4 0 0)) 2 0
    -- an area that no opening filled: its nodes, and then its rows
    ∷ wrong (area_of 33 []) (Remove 1) 1 0
    ∷ wrong (1 ∷ 513 ∷ []) (Remove 1) 1 0
    ∷ wrong (4 ∷ 513 ∷ []) (Remove 0) 2 0
    ∷ []

-- Every wrong edit is refused as expected.
wrongs_are_refused :
    map (λ (w : Wrong). verdict_by (edit_refusal w.area w.edit) (about_row w.area w.edit)) wrongs
    ≡ map (λ (w : Wrong). refused w.number w.about) wrongs
unfolding row refused wrong single full wrongs row_refusal load numbers laid area_of first_of size_refusal
    number_refusal refusal_of about_row row_named answer_by
wrongs_are_refused = refl

-- A table of 1,024 cells takes one more: the edit is good, and 11 comes only where the rows are judged for a plan.
many : List Row
many = replicate {A = Row} 16 (row 0 1 64 1)

cells_pass : (edit_refusal (area_of 4 many) (Add (row 0 1 1 1)) ≡ Ok tt)
    × (judge 4 many ≡ Ok tt)
    × (judge 4 (rows_after many (Add (row 0 1 1 1))) ≡ refused 11 0)
unfolding row refused many row_refusal after_row judge_rows lengths cells_in total after_rows judge_all judge load numbers
    laid area_of first_of size_refusal number_refusal refusal_of rows_after
cells_pass = (refl, refl, refl)

-- Tables for 1 to 33 nodes, opened; an opened one has no rows and no loads, and its busiest link is link 0 with load 0.
openings : map (λ (n : ℕ). verdict_by (size_refusal n 0) 0) (1 ∷ 2 ∷ 32 ∷ 33 ∷ [])
    ≡ refused 1 0 ∷ Ok tt ∷ Ok tt ∷ refused 1 0 ∷ []
unfolding refused size_refusal row_named answer_by
openings = refl

empty_table : (rows_in (area_of 4 []) ≡ [])
    × (loads_in (area_of 4 []) ≡ 0 ∷ 0 ∷ 0 ∷ 0 ∷ [])
    × (busiest_in (loads_in (area_of 4 [])) ≡ busiest 0 0)
unfolding busiest largest load numbers laid area_of load_in row_in rows_in loads_in first_place busiest_in
empty_table = (refl, refl, refl)

-- Rows of a table of one row, asked for.
rows_asked : map (entry_of single) (0 ∷ 1 ∷ 2 ∷ [])
    ≡ Err (refuse 12 0 0) ∷ Ok (row 0 1 1 1) ∷ Err (refuse 12 2 0) ∷ []
unfolding row single load numbers laid area_of row_in first_of size_refusal number_refusal refusal_of
    row_named answer_by entry_of
rows_asked = refl

-- Where the rows begin in an area, and how many numbers it has: the header for C has the second.
sizes : (rows_begin ≡ 34) × (room ≡ 2082)
sizes = (refl, refl)
