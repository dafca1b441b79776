-- Every number that an entry point of the panel gives has a sentence in a catalogue.
--     plan_has_sentence                                             planning
--     reading_has_sentence, writing_has_sentence                    the text
--     opening_has_sentence, edit_has_sentence, row_has_sentence     editing
--     judging_has_sentence, put_has_sentence                        the catalogue itself
-- Each goes through all the refusals of what an entry point promises, so a new refusal without a key in the catalogue
-- fails here.
-- Assumes nothing.
use mathlib.Core.Path.{◌≡◌, refl}
use mathlib.Core.Bool.{Bool, cond, ◌||◌}
use mathlib.Core.List.{List, [], ◌∷◌}
use Prim.Native.Nat.{ℕ, suc}
use lib.Dec.{eqb, ltb, leb}
use lib.ListN.{length}
use Rattle.std.specs.Prelude.{Result, Ok, Err}
use Rattle.lists.specs.Lists.{first_place}
use Rattle.table.specs.declared.Row.{Row}
use Rattle.table.specs.declared.Refusal.{Refusal}
use Rattle.table.specs.Table.{most_rows, latest_due, most_length, most_cells, Verdict, row_refusal, after_row, judge_rows}
use Rattle.table.specs.Table.{cells_in, after_rows, judge_all, judge}
use Rattle.planner.specs.declared.Summary.{Summary}
use Rattle.planner.specs.Planner.{plan_room, ending, the_looks, answer_to_rows, after_verdict, the_answer, number_of}
use Rattle.planner.specs.Planner.{looks_after}
use Rattle.text.specs.declared.Header.{Header}
use Rattle.text.specs.Text.{nodes_key, rows_key, text_of, line_good, line_rest, wrong_line, rows_keys, nodes_in, rows_in}
use Rattle.text.specs.Text.{body_of, reading_of_rows, reading_of_body, reading_of, writing_of}
use Rattle.area.specs.Area as Area
use Rattle.area.specs.Area.{most_links, count_in}
use Rattle.edit.specs.Edit.{about_row, edit_refusal, entry_of}
use Rattle.edit_judge.specs.Judge.{Edit, Add, Change, Remove, first_of, size_refusal, number_refusal, refusal_of, answer_by, verdict_by}
use Rattle.catalogue.specs.Catalogue.{is_in, verdict_on}
use Rattle.catalogue.proofs.Told.{Told, ToldVerdict, either, verdict_told}
use Rattle.sentence.specs.Sentence as Sentence
use Rattle.sentence.proofs.Told.{ToldWriting, put_told}
use Rattle.flat.specs.declared.PlanAnswer.{PlanAnswer}
use Rattle.flat.specs.declared.ReadAnswer.{ReadAnswer}
use Rattle.flat.specs.declared.WriteAnswer.{WriteAnswer}
use Rattle.flat.specs.declared.EditAnswer.{EditAnswer}
use Rattle.flat.specs.declared.SentenceAnswer.{SentenceAnswer}
use Rattle.flat.specs.Flat.{flat_of, flat_reading, flat_writing, flat_verdict, flat_entry, flat_sentence}
use Rattle.panel.specs.Panel.{PanelPlanned, PanelRead, PanelWritten, PanelOpened, PanelEdited, PanelPut}

-- An answer and a reading whose number has a sentence.
abbrev ToldAnswer : Result Summary Refusal → Type 0
ToldAnswer a = Told (number_of a)

abbrev ToldReading : Result Header Refusal → Type 0
ToldReading r = Told (flat_reading r).number

-- So the number of what is wrong, where something is.
abbrev ToldWrong : Result Unit ℕ → Type 0
ToldWrong (Ok _) = Told 0
ToldWrong (Err number) = Told number

-- A verdict has one as plain numbers too.
flat_verdict_told : (v : Verdict) → ToldVerdict v → Told (flat_verdict v).number
unfolding ToldVerdict flat_verdict
flat_verdict_told (Ok _) t = t
flat_verdict_told (Err r) t = t

-- ---- planning
-- A row's refusal, that of the first bad row, that of too many cells, and that of a table.
row_told : (n : ℕ) (r : Row) → ToldWrong (row_refusal n r)
unfolding row_refusal is_in first_place
row_told n r =
    either ToldWrong (leb n r.src) refl
    (either ToldWrong (leb n r.dst) refl
    (either ToldWrong (eqb r.len 0 || ltb most_length r.len) refl
    (either ToldWrong (eqb r.due 0 || ltb latest_due r.due) refl refl)))

after_row_told : (wrong : Result Unit ℕ) (row : ℕ) (rest : Verdict) → ToldWrong wrong → ToldVerdict rest
    → ToldVerdict (after_row wrong row rest)
unfolding after_row ToldVerdict
after_row_told (Ok _) row rest t u = u
after_row_told (Err number) row rest t u = t

rows_told : (n : ℕ) (rows : List Row) (above : ℕ) → ToldVerdict (judge_rows n rows above)
unfolding judge_rows ToldVerdict is_in first_place
rows_told n [] above = refl
rows_told n (r ∷ rows) above = after_row_told (row_refusal n r) (suc above) _ (row_told n r) (rows_told n rows (suc above))

cells_told : (v : Verdict) (cells : ℕ) → ToldVerdict v → ToldVerdict (after_rows v cells)
unfolding after_rows ToldVerdict is_in first_place
cells_told (Ok _) cells t = either ToldVerdict (ltb most_cells cells) refl refl
cells_told (Err r) cells t = t

table_told : (n : ℕ) (rows : List Row) → ToldVerdict (judge n rows)
unfolding judge judge_all ToldVerdict is_in first_place
table_told n rows =
    either ToldVerdict (ltb n 2 || ltb 32 n) refl
    (either ToldVerdict (ltb most_rows (length rows)) refl
    (cells_told (judge_rows n rows 0) (cells_in rows) (rows_told n rows 0)))

-- Flattened, an answer keeps its number.
flat_number : (a : Result Summary Refusal) (looks : ℕ) → (flat_of a looks).number ≡ number_of a
unfolding flat_of number_of
flat_number (Ok s) looks = refl
flat_number (Err r) looks = refl

-- The answer to a table.
after_told : (v : Verdict) (next : Result Summary Refusal) → ToldVerdict v → ToldAnswer next → ToldAnswer (after_verdict v next)
unfolding after_verdict ToldVerdict number_of
after_told (Ok _) next t u = u
after_told (Err r) next t u = t

answer_told : (n : ℕ) (rows : List Row) (plan_lent arrivals_lent : ℕ)
    → ToldAnswer (the_answer n rows plan_lent arrivals_lent)
unfolding the_answer answer_to_rows number_of is_in first_place
answer_told n rows plan_lent arrivals_lent =
    after_told (judge n rows) (answer_to_rows n rows plan_lent arrivals_lent) (table_told n rows)
    (either ToldAnswer (ltb plan_lent (plan_room n rows)) refl
    (either ToldAnswer (ltb arrivals_lent (length rows)) refl
    (either ToldAnswer (eqb (ending n rows).row 0) refl refl)))

-- Whatever planning answers has a sentence.
pub plan_has_sentence : {n : ℕ} {rows : List Row} {p a p' a' : List ℕ} {r : PlanAnswer}
    → PanelPlanned n rows p a r p' a' → Told r.number
plan_has_sentence {n} {rows} {p} {a} d =
    let answer = the_answer n rows (length p) (length a) in
    rw (d.answers, flat_number answer (looks_after answer (the_looks n rows))) (answer_told n rows (length p) (length a))

-- ---- the text
-- What the lines of the rows come to, what all behind line 2 comes to, and what a text comes to.
lines_told : (n k : ℕ) (body : List ℕ) → ToldReading (reading_of_rows n k body)
unfolding reading_of_rows flat_reading is_in first_place
lines_told n k body = either ToldReading (eqb (wrong_line (rows_keys k) body 3) 0) refl refl

body_told : (n k lent : ℕ) (body : List ℕ) → ToldReading (reading_of_body n k lent body)
unfolding reading_of_body flat_reading is_in first_place
body_told n k lent body =
    either ToldReading (ltb most_rows k) refl (either ToldReading (ltb lent k) refl (lines_told n k body))

reading_told : (text : List ℕ) (lent : ℕ) → ToldReading (reading_of text lent)
unfolding reading_of flat_reading is_in first_place
reading_told text lent =
    either ToldReading (line_good nodes_key text)
    (either ToldReading (line_good rows_key (line_rest nodes_key text))
    (body_told (nodes_in text) (rows_in text) lent (body_of text)) refl) refl

-- Whatever reading answers has a sentence.
pub reading_has_sentence : {text : List ℕ} {rows rows' : List Row} {r : ReadAnswer} → PanelRead text rows r rows'
    → Told r.number
reading_has_sentence {text} {rows} d = rw d.answers (reading_told text (length rows))

writing_told : (n : ℕ) (rows : List Row) (room : ℕ) → ToldWriting (writing_of n rows room)
unfolding writing_of ToldWriting is_in first_place
writing_told n rows room =
    either ToldWriting (ltb most_rows (length rows)) refl
    (either ToldWriting (ltb room (length (text_of n rows))) refl refl)

-- A writing has one as plain numbers too, of a table or of a catalogue.
flat_writing_told : (w : Result ℕ Refusal) → ToldWriting w → Told (flat_writing w).number
unfolding ToldWriting flat_writing
flat_writing_told (Ok k) t = t
flat_writing_told (Err r) t = t

flat_sentence_told : (w : Result ℕ Refusal) → ToldWriting w → Told (flat_sentence w).number
unfolding ToldWriting flat_sentence
flat_sentence_told (Ok k) t = t
flat_sentence_told (Err r) t = t

-- Whatever writing answers has a sentence.
pub writing_has_sentence : {n : ℕ} {rows : List Row} {area area' : List ℕ} {r : WriteAnswer}
    → PanelWritten n rows area r area' → Told r.number
writing_has_sentence {n} {rows} {area} d =
    rw d.answers (flat_writing_told (writing_of n rows (length area)) (writing_told n rows (length area)))

-- ---- editing
-- A verdict by what is wrong, and the first of two refusals.
by_told : (wrong : Result Unit ℕ) (row : ℕ) → ToldWrong wrong → ToldVerdict (verdict_by wrong row)
unfolding answer_by ToldVerdict
by_told (Ok _) row t = t
by_told (Err number) row t = t

first_told : (a b : Result Unit ℕ) → ToldWrong a → ToldWrong b → ToldWrong (first_of a b)
unfolding first_of
first_told (Ok _) b t u = u
first_told (Err number) b t u = t

-- The refusal of the sizes, of a full table, of a row number, and of an edit.
size_told : (n count : ℕ) → ToldWrong (size_refusal n count)
unfolding size_refusal is_in first_place
size_told n count =
    either ToldWrong (ltb n 2 || ltb most_links n) refl (either ToldWrong (ltb most_rows count) refl refl)

full_told : (count : ℕ) → ToldWrong (cond (eqb count most_rows) (Err 2) (Ok tt))
unfolding is_in first_place
full_told count = either ToldWrong (eqb count most_rows) refl refl

number_told : (count k : ℕ) → ToldWrong (number_refusal count k)
unfolding number_refusal is_in first_place
number_told count k = either ToldWrong (eqb k 0 || ltb count k) refl refl

refusal_told : (n count : ℕ) (e : Edit) → ToldWrong (refusal_of n count e)
unfolding refusal_of
refusal_told n count (Add r) = first_told _ _ (size_told n count) (first_told _ _ (full_told count) (row_told n r))
refusal_told n count (Change k r) =
    first_told _ _ (first_told _ _ (size_told n count) (number_told count k)) (row_told n r)
refusal_told n count (Remove k) = first_told _ _ (size_told n count) (number_told count k)

-- Whatever opening a table answers has a sentence.
pub opening_has_sentence : {n : ℕ} {s s' : List ℕ} {r : EditAnswer} → PanelOpened n s r s' → Told r.number
opening_has_sentence {n} d =
    rw d.answers (flat_verdict_told (verdict_by (size_refusal n 0) 0) (by_told (size_refusal n 0) 0 (size_told n 0)))

-- Whatever an edit answers has a sentence.
pub edit_has_sentence : {s s' : List ℕ} {e : Edit} {r : EditAnswer} → PanelEdited s e r s' → Told r.number
edit_has_sentence {s} {s'} {e} d =
    rw d.answers (flat_verdict_told (verdict_by (edit_refusal s e) (about_row s e))
    (by_told (edit_refusal s e) (about_row s e) (refusal_told (Area.nodes_in s) (count_in s) e)))

-- Whatever asking for a row answers has a sentence.
entry_told : (wrong : Result Unit ℕ) (k : ℕ) (r : Row) → ToldWrong wrong → Told (flat_entry (answer_by wrong k r)).number
unfolding answer_by flat_entry
entry_told (Ok _) k r t = t
entry_told (Err number) k r t = t

pub row_has_sentence : (s : List ℕ) (k : ℕ) → Told (flat_entry (entry_of s k)).number
unfolding entry_of
row_has_sentence s k = entry_told _ k _ (refusal_told (Area.nodes_in s) (count_in s) (Remove k))

-- ---- the catalogue
-- Whatever judging a catalogue answers has a sentence.
pub judging_has_sentence : (text : List ℕ) → Told (flat_verdict (verdict_on text)).number
judging_has_sentence text = flat_verdict_told (verdict_on text) (verdict_told text)

-- Whatever writing a sentence or a label answers has a sentence.
pub put_has_sentence : {text : List ℕ} {found : Bool} {bytes area area' : List ℕ} {r : SentenceAnswer}
    → PanelPut text found bytes area r area' → Told r.number
put_has_sentence {text} {found} {bytes} {area} d =
    rw d.answers (flat_sentence_told (Sentence.after_verdict (verdict_on text) found bytes (length area))
    (put_told text found bytes (length area)))
