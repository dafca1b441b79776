-- What the panel's functions give: the proved entry points' outcomes, with answers as plain numbers.
use Rattle.std.specs.Prelude.{ℕ, ◌≡◌, Bool, cond, List, [], ◌++◌, is_ok, length, drop}
use Rattle.table.specs.declared.Row.{Row}
use Rattle.planner.specs.Planner.{the_answer, looks_after, area_after, the_plan, the_arrivals, the_looks}
use Rattle.text.specs.Text as Text
use Rattle.text.specs.Text.{reading_of, rows_read, writing_of}
use Rattle.area.specs.Area.{area_of}
use Rattle.edit.specs.Edit as Edit
use Rattle.edit.specs.Edit.{edit_refusal, about_row}
use Rattle.edit_judge.specs.Judge.{Edit, size_refusal, verdict_by}
use Rattle.catalogue.specs.Catalogue.{numbers, fields, verdict_on, is_in}
use Rattle.sentence.specs.Sentence as Sentence
use Rattle.sentence.specs.Sentence.{sentence, label_of}
use Rattle.flat.specs.Flat.{flat_of, flat_reason, flat_reading, flat_writing, flat_verdict, flat_sentence}
use Rattle.reason.specs.Reason.{the_reason, members_after}
use Rattle.flat.specs.declared.PlanAnswer.{PlanAnswer}
use Rattle.flat.specs.declared.ReasonAnswer.{ReasonAnswer}
use Rattle.flat.specs.declared.EditAnswer.{EditAnswer}
use Rattle.flat.specs.declared.ReadAnswer.{ReadAnswer}
use Rattle.flat.specs.declared.WriteAnswer.{WriteAnswer}
use Rattle.flat.specs.declared.SentenceAnswer.{SentenceAnswer}

-- The full outcome of planning from the panel: the flattened answer with its looks, and every entry of both lent areas.
pub record PanelPlanned (n : ℕ) (rows : List Row) (plan arrivals : List ℕ) (r : PlanAnswer)
    (plan' arrivals' : List ℕ) : Type 0 where
  pub answers : r ≡ flat_of (the_answer n rows (length plan) (length arrivals))
      (looks_after (the_answer n rows (length plan) (length arrivals)) (the_looks n rows))
  pub fills_plan : plan' ≡ area_after (the_answer n rows (length plan) (length arrivals)) (the_plan n rows) plan
  pub fills_arrivals : arrivals' ≡ area_after (the_answer n rows (length plan) (length arrivals))
      (the_arrivals n rows) arrivals

-- The full outcome of asking why a table is late, from the panel: the flattened reason, and every entry of the lent
-- list.
pub record PanelReasoned (n : ℕ) (rows : List Row) (members : List ℕ) (r : ReasonAnswer) (members' : List ℕ) : Type 0
  where
    pub answers : r ≡ flat_reason (the_reason n rows (length members))
    pub fills : members' ≡ members_after (the_reason n rows (length members)) n rows members

-- The full outcome of reading from the panel: the flattened reading, and every lent row: those of the text in front,
-- and behind them what stood there. A refused reading gives no rows.
pub record PanelRead (text : List ℕ) (rows : List Row) (r : ReadAnswer) (rows' : List Row) : Type 0 where
  pub answers : r ≡ flat_reading (reading_of text (length rows))
  pub fills : rows' ≡ rows_read text (length rows) ++ drop (length (rows_read text (length rows))) rows

-- The full outcome of writing from the panel: the flattened writing, and every byte of the lent area.
pub record PanelWritten (n : ℕ) (rows : List Row) (area : List ℕ) (r : WriteAnswer) (area' : List ℕ) : Type 0 where
  pub answers : r ≡ flat_writing (writing_of n rows (length area))
  pub fills : area' ≡ Text.area_after n rows area

-- The full outcome of opening from the panel: the flattened verdict, and every number of the lent area.
pub record PanelOpened (n : ℕ) (s : List ℕ) (r : EditAnswer) (s' : List ℕ) : Type 0 where
  pub answers : r ≡ flat_verdict (verdict_by (size_refusal n 0) 0)
  pub fills : s' ≡ cond (is_ok (size_refusal n 0)) (area_of n []) s

-- The full outcome of an edit from the panel: the flattened verdict, and every number of the lent area.
pub record PanelEdited (s : List ℕ) (e : Edit) (r : EditAnswer) (s' : List ℕ) : Type 0 where
  pub answers : r ≡ flat_verdict (verdict_by (edit_refusal s e) (about_row s e))
  pub fills : s' ≡ Edit.area_after s e

-- The full outcome of writing bytes of a catalogue from the panel: the flattened writing, and every byte of the lent
-- area.
pub record PanelPut (text : List ℕ) (found : Bool) (bytes area : List ℕ) (r : SentenceAnswer)
    (area' : List ℕ) : Type 0 where
  pub answers : r ≡ flat_sentence (Sentence.after_verdict (verdict_on text) found bytes (length area))
  pub fills : area' ≡ Sentence.area_after (Sentence.after_verdict (verdict_on text) found bytes (length area)) bytes area

-- That of a sentence, and of a label.
abbrev pub PanelSentence : (text : List ℕ) (number row slot : ℕ) (area : List ℕ) → SentenceAnswer → List ℕ → Type 0
PanelSentence text number row slot = PanelPut text (is_in number numbers) (sentence text number row slot)

abbrev pub PanelLabel : (text : List ℕ) (field : ℕ) (area : List ℕ) → SentenceAnswer → List ℕ → Type 0
PanelLabel text field = PanelPut text (is_in field fields) (label_of text field)
