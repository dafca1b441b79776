-- A planned outcome whose answer is flattened is the panel's: `flat_planned`.
-- Of an edited table at most 513 rows are listed, and what is said of these is said of all: `listed_planned`,
-- `listed_looks`.
-- Two outcomes that fit one call are equal: `one_answer`, `one_plan` and `one_arrivals` of planning, `one_flat_reason`
-- of asking why a table is late, `one_reading` and `one_rows` of reading, `one_writing` and `one_area` of writing,
-- `one_opening` and `one_edit` of editing, `one_put` of a sentence or a label.
-- `edited_plans_alike`: a table that was edited is planned as the same rows entered afresh.
-- Assumes nothing.
use mathlib.Core.Path.{◌≡◌, ◌∙◌, ap, sym}
use Prim.Native.Nat.{ℕ, ◌≤◌, ◌<◌}
use native.Mathlib.Omega.{arith}
use mathlib.Core.Bool.{Bool}
use mathlib.Core.List.{List, []}
use lib.ListN.{length, take}
use lib.Seq.{length-take-le}
use Rattle.std.proofs.lemmas.List.{take_all}
use Rattle.std.specs.Prelude.{Result, Option}
use Rattle.table.specs.declared.Row.{Row}
use Rattle.table.specs.declared.Refusal.{Refusal}
use Rattle.table.specs.Table.{Verdict}
use Rattle.planner.specs.declared.Summary.{Summary}
use Rattle.planner.specs.declared.Reply.{Reply}
use Rattle.planner.specs.Planner.{Planned, looks_after, area_after, the_plan, the_arrivals, the_looks}
use Rattle.planner.proofs.Loaded.{loaded_planned}
use Rattle.looks.specs.Looks.{most_looks}
use Rattle.looks.proofs.Promises.{loaded_looks}
use Rattle.text.specs.declared.Header.{Header}
use Rattle.text.specs.Text.{TextTaken, TextPut}
use Rattle.area.specs.Area.{area_of, nodes_in, rows_in}
use Rattle.area.proofs.Areas.{nodes_in_area, rows_in_area}
use Rattle.edit.specs.Edit.{Opened, Edited, after_edits, rows_by}
use Rattle.edit_judge.specs.Judge.{Edit}
use Rattle.edit.proofs.Promises.{edits_make_rows}
use Rattle.sentence.specs.Sentence as Sentence
use Rattle.sentence.specs.Sentence.{Put}
use Rattle.jam.specs.declared.Jam.{Jam}
use Rattle.reason.specs.Reason.{members_after, Reasoned}
use Rattle.flat.specs.declared.PlanAnswer.{PlanAnswer}
use Rattle.flat.specs.declared.ReasonAnswer.{ReasonAnswer}
use Rattle.flat.specs.declared.EditAnswer.{EditAnswer}
use Rattle.flat.specs.declared.ReadAnswer.{ReadAnswer}
use Rattle.flat.specs.declared.WriteAnswer.{WriteAnswer}
use Rattle.flat.specs.declared.SentenceAnswer.{SentenceAnswer}
use Rattle.flat.specs.Flat.{flat_of, flat_reason, flat_reading, flat_writing, flat_verdict, flat_sentence}
use Rattle.panel.specs.Panel.{PanelPlanned, PanelReasoned, PanelRead, PanelWritten, PanelOpened, PanelEdited}
use Rattle.panel.specs.Panel.{PanelPut}

pub flat_planned : (n : ℕ) (rows : List Row) {p a p' a' : List ℕ} {r : Reply} {s : PlanAnswer}
    → Planned n rows p a r p' a' → s ≡ flat_of r.answer r.looks → PanelPlanned n rows p a s p' a'
flat_planned n rows {p} {a} {r = r} d e = record {
  answers =
      e ∙ ap (flat_of r.answer) d.looked
      ∙ ap (λ (x : Result Summary Refusal). flat_of x (looks_after x (the_looks n rows))) d.answers;
  fills_plan = d.fills_plan ∙ ap (λ (x : Result Summary Refusal). area_after x (the_plan n rows) p) d.answers;
  fills_arrivals = d.fills_arrivals ∙ ap (λ (x : Result Summary Refusal). area_after x (the_arrivals n rows) a) d.answers;
}

-- Where a table may have as many rows as it lists, the 513 that are listed are all; else they are too many too.
few_all : (rows : List Row) → length rows ≤ 512 → take 513 rows ≡ rows
few_all rows few = take_all 513 rows (omega arith)

many_too : (rows : List Row) → 512 < length rows → 512 < length (take 513 rows)
many_too rows many = rw (length-take-le 513 rows (omega arith)) (omega arith)

pub listed_planned : (n : ℕ) (rows : List Row) {p a p' a' : List ℕ} {r : Reply} {s : PlanAnswer}
    → Planned n (take 513 rows) p a r p' a' → s ≡ flat_of r.answer r.looks → PanelPlanned n rows p a s p' a'
listed_planned n rows d e =
    flat_planned n rows (loaded_planned n (take 513 rows) rows (few_all rows) (many_too rows) d) e

pub listed_looks : (n : ℕ) (rows : List Row) (looks : ℕ) → looks ≡ most_looks n (take 513 rows)
    → looks ≡ most_looks n rows
listed_looks n rows looks = loaded_looks n (take 513 rows) rows (few_all rows) (many_too rows)

-- Two outcomes of one call have the same numbers and the same counts.
pub one_flat_reason : {n : ℕ} {rows : List Row} {members m₁ m₂ : List ℕ} {s₁ s₂ : ReasonAnswer}
    → PanelReasoned n rows members s₁ m₁ → PanelReasoned n rows members s₂ m₂ → (s₁ ≡ s₂) × (m₁ ≡ m₂)
one_flat_reason a b = (a.answers ∙ sym b.answers, a.fills ∙ sym b.fills)

-- one call has one outcome: the same numbers, the same plan and the same arrivals
module _ (n : ℕ) (rows : List Row) {p a p₁ a₁ p₂ a₂ : List ℕ} {s₁ s₂ : PlanAnswer}
    (d₁ : PanelPlanned n rows p a s₁ p₁ a₁) (d₂ : PanelPlanned n rows p a s₂ p₂ a₂) where
  pub one_answer : s₁ ≡ s₂
  one_answer = d₁.answers ∙ sym d₂.answers

  pub one_plan : p₁ ≡ p₂
  one_plan = d₁.fills_plan ∙ sym d₂.fills_plan

  pub one_arrivals : a₁ ≡ a₂
  one_arrivals = d₁.fills_arrivals ∙ sym d₂.fills_arrivals

-- the same numbers and the same rows
module _ (text : List ℕ) (rows : List Row) {rows₁ rows₂ : List Row} {s₁ s₂ : ReadAnswer}
    (d₁ : PanelRead text rows s₁ rows₁) (d₂ : PanelRead text rows s₂ rows₂) where
  pub one_reading : s₁ ≡ s₂
  one_reading = d₁.answers ∙ sym d₂.answers

  pub one_rows : rows₁ ≡ rows₂
  one_rows = d₁.fills ∙ sym d₂.fills

-- the same numbers and the same bytes
module _ (n : ℕ) (rows : List Row) {area area₁ area₂ : List ℕ} {s₁ s₂ : WriteAnswer}
    (d₁ : PanelWritten n rows area s₁ area₁) (d₂ : PanelWritten n rows area s₂ area₂) where
  pub one_writing : s₁ ≡ s₂
  one_writing = d₁.answers ∙ sym d₂.answers

  pub one_area : area₁ ≡ area₂
  one_area = d₁.fills ∙ sym d₂.fills

-- the same numbers and the same area
module _ (n : ℕ) {s s₁ s₂ : List ℕ} {r₁ r₂ : EditAnswer} (d₁ : PanelOpened n s r₁ s₁) (d₂ : PanelOpened n s r₂ s₂) where
  pub one_opening : (r₁ ≡ r₂) × (s₁ ≡ s₂)
  one_opening = (d₁.answers ∙ sym d₂.answers, d₁.fills ∙ sym d₂.fills)

module _ {s s₁ s₂ : List ℕ} {e : Edit} {r₁ r₂ : EditAnswer} (d₁ : PanelEdited s e r₁ s₁)
    (d₂ : PanelEdited s e r₂ s₂) where
  pub one_edit : (r₁ ≡ r₂) × (s₁ ≡ s₂)
  one_edit = (d₁.answers ∙ sym d₂.answers, d₁.fills ∙ sym d₂.fills)

-- Planning a table after any edits gives just what planning the same rows, entered afresh, gives: the same numbers,
-- plan and arrivals.
pub edited_plans_alike : (n : ℕ) (es : List Edit) {p a p₁ a₁ p₂ a₂ : List ℕ} {r₁ r₂ : PlanAnswer}
    → PanelPlanned (nodes_in (after_edits (area_of n []) es)) (rows_in (after_edits (area_of n []) es)) p a r₁ p₁ a₁
    → PanelPlanned n (rows_by n [] es) p a r₂ p₂ a₂
    → (r₁ ≡ r₂) × (p₁ ≡ p₂) × (a₁ ≡ a₂)
edited_plans_alike n es {p} {a} {p₁} {a₁} {p₂} {a₂} {r₁} {r₂} d₁ d₂ =
    let same = rw (edits_make_rows n es, nodes_in_area n (rows_by n [] es), rows_in_area n (rows_by n [] es)) at d₁ in (
      one_answer n (rows_by n [] es) same d₂,
      one_plan n (rows_by n [] es) same d₂,
      one_arrivals n (rows_by n [] es) same d₂,
    )

-- the same numbers and the same bytes of a sentence or a label
module _ (text : List ℕ) (found : Bool) (bytes : List ℕ) {area area₁ area₂ : List ℕ} {r₁ r₂ : SentenceAnswer}
    (d₁ : PanelPut text found bytes area r₁ area₁) (d₂ : PanelPut text found bytes area r₂ area₂) where
  pub one_put : (r₁ ≡ r₂) × (area₁ ≡ area₂)
  one_put = (d₁.answers ∙ sym d₂.answers, d₁.fills ∙ sym d₂.fills)
