-- The sentence of an answer and the label of a field, by a catalogue: document 02, Ask 4.
use Rattle.std.specs.Prelude.{ℕ, ◌≡◌, Bool, cond, List, [], ◌∷◌, ◌++◌, eqb, ltb, length, get_or, drop}
use Rattle.std.specs.Prelude.{Ok, Err}
use Rattle.lists.specs.Lists.{first_place}
use Rattle.table.specs.Table.{Verdict, refuse}
use Rattle.table.specs.declared.Refusal.{Refusal}
use Rattle.planner.specs.Planner.{Answer}
use Rattle.text.specs.Text.{Writing, numeral}
use Rattle.catalogue.specs.Catalogue.{numbers, fields, keys, strings_in, labels_in, verdict_on, is_in}

-- A string, a space, the row, a space and the slot.
unfoldable pub spoken : (string : List ℕ) (row slot : ℕ) → List ℕ
spoken string row slot = string ++ (32 ∷ (numeral row ++ (32 ∷ numeral slot)))

-- The sentence of an answer: its string with the row and the slot, 0 and 0 for acceptance.
unfoldable pub sentence : (text : List ℕ) (number row slot : ℕ) → List ℕ
sentence text number row slot =
    spoken (get_or (strings_in keys text) (first_place number numbers) [])
    (cond (eqb number 0) 0 row)
    (cond (eqb number 0) 0 slot)

-- The label of a field.
unfoldable pub label_of : (text : List ℕ) (field : ℕ) → List ℕ
label_of text field = get_or (labels_in text) (first_place field fields) []

-- What writing some bytes comes to: 22 for room, else their number.
unfoldable pub room_for : (bytes : List ℕ) (lent : ℕ) → Writing
room_for bytes lent = cond (ltb lent (length bytes)) (Err (refuse 22 0 0)) (Ok (length bytes))

-- What writing bytes of a catalogue comes to: the catalogue's own refusal, then 33 for a number without a string, then
-- 22 for room, else their number.
unfoldable pub after_verdict : Verdict → (found : Bool) (bytes : List ℕ) (lent : ℕ) → Writing
after_verdict (Err r) found bytes lent = Err r
after_verdict (Ok _) found bytes lent = cond found (room_for bytes lent) (Err (refuse 33 0 0))

-- What an area holds afterwards: the bytes in its front where they were written, and else what it held.
unfoldable pub area_after : Writing → (bytes area : List ℕ) → List ℕ
area_after (Ok k) bytes area = bytes ++ drop (length bytes) area
area_after (Err r) bytes area = area

-- What an answer of the planner names: nothing where it is an acceptance.
unfoldable pub named : Answer → Refusal
named (Ok s) = refuse 0 0 0
named (Err r) = r

-- The full outcome of writing bytes of a catalogue: what it comes to, and every byte of the lent area.
pub record Put (text : List ℕ) (found : Bool) (bytes area : List ℕ) (w : Writing) (area' : List ℕ) : Type 0 where
  pub answers : w ≡ after_verdict (verdict_on text) found bytes (length area)
  pub fills : area' ≡ area_after w bytes area

-- The full outcome of writing a sentence.
abbrev pub SentencePut : (text : List ℕ) (number row slot : ℕ) (area : List ℕ) → Writing → List ℕ → Type 0
SentencePut text number row slot = Put text (is_in number numbers) (sentence text number row slot)

-- The full outcome of writing a label.
abbrev pub LabelPut : (text : List ℕ) (field : ℕ) (area : List ℕ) → Writing → List ℕ → Type 0
LabelPut text field = Put text (is_in field fields) (label_of text field)

-- The full outcome of writing the sentence of an answer of the planner.
abbrev pub AnswerPut : (text : List ℕ) (answer : Answer) (area : List ℕ) → Writing → List ℕ → Type 0
AnswerPut text answer = SentencePut text (named answer).number (named answer).row (named answer).slot.0
