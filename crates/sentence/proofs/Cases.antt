-- The definitions at work: sentences and labels of one catalogue, and what writing them comes to.
-- Assumes nothing.
use mathlib.Core.Path.{◌≡◌, refl}
use mathlib.Core.List.{List, [], ◌∷◌}
use Prim.Native.Nat.{ℕ, ◌+◌}
use lib.ListN.{length}
use Rattle.lists.specs.Lists.{first_place}
use Rattle.table.specs.Table.{refuse, after_row}
use Rattle.text.specs.Text.{Writing, width, last_digits, numeral, starts}
use Rattle.std.proofs.Common.{Ok, Err}
use Rattle.catalogue.specs.Catalogue.{numbers, fields, key_of, keys, text_of, first_line, is_ended, behind_line, string_at}
use Rattle.catalogue.specs.Catalogue.{string_refusal, line_refusal, lines_verdict, strings_in, same, among, labels_in}
use Rattle.catalogue.specs.Catalogue.{first_repeat, after_lines, verdict_on, is_in}
use Rattle.catalogue.proofs.Cases.{plain, whole}
use Rattle.sentence.specs.Sentence.{spoken, sentence, label_of, room_for, after_verdict}

-- The answer to a sentence, and to a label, where so many bytes are lent.
answer : (text : List ℕ) (number row slot lent : ℕ) → Writing
answer text number row slot lent =
    after_verdict (verdict_on text) (is_in number numbers) (sentence text number row slot) lent

label : (field lent : ℕ) → Writing
label field lent = after_verdict (verdict_on whole) (is_in field fields) (label_of whole field) lent

-- A refusal that names a line, or nothing.
refused : (number line : ℕ) → Writing
refused number line = Err (refuse number line 0)

-- J 3 7 for 9, row 3 and slot 7; A 0 0 for acceptance, whatever is given; a row of three digits; L 0 0 for 11, the
-- twelfth answer; the label of field 2.
sentences_made :
    sentence whole 9 3 7 ∷ sentence whole 0 3 7 ∷ sentence whole 6 512 0 ∷ sentence whole 11 0 0 ∷ label_of whole 2 ∷ []
    ≡ (74 ∷ 32 ∷ 51 ∷ 32 ∷ 55 ∷ [])
    ∷ (65 ∷ 32 ∷ 48 ∷ 32 ∷ 48 ∷ [])
    ∷ (71 ∷ 32 ∷ 53 ∷ 49 ∷ 50 ∷ 32 ∷ 48 ∷ [])
    ∷ (76 ∷ 32 ∷ 48 ∷ 32 ∷ 48 ∷ [])
    ∷ ((66 + length numbers) ∷ [])
    ∷ []
unfolding key_of keys text_of first_line behind_line string_at strings_in labels_in first_place
    spoken sentence label_of width last_digits numeral whole plain
sentences_made = refl

-- A sentence and a label are written where there is just room; 22 for one byte less; 33 for an answer or a field that
-- has no string, before that; and first what is wrong with the catalogue.
answers_given :
    answer whole 9 3 7 5 ∷ answer whole 9 3 7 4 ∷ answer whole 18 3 7 0 ∷ answer [] 18 3 7 0
    ∷ label 6 1 ∷ label 6 0 ∷ label 0 9 ∷ label 7 9 ∷ []
    ≡ Ok 5 ∷ refused 22 0 ∷ refused 33 0 ∷ refused 30 1
    ∷ Ok 1 ∷ refused 22 0 ∷ refused 33 0 ∷ refused 33 0 ∷ []
unfolding key_of keys text_of first_line is_ended behind_line string_at string_refusal line_refusal lines_verdict strings_in same
    among labels_in first_repeat after_row after_lines verdict_on first_place is_in spoken sentence label_of room_for
    after_verdict width last_digits numeral starts whole plain answer label refused
answers_given = refl
