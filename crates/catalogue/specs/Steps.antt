-- What single steps of the code ask and give. No promise of an entry point mentions this: it need not be believed.
use Rattle.std.specs.Prelude.{ℕ, zero, suc, ◌+◌, List, [], length, get_or}
use Rattle.catalogue.specs.Catalogue.{numbers, fields, keys, behind_line, strings_in}

-- How many lines a catalogue has.
abbrev pub lines : ℕ
lines = length numbers + length fields

-- The string of line i, counted from 0.
abbrev pub string_in : (text : List ℕ) (i : ℕ) → List ℕ
string_in text i = get_or (strings_in keys text) i []

-- The text behind its first i lines.
unfoldable pub lines_on : ℕ → List ℕ → List ℕ
lines_on zero text = text
lines_on (suc i) text = lines_on i (behind_line text)
