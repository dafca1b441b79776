-- Numbers that have a sentence, and that every number which judging a catalogue gives is one of them.
--     Told, ToldVerdict     a number and a verdict of which a catalogue has a sentence
--     either                what holds of both ends of a choice holds of what is chosen
--     verdict_told          judging a catalogue
-- It goes through all the refusals that a definition gives, so a refusal without a key fails here.
-- Assumes nothing.
use mathlib.Core.Path.{◌≡◌, refl}
use mathlib.Core.Bool.{Bool, true, false, cond, ◌&&◌, ◌||◌}
use mathlib.Core.List.{List, [], ◌∷◌}
use Prim.Native.Nat.{ℕ, suc}
use lib.Dec.{eqb, ltb}
use lib.ListN.{length}
use Rattle.lists.specs.Lists.{first_place}
use Rattle.std.proofs.Common.{Result, Ok, Err, Option, Some, None}
use Rattle.table.specs.Table.{Verdict, after_row}
use Rattle.text.specs.Text.{starts}
use Rattle.catalogue.specs.Catalogue.{numbers, keys, is_in, longest_string, is_ended, behind_line, string_at}
use Rattle.catalogue.specs.Catalogue.{string_refusal, line_refusal, lines_verdict, after_lines}
use Rattle.catalogue.specs.Catalogue.{verdict_on}

-- A number that has a sentence, and a verdict whose number has one.
abbrev pub Told : ℕ → Type 0
Told number = is_in number numbers ≡ true

unfoldable pub ToldVerdict : Verdict → Type 0
ToldVerdict (Ok _) = Told 0
ToldVerdict (Err r) = Told r.number

-- What holds of both ends of a choice holds of what is chosen.
pub either : {A : Type 0} (P : A → Type 0) (b : Bool) {x y : A} → P x → P y → P (cond b x y)
either P true p q = p
either P false p q = q

-- A line's refusal, and that of the first bad line.
unfoldable pub ToldWrong : Result Unit ℕ → Type 0
ToldWrong (Ok _) = Unit
ToldWrong (Err number) = Told number

line_told : (key text : List ℕ) → ToldWrong (line_refusal key text)
unfolding line_refusal string_refusal ToldWrong is_in first_place
line_told key text =
    let bytes = length (string_at key text) in
    let string = either ToldWrong (eqb bytes 0 || ltb longest_string bytes) refl tt in
    either ToldWrong (is_ended text && starts key text) string refl

row_told : (wrong : Result Unit ℕ) (row : ℕ) (rest : Verdict) → ToldWrong wrong → ToldVerdict rest
    → ToldVerdict (after_row wrong row rest)
unfolding after_row ToldWrong ToldVerdict
row_told (Ok _) row rest t more = more
row_told (Err _) row rest t more = t

all_told : (ks : List (List ℕ)) (above : ℕ) (text : List ℕ) → ToldVerdict (lines_verdict ks above text)
unfolding lines_verdict ToldVerdict is_in first_place
all_told [] above [] = refl
all_told [] above (b ∷ bs) = refl
all_told (k ∷ ks) above text =
    row_told (line_refusal k text) (suc above) _ (line_told k text) (all_told ks (suc above) (behind_line text))

after_lines_told : (v : Verdict) (o : Option ℕ) → ToldVerdict v → ToldVerdict (after_lines v o)
unfolding after_lines ToldVerdict is_in first_place
after_lines_told (Ok _) None t = refl
after_lines_told (Ok _) (Some k) t = refl
after_lines_told (Err r) o t = t

-- The verdict on a catalogue has a sentence.
pub verdict_told : (text : List ℕ) → ToldVerdict (verdict_on text)
unfolding verdict_on
verdict_told text = after_lines_told (lines_verdict keys 0 text) _ (all_told keys 0 text)
