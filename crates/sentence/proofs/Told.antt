-- Every number that writing of a catalogue gives has a sentence.
--     ToldWriting     a writing of which a catalogue has a sentence
--     put_told        writing of a catalogue
-- It goes through all the refusals that a definition gives, so a refusal without a key fails here.
-- Assumes nothing.
use mathlib.Core.Path.{refl}
use mathlib.Core.Bool.{Bool}
use mathlib.Core.List.{List}
use Prim.Native.Nat.{ℕ}
use lib.Dec.{ltb}
use lib.ListN.{length}
use Rattle.lists.specs.Lists.{first_place}
use Rattle.std.proofs.Common.{Ok, Err}
use Rattle.table.specs.Table.{Verdict}
use Rattle.text.specs.Text.{Writing, number_of_writing}
use Rattle.catalogue.specs.Catalogue.{verdict_on, is_in}
use Rattle.catalogue.proofs.Told.{Told, ToldVerdict, either, verdict_told}
use Rattle.sentence.specs.Sentence.{room_for, after_verdict}

-- A writing whose number has a sentence.
unfoldable pub ToldWriting : Writing → Type 0
ToldWriting w = Told (number_of_writing w)

-- What writing of a catalogue comes to has a sentence.
pub put_told : (text : List ℕ) (found : Bool) (bytes : List ℕ) (lent : ℕ)
    → ToldWriting (after_verdict (verdict_on text) found bytes lent)
unfolding after_verdict room_for ToldVerdict ToldWriting is_in first_place
put_told text found bytes lent = go (verdict_on text) (verdict_told text)
  where
    go : (v : Verdict) → ToldVerdict v → ToldWriting (after_verdict v found bytes lent)
    go (Ok _) t = either ToldWriting found (either ToldWriting (ltb lent (length bytes)) refl refl) refl
    go (Err r) t = t
