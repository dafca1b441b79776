-- What single steps of the code ask and give. No promise of an entry point mentions this: it need not be believed.
use Rattle.std.specs.Prelude.{ℕ, ◌≡◌, Bool, List, length, Ok}
use Rattle.text.specs.Text.{Writing}
use Rattle.sentence.specs.Sentence.{room_for, after_verdict, area_after}

-- Bytes are written into the front of an area if they fit.
pub record Fitted (bytes area : List ℕ) (w : Writing) (area' : List ℕ) : Type 0 where
  pub answers : w ≡ room_for bytes (length area)
  pub fills : area' ≡ area_after w bytes area

-- Bytes of an accepted catalogue are written into the front of an area if it has them and they fit.
pub record Found (found : Bool) (bytes area : List ℕ) (w : Writing) (area' : List ℕ) : Type 0 where
  pub answers : w ≡ after_verdict (Ok tt) found bytes (length area)
  pub fills : area' ≡ area_after w bytes area
