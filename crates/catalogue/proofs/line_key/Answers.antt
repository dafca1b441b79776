-- `catalogue::line_key` meets its contract: the table has the keys in their order.
-- Assumes nothing.
use Rattle.std.proofs.Common.{◌≡◌, [], ℕ, zero, suc, List, ◌∷◌, Bor, get_or, map, refl}
use Rattle.text.specs.Text.{width, last_digits, numeral}
use Rattle.catalogue.specs.Catalogue.{key_of, keys}
use Rattle.catalogue.proofs.line_key.Goals as goal

-- The bytes of a key of a table of keys.
bytes_of : (table : List (Bor (List ℕ))) (i : ℕ) (d : Bor (List ℕ))
    → (get_or table i d).now ≡ get_or (map (λ (key : Bor (List ℕ)). key.now) table) i d.now
bytes_of [] i d = refl
bytes_of (key ∷ table) zero d = refl
bytes_of (key ∷ table) (suc i) d = bytes_of table i d

pub returns : goal.returns
unfolding keys key_of numeral width last_digits
returns c = rw bytes_of refl
