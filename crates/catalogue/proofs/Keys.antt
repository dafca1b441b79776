-- The keys of a catalogue.
--     field_at                   the fields are counted from 1
--     key_plain                  no key has a line feed
--     keys_all                   a key for each answer and each field
-- Assumes nothing.
use mathlib.Core.Path.{◌≡◌, refl}
use mathlib.Core.Bool.{Bool, true, false, ◌&&◌}
use mathlib.Core.List.{List, [], ◌∷◌}
use Prim.Native.Nat.{ℕ, zero, suc, ◌<◌}
use native.Mathlib.Nat.{not-suc-le-zero, le_of_suc-le-suc}
use lib.ListN.{length, get_or}
use Rattle.lists.proofs.Build.{get_or_build}
use Rattle.text.specs.Text.{width, last_digits, numeral}
use Rattle.lists.proofs.Truth.{differ}
use Rattle.catalogue.specs.Catalogue.{fields, key_of, keys, no_feed}
use Rattle.catalogue.specs.Steps.{lines}

pub field_at : (j : ℕ) → j < length fields → get_or fields j 0 ≡ suc j
field_at j h = get_or_build (length fields) suc j 0 h

-- No key has a line feed.
all_plain : List (List ℕ) → Bool
all_plain [] = true
all_plain (k ∷ ks) = no_feed k && all_plain ks

plain_at : (ks : List (List ℕ)) (i : ℕ) → all_plain ks ≡ true → i < length ks → no_feed (get_or ks i []) ≡ true
unfolding all_plain
plain_at [] i p h = absurd (not-suc-le-zero h)
plain_at (k ∷ ks) zero p h = go (no_feed k) p
  where
    go : (b : Bool) → (b && all_plain ks) ≡ true → b ≡ true
    go true p = refl
    go false p = absurd (differ p)
plain_at (k ∷ ks) (suc i) p h = go (no_feed k) p (λ q. plain_at ks i q (le_of_suc-le-suc h))
  where
    go : (b : Bool) → (b && all_plain ks) ≡ true → (all_plain ks ≡ true → no_feed (get_or ks i []) ≡ true)
        → no_feed (get_or ks i []) ≡ true
    go true p rest = rest p
    go false p rest = absurd (differ p)

all_plain_lem : all_plain keys ≡ true
unfolding all_plain keys key_of numeral width last_digits no_feed
all_plain_lem = refl

pub key_plain : (i : ℕ) → i < lines → no_feed (get_or keys i []) ≡ true
unfolding keys
key_plain i h = plain_at keys i all_plain_lem h

-- A catalogue has a key for each answer and each field.
pub keys_all : length keys ≡ lines
unfolding keys
keys_all = refl
