-- Bytes that stand at the front of others.
--     starts_self, starts_true      they stand there exactly if the others are they and a rest
--     starts_join                   two pieces, one behind the other
--     starts_std                    and so std's `starts_with` says it too
-- Assumes nothing.
use mathlib.Core.Path.{◌≡◌, refl, ap}
use mathlib.Core.Bool.{Bool, true, false, ◌&&◌, and-false}
use mathlib.Core.List.{List, [], ◌∷◌, ◌++◌}
use Prim.Native.Nat.{ℕ, ◌<◌}
use native.Mathlib.Nat.{not-suc-le-zero, le_of_suc-le-suc}
use borrow.Author.Tests.{eq-eqb, eqb-true}
use lib.Dec.{eqb}
use lib.ListN.{length, drop}
use Rattle.std.specs.List.{starts_with}
use Rattle.lists.proofs.Truth.{differ}
use Rattle.text.specs.Text.{starts}

pub starts_self : (xs ys : List ℕ) → starts xs (xs ++ ys) ≡ true
unfolding starts
starts_self [] ys = refl
starts_self (x ∷ xs) ys = rw (eq-eqb x x refl) (starts_self xs ys)

pub starts_true : (xs bytes : List ℕ) → starts xs bytes ≡ true → bytes ≡ xs ++ drop (length xs) bytes
unfolding starts
starts_true [] bytes e = refl
starts_true (x ∷ xs) [] e = absurd (differ e)
starts_true (x ∷ xs) (b ∷ bs) e = go (eqb x b) refl e (starts_true xs bs)
  where
    go : (t : Bool) → eqb x b ≡ t → t && starts xs bs ≡ true → (starts xs bs ≡ true → bs ≡ xs ++ drop (length xs) bs)
        → b ∷ bs ≡ x ∷ (xs ++ drop (length xs) bs)
    go true s f rec = cc (eqb-true x b s, rec f)
    go false s f rec = absurd (differ f)

pub starts_join : (xs ys bytes : List ℕ)
    → starts (xs ++ ys) bytes ≡ starts xs bytes && starts ys (drop (length xs) bytes)
unfolding starts
starts_join [] ys bytes = refl
starts_join (x ∷ xs) ys [] = refl
starts_join (x ∷ xs) ys (b ∷ bs) = go (eqb x b) (starts_join xs ys bs)
  where
    go : (t : Bool) → starts (xs ++ ys) bs ≡ starts xs bs && starts ys (drop (length xs) bs)
        → t && starts (xs ++ ys) bs ≡ (t && starts xs bs) && starts ys (drop (length xs) bs)
    go true e = e
    go false e = refl

pub starts_short : (xs bytes : List ℕ) → length bytes < length xs → starts xs bytes ≡ false
unfolding starts
starts_short [] bytes h = absurd (not-suc-le-zero h)
starts_short (x ∷ xs) [] h = refl
starts_short (x ∷ xs) (b ∷ bs) h = rw (starts_short xs bs (le_of_suc-le-suc h), and-false)

pub starts_std : (key bytes : List ℕ) → starts_with eqb bytes key ≡ starts key bytes
unfolding starts
starts_std [] bytes = refl
starts_std (x ∷ xs) [] = refl
starts_std (x ∷ xs) (b ∷ bs) = ap (λ (t : Bool). eqb x b && t) (starts_std xs bs)
