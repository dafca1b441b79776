-- What is printed for the bytes that were read is what the whole input prints.
--     front_is_all       the bytes that filled the room, or all that there are, print alike
--     printed            so of any reader's known bytes
-- Assumes nothing.
use Rattle.std.proofs.Common.{◌≡◌, ◌≤◌, ◌<◌, ℕ, Bool, true, false, List, [], ◌++◌, length, take, refl, sym, ap, subst, ◌∙◌, arith, length-take-le, append-nil}
use Rattle.std.specs.Prelude.{Option, None, Some, IfSome}
use Rattle.std.specs.Io.KnownBytes.{Consumes, IsAtEnd, Appends}
use borrow.Author.Tests.{ltb-true, ltb-false}
use lib.Dec.{ltb}
use Rattle.report.specs.Report.{input_most, output_of}
use Rattle.report.proofs.Rest.{rest_changes_nothing}

pub front_is_all : (n : ℕ) (room rest : List ℕ) → length room ≡ input_most → n ≤ length room → (n < length room → rest ≡ [])
    → output_of (take n room) ≡ output_of (take n room ++ rest)
front_is_all n room rest whole within end = go (ltb n (length room)) refl
  where
    go : (b : Bool) → ltb n (length room) ≡ b → output_of (take n room) ≡ output_of (take n room ++ rest)
    go true e =
        let short = ltb-true n (length room) e in
        ap output_of (sym (ap (λ more. take n room ++ more) (end short) ∙ append-nil (take n room)))
    go false e =
        let full = ltb-false n (length room) e in
        let long : input_most ≤ length (take n room) = omega (arith, length-take-le n room within) in
        sym (rest_changes_nothing (take n room) rest long)

pub printed : (given left : Option (List ℕ)) (n : ℕ) (room : List ℕ) (old new : Option (List ℕ))
    → length room ≡ input_most → n ≤ length room → Consumes given left (take n room) → (n < length room → IsAtEnd left)
    → Appends old new (output_of (take n room)) → IfSome given (λ text. Appends old new (output_of text))
printed None left n room old new whole within given end wrote = tt
printed (Some text) (Some rest) n room old new whole within given end wrote =
    subst (λ said. Appends old new said)
    (front_is_all n room rest whole within end ∙ ap output_of (sym given)) wrote
printed (Some text) None n room old new whole within given end wrote = elim given [ ]
