-- What stands past the bytes that the program reads changes no output.
--     rest_changes_nothing      so many bytes print alike, whatever follows them
--     front_prints_all          the bytes that are read print what the whole input prints
-- Assumes nothing.
use mathlib.Core.Path.{◌≡◌, refl, ◌∙◌, ap, sym}
use mathlib.Core.Bool.{Bool, true, false}
use mathlib.Core.List.{List, ◌++◌}
use Prim.Native.Nat.{ℕ, ◌≤◌}
use native.Mathlib.Omega.{arith}
use borrow.Author.Tests.{ltb-true, ltb-false}
use lib.Dec.{ltb}
use lib.ListN.{length, take, drop, take-append-drop}
use lib.Seq.{take_all, length-take-le}
use Rattle.text.proofs.Rest.{enough, enough_is, rest_changes_nothing as reads-alike, rest_reads_nothing}
use Rattle.report.specs.Report.{input_most, records_lent, output_of}

pub rest_changes_nothing : (text more : List ℕ) → input_most ≤ length text → output_of (text ++ more) ≡ output_of text
unfolding output_of
rest_changes_nothing text more h =
    let long : enough ≤ length text = omega (arith, enough_is) in
    rw (reads-alike text more records_lent long, rest_reads_nothing text more records_lent long)

pub front_prints_all : (input : List ℕ) → output_of (take input_most input) ≡ output_of input
front_prints_all input = go (ltb (length input) input_most) refl
  where
    go : (b : Bool) → ltb (length input) input_most ≡ b → output_of (take input_most input) ≡ output_of input
    go true e = ap output_of (take_all input_most input (omega (arith, ltb-true (length input) input_most e)))
    go false e =
        let front = take input_most input in
        let long : input_most ≤ length front =
        omega (arith, length-take-le input_most input (ltb-false (length input) input_most e)) in
        sym (rest_changes_nothing front (drop input_most input) long) ∙ ap output_of (take-append-drop input_most input)
