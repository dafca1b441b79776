-- What is written is what the whole input prints.
use Rattle.std.proofs.Common.{rules, length, ◌≡◌, ap, subst, ◌∙◌, take}
use Rattle.std.specs.Io.KnownBytes.{Appends}
use Rattle.std.proofs.lemmas.Result.{on_ok_weaker}
use Rattle.report.specs.Report.{output_of}
use Rattle.std.proofs.Math.Seq.{take-append_seam}
use Rattle.plan.proofs.Printed.{printed}
use Rattle.plan.proofs.plan_text.Goals as goal

pub returns : goal.returns
returns g c =
    let read = c.in_ok-count.ensures in
    let said = c.respond-length.ensures in
    let text = take c.in_ok-count.count c.fill.new.area in
    let front : take c.respond-length.result c.respond-length.new.area ≡ output_of text =
    ap (λ n. take n c.respond-length.new.area) said.counts ∙ ap (take (length (output_of text))) said.fills
    ∙ take-append_seam (output_of text) _ in
    on_ok_weaker c.write_all.result
    (λ wrote. printed _ _ c.in_ok-count.count c.fill.new.area _ _ (search rules) read.within.0 read.bytes read.end
    (subst (Appends _ _) front wrote))
    c.write_all.ensures.bytes
