-- `catalogue::behind_line` meets its contract: the rest begins behind the first line feed, or is empty.
-- Assumes nothing.
use Rattle.std.proofs.Common.{◌+◌, ◌-◌, length, drop, length-drop, arith, sym, ◌∙◌}
use Rattle.std.proofs.lemmas.List.{take_all}
use Rattle.catalogue.proofs.LineLemmas.{behind_found, behind_missing}
use Rattle.catalogue.proofs.behind_line.Goals as goal

pub returns-in-Some : goal.returns-in-Some
returns-in-Some c =
    let text = c.args.text.now in
    let from = c.in-Some.i + 1 in
    let all = take_all (length text - from) (drop from text) (omega (arith, length-drop from text)) in
    all ∙ behind_found text (sym c.first_feed.ensures ∙ c.in-Some.is)

pub returns-in-None : goal.returns-in-None
returns-in-None c = behind_missing c.args.text.now (sym c.first_feed.ensures ∙ c.in-None.is)
