-- `catalogue::line_end` meets its contract: the line ends at the first line feed, or with the text.
-- Assumes nothing.
use Rattle.std.proofs.Common.{sym, ◌∙◌}
use Rattle.catalogue.proofs.Places.{first_found, first_missing}
use Rattle.catalogue.proofs.LineLemmas.{feed_at}
use Rattle.catalogue.proofs.line_end.Goals as goal

pub returns-in-Some : goal.returns-in-Some
returns-in-Some c =
    let text = c.args.text.now in
    sym (feed_at text ∙ (first_found _ text (sym c.first_feed.ensures ∙ c.in-Some.is)).0)

pub returns-in-None : goal.returns-in-None
returns-in-None c =
    let text = c.args.text.now in
    sym (feed_at text ∙ first_missing _ text (sym c.first_feed.ensures ∙ c.in-None.is))
