-- `Lines::string` meets its contract: the string of a right line stands between its key and its line feed.
-- Assumes nothing.
use Rattle.catalogue.proofs.Strings.{string_part}
use Rattle.catalogue.proofs.Lines.string.Goals as goal

pub slice_bounds-result-count : goal.slice_bounds-result-count
slice_bounds-result-count c =
    (string_part c.args.self.text.now c.args.i _ c.args.self.right c.requires c.lines_on-line.ensures c.line_key.ensures c.line_end.ensures).order

pub slice_bounds-result-start : goal.slice_bounds-result-start
slice_bounds-result-start c =
    (string_part c.args.self.text.now c.args.i _ c.args.self.right c.requires c.lines_on-line.ensures c.line_key.ensures c.line_end.ensures).order

pub slice_bounds-result-end : goal.slice_bounds-result-end
slice_bounds-result-end c =
    (string_part c.args.self.text.now c.args.i _ c.args.self.right c.requires c.lines_on-line.ensures c.line_key.ensures c.line_end.ensures).inside

pub returns : goal.returns
returns c =
    (string_part c.args.self.text.now c.args.i _ c.args.self.right c.requires c.lines_on-line.ensures c.line_key.ensures c.line_end.ensures).holds
