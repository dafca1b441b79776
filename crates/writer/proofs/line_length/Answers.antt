-- `writer::line_length` meets its contract: a line has its key, its digits and a line feed.
use Rattle.std.proofs.Common.{arith}
use Rattle.text.proofs.Numeral.{width_most}
use Rattle.text.proofs.Lines.{line-length}
use Rattle.writer.proofs.line_length.Goals as goal

pub overflow_add-result : goal.overflow_add-result
overflow_add-result c = omega (arith, width_most c.args.v)

pub overflow_add-result-2 : goal.overflow_add-result-2
overflow_add-result-2 c = omega (arith, width_most c.args.v)

pub returns : goal.returns
returns c = omega (arith, line-length c.args.key.now c.args.v)
