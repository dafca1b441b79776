-- `writer::put_rows` meets its contract: the lines of the rows passed stand at their place.
use Rattle.std.proofs.Common.{drop}
use Rattle.text.specs.Text.{rows_text}
use Rattle.text.proofs.Putting.{Putting}
use Rattle.writer.proofs.put_rows.Given as goal

abbrev pub invariant-loop-row : goal.invariant-loop-row
invariant-loop-row l = Putting l.initial.area l.from (rows_text l.rows) l.area l.at (rows_text (drop l.row-index l.rows))
