-- `writer::rows_length` meets its contract: the lines counted and those that are left make the whole.
use Rattle.std.proofs.Common.{◌≡◌, ◌+◌, length, drop}
use Rattle.text.specs.Text.{rows_text}
use Rattle.writer.proofs.rows_length.Given as goal

abbrev pub invariant-loop-row : goal.invariant-loop-row
invariant-loop-row l = l.sum + length (rows_text (drop l.row-index l.rows)) ≡ length (rows_text l.rows)
