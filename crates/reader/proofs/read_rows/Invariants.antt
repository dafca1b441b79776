-- `reader::read_rows` meets its contract: the rows passed are read, and what is left decides as the whole did.
use Rattle.reader.proofs.Loading.{Loaded}
use Rattle.reader.proofs.read_rows.Given as goal

abbrev pub invariant-loop-i : goal.invariant-loop-i
invariant-loop-i l = Loaded l.text l.count l.fn.rows l.rows l.rest l.line l.i
