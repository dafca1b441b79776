-- `sentence::put_string` meets its contract: 22 for room, and else the string in the front of the area.
-- Assumes nothing.
use mathlib.Core.Path.{refl}
use native.Mathlib.Omega.{arith}
use Rattle.sentence.proofs.Putting.{no_room, put_whole}
use Rattle.sentence.proofs.put_string.Goals as goal

pub returns-then-area-string : goal.returns-then-area-string
returns-then-area-string c = no_room _ _ c.of_table.ensures c.if-area-string.true

pub returns : goal.returns
returns c = put_whole _ _ refl (omega arith) c.put_bytes.ensures.1
