-- `slot::choose` meets its contract: after i turns the slot is what the first i rows make it.
-- Assumes nothing.
use mathlib.Core.Path.{◌≡◌}
use Rattle.slot.specs.Steps.{board_of, seen}
use Rattle.slot.proofs.choose.Given as goal

abbrev pub invariant-loop-i : goal.invariant-loop-i
invariant-loop-i l = l.slot ≡ seen (board_of l.cargo l.left l.figure) l.i
