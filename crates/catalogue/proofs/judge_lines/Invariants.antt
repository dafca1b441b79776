-- `catalogue::judge_lines` meets its contract: as long as the lines passed are right, the verdict is that of the rest.
use Rattle.std.proofs.Common.{◌≡◌, drop}
use Rattle.catalogue.specs.Catalogue.{keys, lines_verdict}
use Rattle.catalogue.proofs.judge_lines.Given as goal

abbrev pub invariant-loop-i : goal.invariant-loop-i
invariant-loop-i l = lines_verdict keys 0 l.text ≡ lines_verdict (drop l.i keys) l.i l.rest
