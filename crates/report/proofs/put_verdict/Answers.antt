-- `report::put_verdict` meets its contract: three lines, one behind the other.
-- Assumes nothing.
use Rattle.report.proofs.Verdict.{answer_fits, row_fits, slot_fits, verdict_put}
use Rattle.report.proofs.put_verdict.Goals as goal

pub put_line-second-requires : goal.put_line-second-requires
put_line-second-requires c =
    answer_fits c.args.area.now c.args.refusal c.requires

pub put_line-third-requires : goal.put_line-third-requires
put_line-third-requires c =
    let one = c.put_line-second in
    row_fits c.args.area.now c.args.refusal c.requires one.ensures

pub put_line-requires : goal.put_line-requires
put_line-requires c =
    let s = c in
    let one = c.put_line-second in
    let two = c.put_line-third in
    slot_fits s.args.area.now s.args.refusal s.requires one.ensures two.ensures

pub returns : goal.returns
returns c =
    let s = c in
    let one = c.put_line-second in
    let two = c.put_line-third in
    let three = c.put_line in
    verdict_put s.args.area.now s.args.refusal s.requires one.ensures two.ensures three.ensures
