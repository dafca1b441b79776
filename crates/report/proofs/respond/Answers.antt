-- `report::respond` meets its contract: a text that is not read gets its three lines, and a table what is printed for
-- it.
use Rattle.reader.proofs.Taking.{rows_fit, rows_front}
use Rattle.report.proofs.Accepting.{verdict_fits}
use Rattle.report.proofs.Responding.{not_read, read}
use Rattle.report.proofs.respond.Goals as goal

pub put_verdict-requires : goal.put_verdict-requires
put_verdict-requires c = verdict_fits c.args.area.now c.in-Err.refusal c.requires

pub returns-in-Err : goal.returns-in-Err
returns-in-Err c = not_read c.args.text.now c.in-Err.ensures c.put_verdict.ensures

pub shared_ref_as_front-respond_table : goal.shared_ref_as_front-respond_table
shared_ref_as_front-respond_table c = (rows_fit c.args.text.now 512 c.in-Ok.ensures.0).1

pub returns-in-Ok : goal.returns-in-Ok
returns-in-Ok c =
    let found = c.in-Ok.ensures in
    read c.args.text.now (found.0, rows_front c.args.text.now 512 found.0 _ found.1) c.respond_table.ensures
