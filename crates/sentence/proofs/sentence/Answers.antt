-- `sentence::sentence` meets its contract: a text that is no catalogue is refused as such.
-- Assumes nothing.
use Rattle.std.proofs.Common.{◌≡◌, Err, rules}
use Rattle.sentence.proofs.Putting.{not_a_catalogue}
use Rattle.sentence.proofs.sentence.Goals as goal

pub returns-in_err-open : goal.returns-in_err-open
returns-in_err-open c =
    let same : c.from_residual.result ≡ Err c.in_err-open.field-0.0 = search rules in
    rw same (not_a_catalogue _ _ _ _ c.in_err-open.ensures.bad)
