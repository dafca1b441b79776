-- `area::busiest_in` meets its contract: the largest load, and its first place.
-- Assumes nothing.
use native.Mathlib.Omega.{arith}
use Rattle.lists.proofs.FirstPlace.{place_fits}
use Rattle.area.specs.Area.{busiest_in}
use Rattle.area.proofs.busiest_in.Goals as goal

pub overflow_cast-result : goal.overflow_cast-result
overflow_cast-result c =
    let loads = c.args.loads.now in
    rw c.first_place-link.ensures (omega (arith, place_fits c.greatest-load.result loads))

pub returns : goal.returns
unfolding busiest_in
returns c = cc (c.first_place-link.ensures, c.greatest-load.ensures)
