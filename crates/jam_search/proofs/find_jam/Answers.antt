-- `jam_search::find_jam` meets its contract: after p turns `found` is the jam of fewest cells on the links below p.
-- Assumes nothing.
use Rattle.jam_search.proofs.Searching.{compared_more}
use Rattle.jam_search.proofs.find_jam.Goals as goal

pub loop-link-preserved : goal.loop-link-preserved
loop-link-preserved c = compared_more _ _ _ _ c.loop-link.invariant c.first_in.ensures c.fewer_of-found.ensures
