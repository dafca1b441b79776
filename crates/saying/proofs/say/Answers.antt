-- What is printed lies within the area that the sentence was put into.
use Rattle.sentence.proofs.Said.{written_fits, written_taken}
use Rattle.saying.proofs.say.Goals as goal

pub slice_bounds-area-end : goal.slice_bounds-area-end
slice_bounds-area-end g c = written_fits c.sentence_of.ensures c.in-Ok.is

pub slice_bounds-write_all-end : goal.slice_bounds-write_all-end
slice_bounds-write_all-end g c = written_taken c.sentence_of.ensures c.in-Ok.is
