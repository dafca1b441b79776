-- `Lines::first_repeat` meets its contract: as long as no label passed repeats one, the first that does is the first
-- of the rest.
use Rattle.std.proofs.Common.{◌≡◌, ◌-◌, length}
use Rattle.catalogue.specs.Catalogue.{fields, labels_in, first_repeat}
use Rattle.catalogue.proofs.Lines.first_repeat.Given as goal

abbrev pub invariant-loop-k : goal.invariant-loop-k
invariant-loop-k l =
    let labels = labels_in l.self.text.now in
    first_repeat labels (length fields) 0 ≡ first_repeat labels (length fields - l.k) l.k
