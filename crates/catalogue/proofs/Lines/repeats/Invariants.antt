-- `Lines::repeats` meets its contract: as long as the labels passed are others, the answer is that of the rest.
use Rattle.std.proofs.Common.{◌≡◌, ◌-◌, [], get_or, take, drop}
use Rattle.catalogue.specs.Catalogue.{labels_in, among}
use Rattle.catalogue.proofs.Lines.repeats.Given as goal

abbrev pub invariant-loop-j : goal.invariant-loop-j
invariant-loop-j l =
    let labels = labels_in l.self.text.now in
    let label = get_or labels l.k [] in
    among label (take l.k labels) ≡ among label (take (l.k - l.j) (drop l.j labels))
