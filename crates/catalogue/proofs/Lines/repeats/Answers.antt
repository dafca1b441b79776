-- `Lines::repeats` meets its contract: as long as the labels passed are others, the answer is that of the rest.
-- Assumes nothing.
use Rattle.std.proofs.Common.{◌<◌, [], length, get_or, arith, sym, ◌∙◌}
use Rattle.catalogue.specs.Catalogue.{labels_in}
use Rattle.catalogue.proofs.Strings.{labels_long, labels_told, among_here, among_next, among_end}
use Rattle.catalogue.proofs.Lines.repeats.Goals as goal

pub returns-then-eq : goal.returns-then-eq
returns-then-eq c =
    let k = c.args.k in
    let l = c.loop-j in
    let labels = labels_in c.args.self.text.now in
    let inside : l.j < length labels = omega (arith, labels_long c.args.self.text.now) in
    let equal = labels_told _ k l.j c.eq.ensures c.string-label.ensures c.string.ensures c.if-eq.true in
    sym (l.invariant ∙ among_here (get_or labels k []) labels k l.j (omega arith) inside equal)

pub loop-j-preserved : goal.loop-j-preserved
loop-j-preserved c =
    let k = c.args.k in
    let l = c.loop-j in
    let labels = labels_in c.args.self.text.now in
    let inside : l.j < length labels = omega (arith, labels_long c.args.self.text.now) in
    let other = labels_told _ k l.j c.eq.ensures c.string-label.ensures c.string.ensures c.if-eq.false in
    l.invariant ∙ among_next (get_or labels k []) labels k l.j (omega arith) inside other

pub returns : goal.returns
returns c =
    let k = c.args.k in
    let l = c.loop-j in
    let labels = labels_in c.args.self.text.now in
    sym (l.invariant ∙ among_end (get_or labels k []) labels k l.j (omega arith))
