-- `Lines::first_repeat` meets its contract: as long as no label passed repeats one, the first that does is the first
-- of the rest.
-- Assumes nothing.
use Rattle.std.proofs.Common.{length, arith, refl, sym, ◌∙◌}
use Rattle.catalogue.specs.Catalogue.{fields, labels_in, among}
use Rattle.catalogue.proofs.Strings.{repeat_here, repeat_next, repeat_end}
use Rattle.catalogue.proofs.Lines.first_repeat.Goals as goal

pub loop-k-init : goal.loop-k-init
unfolding among
loop-k-init c = repeat_next (labels_in c.args.self.text.now) (length fields) 0 (omega arith) refl

pub returns-then-repeats-clause-first : goal.returns-then-repeats-clause-first
returns-then-repeats-clause-first c =
    let l = c.loop-k in
    let repeats = sym c.repeats.ensures ∙ c.if-repeats.true in
    sym (l.invariant ∙ repeat_here (labels_in c.args.self.text.now) (length fields) l.k (omega arith) repeats)

pub loop-k-preserved : goal.loop-k-preserved
loop-k-preserved c =
    let l = c.loop-k in
    let new = sym c.repeats.ensures ∙ c.if-repeats.false in
    l.invariant ∙ repeat_next (labels_in c.args.self.text.now) (length fields) l.k (omega arith) new

pub returns-clause-first : goal.returns-clause-first
returns-clause-first c =
    let l = c.loop-k in
    sym (l.invariant ∙ repeat_end (labels_in c.args.self.text.now) (length fields) l.k (omega arith))
