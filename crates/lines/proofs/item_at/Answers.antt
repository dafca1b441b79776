-- `lines::item_at` meets its contract: each return is one law of an item.
use Rattle.std.proofs.Common.{◌≡◌, ◌∙◌, sym, ℕ, List, Bool, arith}
use lib.Dec.{eqb}
use Rattle.std.specs.List.{starts_with}
use Rattle.text.specs.Text.{starts}
use Rattle.text.proofs.Front.{starts_std}
use Rattle.lines.proofs.Seeing.{no_key, key_inside, figures_inside, seen_great, seen_other, seen_no_end}
use Rattle.lines.proofs.Seeing.{seen_other_end, seen_good}
use Rattle.lines.proofs.item_at.Goals.{then-figures-gt65535-via-then-figures-gt65535, then-figures-gt65535-via-else-figures-gt65535+then-figures-width_of}
use Rattle.lines.proofs.item_at.Goals.{then-text-end-via-then-text-end, then-text-end-via-else-text-end+then-text-end-2}
use Rattle.lines.proofs.item_at.Goals as goal

-- Whether the key stands at the front, by what std answers.
stood : (key text : List ℕ) {answer b : Bool} → answer ≡ starts_with eqb text key → answer ≡ b → starts key text ≡ b
stood key text told so = sym (starts_std key text) ∙ sym told ∙ so

pub returns-then-not-starts_with : goal.returns-then-not-starts_with
returns-then-not-starts_with c =
    let a = c.args in
    no_key a.key.now a.mark a.text.now (stood a.key.now a.text.now c.starts_with.ensures.value c.if-not-starts_with.true)

pub returns-then-figures-gt65535 : goal.returns-then-figures-gt65535
returns-then-figures-gt65535 c =
    let a = c.args in
    let f = c.figures_at-figures in
    elim c.then-figures-gt65535.branch [
      | then-figures-gt65535-via-then-figures-gt65535 w ↦
          seen_great a.key.now a.mark a.text.now f.result f.ensures w.if-figures-gt65535.true
      | then-figures-gt65535-via-else-figures-gt65535+then-figures-width_of w ↦
          seen_other a.key.now a.mark a.text.now f.result f.ensures w.width_of.result w.width_of.ensures
          c.requires w.if-figures-width_of.true
    ]

pub overflow_add-end : goal.overflow_add-end
overflow_add-end c =
    let a = c.args in
    let f = c.figures_at-figures in
    let stands = stood a.key.now a.text.now c.starts_with.ensures.value c.if-not-starts_with.false in
    omega (arith, figures_inside a.key.now a.mark a.text.now f.result f.ensures (key_inside a.key.now a.text.now stands))

pub returns-then-text-end : goal.returns-then-text-end
returns-then-text-end c =
    let a = c.args in
    let f = c.figures_at-figures in
    let w = c.width_of in
    let same = c.if-figures-width_of.false in
    elim c.then-text-end.branch [
      | then-text-end-via-then-text-end u ↦
          seen_no_end a.key.now a.mark a.text.now f.result f.ensures w.result w.ensures same u.if-text-end.true
      | then-text-end-via-else-text-end+then-text-end-2 u ↦
          seen_other_end a.key.now a.mark a.text.now f.result f.ensures w.result w.ensures same
          u.if-text-end.false u.if-text-end-2.true
    ]

pub returns : goal.returns
returns c =
    let a = c.args in
    let f = c.figures_at-figures in
    let w = c.width_of in
    let stands = stood a.key.now a.text.now c.starts_with.ensures.value c.if-not-starts_with.false in
    seen_good a.key.now a.mark a.text.now f.result f.ensures w.result w.ensures c.if-figures-width_of.false
    c.if-text-end.false stands c.if-figures-gt65535.false c.if-text-end-2.false
