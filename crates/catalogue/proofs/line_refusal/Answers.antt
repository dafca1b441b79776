-- `catalogue::line_refusal` meets its contract: each return is the first thing that is wrong with the line.
-- Assumes nothing.
use Rattle.std.proofs.Common.{◌≡◌, ℕ, Bool, List, ◌-◌, [], length, get_or, eqb, arith, ap, sym, ◌∙◌}
use Rattle.std.specs.List.{starts_with}
use Rattle.text.specs.Text.{starts}
use Rattle.text.proofs.Front.{starts_std}
use Rattle.catalogue.specs.Catalogue.{keys, first_line, string_refusal}
use Rattle.catalogue.proofs.Keys.{key_plain}
use Rattle.catalogue.proofs.LineLemmas.{open_line, wrong_key, key_first, string_judged}
use Rattle.catalogue.proofs.line_refusal.Goals.{then-end-text-via-then-end-text, then-end-text-via-else-end-text+then-not-starts_with}
use Rattle.catalogue.proofs.line_refusal.Goals as goal

-- Whether a text starts with a key, by what std says of the key that is given.
told : (text : List ℕ) {key given : List ℕ} {answer b : Bool} → given ≡ key → answer ≡ starts_with eqb text given → answer ≡ b
    → starts key text ≡ b
told text {given = given} same std is = ap (λ (k : List ℕ). starts k text) (sym same) ∙ sym (std ∙ starts_std given text) ∙ is

pub returns-then-end-text : goal.returns-then-end-text
returns-then-end-text c =
    let a = c.args in
    let text = a.text.now in
    let plain = key_plain a.i c.requires in
    let end = c.line_end-end.ensures in
    elim c.then-end-text.branch [
      | then-end-text-via-then-end-text w ↦ open_line (get_or keys a.i []) text plain (sym end ∙ w.if-end-text.true)
      | then-end-text-via-else-end-text+then-not-starts_with w ↦
          let ended : length (first_line text) ≡ length text → ⊥ = λ e. w.if-end-text.false (end ∙ e) in
          wrong_key (get_or keys a.i []) text plain ended
          (told text c.line_key-key.ensures w.starts_with.ensures.value w.if-not-starts_with.true)
    ]

pub overflow_sub-end : goal.overflow_sub-end
overflow_sub-end c =
    let a = c.args in
    let text = a.text.now in
    let end = c.line_end-end.ensures in
    let ended : length (first_line text) ≡ length text → ⊥ = λ e. c.if-end-text.false (end ∙ e) in
    let found = told text c.line_key-key.ensures c.starts_with.ensures.value c.if-not-starts_with.false in
    let first = key_first (get_or keys a.i []) text (key_plain a.i c.requires) ended found in
    omega (arith, ap length c.line_key-key.ensures, first)

pub returns : goal.returns
returns c =
    let a = c.args in
    let text = a.text.now in
    let end = c.line_end-end.ensures in
    let ended : length (first_line text) ≡ length text → ⊥ = λ e. c.if-end-text.false (end ∙ e) in
    let found = told text c.line_key-key.ensures c.starts_with.ensures.value c.if-not-starts_with.false in
    let judged = c.string_refusal.ensures ∙ ap (λ (e : ℕ). string_refusal (e - length c.line_key-key.result.now)) end in
    string_judged (get_or keys a.i []) text (key_plain a.i c.requires) ended found _ _ (ap length c.line_key-key.ensures) judged
