-- `lists::first_place` meets its contract: the chain's answer is a place before which the number doesn't stand.
-- Assumes nothing.
use Rattle.std.proofs.Common.{◌≡◌, ◌∙◌, ℕ, refl, sym, eqb, rules, arith}
use Rattle.std.specs.List.{position_or_len}
use Rattle.std.proofs.lemmas.List.Recursion.{is_position_or_len}
use Rattle.std.proofs.lemmas.List.Sums.{position_or_len_is}
use Rattle.lists.specs.Lists.{first_place}
use Rattle.lists.proofs.first_place.Goals as goal

-- The definition is std's.
is_first : (x : ℕ) (part : _) → first_place x part ≡ position_or_len (eqb x) part
unfolding first_place
is_first x part = is_position_or_len (first_place x) (eqb x) refl (λ _ _. grind arith) part

pub returns : goal.returns
returns c =
    let x = c.args.x in
    let part = c.args.part.now in
    let place = c.unwrap_or.result in
    sym (is_first x part ∙ position_or_len_is (eqb x) part place 0 (search rules) (search rules) (search rules))
