-- Of more than 512 rows none is written.
--     loaded_put       what is said of writing those given is said of writing those lent
-- At most 512 rows are all given. Of more, no row is looked at: the answer is refusal 2, by the length alone, and the area
-- is left.
-- Assumes nothing.
use mathlib.Core.Path.{◌≡◌, refl, ◌∙◌, sym, subst}
use Prim.Native.Nat.{ℕ, ◌≤◌, ◌<◌}
use mathlib.Core.Bool.{Bool, true, false}
use mathlib.Core.List.{List}
use borrow.Author.Tests.{lt-ltb, ltb-true, ltb-false}
use lib.Dec.{ltb}
use lib.ListN.{length}
use Rattle.std.proofs.Common.{Err}
use Rattle.table.specs.declared.Row.{Row}
use Rattle.table.specs.Table.{refuse}
use Rattle.text.specs.Text.{Writing, writing_of, area_after, TextPut}

-- A table of more than 512 rows is refused by its length, and the area is left.
many_refused : (n : ℕ) (rows : List Row) (room : ℕ) → 512 < length rows → writing_of n rows room ≡ Err (refuse 2 0 0)
unfolding writing_of
many_refused n rows room l = rw (lt-ltb 512 (length rows) l)

many_left : (n : ℕ) (rows : List Row) (area : List ℕ) → 512 < length rows → area_after n rows area ≡ area
unfolding area_after
many_left n rows area l = rw (lt-ltb 512 (length rows) l)

pub loaded_put : (n : ℕ) (given lent : List Row) (area : List ℕ) {area' : List ℕ} {r : Writing}
    → (length lent ≤ 512 → given ≡ lent) → (512 < length lent → 512 < length given)
    → TextPut n given area r area' → TextPut n lent area r area'
loaded_put n given lent area {area'} {r} few many put = go (ltb 512 (length lent)) refl
  where
    go : (t : Bool) → ltb 512 (length lent) ≡ t → TextPut n lent area r area'
    go true e =
        let l : 512 < length lent = ltb-true 512 (length lent) e in
        let g : 512 < length given = many l in
        record {
          answers = put.answers ∙ many_refused n given (length area) g ∙ sym (many_refused n lent (length area) l);
          fills = put.fills ∙ many_left n given area g ∙ sym (many_left n lent area l);
        }
    go false e = subst (λ (xs : List Row). TextPut n xs area r area') (few (ltb-false 512 (length lent) e)) put
