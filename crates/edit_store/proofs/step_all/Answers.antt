-- `edit_store::step_all` meets its contract: the counts passed are stepped, and the others are as they came.
-- Assumes nothing.
use Rattle.std.proofs.Common.{◌≡◌, ℕ, zero, suc, ◌<◌, ◌++◌, List, [], ◌∷◌, map, take, drop, length, refl, ap, arith, slice_set, get_or, add-one, ◌∙◌}
use Rattle.edit_store.proofs.step_all.Goals as goal

-- A list of which the first i entries are stepped.
abbrev part_of : (ℕ → ℕ) → List ℕ → ℕ → List ℕ
part_of by d i = map by (take i d) ++ drop i d

-- The next entry is as it came.
next_is : (by : ℕ → ℕ) (d : List ℕ) (i e : ℕ) → get_or (part_of by d i) i e ≡ get_or d i e
next_is by [] zero e = refl
next_is by [] (suc i) e = refl
next_is by (x ∷ d) zero e = refl
next_is by (x ∷ d) (suc i) e = next_is by d i e

-- One entry more is stepped.
one_more : (by : ℕ → ℕ) (d : List ℕ) (i x : ℕ) → i < length d → x ≡ by (get_or d i 0) → slice_set (part_of by d i) i x ≡ part_of by d (suc i)
one_more by [] i x h e = absurd (omega arith)
one_more by (y ∷ d) zero x h e = ap (λ (z : ℕ). z ∷ d) e
one_more by (y ∷ d) (suc i) x h e = ap (λ (l : List ℕ). by y ∷ l) (one_more by d i x (omega arith) e)

pub loop-count-preserved : goal.loop-count-preserved
loop-count-preserved g c =
    let l = c.loop-count in
    let d = c.args.part.now in
    let stepped : c.step.result ≡ g.by (get_or l.part l.count-index 0) =
    c.requires.1.gives _ _ (omega arith) c.step.ensures
    in
    let old : get_or l.part l.count-index 0 ≡ get_or d l.count-index 0 =
    ap (λ (p : List ℕ). get_or p l.count-index 0) l.invariant ∙ next_is g.by d l.count-index 0
    in
    rw (l.invariant, add-one) (one_more g.by d l.count-index _ (omega arith) (stepped ∙ ap g.by old))
