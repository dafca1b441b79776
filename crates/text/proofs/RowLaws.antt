-- The lines of some keys, one behind the other, as the definitions have them.
--     Right                        all of them are exactly so
--     right_on                     then the first wrong line is looked for behind them
--     none_wrong                   where none is wrong, they are right, and none is wrong behind them
--     lines_stand, lines_fit       then the text is just these lines and the rest, and the values are 16-bit
--     lines_found                  and a text that begins with such lines is seen to, with their values and the rest
--     made, row_values, values_back      each key of a row has its value, and a row and its values say the same
--     row_stands, row_found        the same of the lines of a row
-- Assumes nothing.
use mathlib.Core.Path.{◌≡◌, refl, ◌∙◌, ap, sym, subst}
use mathlib.Core.Bool.{Bool, true, false, cond}
use mathlib.Core.List.{List, [], ◌∷◌, ◌++◌, append_assoc}
use Prim.Native.Nat.{ℕ, suc, ◌+◌, ◌<◌}
use native.Mathlib.Omega.{arith}
use lib.ListN.{length, get_or}
use Rattle.lists.proofs.Build.{build_of}
use Rattle.table.specs.declared.Row.{Row}
use Rattle.table.specs.Table.{row_numbers, row_by}
use Rattle.text.specs.Text.{line, row_keys, lines_text, row_text, ValuesFit, line_good, line_value}
use Rattle.text.specs.Text.{line_rest, values_at, behind_lines, wrong_line, row_at}
use Rattle.text.proofs.Lines.{line_stands, line_found}

-- all of the lines of some keys are exactly so
abbrev pub Right : (keys : List (List ℕ)) (text : List ℕ) → Type 0
Right [] text = Unit {0}
Right (k ∷ ks) text = (line_good k text ≡ true) × Right ks (line_rest k text)

pub right_on : (keys more : List (List ℕ)) (text : List ℕ) (l : ℕ) → Right keys text
    → wrong_line (keys ++ more) text l ≡ wrong_line more (behind_lines keys text) (l + length keys)
unfolding wrong_line behind_lines
right_on [] more text l g = let none : l ≡ l + 0 = omega arith in ap (wrong_line more text) none
right_on (k ∷ ks) more text l g =
    let next : suc l + length ks ≡ l + suc (length ks) = omega arith in
    rw g.0 (right_on ks more (line_rest k text) (suc l) g.1
    ∙ ap (wrong_line more (behind_lines ks (line_rest k text))) next)

pub none_wrong : (keys more : List (List ℕ)) (text : List ℕ) (l : ℕ) → 0 < l → wrong_line (keys ++ more) text l ≡ 0
    → Right keys text
unfolding wrong_line
none_wrong [] more text l h e = tt
none_wrong (k ∷ ks) more text l h e =
    go (line_good k text) refl e (none_wrong ks more (line_rest k text) (suc l) (omega arith))
  where
    go : (b : Bool) → line_good k text ≡ b → cond b (wrong_line (ks ++ more) (line_rest k text) (suc l)) l ≡ 0
        → (wrong_line (ks ++ more) (line_rest k text) (suc l) ≡ 0 → Right ks (line_rest k text)) → Right (k ∷ ks) text
    go true s e rec = (s, rec e)
    go false s e rec = absurd (omega arith)

pub values_many : (keys : List (List ℕ)) (text : List ℕ) → length (values_at keys text) ≡ length keys
unfolding values_at
values_many [] text = refl
values_many (k ∷ ks) text = ap suc (values_many ks (line_rest k text))

pub lines_stand : (keys : List (List ℕ)) (text : List ℕ) → Right keys text
    → text ≡ lines_text keys (values_at keys text) ++ behind_lines keys text
unfolding lines_text values_at behind_lines
lines_stand [] text g = refl
lines_stand (k ∷ ks) text g =
    let here = line k (line_value k text) in
    let rest = line_rest k text in
    let more = lines_text ks (values_at ks rest) in
    (line_stands k text g.0).1 ∙ ap (λ (t : List ℕ). here ++ t) (lines_stand ks rest g.1)
    ∙ sym (append_assoc here more (behind_lines ks rest))

pub lines_fit : (keys : List (List ℕ)) (text : List ℕ) → Right keys text → ValuesFit (values_at keys text)
unfolding values_at
lines_fit [] text g = tt
lines_fit (k ∷ ks) text g = ((line_stands k text g.0).0, lines_fit ks (line_rest k text) g.1)

-- what a text that begins with the lines of some keys and values is seen to say
pub record Found (keys : List (List ℕ)) (vs rest text : List ℕ) : Type 0 where
  pub right : Right keys text
  pub says : values_at keys text ≡ vs
  pub past : behind_lines keys text ≡ rest

pub lines_found : (keys : List (List ℕ)) (vs rest : List ℕ) → length vs ≡ length keys → ValuesFit vs
    → Found keys vs rest (lines_text keys vs ++ rest)
unfolding lines_text values_at behind_lines
lines_found [] [] rest e f = record { right = tt; says = refl; past = refl }
lines_found [] (v ∷ vs) rest e f = absurd (omega arith)
lines_found (k ∷ ks) [] rest e f = absurd (omega arith)
lines_found (k ∷ ks) (v ∷ vs) rest e f =
    let on = lines_text ks vs ++ rest in
    let one = line_found k v on f.0 in
    let all = lines_found ks vs rest (omega arith) f.1 in
    rw append_assoc
    (record {
      right = (one.0, rw one.2 all.right);
      says = rw (one.1, one.2, all.says);
      past = rw one.2 all.past;
    })

-- the row that a list of values makes
abbrev pub made : List ℕ → Row
made vs = row_by (λ j. get_or vs j 0)

-- each key of a row has its value, and the values of a row make that row
pub row_values : (r : Row) → (length (row_numbers r) ≡ length row_keys) × (made (row_numbers r) ≡ r)
unfolding row_keys
row_values r = (refl, refl)

-- so many values as a row has keys are the values of the row that they make
pub values_back : (vs : List ℕ) → length vs ≡ length row_keys → row_numbers (made vs) ≡ vs
unfolding row_keys
values_back vs e = build_of (length row_keys) 0 vs e

pub row_stands : (text : List ℕ) → Right row_keys text → text ≡ row_text (row_at text) ++ behind_lines row_keys text
unfolding row_text row_at
row_stands text g =
    let are = sym (values_back (values_at row_keys text) (values_many row_keys text)) in
    lines_stand row_keys text g ∙ ap (λ (vs : List ℕ). lines_text row_keys vs ++ behind_lines row_keys text) are

pub row_fits : (text : List ℕ) → Right row_keys text → ValuesFit (row_numbers (row_at text))
unfolding row_at
row_fits text g =
    subst ValuesFit (sym (values_back (values_at row_keys text) (values_many row_keys text))) (lines_fit row_keys text g)

-- a text that begins with a row's lines is seen to, with that row and the rest
pub record RowFound (r : Row) (rest text : List ℕ) : Type 0 where
  pub right : Right row_keys text
  pub row : row_at text ≡ r
  pub past : behind_lines row_keys text ≡ rest

pub row_found : (r : Row) (rest : List ℕ) → ValuesFit (row_numbers r) → RowFound r rest (row_text r ++ rest)
unfolding row_text row_at
row_found r rest f =
    let all = lines_found row_keys (row_numbers r) rest (row_values r).0 f in
    record { right = all.right; row = ap made all.says ∙ (row_values r).1; past = all.past }
