-- Refusal 20 names the first line that is not exactly so.
--     keys_of                   the keys of all lines of a text, in their order
--     right_at                  whether line k + 1 is exactly so
--     WrongAt, FirstWrong      the lines before line w are exactly so, and w is not, or bytes stand behind the last
--     line
--     first_wrong              a text refused by 20 with w has w for its first wrong line
-- Assumes nothing.
use mathlib.Core.Path.{◌≡◌, refl, ◌∙◌, ap, sym}
use mathlib.Core.Bool.{Bool, true, false, cond}
use mathlib.Core.Logic.{◌⊎◌, inl, inr}
use mathlib.Core.List.{List, [], ◌∷◌}
use Prim.Native.Nat.{ℕ, zero, suc, ◌+◌, ◌<◌}
use native.Mathlib.Omega.{arith}
use borrow.Author.Tests.{eqb-false}
use lib.Dec.{eqb, ltb}
use lib.ListN.{length, get_or, take}
use Rattle.table.specs.Table.{refuse}
use Rattle.table.specs.declared.Refusal.{Refusal}
use Rattle.text.specs.declared.Header.{Header}
use Rattle.std.specs.Prelude.{Ok, Err}
use Rattle.text.specs.Text.{nodes_key, rows_key, line_good, line_rest, behind_lines, wrong_line, rows_keys, nodes_in}
use Rattle.text.specs.Text.{rows_in, body_of, reading_of_rows, reading_of_body, Reading, reading_of}

-- The keys of all lines of a text with so many rows: nodes, rows, then those of each row.
abbrev pub keys_of : (rows : ℕ) → List (List ℕ)
keys_of rows = nodes_key ∷ rows_key ∷ rows_keys rows

-- Whether line k + 1 of a text whose lines have these keys is exactly so: its key's line stands behind the k lines
-- before it.
unfoldable pub right_at : (keys : List (List ℕ)) (text : List ℕ) (k : ℕ) → Bool
right_at keys text k = line_good (get_or keys k []) (behind_lines (take k keys) text)

-- Line k + 1 is wrong, or there is none, and bytes stand behind the last line.
abbrev pub WrongAt : (keys : List (List ℕ)) (text : List ℕ) (k : ℕ) → Type 0
WrongAt keys text k =
    ((k < length keys) × (right_at keys text k ≡ false)) ⊎ ((k ≡ length keys) × (behind_lines keys text ≡ [] → ⊥))

-- Of the lines of some keys, the first of which has number l, line w is the first that is wrong.
pub record FirstOf (keys : List (List ℕ)) (text : List ℕ) (l w : ℕ) : Type 0 where
  pub k : ℕ
  pub line : w ≡ l + k
  pub before : (j : ℕ) → j < k → right_at keys text j ≡ true
  pub wrong : WrongAt keys text k

-- Line w of a text is the first that is wrong.
abbrev pub FirstWrong : (text : List ℕ) (rows w : ℕ) → Type 0
FirstWrong text rows w = FirstOf (keys_of rows) text 1 w

some_byte : (t : List ℕ) → (length t ≡ 0 → ⊥) → t ≡ [] → ⊥
some_byte t d e = d (ap length e)

-- the first line is wrong
here_wrong : (key : List ℕ) (keys : List (List ℕ)) (text : List ℕ) (l w : ℕ) → w ≡ l → line_good key text ≡ false
    → FirstOf (key ∷ keys) text l w
unfolding right_at behind_lines
here_wrong key keys text l w e s =
    record { k = 0; line = omega arith; before = λ j h. absurd (omega arith); wrong = inl (omega arith, s) }

-- the first line is right, so the first wrong one is that of the rest
further : (key : List ℕ) (keys : List (List ℕ)) (text : List ℕ) (l w : ℕ) → line_good key text ≡ true
    → FirstOf keys (line_rest key text) (suc l) w → FirstOf (key ∷ keys) text l w
unfolding right_at behind_lines
further key keys text l w s f =
    record { k = suc f.k; line = omega (arith, f.line); before = before; wrong = wrong f.wrong }
  where
    before : (j : ℕ) → j < suc f.k → right_at (key ∷ keys) text j ≡ true
    before zero h = s
    before (suc j) h = f.before j (omega arith)

    wrong : WrongAt keys (line_rest key text) f.k → WrongAt (key ∷ keys) text (suc f.k)
    wrong (inl p) = inl (omega (arith, p.0), p.1)
    wrong (inr p) = inr (ap suc p.0, p.1)

first_of : (keys : List (List ℕ)) (text : List ℕ) (l w : ℕ) → w ≡ wrong_line keys text l → (w ≡ 0 → ⊥)
    → FirstOf keys text l w
unfolding wrong_line behind_lines
first_of [] text l w e some = go (eqb (length text) 0) refl e
  where
    go : (b : Bool) → eqb (length text) 0 ≡ b → w ≡ cond b 0 l → FirstOf [] text l w
    go true s v = absurd (some v)
    go false s v =
        let some = some_byte text (eqb-false (length text) 0 s) in
        record { k = 0; line = omega arith; before = λ j h. absurd (omega arith); wrong = inr (refl, some) }
first_of (k ∷ ks) text l w e some = go (line_good k text) refl e (λ f. first_of ks (line_rest k text) (suc l) w f some)
  where
    go : (b : Bool) → line_good k text ≡ b → w ≡ cond b (wrong_line ks (line_rest k text) (suc l)) l
        → (w ≡ wrong_line ks (line_rest k text) (suc l) → FirstOf ks (line_rest k text) (suc l) w)
        → FirstOf (k ∷ ks) text l w
    go true s v rec = further k ks text l w s (rec v)
    go false s v rec = here_wrong k ks text l w v s

-- the refusal that a reading is, or that of an accepted one
refusal_in : Reading → Refusal
refusal_in (Ok h) = refuse 0 0 0
refusal_in (Err r) = r

other_number : (a b r s : ℕ) → (a ≡ b → ⊥) → ◌≡◌ {A = Reading} (Err (refuse a r 0)) (Err (refuse b s 0)) → ⊥
unfolding refusal_in
other_number a b r s d e = d (ap (λ (x : Reading). (refusal_in x).number) e)

same_line : (a b : ℕ) → ◌≡◌ {A = Reading} (Err (refuse 20 a 0)) (Err (refuse 20 b 0)) → b ≡ a
unfolding refusal_in
same_line a b e = sym (ap (λ (x : Reading). (refusal_in x).row) e)

pub first_wrong : (text : List ℕ) (lent w : ℕ) → reading_of text lent ≡ Err (refuse 20 w 0)
    → FirstWrong text (rows_in text) w
unfolding reading_of reading_of_body reading_of_rows body_of
first_wrong text lent w e =
    go (line_good nodes_key text) (line_good rows_key (line_rest nodes_key text)) (ltb 512 (rows_in text))
    (ltb lent (rows_in text)) (eqb wrong 0) refl refl refl e
  where
    wrong : ℕ
    wrong = wrong_line (rows_keys (rows_in text)) (body_of text) 3

    found : Header
    found = record { nodes = nodes_in text; rows = rows_in text }

    after : List (List ℕ)
    after = rows_keys (rows_in text)

    go : (a b c d f : Bool) → line_good nodes_key text ≡ a → line_good rows_key (line_rest nodes_key text) ≡ b
        → eqb wrong 0 ≡ f
        → cond a (cond b (cond c (Err (refuse 2 0 0)) (cond d (Err (refuse 21 0 0))
        (cond f (Ok found) (Err (refuse 20 wrong 0))))) (Err (refuse 20 2 0)))
        (Err (refuse 20 1 0)) ≡ Err (refuse 20 w 0)
        → FirstWrong text (rows_in text) w
    go false b c d f p q t e = here_wrong nodes_key (rows_key ∷ after) text 1 w (same_line 1 w e) p
    go true false c d f p q t e =
        let second = here_wrong rows_key after (line_rest nodes_key text) 2 w (same_line 2 w e) q in
        further nodes_key (rows_key ∷ after) text 1 w p second
    go true true true d f p q t e = absurd (other_number 2 20 0 w (λ z. omega arith) e)
    go true true false true f p q t e = absurd (other_number 21 20 0 w (λ z. omega arith) e)
    go true true false false true p q t e = absurd cc
    go true true false false false p q t e =
        let is : w ≡ wrong = same_line wrong w e in
        let some : (w ≡ 0 → ⊥) = λ z. eqb-false wrong 0 t (sym is ∙ z) in
        let second = further rows_key after (line_rest nodes_key text) 2 w q
        (first_of after (body_of text) 3 w is some) in
        further nodes_key (rows_key ∷ after) text 1 w p second
