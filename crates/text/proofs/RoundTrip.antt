-- The text and the table say the same.
--     read_back        the text of a table is read as that table
--     write_back       a text that is read is the text of what was read
--     read_iff_text    so a text is read exactly if it is the text of a table that fits
--     written_again    and what was read, written again, gives the same bytes
--     longest_text     a text has at most 20,501 bytes
-- Assumes nothing.
use mathlib.Core.Path.{◌≡◌, refl, ◌∙◌, ap, sym}
use mathlib.Core.Bool.{Bool, true, false, cond}
use mathlib.Core.Logic.{◌↔◌}
use mathlib.Core.List.{List, [], ◌∷◌, ◌++◌}
use Prim.Native.Nat.{ℕ, zero, suc, ◌+◌, ◌≤◌, ◌<◌}
use native.Mathlib.Omega.{arith}
use borrow.Author.Tests.{lt-ltb, le-ltb, ltb-false, ne_eqb, eqb-true}
use lib.Dec.{eqb, ltb}
use lib.ListN.{length, drop, length-append}
use Rattle.table.specs.Table.{refuse}
use Rattle.table.specs.declared.Row.{Row}
use Rattle.text.specs.declared.Header.{Header}
use Rattle.std.specs.Prelude.{Ok, Err}
use Rattle.text.specs.Text.{nodes_key, rows_key, width, line, row_text, rows_text, text_of, row_keys, RowsFit}
use Rattle.text.specs.Text.{TableFits, line_value, line_good, line_rest, behind_lines, wrong_line, rows_keys, row_at}
use Rattle.text.specs.Text.{rows_at, nodes_in, rows_in, body_of, reading_of_rows, reading_of_body, reading_of, rows_read}
use Rattle.text.specs.Text.{area_after}
use Rattle.text.proofs.Lines.{line-length, line_found, line_stands}
use Rattle.text.proofs.RowLaws.{right_on, none_wrong, row_stands, row_fits, row_found}
use Rattle.text.proofs.Lengths.{line_most, rows_long}

-- The lines of rows are read as those rows, and nothing is wrong with them.
rows_back : (rows : List Row) (l : ℕ) → RowsFit rows
    → (wrong_line (rows_keys (length rows)) (rows_text rows) l ≡ 0) × (rows_at (length rows) (rows_text rows) ≡ rows)
unfolding rows_text rows_keys wrong_line rows_at
rows_back [] l f = (refl, refl)
rows_back (r ∷ rs) l f =
    let found = row_found r (rows_text rs) f.0 in
    let rest = rows_back rs (l + length row_keys) f.1 in (
      right_on row_keys (rows_keys (length rs)) (row_text r ++ rows_text rs) l found.right
          ∙ rw found.past rest.0,
      rw (found.row, found.past, rest.1),
    )

module _ (n : ℕ) (rows : List Row) (lent : ℕ) (fits : TableFits n rows lent) where
  small_count : length rows ≤ 65535
  small_count = omega (arith, fits.few)

  abbrev lines : List ℕ
  lines = line rows_key (length rows) ++ rows_text rows

  reading_is : reading_of (text_of n rows) lent ≡ Ok (record { nodes = n; rows = length rows })
  unfolding reading_of reading_of_body reading_of_rows nodes_in rows_in body_of text_of
  reading_is =
      let one = line_found nodes_key n lines fits.nodes_fit in
      let two = line_found rows_key (length rows) (rows_text rows) small_count in
      rw (
        one.0,
        one.1,
        one.2,
        two.0,
        two.1,
        two.2,
        le-ltb 512 (length rows) fits.few,
        le-ltb lent (length rows) fits.room,
        (rows_back rows 3 fits.rows_fit).0,
      )

  rows_are : rows_read (text_of n rows) lent ≡ rows
  unfolding rows_read body_of text_of
  rows_are =
      let one = line_found nodes_key n lines fits.nodes_fit in
      let two = line_found rows_key (length rows) (rows_text rows) small_count in
      rw (reading_is, one.2, two.2) (rows_back rows 3 fits.rows_fit).1

  pub read_back : (reading_of (text_of n rows) lent ≡ Ok (record { nodes = n; rows = length rows }))
      × (rows_read (text_of n rows) lent ≡ rows)
  read_back = (reading_is, rows_are)

-- Where nothing is wrong with the lines of n rows, they are the lines of the rows that they say, and nothing follows.
rows_again : (n : ℕ) (text : List ℕ) (l : ℕ) → 0 < l → wrong_line (rows_keys n) text l ≡ 0
    → (text ≡ rows_text (rows_at n text)) × (length (rows_at n text) ≡ n) × RowsFit (rows_at n text)
unfolding rows_text rows_keys wrong_line rows_at
rows_again zero [] l h e = (refl, refl, tt)
rows_again zero (b ∷ bs) l h e = absurd (omega (arith, last e))
  where
    last : cond (eqb (suc (length bs)) 0) 0 l ≡ 0 → l ≡ 0
    last e = rw (ne_eqb (suc (length bs)) 0 (λ s. omega arith)) at e
rows_again (suc n) text l h e =
    let right = none_wrong row_keys (rows_keys n) text l h e in
    let on = sym (right_on row_keys (rows_keys n) text l right) ∙ e in
    let rest = rows_again n (behind_lines row_keys text) (l + length row_keys) (omega arith) on in (
      row_stands text right ∙ ap (λ (t : List ℕ). row_text (row_at text) ++ t) rest.0,
      ap suc rest.1,
      (row_fits text right, rest.2),
    )

-- What an accepted reading says of its text.
record Accepted (text : List ℕ) (lent : ℕ) (h : Header) : Type 0 where
  first : line_good nodes_key text ≡ true
  second : line_good rows_key (line_rest nodes_key text) ≡ true
  few : rows_in text ≤ 512
  room : rows_in text ≤ lent
  right : wrong_line (rows_keys (rows_in text)) (body_of text) 3 ≡ 0
  head : h ≡ record { nodes = nodes_in text; rows = rows_in text }

accepted : (text : List ℕ) (lent : ℕ) (h : Header) → reading_of text lent ≡ Ok h → Accepted text lent h
unfolding reading_of reading_of_body reading_of_rows
accepted text lent h e =
    go (line_good nodes_key text) (line_good rows_key (line_rest nodes_key text)) (ltb 512 (rows_in text))
    (ltb lent (rows_in text)) (eqb wrong 0) refl refl refl refl refl e
  where
    wrong : ℕ
    wrong = wrong_line (rows_keys (rows_in text)) (body_of text) 3

    found : Header
    found = record { nodes = nodes_in text; rows = rows_in text }

    go : (a b c d f : Bool) → line_good nodes_key text ≡ a → line_good rows_key (line_rest nodes_key text) ≡ b
        → ltb 512 (rows_in text) ≡ c → ltb lent (rows_in text) ≡ d → eqb wrong 0 ≡ f
        → cond a (cond b (cond c (Err (refuse 2 0 0)) (cond d (Err (refuse 21 0 0))
        (cond f (Ok found) (Err (refuse 20 wrong 0))))) (Err (refuse 20 2 0)))
        (Err (refuse 20 1 0)) ≡ Ok h
        → Accepted text lent h
    go false b c d f p q r s t e = absurd cc
    go true false c d f p q r s t e = absurd cc
    go true true true d f p q r s t e = absurd cc
    go true true false true f p q r s t e = absurd cc
    go true true false false false p q r s t e = absurd cc
    go true true false false true p q r s t e =
        record {
          first = p;
          second = q;
          few = ltb-false 512 (rows_in text) r;
          room =
              ltb-false lent (rows_in text) s;
          right = eqb-true wrong 0 t;
          head = cc;
        }

module _ (text : List ℕ) (lent : ℕ) (h : Header) (e : reading_of text lent ≡ Ok h) where
  said : Accepted text lent h
  said = accepted text lent h e

  again : (body_of text ≡ rows_text (rows_at (rows_in text) (body_of text)))
      × (length (rows_at (rows_in text) (body_of text)) ≡ rows_in text) × RowsFit (rows_at (rows_in text) (body_of text))
  again = rows_again (rows_in text) (body_of text) 3 (omega arith) said.right

  nodes_are : h.nodes ≡ nodes_in text
  nodes_are = ap (λ (g : Header). g.nodes) said.head

  pub rows_said : rows_read text lent ≡ rows_at (rows_in text) (body_of text)
  unfolding rows_read
  rows_said = rw (e, said.head)

  text_stands : text ≡ line nodes_key (nodes_in text) ++ (line rows_key (rows_in text) ++ body_of text)
  unfolding nodes_in rows_in body_of
  text_stands =
      (line_stands nodes_key text said.first).1
      ∙ ap (λ (t : List ℕ). line nodes_key (line_value nodes_key text) ++ t)
      (line_stands rows_key (line_rest nodes_key text) said.second).1

  pub write_back : text ≡ text_of h.nodes (rows_read text lent)
  unfolding text_of
  write_back = text_stands ∙ rw (nodes_are, rows_said, again.1, ← again.0)

  pub rows_counted : h.rows ≡ length (rows_read text lent)
  rows_counted = ap (λ (g : Header). g.rows) said.head ∙ sym (ap length rows_said ∙ again.1)

  pub read_fits : TableFits h.nodes (rows_read text lent) lent
  unfolding nodes_in
  read_fits =
      record {
        nodes_fit = rw nodes_are (line_stands nodes_key text said.first).0;
        rows_fit =
            rw rows_said again.2;
        few = rw (rows_said, again.1) said.few;
        room =
            rw (rows_said, again.1) said.room;
      }

-- A text is read: there is a head that its reading gives.
pub record IsRead (text : List ℕ) (lent : ℕ) : Type 0 where
  pub head : Header
  pub so : reading_of text lent ≡ Ok head

-- A text is the text of a table that fits.
pub record IsText (text : List ℕ) (lent : ℕ) : Type 0 where
  pub nodes : ℕ
  pub rows : List Row
  pub fits : TableFits nodes rows lent
  pub so : text ≡ text_of nodes rows

pub read_iff_text : (text : List ℕ) (lent : ℕ) → IsRead text lent ↔ IsText text lent
read_iff_text text lent = (
  λ r. record {
    nodes = r.head.nodes;
    rows = rows_read text lent;
    fits = read_fits text lent r.head r.so;
    so =
        write_back text lent r.head r.so;
  },
  λ t. record {
    head = record { nodes = t.nodes; rows = length t.rows };
    so =
        ap (λ (b : List ℕ). reading_of b lent) t.so ∙ (read_back t.nodes t.rows lent t.fits).0;
  },
)

pub written_again : (text : List ℕ) (lent : ℕ) (h : Header) (area : List ℕ) → reading_of text lent ≡ Ok h
    → length text ≤ length area → area_after h.nodes (rows_read text lent) area ≡ text ++ drop (length text) area
unfolding area_after
written_again text lent h area e room =
    rw (
      ← write_back text lent h e,
      le-ltb 512 (length (rows_read text lent)) (read_fits text lent h e).few,
      le-ltb (length area) (length text) room,
    )

count_width : (k : ℕ) → k ≤ 512 → width k ≤ 3
unfolding width
count_width k h = go (ltb k 10) (ltb k 100)
  where
    go : (a b : Bool) → cond a 1 (cond b 2 (cond (ltb k 1000) 3 (cond (ltb k 10000) 4 5))) ≤ 3
    go true b = omega arith
    go false true = omega arith
    go false false = rw (lt-ltb k 1000 (omega arith)) (omega arith)

pub longest_text : (n : ℕ) (rows : List Row) → length rows ≤ 512 → length (text_of n rows) ≤ 20501
unfolding text_of
longest_text n rows few =
    simp length-append (omega (
      arith,
      line_most nodes_key n,
      line-length rows_key (length rows),
      count_width (length rows) few,
      rows_long rows,
    ))
