-- What follows of every outcome that fits the promise of `read` or of `write`.
--     one_reading, one_writing     two outcomes that fit a promise are equal
--     accepted_fills               an accepted reading fills just its rows, and leaves the rest
--     refused_leaves_rows          a refused reading leaves the list as it was
--     refused_leaves_area          a refused writing leaves the area as it was
--     written_with_room            at most 512 rows whose text the area can take are written
--     written_is_read              what `write` wrote, `read` reads back as the same nodes and rows
--     read_is_written              every text that `read` accepts is what `write` writes of it
--     accepted_iff_text            `read` accepts a text exactly if it is the text of a table that fits
-- Each is put together of the promises' equations and the laws of `RoundTrip.antt`.
-- Assumes nothing.
use mathlib.Core.Path.{◌≡◌, refl, ◌∙◌, ap, sym}
use mathlib.Core.Logic.{◌↔◌}
use Prim.Native.Nat.{ℕ, ◌≤◌}
use native.Mathlib.Omega.{arith}
use mathlib.Core.Bool.{Bool, true, false, cond}
use mathlib.Core.List.{List, [], ◌++◌}
use borrow.Author.Tests.{le-ltb, ltb-false}
use lib.Dec.{ltb}
use lib.ListN.{length, take, drop, length-append, length-drop}
use lib.Seq.{take_at, drop_at}
use Rattle.table.specs.declared.Row.{Row}
use Rattle.table.specs.declared.Refusal.{Refusal}
use Rattle.table.specs.Table.{refuse, most_rows}
use Rattle.text.specs.declared.Header.{Header}
use Rattle.std.specs.Prelude.{Ok, Err}
use Rattle.text.specs.Text.{greatest_value, text_of, RowsFit, body_of, rows_at, reading_of, rows_read, filled}
use Rattle.text.specs.Text.{Reading, Writing, writing_of, area_after, TextTaken, TextPut}
use Rattle.text.proofs.RoundTrip.{read_back, write_back, read_fits, rows_counted, written_again, IsText}
use Rattle.text.proofs.RoundTrip.{read_iff_text}

-- Two outcomes of `read` that fit its promise are equal: the answer, and every lent row.
pub one_reading : {text : List ℕ} {rows rows₁ rows₂ : List Row} {r₁ r₂ : Reading} → TextTaken text rows r₁ rows₁
    → TextTaken text rows r₂ rows₂ → (r₁ ≡ r₂) × (rows₁ ≡ rows₂)
one_reading a b = (a.answers ∙ sym b.answers, a.fills ∙ sym b.fills)

-- Two outcomes of `write` that fit its promise are equal: the answer, and every byte of the area.
pub one_writing : {n : ℕ} {rows : List Row} {area area₁ area₂ : List ℕ} {r₁ r₂ : Writing} → TextPut n rows area r₁ area₁
    → TextPut n rows area r₂ area₂ → (r₁ ≡ r₂) × (area₁ ≡ area₂)
one_writing a b = (a.answers ∙ sym b.answers, a.fills ∙ sym b.fills)

-- An accepted reading fills just its rows at the front of the list, and leaves the rest as it was.
pub accepted_fills : {text : List ℕ} {rows rows' : List Row} {h : Header} → TextTaken text rows (Ok h) rows'
    → (take h.rows rows' ≡ rows_read text (length rows)) × (drop h.rows rows' ≡ drop h.rows rows)
    × (length rows' ≡ length rows)
accepted_fills {text} {rows} {rows'} {h} t =
    let found = rows_read text (length rows) in
    let counted : h.rows ≡ length found = rows_counted text (length rows) h (sym t.answers) in
    let room : length found ≤ length rows = (read_fits text (length rows) h (sym t.answers)).room in (
      ap (take h.rows) t.fills ∙ take_at found (drop (length found) rows) h.rows (sym counted),
      ap (drop h.rows) t.fills ∙ drop_at found (drop (length found) rows) h.rows (sym counted)
          ∙ ap (λ (k : ℕ). drop k rows) (sym counted),
      ap length t.fills ∙ omega (
        arith,
        length-append found (drop (length found) rows),
        length-drop (length found) rows,
        room,
      ),
    )

-- A refused reading gives no rows.
pub none_read : (text : List ℕ) (lent : ℕ) (x : Refusal) → Err x ≡ reading_of text lent → rows_read text lent ≡ []
unfolding rows_read rows_at
none_read text lent x e = ap (λ (r : Reading). rows_at (filled r) (body_of text)) (sym e)

-- A refused reading leaves the list as it was.
pub refused_leaves_rows : {text : List ℕ} {rows rows' : List Row} {x : Refusal} → TextTaken text rows (Err x) rows'
    → rows' ≡ rows
refused_leaves_rows {text} {rows} {rows'} {x} t =
    t.fills ∙ ap (λ (found : List Row). found ++ drop (length found) rows)
    (none_read text (length rows) x t.answers)

-- What a written text says of its table.
record Wrote (n : ℕ) (rows : List Row) (room k : ℕ) : Type 0 where
  few : length rows ≤ most_rows
  enough : length (text_of n rows) ≤ room
  long : k ≡ length (text_of n rows)

wrote : (n : ℕ) (rows : List Row) (room k : ℕ) → writing_of n rows room ≡ Ok k → Wrote n rows room k
unfolding writing_of
wrote n rows room k e = go (ltb most_rows (length rows)) (ltb room (length (text_of n rows))) refl refl e
  where
    go : (a b : Bool) → ltb most_rows (length rows) ≡ a → ltb room (length (text_of n rows)) ≡ b
        → cond a (Err (refuse 2 0 0))
        (cond b (Err (refuse 22 0 0)) (Ok (length (text_of n rows)))) ≡ Ok k → Wrote n rows room k
    go true b p q e = absurd cc
    go false true p q e = absurd cc
    go false false p q e = record {
      few = ltb-false most_rows (length rows) p;
      enough =
          ltb-false room (length (text_of n rows)) q;
      long = cc;
    }

-- A refused writing leaves the area as it was.
pub refused_leaves_area : {n : ℕ} {rows : List Row} {area area' : List ℕ} {x : Refusal}
    → TextPut n rows area (Err x) area' → area' ≡ area
unfolding writing_of area_after
refused_leaves_area {n} {rows} {area} {area'} {x} p =
    p.fills ∙ go (ltb most_rows (length rows)) (ltb (length area) (length (text_of n rows))) p.answers
  where
    after : List ℕ
    after = text_of n rows ++ drop (length (text_of n rows)) area

    go : (a b : Bool) → Err x ≡ cond a (Err (refuse 2 0 0))
        (cond b (Err (refuse 22 0 0)) (Ok (length (text_of n rows))))
        → cond a area (cond b area after) ≡ area
    go true b e = refl
    go false true e = refl
    go false false e = absurd cc

module _ (n : ℕ) (rows : List Row) (area : List ℕ) (few : length rows ≤ most_rows)
    (enough : length (text_of n rows) ≤ length area) where
  writes : writing_of n rows (length area) ≡ Ok (length (text_of n rows))
  unfolding writing_of
  writes = rw (le-ltb most_rows (length rows) few, le-ltb (length area) (length (text_of n rows)) enough)

  leaves : area_after n rows area ≡ text_of n rows ++ drop (length (text_of n rows)) area
  unfolding area_after
  leaves = rw (le-ltb most_rows (length rows) few, le-ltb (length area) (length (text_of n rows)) enough)

-- At most 512 rows whose text the area can take are written: the answer is the text's length, and the area begins with
-- it.
pub written_with_room : {n : ℕ} {rows : List Row} {area area' : List ℕ} {r : Writing} → length rows ≤ most_rows
    → length (text_of n rows) ≤ length area → TextPut n rows area r area'
    → (r ≡ Ok (length (text_of n rows))) × (area' ≡ text_of n rows ++ drop (length (text_of n rows)) area)
written_with_room {n} {rows} {area} few enough p =
    (p.answers ∙ writes n rows area few enough, p.fills ∙ leaves n rows area few enough)

-- What `write` wrote, `read` reads back as the same nodes and rows, and leaves the rest of its list. Nodes and rows of
-- 16 bits are all that a caller can pass.
pub written_is_read : {n : ℕ} {rows : List Row} {area area' : List ℕ} {k : ℕ} {lent lent' : List Row} {r : Reading}
    → n ≤ greatest_value → RowsFit rows → length rows ≤ length lent → TextPut n rows area (Ok k) area'
    → TextTaken (take k area') lent r lent'
    → (r ≡ Ok (record { nodes = n; rows = length rows })) × (lent' ≡ rows ++ drop (length rows) lent)
written_is_read {n} {rows} {area} {area'} {k} {lent} {lent'} {r} nodes_fit rows_fit room p t =
    let w = wrote n rows (length area) k (sym p.answers) in
    let text = text_of n rows in
    let stands : take k area' ≡ text = ap (take k) (p.fills ∙ leaves n rows area w.few w.enough)
    ∙ take_at text (drop (length text) area) k (sym w.long) in
    let back = read_back n rows (length lent) (record {
      nodes_fit = nodes_fit;
      rows_fit = rows_fit;
      few = w.few;
      room =
          room;
    }) in (
      t.answers ∙ ap (λ (b : List ℕ). reading_of b (length lent)) stands ∙ back.0,
      t.fills ∙ ap (λ (b : List ℕ). rows_read b (length lent) ++ drop (length (rows_read b (length lent))) lent) stands
          ∙ ap (λ (xs : List Row). xs ++ drop (length xs) lent) back.1,
    )

-- Every text that `read` accepts is what `write` writes of the nodes and rows that were read, into an area that can
-- take it.
pub read_is_written : {text : List ℕ} {lent lent' : List Row} {h : Header} {area area' : List ℕ} {w : Writing}
    → length text ≤ length area → TextTaken text lent (Ok h) lent'
    → TextPut h.nodes (take h.rows lent') area w area'
    → (w ≡ Ok (length text)) × (area' ≡ text ++ drop (length text) area)
read_is_written {text} {lent} {lent'} {h} {area} {area'} {w} room t p =
    let e : reading_of text (length lent) ≡ Ok h = sym t.answers in
    let found = rows_read text (length lent) in
    let same : take h.rows lent' ≡ found = (accepted_fills t).0 in
    let stands : text ≡ text_of h.nodes found = write_back text (length lent) h e in
    let enough : length (text_of h.nodes found) ≤ length area = omega (arith, ap length stands, room) in (
      p.answers ∙ ap (λ (xs : List Row). writing_of h.nodes xs (length area)) same
          ∙ writes h.nodes found area (read_fits text (length lent) h e).few enough
          ∙ ap (λ (b : List ℕ). Ok (length b)) (sym stands),
      p.fills ∙ ap (λ (xs : List Row). area_after h.nodes xs area) same
          ∙ written_again text (length lent) h area e room,
    )

-- An answer of `read` that accepts.
pub record Accepts (r : Reading) : Type 0 where
  pub head : Header
  pub so : r ≡ Ok head

-- `read` accepts a text exactly if it is the text of a table that fits.
pub accepted_iff_text : {text : List ℕ} {rows rows' : List Row} {r : Reading} → TextTaken text rows r rows'
    → Accepts r ↔ IsText text (length rows)
accepted_iff_text {text} {rows} {rows'} {r} t = (
  λ a. (read_iff_text text (length rows)).0 (record { head = a.head; so = sym t.answers ∙ a.so }),
  λ i. let is = (read_iff_text text (length rows)).1 i in record { head = is.head; so = t.answers ∙ is.so },
)
