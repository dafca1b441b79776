-- What stands behind enough bytes changes no reading.
--     enough                    more bytes than the lines of a text of at most 512 rows can take
--     rest_changes_nothing      a text of so many bytes reads alike, whatever follows it
--     rest_reads_nothing        and gives the same rows, which are none
-- An item is judged by its key and six bytes: the right lines before a wrong one take no more than theirs, and enough
-- is left for it.
-- Assumes nothing.
use mathlib.Core.Path.{◌≡◌, refl, ◌∙◌, ap, sym}
use mathlib.Core.Bool.{Bool, true, false, cond, ◌&&◌}
use mathlib.Core.List.{List, [], ◌∷◌, ◌++◌}
use Prim.Native.Nat.{ℕ, zero, suc, ◌+◌, ◌*◌, ◌≤◌, ◌<◌}
use native.Mathlib.Nat.{not-suc-le-zero, le_of_suc-le-suc}
use native.Mathlib.Omega.{arith}
use borrow.Author.Tests.{ltb-false, ne_eqb}
use lib.Dec.{eqb, ltb}
use lib.ListN.{length, drop, length-append, length-drop}
use lib.Seq.{drop-append-le}
use Rattle.table.specs.Table.{most_rows}
use Rattle.std.specs.Prelude.{Ok, Err}
use Rattle.text.specs.Text.{line_feed, nodes_key, rows_key, row_keys, item, starts, is_digit, digits_at, item_value}
use Rattle.text.specs.Text.{item_good, item_rest, line_rest, wrong_line, rows_keys, nodes_in, rows_in, body_of}
use Rattle.text.specs.Text.{Reading, reading_of_rows, reading_of_body, reading_of, rows_read}
use Rattle.text.proofs.Lengths.{item_most, bytes_of, row_bytes}
use Rattle.text.proofs.FirstWrong.{keys_of}
use Rattle.text.proofs.RoundTrip.{write_back, read_fits, longest_text}
use Rattle.text.proofs.Promises.{none_read}

starts_rest : (front text more : List ℕ) → length front ≤ length text → starts front (text ++ more) ≡ starts front text
unfolding starts
starts_rest [] text more h = refl
starts_rest (b ∷ bs) [] more h = absurd (not-suc-le-zero h)
starts_rest (b ∷ bs) (x ∷ xs) more h = ap (λ (t : Bool). eqb b x && t) (starts_rest bs xs more (le_of_suc-le-suc h))

digits_rest : (k : ℕ) (text more : List ℕ) → k ≤ length text → digits_at k (text ++ more) ≡ digits_at k text
unfolding digits_at
digits_rest zero text more h = refl
digits_rest (suc k) [] more h = absurd (not-suc-le-zero h)
digits_rest (suc k) (b ∷ bs) more h =
    ap (λ (ds : List ℕ). cond (is_digit b) (b ∷ ds) []) (digits_rest k bs more (le_of_suc-le-suc h))

-- An item of a text that has its key and six bytes.
module _ (key : List ℕ) (mark : ℕ) (text more : List ℕ) (long : length key + 6 ≤ length text) where
  pub value_rest : item_value key (text ++ more) ≡ item_value key text
  unfolding item_value
  value_rest =
      let behind : drop (length key) (text ++ more) ≡ drop (length key) text ++ more =
      drop-append-le (length key) text more (omega arith) in
      rw (behind, digits_rest 5 (drop (length key) text) more (omega (arith, length-drop (length key) text)))

  here_fits : length (item key (item_value key text) mark) ≤ length text
  here_fits = omega (arith, item_most key (item_value key text) mark)

  pub good_rest : item_good key mark (text ++ more) ≡ item_good key mark text
  unfolding item_good
  good_rest = rw (value_rest, starts_rest (item key (item_value key text) mark) text more here_fits)

  pub rest_rest : item_rest key mark (text ++ more) ≡ item_rest key mark text ++ more
  unfolding item_rest
  rest_rest = rw value_rest (drop-append-le (length (item key (item_value key text) mark)) text more here_fits)

-- At most that much is taken off a text.
rest_long : (key : List ℕ) (mark : ℕ) (text : List ℕ) → length text ≤ length key + 6 + length (item_rest key mark text)
unfolding item_rest
rest_long key mark text =
    let here = item key (item_value key text) mark in
    omega (arith, item_most key (item_value key text) mark, length-drop (length here) text)

-- The lines of some keys, where a byte more than theirs is there.
wrong_rest : (keys : List (List ℕ)) (text more : List ℕ) (l : ℕ) → bytes_of keys < length text
    → wrong_line keys (text ++ more) l ≡ wrong_line keys text l
unfolding wrong_line bytes_of
wrong_rest [] text more l h =
    rw (
      ne_eqb (length (text ++ more)) 0 (λ e. omega (arith, length-append text more)),
      ne_eqb (length text) 0 (λ e. omega arith),
    )
wrong_rest (k ∷ ks) text more l h =
    let on = wrong_rest ks (line_rest k text) more (suc l) (omega (arith, rest_long k line_feed text)) in
    rw (good_rest k line_feed text more (omega arith), rest_rest k line_feed text more (omega arith), on)

bytes_join : (xs ys : List (List ℕ)) → bytes_of (xs ++ ys) ≡ bytes_of xs + bytes_of ys
unfolding bytes_of
bytes_join [] ys = omega arith
bytes_join (x ∷ xs) ys = omega (arith, bytes_join xs ys)

rows_bytes : (n : ℕ) → bytes_of (rows_keys n) ≡ row_bytes * n
unfolding rows_keys bytes_of row_keys
rows_bytes zero = refl
rows_bytes (suc n) = bytes_join row_keys (rows_keys n) ∙ omega (arith, rows_bytes n)

-- More bytes than the lines of a text of at most 512 rows can take.
unfoldable pub enough : ℕ
enough = suc (bytes_of (keys_of most_rows))

pub enough_is : enough ≡ 20504
unfolding enough bytes_of
enough_is = omega (arith, rows_bytes most_rows)

module _ (text more : List ℕ) (lent : ℕ) (long : enough ≤ length text) where
  abbrev second : List ℕ
  second = line_rest nodes_key text

  abbrev body : List ℕ
  body = line_rest rows_key second

  long_second : length text ≤ 12 + length second
  long_second = rest_long nodes_key line_feed text

  long_body : length text ≤ 23 + length body
  long_body = omega (arith, long_second, rest_long rows_key line_feed second)

  rows_rest : (n k : ℕ) → reading_of_body n k lent (body ++ more) ≡ reading_of_body n k lent body
  unfolding reading_of_body reading_of_rows
  rows_rest n k = go (ltb most_rows k) refl
    where
      go : (b : Bool) → ltb most_rows k ≡ b → reading_of_body n k lent (body ++ more) ≡ reading_of_body n k lent body
      go true e = rw e
      go false e =
          let few : k ≤ most_rows = ltb-false most_rows k e in
          rw (wrong_rest (rows_keys k) body more 3 (omega (arith, rows_bytes k, enough_is, long_body)))

  pub rest_changes_nothing : reading_of (text ++ more) lent ≡ reading_of text lent
  unfolding reading_of nodes_in rows_in body_of
  rest_changes_nothing =
      let one : length nodes_key + 6 ≤ length text = omega (arith, enough_is) in
      let two : length rows_key + 6 ≤ length second = omega (arith, enough_is, long_second) in
      let first_Good = good_rest nodes_key line_feed text more one in
      let first-value = value_rest nodes_key line_feed text more one in
      let first_rest = rest_rest nodes_key line_feed text more one in
      let second-good = good_rest rows_key line_feed second more two in
      let second-value = value_rest rows_key line_feed second more two in
      let second-rest = rest_rest rows_key line_feed second more two in
      let below = rows_rest (item_value nodes_key text) (item_value rows_key second) in
      rw (first_Good, first-value, first_rest, second-good, second-value, second-rest, below)

  pub rest_reads_nothing : rows_read (text ++ more) lent ≡ rows_read text lent
  rest_reads_nothing = go (reading_of text lent) refl
    where
      go : (r : Reading) → reading_of text lent ≡ r → rows_read (text ++ more) lent ≡ rows_read text lent
      go (Ok h) e =
          let most = longest_text h.nodes (rows_read text lent) (read_fits text lent h e).few in
          absurd (omega (arith, most, ap length (write_back text lent h e), enough_is))
      go (Err x) e =
          none_read (text ++ more) lent x (sym (rest_changes_nothing ∙ e)) ∙ sym (none_read text lent x (sym e))
