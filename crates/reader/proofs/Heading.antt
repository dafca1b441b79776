-- The first two lines, and what follows directly after them, as `parse` goes on.
-- Assumes nothing.
use mathlib.Core.Path.{◌≡◌, ◌∙◌, sym}
use mathlib.Core.Bool.{false}
use mathlib.Core.List.{List, ◌++◌}
use Prim.Native.Nat.{ℕ, ◌≤◌, ◌<◌}
use borrow.Author.Tests.{lt-ltb, le-ltb, ne_eqb}
use lib.ListN.{length, drop}
use Rattle.std.proofs.Common.{Ok, Err}
use Rattle.table.specs.Table.{refuse}
use Rattle.table.specs.declared.Row.{Row}
use native.Mathlib.Omega.{arith}
use Rattle.text.specs.Text.{line_feed, nodes_key, rows_key, line_good, nodes_in, rows_in, body_of, reading_of_rows}
use Rattle.text.specs.Text.{reading_of_body, reading_of, rows_read, rows_at, wrong_line, rows_keys}
use Rattle.lines.specs.declared.Item.{Item}
use Rattle.lines.proofs.Seen.{Seen}
use Rattle.reader.proofs.Loading.{rows_at_length}

module _ (text : List ℕ) (lent : ℕ) where
  pub first_wrong : line_good nodes_key text ≡ false → reading_of text lent ≡ Err (refuse 20 1 0)
  unfolding reading_of
  first_wrong e = rw e

  module _ {nodes : Item} (one : Seen nodes_key line_feed text nodes) {second : List ℕ}
      (here : second ≡ drop nodes.length text) where
    pub second_wrong : line_good rows_key second ≡ false → reading_of text lent ≡ Err (refuse 20 2 0)
    unfolding reading_of
    second_wrong e = rw (one.good, ← one.rest, ← here, e)

    module _ {rows : Item} (two : Seen rows_key line_feed second rows) {body : List ℕ}
        (there : body ≡ drop rows.length second) where
      nodes_is : nodes_in text ≡ nodes.value
      unfolding nodes_in
      nodes_is = sym one.value

      rows_is : rows_in text ≡ rows.value
      unfolding rows_in
      rows_is = rw (← one.rest, ← here, ← two.value)

      body_is : body_of text ≡ body
      unfolding body_of
      body_is = rw (← one.rest, ← here, ← two.rest, ← there)

      headed : reading_of text lent ≡ reading_of_body nodes.value rows.value lent body
      unfolding reading_of
      headed = rw (one.good, ← one.rest, ← here, two.good, nodes_is, rows_is, body_is)

      pub too_many : 512 < rows.value → reading_of text lent ≡ Err (refuse 2 0 0)
      unfolding reading_of_body
      too_many h = headed ∙ rw (lt-ltb 512 rows.value h)

      module _ (few : rows.value ≤ 512) where
        pub too_short : lent < rows.value → reading_of text lent ≡ Err (refuse 21 0 0)
        unfolding reading_of_body
        too_short h = headed ∙ rw (le-ltb 512 rows.value few, lt-ltb lent rows.value h)

        module _ (room : rows.value ≤ lent) where
          bodied : reading_of text lent ≡ reading_of_rows nodes.value rows.value body
          unfolding reading_of_body
          bodied = headed ∙ rw (le-ltb 512 rows.value few, le-ltb lent rows.value room)

          pub line_wrong : (line : ℕ) → (line ≡ wrong_line (rows_keys rows.value) body 3) × 1 ≤ line
              → reading_of text lent ≡ Err (refuse 20 line 0)
          unfolding reading_of_rows
          line_wrong line e = bodied ∙ rw (← e.0, ne_eqb line 0 (λ z. omega arith))

          pub all_read : (before : List Row) {places : List Row} → (wrong_line (rows_keys rows.value) body 3 ≡ 0)
              × (places ≡ rows_at rows.value body ++ drop rows.value before)
              → (reading_of text lent ≡ Ok (record { nodes = nodes.value; rows = rows.value }))
              × (places ≡ rows_read text lent ++ drop (length (rows_read text lent)) before)
          unfolding reading_of_rows rows_read
          all_read before e =
              let so : reading_of text lent ≡ Ok (record { nodes = nodes.value; rows = rows.value }) =
              bodied ∙ rw e.0 in
              let read : rows_read text lent ≡ rows_at rows.value body = rw (so, body_is) in
              (so, e.1 ∙ rw (read, rows_at_length rows.value body))
