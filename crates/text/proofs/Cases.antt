-- The definitions at work: case B of document 01, and texts with one thing wrong each.
-- Assumes nothing.
use mathlib.Core.Path.{◌≡◌, refl}
use mathlib.Core.List.{List, [], ◌∷◌, map, ◌++◌}
use Prim.Native.Nat.{ℕ}
use lib.ListN.{replicate}
use Rattle.table.specs.Table.{refuse}
use Rattle.table.specs.declared.Row.{Row}
use Rattle.std.specs.Prelude.{Ok, Err}
use Rattle.text.specs.Text.{width, last_digits, numeral, line, row_keys, lines_text, row_text, rows_text, text_of}
use Rattle.text.specs.Text.{starts, digits_at, extended, item_value, item_good, item_rest, values_at, behind_lines}
use Rattle.text.specs.Text.{wrong_line, rows_keys, row_at, rows_at, nodes_in, rows_in, body_of, reading_of_rows}
use Rattle.text.specs.Text.{reading_of_body, reading_of, rows_read, writing_of, area_after}

-- The rows of case B, and its text as document 01 prints it, with a length of 1 in each row.
abbrev pub case_b : List Row
case_b = record { src = 0; dst = 1; len = 1; due = 2 } ∷ record { src = 0; dst = 3; len = 1; due = 3 } ∷ []

abbrev pub case_b_text : List ℕ
case_b_text =
    110 ∷ 111 ∷ 100 ∷ 101 ∷ 115 ∷ 61 ∷ 52 ∷ 10 ∷
    114 ∷ 111 ∷ 119 ∷ 115 ∷ 61 ∷ 50 ∷ 10 ∷
    115 ∷ 114 ∷ 99 ∷ 61 ∷ 48 ∷ 10 ∷
    100 ∷ 115 ∷ 116 ∷ 61 ∷ 49 ∷ 10 ∷
    108 ∷ 101 ∷ 110 ∷ 61 ∷ 49 ∷ 10 ∷
    100 ∷ 117 ∷ 101 ∷ 61 ∷ 50 ∷ 10 ∷
    115 ∷ 114 ∷ 99 ∷ 61 ∷ 48 ∷ 10 ∷
    100 ∷ 115 ∷ 116 ∷ 61 ∷ 51 ∷ 10 ∷
    108 ∷ 101 ∷ 110 ∷ 61 ∷ 49 ∷ 10 ∷
    100 ∷ 117 ∷ 101 ∷ 61 ∷ 51 ∷ 10 ∷ []

pub case_b_written : text_of 4 case_b ≡ case_b_text
unfolding width last_digits numeral line row_keys lines_text row_text rows_text text_of
case_b_written = refl

pub case_b_read : reading_of case_b_text 2 ≡ Ok (record { nodes = 4; rows = 2 })
unfolding width last_digits numeral line starts digits_at extended item_value item_good item_rest row_keys values_at
    behind_lines wrong_line rows_keys row_at rows_at nodes_in rows_in body_of reading_of_rows reading_of_body reading_of
case_b_read = refl

pub case_b_rows : rows_read case_b_text 2 ≡ case_b
unfolding width last_digits numeral line starts digits_at extended item_value item_good item_rest row_keys values_at
    behind_lines wrong_line rows_keys row_at rows_at nodes_in rows_in body_of reading_of_rows reading_of_body reading_of rows_read
case_b_rows = refl

-- Its text has 63 bytes: an area of 62 is too short, one of 63 will do, and of one of 65 two bytes are left alone.
pub case_b_too_long : writing_of 4 case_b 62 ≡ Err (refuse 22 0 0)
unfolding width last_digits numeral line row_keys lines_text row_text rows_text text_of writing_of
case_b_too_long = refl

pub case_b_fits : writing_of 4 case_b 63 ≡ Ok 63
unfolding width last_digits numeral line row_keys lines_text row_text rows_text text_of writing_of
case_b_fits = refl

pub case_b_in_area : area_after 4 case_b (replicate {A = ℕ} 65 7) ≡ case_b_text ++ (7 ∷ 7 ∷ [])
unfolding width last_digits numeral line row_keys lines_text row_text rows_text text_of area_after
case_b_in_area = refl

-- A text of no rows has no lengths to miss.
pub no_rows_read : reading_of (110 ∷ 111 ∷ 100 ∷ 101 ∷ 115 ∷ 61 ∷ 52 ∷ 10 ∷ 114 ∷ 111 ∷ 119 ∷ 115 ∷ 61 ∷ 48 ∷ 10 ∷ []) 2
    ≡ Ok (record { nodes = 4; rows = 0 })
unfolding width last_digits numeral line starts digits_at extended item_value item_good item_rest row_keys values_at
    behind_lines wrong_line rows_keys row_at rows_at nodes_in rows_in body_of reading_of_rows reading_of_body reading_of
no_rows_read = refl

-- A table of 513 rows is not written, however long the area is.
pub too_many_rows : writing_of 4 (replicate {A = Row} 513 (record { src = 0; dst = 1; len = 1; due = 2 })) 30000
    ≡ Err (refuse 2 0 0)
unfolding width last_digits numeral line row_keys lines_text row_text rows_text text_of writing_of
too_many_rows = refl

-- The head of a text of one row, right lines of that row, and a due slot of six digits.
abbrev one_row : List ℕ
one_row = 110 ∷ 111 ∷ 100 ∷ 101 ∷ 115 ∷ 61 ∷ 52 ∷ 10 ∷ 114 ∷ 111 ∷ 119 ∷ 115 ∷ 61 ∷ 49 ∷ 10 ∷ []

abbrev src_line : List ℕ
src_line = 115 ∷ 114 ∷ 99 ∷ 61 ∷ 48 ∷ 10 ∷ []

abbrev dst_line : List ℕ
dst_line = 100 ∷ 115 ∷ 116 ∷ 61 ∷ 49 ∷ 10 ∷ []

abbrev len_line : List ℕ
len_line = 108 ∷ 101 ∷ 110 ∷ 61 ∷ 49 ∷ 10 ∷ []

abbrev due_line : List ℕ
due_line = 100 ∷ 117 ∷ 101 ∷ 61 ∷ 50 ∷ 10 ∷ []

abbrev six_digits : List ℕ
six_digits = 100 ∷ 117 ∷ 101 ∷ 61 ∷ 49 ∷ 50 ∷ 51 ∷ 52 ∷ 53 ∷ 54 ∷ 10 ∷ []

-- A text, and the refusal that it gets where 2 records are lent.
pub record Wrong : Type 0 where
  pub text : List ℕ
  pub number : ℕ
  pub place : ℕ

-- One case a line.
abbrev pub wrong_texts : List Wrong
wrong_texts =
    -- the empty text
    record { text = []; number = 20; place = 1 } ∷
    -- one above the greatest value
    record {
      text =
          110 ∷ 111 ∷ 100 ∷ 101 ∷ 115 ∷ 61 ∷ 54 ∷ 53 ∷ 53 ∷ 51 ∷ 54 ∷ 10 ∷ 114 ∷ 111 ∷ 119 ∷ 115 ∷ 61 ∷ 48 ∷ 10 ∷ [];
      number = 20;
      place = 1;
    } ∷
    -- two zeros
    record {
      text = 110 ∷ 111 ∷ 100 ∷ 101 ∷ 115 ∷ 61 ∷ 48 ∷ 48 ∷ 10 ∷ 114 ∷ 111 ∷ 119 ∷ 115 ∷ 61 ∷ 48 ∷ 10 ∷ [];
      number = 20;
      place = 1;
    } ∷
    -- a leading zero
    record {
      text = 110 ∷ 111 ∷ 100 ∷ 101 ∷ 115 ∷ 61 ∷ 48 ∷ 49 ∷ 10 ∷ 114 ∷ 111 ∷ 119 ∷ 115 ∷ 61 ∷ 48 ∷ 10 ∷ [];
      number = 20;
      place = 1;
    } ∷
    -- no digit
    record {
      text = 110 ∷ 111 ∷ 100 ∷ 101 ∷ 115 ∷ 61 ∷ 10 ∷ 114 ∷ 111 ∷ 119 ∷ 115 ∷ 61 ∷ 48 ∷ 10 ∷ [];
      number =
          20;
      place = 1;
    } ∷
    -- a carriage return
    record {
      text = 110 ∷ 111 ∷ 100 ∷ 101 ∷ 115 ∷ 61 ∷ 52 ∷ 13 ∷ 10 ∷ 114 ∷ 111 ∷ 119 ∷ 115 ∷ 61 ∷ 48 ∷ 10 ∷ [];
      number = 20;
      place = 1;
    } ∷
    -- a sign
    record {
      text = 110 ∷ 111 ∷ 100 ∷ 101 ∷ 115 ∷ 61 ∷ 43 ∷ 52 ∷ 10 ∷ 114 ∷ 111 ∷ 119 ∷ 115 ∷ 61 ∷ 48 ∷ 10 ∷ [];
      number = 20;
      place = 1;
    } ∷
    -- no line feed
    record { text = 110 ∷ 111 ∷ 100 ∷ 101 ∷ 115 ∷ 61 ∷ 52 ∷ []; number = 20; place = 1 } ∷
    -- line 2 missing
    record { text = 110 ∷ 111 ∷ 100 ∷ 101 ∷ 115 ∷ 61 ∷ 52 ∷ 10 ∷ []; number = 20; place = 2 } ∷
    -- a leading zero in line 2
    record {
      text =
          110 ∷ 111 ∷ 100 ∷ 101 ∷ 115 ∷ 61 ∷ 52 ∷ 10 ∷ 114 ∷ 111 ∷ 119 ∷ 115 ∷ 61 ∷ 48 ∷ 53 ∷ 49 ∷ 51 ∷ 10 ∷ [];
      number =
          20;
      place = 2;
    } ∷
    -- one above the greatest value in line 2
    record {
      text =
          110 ∷ 111 ∷ 100 ∷ 101 ∷ 115 ∷ 61 ∷ 52 ∷ 10 ∷ 114 ∷ 111 ∷ 119 ∷ 115 ∷ 61 ∷ 54 ∷ 53 ∷ 53 ∷ 51 ∷ 54 ∷ 10 ∷ [];
      number = 20;
      place = 2;
    } ∷
    -- line 2 without its line feed
    record {
      text = 110 ∷ 111 ∷ 100 ∷ 101 ∷ 115 ∷ 61 ∷ 52 ∷ 10 ∷ 114 ∷ 111 ∷ 119 ∷ 115 ∷ 61 ∷ 53 ∷ 49 ∷ 51 ∷ [];
      number = 20;
      place = 2;
    } ∷
    -- too many rows
    record {
      text =
          110 ∷ 111 ∷ 100 ∷ 101 ∷ 115 ∷ 61 ∷ 51 ∷ 51 ∷ 10 ∷ 114 ∷ 111 ∷ 119 ∷ 115 ∷ 61 ∷ 53 ∷ 49 ∷ 51 ∷ 10 ∷ [];
      number =
          2;
      place = 0;
    } ∷
    -- more rows than records lent
    record {
      text =
          110 ∷ 111 ∷ 100 ∷ 101 ∷ 115 ∷ 61 ∷ 51 ∷ 51 ∷ 10 ∷ 114 ∷ 111 ∷ 119 ∷ 115 ∷ 61 ∷ 53 ∷ 49 ∷ 50 ∷ 10 ∷ [];
      number =
          21;
      place = 0;
    } ∷
    -- a row without its length, as rows were written before they had one
    record {
      text =
          one_row ++ (src_line ++ (dst_line ++ due_line));
      number = 20;
      place = 5;
    } ∷
    -- the last line feed missing
    record {
      text =
          one_row ++ (src_line ++ (dst_line ++ (len_line ++ (100 ∷ 117 ∷ 101 ∷ 61 ∷ 50 ∷ []))));
      number = 20;
      place = 6;
    } ∷
    -- the last line missing
    record {
      text =
          one_row ++ (src_line ++ (dst_line ++ len_line));
      number = 20;
      place = 6;
    } ∷
    -- two lines in the wrong order
    record {
      text =
          one_row ++ (src_line ++ (due_line ++ (len_line ++ dst_line)));
      number = 20;
      place = 4;
    } ∷
    -- no number
    record {
      text =
          one_row ++ ((115 ∷ 114 ∷ 99 ∷ 61 ∷ 120 ∷ 10 ∷ []) ++ (dst_line ++ (len_line ++ due_line)));
      number = 20;
      place = 3;
    } ∷
    -- one byte behind the last line
    record {
      text =
          one_row ++ (src_line ++ (dst_line ++ (len_line ++ (due_line ++ (10 ∷ [])))));
      number = 20;
      place = 7;
    } ∷
    -- a byte behind an empty table
    record {
      text = 110 ∷ 111 ∷ 100 ∷ 101 ∷ 115 ∷ 61 ∷ 52 ∷ 10 ∷ 114 ∷ 111 ∷ 119 ∷ 115 ∷ 61 ∷ 48 ∷ 10 ∷ 0 ∷ [];
      number =
          20;
      place = 3;
    } ∷
    -- six digits
    record {
      text =
          one_row ++ (src_line ++ (dst_line ++ (len_line ++ six_digits)));
      number = 20;
      place = 6;
    } ∷
    []

pub wrong_texts_refused : map (λ (w : Wrong). reading_of w.text 2) wrong_texts ≡ map
    (λ (w : Wrong). Err (refuse w.number w.place 0)) wrong_texts
unfolding width last_digits numeral line starts digits_at extended item_value item_good item_rest row_keys values_at
    behind_lines wrong_line rows_keys row_at rows_at nodes_in rows_in body_of reading_of_rows reading_of_body reading_of
wrong_texts_refused = refl
