-- The definitions at work: case B of document 01 as input, and its output byte by byte; a row of two cells; and a text
-- and a table that are refused.
-- Assumes nothing.
use mathlib.Core.Path.{◌≡◌, refl}
use mathlib.Core.List.{List, [], ◌∷◌, map}
use Prim.Native.Nat.{ℕ}
use lib.Ieee.{div, of_int}
use Rattle.lists.specs.Lists.{total, largest}
use Rattle.ring.specs.Ring.{distance, standing}
use Rattle.table.specs.Table.{row_refusal, after_row, judge_rows, cells_in, after_rows, judge_all, judge, destinations, lengths, dues}
use Rattle.table.specs.Table.{distances, sends_of, last_due}
use Rattle.slack.specs.Slack.{under_way, place, slack_of, slack, is_late, late_from, late_row, better, pick, slot_of, moved}
use Rattle.slack.specs.Slack.{state_at, plan_of, delivered_from, arrivals_of, any_under_way, stop_from, stop_of}
use Rattle.cells.specs.Rows.{per_cell, owners_of, owners, laid_out, cell_links}
use Rattle.cells.specs.Cells.{dues_of, cell_dues, cell_traffic, owner_of, told_by, row_plan, end_by, row_stop}
use Rattle.cells.specs.Cells.{of_last_cells, row_arrivals}
use Rattle.planner.specs.Planner.{ending, the_plan, the_arrivals, quotient, summary_of, the_summary, answer_to_rows}
use Rattle.planner.specs.Planner.{after_verdict, the_answer}
use Rattle.text.specs.Text.{width, last_digits, numeral, line, row_keys, starts, digits_at, extended, item_value, item_good}
use Rattle.text.specs.Text.{item_rest, values_at, behind_lines, wrong_line, rows_keys, row_at, rows_at, nodes_in, rows_in}
use Rattle.text.specs.Text.{body_of, reading_of_rows, reading_of_body, reading_of, rows_read}
use Rattle.text.proofs.Cases.{case_b_text}
use Rattle.report.specs.Report.{verdict_lines, arrive_lines, mark_before, parted, send_line, send_lines, accepted_text}
use Rattle.report.specs.Report.{answer_text, table_text, reading_text, output_of}

-- What document 01 prints for case B, a line of it in each line here.
abbrev pub case_b_output : List ℕ
case_b_output =
    97 ∷ 110 ∷ 115 ∷ 119 ∷ 101 ∷ 114 ∷ 61 ∷ 48 ∷ 10 ∷
    114 ∷ 111 ∷ 119 ∷ 61 ∷ 48 ∷ 10 ∷
    115 ∷ 108 ∷ 111 ∷ 116 ∷ 61 ∷ 48 ∷ 10 ∷
    108 ∷ 97 ∷ 115 ∷ 116 ∷ 61 ∷ 51 ∷ 10 ∷
    97 ∷ 114 ∷ 114 ∷ 105 ∷ 118 ∷ 101 ∷ 61 ∷ 50 ∷ 10 ∷
    97 ∷ 114 ∷ 114 ∷ 105 ∷ 118 ∷ 101 ∷ 61 ∷ 51 ∷ 10 ∷
    115 ∷ 101 ∷ 110 ∷ 100 ∷ 61 ∷ 50 ∷ 44 ∷ 48 ∷ 44 ∷ 48 ∷ 44 ∷ 48 ∷ 10 ∷
    115 ∷ 101 ∷ 110 ∷ 100 ∷ 61 ∷ 49 ∷ 44 ∷ 50 ∷ 44 ∷ 48 ∷ 44 ∷ 48 ∷ 10 ∷
    115 ∷ 101 ∷ 110 ∷ 100 ∷ 61 ∷ 48 ∷ 44 ∷ 48 ∷ 44 ∷ 50 ∷ 44 ∷ 48 ∷ 10 ∷ []

-- A row of two cells, one behind the other: nodes=4, rows=1, src=0, dst=2, len=2, due=3; and what is printed for it, a
-- line in each line here: both cells are named by their row, and it arrives with the second.
abbrev pub two_cells_text : List ℕ
two_cells_text =
    110 ∷ 111 ∷ 100 ∷ 101 ∷ 115 ∷ 61 ∷ 52 ∷ 10 ∷
    114 ∷ 111 ∷ 119 ∷ 115 ∷ 61 ∷ 49 ∷ 10 ∷
    115 ∷ 114 ∷ 99 ∷ 61 ∷ 48 ∷ 10 ∷
    100 ∷ 115 ∷ 116 ∷ 61 ∷ 50 ∷ 10 ∷
    108 ∷ 101 ∷ 110 ∷ 61 ∷ 50 ∷ 10 ∷
    100 ∷ 117 ∷ 101 ∷ 61 ∷ 51 ∷ 10 ∷ []

abbrev pub two_cells_output : List ℕ
two_cells_output =
    97 ∷ 110 ∷ 115 ∷ 119 ∷ 101 ∷ 114 ∷ 61 ∷ 48 ∷ 10 ∷
    114 ∷ 111 ∷ 119 ∷ 61 ∷ 48 ∷ 10 ∷
    115 ∷ 108 ∷ 111 ∷ 116 ∷ 61 ∷ 48 ∷ 10 ∷
    108 ∷ 97 ∷ 115 ∷ 116 ∷ 61 ∷ 51 ∷ 10 ∷
    97 ∷ 114 ∷ 114 ∷ 105 ∷ 118 ∷ 101 ∷ 61 ∷ 51 ∷ 10 ∷
    115 ∷ 101 ∷ 110 ∷ 100 ∷ 61 ∷ 49 ∷ 44 ∷ 48 ∷ 44 ∷ 48 ∷ 44 ∷ 48 ∷ 10 ∷
    115 ∷ 101 ∷ 110 ∷ 100 ∷ 61 ∷ 49 ∷ 44 ∷ 49 ∷ 44 ∷ 48 ∷ 44 ∷ 48 ∷ 10 ∷
    115 ∷ 101 ∷ 110 ∷ 100 ∷ 61 ∷ 48 ∷ 44 ∷ 49 ∷ 44 ∷ 48 ∷ 44 ∷ 48 ∷ 10 ∷ []

-- Case E, with a row that is late at once: nodes=4, rows=1, src=0, dst=2, len=1, due=1.
abbrev pub case_e_text : List ℕ
case_e_text =
    110 ∷ 111 ∷ 100 ∷ 101 ∷ 115 ∷ 61 ∷ 52 ∷ 10 ∷
    114 ∷ 111 ∷ 119 ∷ 115 ∷ 61 ∷ 49 ∷ 10 ∷
    115 ∷ 114 ∷ 99 ∷ 61 ∷ 48 ∷ 10 ∷
    100 ∷ 115 ∷ 116 ∷ 61 ∷ 50 ∷ 10 ∷
    108 ∷ 101 ∷ 110 ∷ 61 ∷ 49 ∷ 10 ∷
    100 ∷ 117 ∷ 101 ∷ 61 ∷ 49 ∷ 10 ∷ []

-- A text whose line 2 is missing: nodes=4.
abbrev pub short_text : List ℕ
short_text = 110 ∷ 111 ∷ 100 ∷ 101 ∷ 115 ∷ 61 ∷ 52 ∷ 10 ∷ []

-- An empty table: nodes=4, rows=0.
abbrev pub empty_table : List ℕ
empty_table = 110 ∷ 111 ∷ 100 ∷ 101 ∷ 115 ∷ 61 ∷ 52 ∷ 10 ∷ 114 ∷ 111 ∷ 119 ∷ 115 ∷ 61 ∷ 48 ∷ 10 ∷ []

-- Texts, and what is printed for each: an answer line, a row line and a slot line, and last for the empty table.
pub record Case : Type 0 where
  pub text : List ℕ
  pub output : List ℕ

abbrev pub cases : List Case
cases =
    record { text = case_b_text; output = case_b_output } ∷
    record { text = two_cells_text; output = two_cells_output } ∷
    -- answer=9, row=1, slot=0
    record {
      text = case_e_text;
      output =
          97 ∷ 110 ∷ 115 ∷ 119 ∷ 101 ∷ 114 ∷ 61 ∷ 57 ∷ 10 ∷ 114 ∷ 111 ∷ 119 ∷ 61 ∷ 49 ∷ 10 ∷ 115 ∷ 108 ∷ 111 ∷ 116 ∷ 61 ∷ 48 ∷ 10 ∷ [];
    } ∷
    -- answer=20, row=2, slot=0
    record {
      text = short_text;
      output =
          97 ∷ 110 ∷ 115 ∷ 119 ∷ 101 ∷ 114 ∷ 61 ∷ 50 ∷ 48 ∷ 10 ∷ 114 ∷ 111 ∷ 119 ∷ 61 ∷ 50 ∷ 10 ∷ 115 ∷ 108 ∷ 111 ∷ 116 ∷ 61 ∷ 48 ∷ 10 ∷ [];
    } ∷
    -- answer=0, row=0, slot=0, last=0
    record {
      text = empty_table;
      output =
          97 ∷ 110 ∷ 115 ∷ 119 ∷ 101 ∷ 114 ∷ 61 ∷ 48 ∷ 10 ∷ 114 ∷ 111 ∷ 119 ∷ 61 ∷ 48 ∷ 10 ∷ 115 ∷ 108 ∷ 111 ∷ 116 ∷ 61 ∷ 48 ∷ 10 ∷ 108 ∷ 97 ∷ 115 ∷ 116 ∷ 61 ∷ 48 ∷ 10 ∷ [];
    } ∷ []

-- Every text comes out so.
pub printed : map (λ (c : Case). output_of c.text) cases ≡ map (λ (c : Case). c.output) cases
unfolding total largest distance standing
    row_refusal after_row judge_rows cells_in after_rows judge_all judge destinations lengths dues distances last_due
    under_way place slack_of slack is_late late_from late_row better pick slot_of moved state_at plan_of delivered_from
    arrivals_of any_under_way stop_from stop_of per_cell owners_of owners laid_out cell_links dues_of cell_dues cell_traffic owner_of
    told_by row_plan end_by row_stop of_last_cells row_arrivals
    ending the_plan the_arrivals sends_of quotient summary_of the_summary answer_to_rows after_verdict the_answer div of_int
    width last_digits numeral line starts digits_at extended item_value item_good item_rest row_keys values_at behind_lines
    wrong_line rows_keys row_at rows_at nodes_in rows_in body_of reading_of_rows reading_of_body reading_of rows_read
    verdict_lines arrive_lines mark_before parted send_line send_lines accepted_text answer_text table_text reading_text output_of
printed = refl
