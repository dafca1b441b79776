-- What the plan program prints, in the words of document 01: key=value lines, each with one line feed behind it.
use Rattle.std.specs.Prelude.{ℕ, zero, suc, ◌≡◌, Ok, Err, List, [], ◌∷◌, ◌++◌, length, take, drop}
use Rattle.table.specs.declared.Row.{Row}
use Rattle.table.specs.declared.Refusal.{Refusal}
use Rattle.table.specs.Table.{refuse, last_due}
use Rattle.planner.specs.Planner.{Answer, the_answer, the_plan, the_arrivals}
use Rattle.text.specs.Text.{Reading, line_feed, item, line, reading_of, rows_read}

-- The keys, each with the equals sign behind it: answer=, row=, slot=, last=, arrive=, send=.
abbrev pub answer_key : List ℕ
answer_key = 97 ∷ 110 ∷ 115 ∷ 119 ∷ 101 ∷ 114 ∷ 61 ∷ []

abbrev pub row_key : List ℕ
row_key = 114 ∷ 111 ∷ 119 ∷ 61 ∷ []

abbrev pub slot_key : List ℕ
slot_key = 115 ∷ 108 ∷ 111 ∷ 116 ∷ 61 ∷ []

abbrev pub last_key : List ℕ
last_key = 108 ∷ 97 ∷ 115 ∷ 116 ∷ 61 ∷ []

abbrev pub arrive_key : List ℕ
arrive_key = 97 ∷ 114 ∷ 114 ∷ 105 ∷ 118 ∷ 101 ∷ 61 ∷ []

abbrev pub send_key : List ℕ
send_key = 115 ∷ 101 ∷ 110 ∷ 100 ∷ 61 ∷ []

-- The comma that parts the entries of a send line.
abbrev pub comma : ℕ
comma = 44

-- The entries that the program lends for the plan, the arrivals and the records of rows.
abbrev pub plan_lent : ℕ
plan_lent = 32768

abbrev pub arrivals_lent : ℕ
arrivals_lent = 512

abbrev pub records_lent : ℕ
records_lent = 512

-- The bytes of standard input that the program reads at most.
abbrev pub input_most : ℕ
input_most = 24576

-- The bytes that are enough for every output.
abbrev pub output_most : ℕ
output_most = 212992

-- The lines of a refusal, or of no refusal where all three are 0: answer, row, slot.
unfoldable pub verdict_lines : Refusal → List ℕ
verdict_lines r = line answer_key r.number ++ (line row_key r.row ++ line slot_key r.slot.0)

-- One arrive line per row.
unfoldable pub arrive_lines : (arrivals : List ℕ) → List ℕ
arrive_lines [] = []
arrive_lines (t ∷ ts) = line arrive_key t ++ arrive_lines ts

-- What stands behind an entry: a comma where more entries follow, and a line feed behind the last.
unfoldable pub mark_before : (more : List ℕ) → ℕ
mark_before [] = line_feed
mark_before (v ∷ vs) = comma

-- Entries parted by commas, and one line feed behind the last.
unfoldable pub parted : (entries : List ℕ) → List ℕ
parted [] = []
parted (v ∷ vs) = item [] v (mark_before vs) ++ parted vs

-- One slot's send line: its entries, links in order.
unfoldable pub send_line : (entries : List ℕ) → List ℕ
send_line entries = send_key ++ parted entries

-- One send line per slot of a plan with n entries a slot.
unfoldable pub send_lines : (n slots : ℕ) → (plan : List ℕ) → List ℕ
send_lines n zero plan = []
send_lines n (suc slots) plan = send_line (take n plan) ++ send_lines n slots (drop n plan)

-- What is printed where a table is accepted: no refusal, then last, arrive and send lines.
unfoldable pub accepted_text : (last : ℕ) (arrivals : List ℕ) (n slots : ℕ) (plan : List ℕ) → List ℕ
accepted_text last arrivals n slots plan =
    verdict_lines (refuse 0 0 0) ++ (line last_key last ++ (arrive_lines arrivals ++ send_lines n slots plan))

-- What is printed for an answer: the three lines alone where it is a refusal.
unfoldable pub answer_text : Answer → (arrivals : List ℕ) (n slots : ℕ) (plan : List ℕ) → List ℕ
answer_text (Ok s) arrivals n slots plan = accepted_text s.last.0 arrivals n slots plan
answer_text (Err r) arrivals n slots plan = verdict_lines r

-- What is printed for a table: the planner's answer, its arrivals and its plan.
unfoldable pub table_text : (n : ℕ) → List Row → List ℕ
table_text n rows =
    answer_text (the_answer n rows plan_lent arrivals_lent) (the_arrivals n rows) n (last_due rows) (the_plan n rows)

-- What is printed for a reading and the rows that it gave: a text that was not read gets its three lines, and row is
-- then the line's number.
unfoldable pub reading_text : Reading → List Row → List ℕ
reading_text (Ok h) rows = table_text h.nodes rows
reading_text (Err r) rows = verdict_lines r

-- What the plan program prints for the text that it read.
unfoldable pub output_of : (text : List ℕ) → List ℕ
output_of text = reading_text (reading_of text records_lent) (rows_read text records_lent)

-- The full outcome of a report: how many bytes it has, and every byte of the lent area, which holds the output and
-- behind it what was there.
pub record Reported (text area : List ℕ) (count : ℕ) (area' : List ℕ) : Type 0 where
  pub counts : count ≡ length (output_of text)
  pub fills : area' ≡ output_of text ++ drop (length (output_of text)) area
