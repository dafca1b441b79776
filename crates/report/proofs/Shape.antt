-- How many lines an output has: each of them ends in one line feed, and there is no other.
--     refused_lines     three for a refusal
--     accepted_lines    four, one per row, and one per slot of the plan, for an accepted table
-- Assumes nothing.
use mathlib.Core.Path.{◌≡◌, refl}
use mathlib.Core.Bool.{false, cond}
use mathlib.Core.List.{List, [], ◌∷◌, ◌++◌}
use Prim.Native.Nat.{ℕ, zero, suc, ◌+◌, ◌*◌, ◌≤◌}
use native.Mathlib.Omega.{arith}
use native.Mathlib.Nat.{mul-suc}
use borrow.Author.Tests.{ne_eqb}
use lib.Dec.{eqb}
use lib.ListN.{length, take, drop, length-drop}
use lib.Seq.{length-take-le}
use Rattle.table.specs.declared.Row.{Row}
use Rattle.table.specs.declared.Refusal.{Refusal}
use Rattle.table.specs.Table.{refuse, last_due}
use Rattle.planner.specs.declared.Summary.{Summary}
use Rattle.std.proofs.Common.{Ok}
use Rattle.planner.specs.Planner.{the_plan, the_arrivals, the_answer}
use Rattle.text.specs.Text.{line_feed, numeral, item, line}
use Rattle.text.proofs.Numeral.{Digits, numeral_digits}
use Rattle.report.specs.Report.{answer_key, row_key, slot_key, last_key, arrive_key, send_key, verdict_lines}
use Rattle.report.specs.Report.{arrive_lines, mark_before, parted, send_line, send_lines, accepted_text, answer_text}
use Rattle.report.specs.Report.{table_text}
use Rattle.report.proofs.Accepting.{its_size, plan_long, arrivals_each}

-- The line feeds among some bytes.
unfoldable pub feeds : List ℕ → ℕ
feeds [] = 0
feeds (b ∷ bs) = cond (eqb b line_feed) 1 0 + feeds bs

join : (xs ys : List ℕ) → feeds (xs ++ ys) ≡ feeds xs + feeds ys
unfolding feeds
join [] ys = omega arith
join (x ∷ xs) ys = omega (arith, join xs ys)

-- a numeral has none
digits_none : (ds : List ℕ) → Digits ds → feeds ds ≡ 0
unfolding feeds
digits_none [] h = refl
digits_none (d ∷ ds) h =
    let other : eqb d line_feed ≡ false = ne_eqb d line_feed (λ e. let l : 48 ≤ d = h.0 in omega arith) in
    rw other (omega (arith, digits_none ds h.2))

item_feeds : (key : List ℕ) (v mark : ℕ) → feeds (item key v mark) ≡ feeds key + feeds (mark ∷ [])
item_feeds key v mark =
    omega (
      arith,
      join key (numeral v ++ (mark ∷ [])),
      join (numeral v) (mark ∷ []),
      digits_none (numeral v) (numeral_digits v),
    )

line_feeds : (key : List ℕ) (v : ℕ) → feeds key ≡ 0 → feeds (line key v) ≡ 1
unfolding line feeds
line_feeds key v none = omega (arith, item_feeds key v line_feed, none)

pub refused_lines : (r : Refusal) → feeds (verdict_lines r) ≡ 3
unfolding verdict_lines feeds
refused_lines r =
    let a = line answer_key r.number in
    let b = line row_key r.row in
    let d = line slot_key r.slot.0 in
    omega (
      arith,
      join a (b ++ d),
      join b d,
      line_feeds answer_key r.number refl,
      line_feeds row_key r.row refl,
      line_feeds slot_key r.slot.0 refl,
    )

arrive_lines_lem : (xs : List ℕ) → feeds (arrive_lines xs) ≡ length xs
unfolding arrive_lines feeds
arrive_lines_lem [] = refl
arrive_lines_lem (x ∷ xs) = omega (
  arith,
  join (line arrive_key x) (arrive_lines xs),
  line_feeds arrive_key x refl,
  arrive_lines_lem xs,
)

parted_lines : (v : ℕ) (vs : List ℕ) → feeds (parted (v ∷ vs)) ≡ 1
unfolding parted mark_before feeds
parted_lines v [] = omega (arith, join (item [] v line_feed) [], item_feeds [] v line_feed)
parted_lines v (w ∷ ws) = omega (arith, join (item [] v 44) (parted (w ∷ ws)), item_feeds [] v 44, parted_lines w ws)

send_lines_lem : (xs : List ℕ) → 1 ≤ length xs → feeds (send_line xs) ≡ 1
unfolding send_line feeds
send_lines_lem [] h = absurd (omega arith)
send_lines_lem (x ∷ xs) h = omega (arith, join send_key (parted (x ∷ xs)), parted_lines x xs)

sends_lines : (n slots : ℕ) (plan : List ℕ) → 1 ≤ n → length plan ≡ n * slots → feeds (send_lines n slots plan) ≡ slots
unfolding send_lines feeds
sends_lines n zero plan some room = refl
sends_lines n (suc slots) plan some room =
    let more : n * suc slots ≡ n * slots + n = mul-suc n slots in
    let enough : n ≤ length plan = omega arith in
    let one = send_lines_lem (take n plan) (omega (arith, length-take-le n plan enough)) in
    let rest = sends_lines n slots (drop n plan) some (omega (arith, length-drop n plan)) in
    omega (arith, join (send_line (take n plan)) (send_lines n slots (drop n plan)), one, rest)

-- An accepted table's output: answer, row, slot, last, an arrive line per row, and a send line per slot of the plan.
pub accepted_lines : (n : ℕ) (rows : List Row) (s : Summary) → the_answer n rows 32768 512 ≡ Ok s
    → feeds (table_text n rows) ≡ 4 + length rows + last_due rows
unfolding table_text answer_text accepted_text feeds
accepted_lines n rows s is =
    let head = verdict_lines (refuse 0 0 0) in
    let stamp = line last_key s.last.0 in
    let arrives = arrive_lines (the_arrivals n rows) in
    let sends = send_lines n (last_due rows) (the_plan n rows) in
    let some : 1 ≤ n = omega (arith, (its_size n rows s is).least) in
    rw is (omega (
      arith,
      join head (stamp ++ (arrives ++ sends)),
      join stamp (arrives ++ sends),
      join arrives sends,
      refused_lines (refuse 0 0 0),
      line_feeds last_key s.last.0 refl,
      arrive_lines_lem (the_arrivals n rows),
      arrivals_each n rows s is,
      sends_lines n (last_due rows) (the_plan n rows) some (plan_long n rows s is),
    ))
