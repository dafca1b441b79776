-- The mean delay and the used share are each one division of whole numbers that are exact as floats, rounded once.
--     exact_up_to           every whole number up to 2 ^ 53 is exact as a 64-bit float
--     divided_exactly       the four numbers of an acceptance are, and its two figures are their quotients
--     rounded_once          a quotient of such numbers is the float nearest to the fraction itself
-- Assumes nothing.
use mathlib.Core.Path.{◌≡◌, refl, ◌∙◌, sym}
use Prim.Native.Nat.{ℕ, ◌*◌, ◌^◌, ◌≤◌, ◌<◌}
use native.Mathlib.Nat.{mul-le-mul, mul-one, mul_assoc, mul_comm, mul-pos}
use native.Mathlib.Omega.{arith}
use mathlib.Core.Bool.{Bool, true, false, true≢false}
use mathlib.Core.List.{List}
use borrow.Author.Tests.{ne_eqb}
use lib.Dec.{le→leb}
use lib.IntN.{ℤ, pos}
use lib.Ieee.{Float, nan, inf, fin, binary64, up, down, round, div, of_int, to_unsigned, in_float}
use lib.Ieee.Exact.{HasValue}
use lib.Ieee.Fits.{down_pos}
use lib.Ieee.Back.{round_whole, unsigned_back}
use lib.Ieee.Scale.{round_same}
use lib.ListN.{length, get_or}
use Rattle.lists.specs.Lists.{total, largest}
use Rattle.lists.proofs.Figures.{total_below, largest_below}
use Rattle.table.specs.declared.Row.{Row}
use Rattle.table.specs.Table.{WellFormed, lengths, cells_in, sends_of, last_due}
use Rattle.optimal.proofs.Deliveries.{delivered_first}
use Rattle.cells.specs.Rows.{Freight, cell_links}
use Rattle.cells.specs.Cells.{cell_traffic}
use Rattle.best.proofs.Order.{links_long, laid_on_ring}
use Rattle.best.proofs.Arriving.{last, arrival_is}
use Rattle.planner.specs.declared.Summary.{Summary}
use Rattle.std.specs.Prelude.{Ok}
use Rattle.planner.specs.declared.Reply.{Reply}
use Rattle.planner.specs.Planner.{freight_of, the_arrivals, quotient, summary_of, the_summary}
use Rattle.planner.specs.Planner.{number_of, Planned}
use Rattle.planner.proofs.Answering.{arrivals_long, its_arrivals}
use Rattle.planner.proofs.Good.{soon, table_laden, table_cells}
use Rattle.planner.proofs.Crossed.{sends_of_cells}
use Rattle.table.proofs.Whole.{sound}
use Rattle.planner.proofs.Promises.{
  accepted_with,
  last_above_zero,
}
use Rattle.planner.proofs.Seen.{accepted_is_plannable}

-- The whole number a is exact as a 64-bit float: the float is finite, has no minus sign and is just a, and a comes
-- back from it.
pub record Exact (a : ℕ) : Type 0 where
  pub value : HasValue (of_int binary64 (pos a)) false a 1
  pub back : to_unsigned 64 (of_int binary64 (pos a)) ≡ a

-- So is every whole number up to 2 ^ 53.
pub exact_up_to : (a : ℕ) → a ≤ 2 ^ 53 → Exact a
unfolding of_int in_float
exact_up_to a few =
    record {
      value = round_whole binary64 false a few;
      back = (unsigned_back binary64 64 a (le→leb a (2 ^ 53) few) (omega arith)).1;
    }

-- A division of two finite numbers without a minus sign rounds one fraction.
one_fraction : (m n : ℕ) (e d : ℤ) → (n ≡ 0 → ⊥)
    → div binary64 (fin false m e) (fin false n d) ≡ round binary64 false (m * up e * down d) (n * up d * down e)
unfolding div
one_fraction m n e d some = rw (ne_eqb n 0 some)

-- The quotient of two exact numbers is their fraction, rounded once.
pub rounded_once : (a b : ℕ) → Exact a → Exact b → 0 < b → quotient a b ≡ round binary64 false a b
unfolding quotient
rounded_once a b exact-a exact-b some =
    rw (ne_eqb b 0 (λ e. omega arith))
    (go (of_int binary64 (pos a)) (of_int binary64 (pos b)) exact-a.value exact-b.value)
  where
    crosswise : (x e y d : ℕ) → x * 1 ≡ a * e → y * 1 ≡ b * d → x * d * b ≡ a * (y * e)
    crosswise x e y d p q =
        let is_x : x ≡ a * e = sym (mul-one x) ∙ p in
        let is_y : y ≡ b * d = sym (mul-one y) ∙ q in
        rw (is_x, is_y, mul_assoc (a * e) d b, mul_assoc a e (d * b), mul_comm d b, mul_comm (b * d) e)

    finite : (t u : Bool) (m n : ℕ) (e d : ℤ) → HasValue (fin t m e) false a 1 → HasValue (fin u n d) false b 1
        → div binary64 (fin t m e) (fin u n d) ≡ round binary64 false a b
    finite true u m n e d v w = absurd (true≢false v.0)
    finite false true m n e d v w = absurd (true≢false w.0)
    finite false false m n e d v w =
        let above : 0 < b * down d = mul-pos some (down_pos d) in
        let divisor : 0 < n * up d = omega (arith, w.1) in
        one_fraction m n e d (λ z. let none : 0 * up d * 1 ≡ b * down d = rw z at w.1 in omega arith)
        ∙ round_same binary64 false (m * up e * down d) (n * up d * down e) a b (mul-pos divisor (down_pos e)) some
        (crosswise (m * up e) (down e) (n * up d) (down d) v.1 w.1)

    go : (x y : Float) → HasValue x false a 1 → HasValue y false b 1 → div binary64 x y ≡ round binary64 false a b
    go nan y v w = absurd v
    go (inf t) y v w = absurd v
    go (fin t m e) nan v w = absurd w
    go (fin t m e) (inf u) v w = absurd w
    go (fin t m e) (fin u n d) v w = finite t u m n e d v w

-- What an acceptance divides: its figures are the quotients of these numbers, each of these is exact as a float,
-- and where there is a row each figure is the fraction itself, rounded once.
pub record Divided (n : ℕ) (rows : List Row) (s : Summary) : Type 0 where
  pub mean : s.mean ≡ quotient s.sum (length rows)
  pub share : s.share ≡ quotient s.sends (n * s.last.0)
  pub sum_exact : Exact s.sum
  pub rows_exact : Exact (length rows)
  pub sends_exact : Exact s.sends
  pub time_exact : Exact (n * s.last.0)
  pub mean_rounded : 0 < length rows → s.mean ≡ round binary64 false s.sum (length rows)
  pub share_rounded : 0 < length rows → s.share ≡ round binary64 false s.sends (n * s.last.0)

module _ (n : ℕ) (rows : List Row) (well : WellFormed n rows) where
  abbrev F : Freight
  F = freight_of n rows

  arrival_soon : (i : ℕ) → i < length (the_arrivals n rows) → get_or (the_arrivals n rows) i 0 ≤ 1024
  unfolding the_arrivals last_due
  arrival_soon i l =
      let laden = table_laden n rows well in
      let known : i < length (lengths rows) = omega (arith, arrivals_long F (last_due rows)) in
      let some = table_cells n rows well i known in
      omega (
        arith,
        arrival_is F laden i known some (last_due rows),
        (delivered_first (cell_traffic F) (cell_links F) (last F laden i known some) (last_due rows) 0).within,
        soon n rows well,
      )

  few_rows : length rows ≤ 512
  few_rows = (sound n rows well).few

  small_sum : total (the_arrivals n rows) ≤ 1024 * 512
  small_sum = omega (arith, total_below 1024 (the_arrivals n rows) arrival_soon, its_arrivals n rows, few_rows)

  small_sends : sends_of n rows ≤ 32 * 1024
  unfolding cells_in cell_traffic
  small_sends =
      omega (arith, sends_of_cells n rows, total_below 32 (cell_links F) within_32, links_long F, (sound n rows well).cells)
    where
      within_32 : (c : ℕ) → c < length (cell_links F) → get_or (cell_links F) c 0 ≤ 32
      within_32 c l =
          omega (arith, (laid_on_ring F (table_laden n rows well)).left_inside c l, (sound n rows well).most)

  small_time : n * largest (the_arrivals n rows) ≤ 32 * 1024
  small_time = mul-le-mul (sound n rows well).most (largest_below 1024 (the_arrivals n rows) arrival_soon)

  sum_exact : Exact (total (the_arrivals n rows))
  sum_exact = exact_up_to (total (the_arrivals n rows)) (omega (arith, small_sum))

  rows_exact : Exact (length rows)
  rows_exact = exact_up_to (length rows) (omega (arith, few_rows))

  sends_exact : Exact (sends_of n rows)
  sends_exact = exact_up_to (sends_of n rows) (omega (arith, small_sends))

  time_exact : Exact (n * largest (the_arrivals n rows))
  time_exact = exact_up_to (n * largest (the_arrivals n rows)) (omega (arith, small_time))

  some_time : 0 < length rows → 0 < n * largest (the_arrivals n rows)
  some_time some = mul-pos (omega (arith, (sound n rows well).least)) (last_above_zero n rows well some)

  summary_divided : Divided n rows (the_summary n rows)
  unfolding the_summary summary_of
  summary_divided =
      record {
        mean = refl;
        share = refl;
        sum_exact = sum_exact;
        rows_exact = rows_exact;
        sends_exact = sends_exact;
        time_exact = time_exact;
        mean_rounded = λ some. rounded_once _ _ sum_exact rows_exact some;
        share_rounded = λ some. rounded_once _ _ sends_exact time_exact (some_time some);
      }

-- Each of the two figures of an acceptance is one division of whole numbers that are exact as floats.
pub divided_exactly : {n : ℕ} {rows : List Row} {plan arrivals plan' arrivals' : List ℕ} {r : Reply} {s : Summary}
    → Planned n rows plan arrivals r plan' arrivals' → r.answer ≡ Ok s → Divided n rows s
unfolding number_of
divided_exactly {n} {rows} {r} {s} out accepted =
    let none : number_of r.answer ≡ 0 = rw accepted in
    let k = accepted_is_plannable out none in
    let is : s ≡ the_summary n rows = cc (sym accepted, accepted_with k out none) in
    rw is (summary_divided n rows k.well_formed)
