-- The lines of a report: each list of them is its first and the rest.
-- Assumes nothing.
use mathlib.Core.Path.{◌≡◌, refl, ◌∙◌, ap, sym}
use mathlib.Core.Bool.{Bool, true, false, cond}
use mathlib.Core.List.{List, [], ◌∷◌, ◌++◌}
use Prim.Native.Nat.{ℕ, suc, ◌+◌, ◌≤◌, ◌<◌}
use native.Mathlib.Omega.{arith}
use native.Mathlib.Numerals.{add-one}
use borrow.Author.Tests.{ltb-true, ltb-false}
use lib.Dec.{ltb}
use lib.ListN.{length, get_or, drop, drop_of_length-le}
use lib.Seq.{drop-cons, take_at, drop_at}
use Rattle.text.specs.Text.{line_feed, item, line}
use Rattle.report.specs.Report.{arrive_key, comma, arrive_lines, mark_before, parted, send_line, send_lines}

-- behind the last entry there is none
none_left : (xs : List ℕ) (i : ℕ) → length xs ≤ i → drop i xs ≡ []
none_left xs i h = drop_of_length-le xs h

next_left : (xs : List ℕ) (i : ℕ) → i < length xs → drop i xs ≡ get_or xs i 0 ∷ drop (i + 1) xs
next_left xs i h = drop-cons xs i 0 h ∙ ap (λ (k : ℕ). get_or xs i 0 ∷ drop k xs) (sym (add-one i))

pub next_arrive : (xs : List ℕ) (i : ℕ) → i < length xs
    → arrive_lines (drop i xs) ≡ line arrive_key (get_or xs i 0) ++ arrive_lines (drop (i + 1) xs)
unfolding arrive_lines
next_arrive xs i h = ap arrive_lines (next_left xs i h)

pub no_arrive : (xs : List ℕ) (i : ℕ) → length xs ≤ i → arrive_lines (drop i xs) ≡ []
unfolding arrive_lines
no_arrive xs i h = ap arrive_lines (none_left xs i h)

-- the mark behind entry i
mark_is : (xs : List ℕ) (i n : ℕ) → n ≡ length xs → mark_before (drop (i + 1) xs) ≡ cond (ltb (i + 1) n) comma line_feed
unfolding mark_before
mark_is xs i n e = go (ltb (i + 1) n) refl
  where
    go : (b : Bool) → ltb (i + 1) n ≡ b → mark_before (drop (i + 1) xs) ≡ cond b comma line_feed
    go true f = ap mark_before (next_left xs (i + 1) (rw e at (ltb-true (i + 1) n f)))
    go false f = ap mark_before (none_left xs (i + 1) (rw e at (ltb-false (i + 1) n f)))

module _ (xs : List ℕ) (n : ℕ) (e : n ≡ length xs) (i mark : ℕ) (m : mark ≡ cond (ltb (i + 1) n) comma line_feed) where
  pub next_entry : i < n → parted (drop i xs) ≡ item [] (get_or xs i 0) mark ++ parted (drop (i + 1) xs)
  unfolding parted
  next_entry h =
      ap parted (next_left xs i (omega arith))
      ∙ ap (λ (k : ℕ). item [] (get_or xs i 0) k ++ parted (drop (i + 1) xs)) (mark_is xs i n e ∙ sym m)

pub no_entry : (xs : List ℕ) (i : ℕ) → length xs ≤ i → parted (drop i xs) ≡ []
unfolding parted
no_entry xs i h = ap parted (none_left xs i h)

-- the entries of the first slot, and the rest of a plan
pub next_send : (n slots : ℕ) (xs ys : List ℕ) → length xs ≡ n
    → send_lines n (suc slots) (xs ++ ys) ≡ send_line xs ++ send_lines n slots ys
unfolding send_lines
next_send n slots xs ys e = rw (take_at xs ys n e, drop_at xs ys n e)

pub no_send : (n : ℕ) (plan : List ℕ) → send_lines n 0 plan ≡ []
unfolding send_lines
no_send n plan = refl
