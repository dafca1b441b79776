-- What the definitions count is what the window's theory counts.
--     how_many_few                       no more pass a test than there are
--     crosses_must, must_crosses         a cell passes `crosses_before` just where the theory has it cross
--     crossing_is                        so the cells that must cross are as many as the theory counts
-- Assumes nothing.
use mathlib.Core.Path.{◌≡◌, refl, sym}
use mathlib.Core.Bool.{Bool, true, false, cond}
use Prim.Native.Nat.{ℕ, zero, suc, ◌+◌, ◌≤◌}
use native.Mathlib.Omega.{arith}
use mathlib.Core.List.{List}
use borrow.Author.Tests.{leb-true, ltb-true, le-leb, lt-ltb}
use lib.Dec.{leb, ltb}
use lib.ListN.{length, get_or}
use Rattle.lists.proofs.Truth.{differ, both_hold}
use Rattle.slack.specs.Slack.{Traffic}
use Rattle.optimal.proofs.Count.{Decided, tally, count, tally_one, tally_none}
use Rattle.optimal.proofs.Window.{Must, must}
use Rattle.ring.specs.Ring.{distance}
use Rattle.optimal.proofs.Round.{node_of, links_from}
use Rattle.optimal.proofs.Slots.{links, due_of}
use Rattle.jam.specs.Jam.{must_cross, crosses_before, how_many, crossing}

-- No more numbers pass a test than there are.
pub how_many_few : (m : ℕ) (test : ℕ → Bool) → how_many m test ≤ m
unfolding how_many
how_many_few zero test = omega arith
how_many_few (suc m) test = go (test m) (how_many_few m test)
  where
    go : (t : Bool) → how_many m test ≤ m → cond t 1 0 + how_many m test ≤ suc m
    go true h = omega arith
    go false h = omega arith

test_tally : {P : Type 0} (d : Dec P) (t : Bool) → (P → t ≡ true) → (t ≡ true → P) → cond t 1 0 ≡ tally d
test_tally d true to from = sym (tally_one d (from refl))
test_tally d false to from = sym (tally_none d (λ p. differ (to p)))

-- Where the numbers that pass a test are those that have a property, as many pass it as have the property.
how_many_count : {P : ℕ → Type 0} (d : Decided P) (test : ℕ → Bool) → ((i : ℕ) → P i → test i ≡ true)
    → ((i : ℕ) → test i ≡ true → P i) → (m : ℕ) → how_many m test ≡ count m d
unfolding how_many count
how_many_count d test to from zero = refl
how_many_count d test to from (suc m) =
    omega (arith, test_tally (d m) (test m) (to m) (from m), how_many_count d test to from m)

module _ (T : Traffic) (start : List ℕ) where
  -- Cell i cannot be at link p for k slots, and must cross it before slot b. `crosses_before` is that for k = 0.
  abbrev pub Crosses : (p k b i : ℕ) → Type 0
  Crosses p k b i =
      Must (length start) T.nodes (λ i. T.nodes) (node_of T) (links_from T) (due_of T) (links start) p k b i

  -- That can be decided.
  abbrev pub crosses : (p k b : ℕ) → Decided (Crosses p k b)
  crosses p k b = must (length start) T.nodes (λ i. T.nodes) (node_of T) (links_from T) (due_of T) (links start) p k b

  -- A cell that passes the test has to cross.
  pub crosses_must : (p b i : ℕ) → crosses_before T start p b i ≡ true → Crosses p 0 b i
  unfolding crosses_before must_cross
  crosses_must p b i e =
      let on = distance T.nodes p (get_or T.dst i 0) in
      let s = both_hold (leb on (get_or start i 0)) (ltb (get_or T.due i 0) (b + on)) e in (
        omega (arith, leb-true on (get_or start i 0) s.0),
        omega (arith, ltb-true (get_or T.due i 0) (b + on) s.1),
      )

  -- A cell that has to cross passes the test.
  pub must_crosses : (p b i : ℕ) → Crosses p 0 b i → crosses_before T start p b i ≡ true
  unfolding crosses_before must_cross
  must_crosses p b i m =
      let on = distance T.nodes p (get_or T.dst i 0) in
      rw (le-leb on (get_or start i 0) (omega (arith, m.0)), lt-ltb (get_or T.due i 0) (b + on) (omega (arith, m.1)))

  -- The cells that must cross are as many as the window's theory counts.
  pub crossing_is : (p b : ℕ) → crossing T start p b ≡ count (length start) (crosses p 0 b)
  unfolding crossing
  crossing_is p b =
      how_many_count (crosses p 0 b) (crosses_before T start p b) (must_crosses p b) (crosses_must p b) (length start)
