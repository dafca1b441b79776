-- A row stands at p exactly while it has the distance from p to go, and all rows go round the same way.
--     still_to_go      from where a row stands it is as far to its destination as it has links to go
--     same_way         what lies k links before p on one way does on each
-- Assumes nothing.
use mathlib.Core.Path.{◌≡◌}
use Prim.Native.Nat.{ℕ, ◌+◌, ◌-◌, ◌≤◌, ◌<◌}
use native.Mathlib.Decide.{dec_le, dec_lt}
use native.Mathlib.Omega.{arith}
use Rattle.ring.specs.Ring.{distance, standing}
use Rattle.ring.proofs.Turn.{short_of_zero, past_zero}
use Rattle.ring.proofs.Standing.{distance_ahead, distance_round}

-- From where a row stands it is as far to its destination as it has links to go.
pub still_to_go : (n q l : ℕ) → q < n → 0 < l → l ≤ n → distance n (standing n q l) q ≡ l
unfolding standing
still_to_go n q l inside links far = go (dec_le l q)
  where
    go : Dec (l ≤ q) → distance n (standing n q l) q ≡ l
    go (yes d) = rw (short_of_zero n l q d inside) (omega (arith, distance_ahead n (q - l) q (omega arith) inside))
    go (no d) = rw (past_zero n l q (omega arith) far) (omega (arith, distance_round n (q + n - l) q (omega arith) (omega arith)))

-- Node p lies k links on from node q.
data Further (n p q k : ℕ) : Type 0 where
  short : p ≡ q + k → Further n p q k
  round : p + n ≡ q + k → Further n p q k

further : (n d p q k : ℕ) → p < n → q < n → d < n → distance n q d ≡ k + distance n p d → Further n p q k
further n d p q k a b c e = go (dec_lt q d) (dec_lt p d)
  where
    go : Dec (q < d) → Dec (p < d) → Further n p q k
    go (yes x) (yes y) = short (omega (arith, distance_ahead n q d x c, distance_ahead n p d y c))
    go (yes x) (no y) = absurd (omega (arith, distance_ahead n q d x c, distance_round n p d (omega arith) a))
    go (no x) (yes y) = round (omega (arith, distance_round n q d (omega arith) b, distance_ahead n p d y c))
    go (no x) (no y) = short (omega (arith, distance_round n q d (omega arith) b, distance_round n p d (omega arith) a))

follows : (n d p q k : ℕ) → p < n → q < n → d < n → Further n p q k → k + distance n p d ≤ n
    → distance n q d ≡ k + distance n p d
follows n d p q k a b c f far = go f (dec_lt p d)
  where
    go : Further n p q k → Dec (p < d) → distance n q d ≡ k + distance n p d
    go (short e) (yes y) = omega (arith, distance_ahead n q d (omega arith) c, distance_ahead n p d y c)
    go (short e) (no y) =
        let h = distance_round n p d (omega arith) a in
        omega (arith, distance_round n q d (omega arith) b)
    go (round e) (yes y) =
        let h = distance_ahead n p d y c in
        omega (arith, distance_round n q d (omega arith) b)
    go (round e) (no y) = absurd (omega (arith, distance_round n p d (omega arith) a))

-- Where q lies k links before p on the way to c, it does on the way to d too, as far as a turn reaches.
pub same_way : (n c d p q k : ℕ) → p < n → q < n → c < n → d < n
    → distance n q c ≡ k + distance n p c → k + distance n p d ≤ n → distance n q d ≡ k + distance n p d
same_way n c d p q k a b hc hd e reach = follows n d p q k a b hd (further n c p q k a b hc e) reach
