-- Where a row stands is computed back from its destination; here it is shown to be where document 01 puts it.
--     at_source           with its whole distance to go a row stands at its source
--     at_source_of        so does a row that l links bring from p to q, be it a full turn
--     one_link_on         with one link less to go it stands one node on, at (p + 1) mod n
--     at_destination      with none to go it stands at its destination
--     distance_ahead, distance_round      a distance without the remainder, short of node 0 and past it
--     full_turn           from a node to itself it is n
--     away                every distance is 1 to n links, and gone from p it ends at q
-- Assumes nothing.
use mathlib.Core.Path.{◌≡◌, refl, ◌∙◌, ap}
use mathlib.Core.Bool.{Bool, true, false, cond}
use Prim.Native.Nat.{ℕ, ◌+◌, ◌-◌, ◌%◌, ◌≤◌, ◌<◌}
use native.Mathlib.Nat.{mod-eq_of_lt, add-mod_right}
use native.Mathlib.Decide.{dec_le, dec_lt}
use native.Mathlib.Omega.{arith}
use borrow.Author.Tests.{eq-eqb, ne_eqb, eqb-true, eqb-false}
use lib.Dec.{eqb}
use Rattle.ring.specs.Ring.{distance, standing}
use Rattle.ring.proofs.Turn.{short_of_zero, past_zero}

-- A sum of less than two turns, past one of them.
pub one_turn : (n m : ℕ) → n ≤ m → m < n + n → m % n ≡ m - n
one_turn n m far near =
    let e : m ≡ (m - n) + n = omega arith in
    let l : m - n < n = omega arith in
    ap (λ (x : ℕ). x % n) e ∙ add-mod_right (m - n) n ∙ mod-eq_of_lt l

-- A row to q that has l links to go stands at p where l links lead from p to q; a full turn leads from q to q.
pub at_source_of : (n p q l : ℕ) → p < n → l ≤ n → (p + l) % n ≡ q → standing n q l ≡ p
unfolding standing
at_source_of n p q l inside far leads = go (dec_lt (p + l) n)
  where
    go : Dec (p + l < n) → standing n q l ≡ p
    go (yes d) =
        let e = mod-eq_of_lt d in
        omega (arith, short_of_zero n l q (omega arith) (omega arith))
    go (no d) =
        let e = one_turn n (p + l) (omega arith) (omega arith) in
        omega (arith, past_zero n l q (omega arith) far)

-- A row stands at its destination once it has no link to go.
pub at_destination : (n q : ℕ) → q < n → standing n q 0 ≡ q
unfolding standing
at_destination n q inside = omega (arith, short_of_zero n 0 q (omega arith) inside)

-- A row with one link less to go stands one node on.
pub one_link_on : (n q l : ℕ) → q < n → 0 < l → l ≤ n → standing n q (l - 1) ≡ (standing n q l + 1) % n
unfolding standing
one_link_on n q l inside some far = go (dec_le l q) (dec_le (l - 1) q)
  where
    go : Dec (l ≤ q) → Dec (l - 1 ≤ q) → standing n q (l - 1) ≡ (standing n q l + 1) % n
    go (yes a) b =
        let on : q - l + 1 < n = omega arith in
        let next = short_of_zero n (l - 1) q (omega arith) inside in
        rw (short_of_zero n l q a inside) (omega (arith, mod-eq_of_lt on))
    go (no a) (yes b) =
        let at-0 = one_turn n (q + n - l + 1) (omega arith) (omega arith) in
        rw (past_zero n l q (omega arith) far) (omega (arith, short_of_zero n (l - 1) q b inside))
    go (no a) (no b) =
        let on : q + n - l + 1 < n = omega arith in
        let next = past_zero n (l - 1) q (omega arith) (omega arith) in
        rw (past_zero n l q (omega arith) far) (omega (arith, mod-eq_of_lt on))

-- A distance to a higher node, without the remainder.
pub distance_ahead : (n p q : ℕ) → p < q → q < n → distance n p q ≡ q - p
unfolding distance
distance_ahead n p q above inside = rw (ne_eqb p q (λ e. omega arith)) (short_of_zero n p q (omega arith) inside)

-- And to a node that is not above p: it passes node 0, and from a node to itself it is a full turn.
pub distance_round : (n p q : ℕ) → q ≤ p → p < n → distance n p q ≡ q + n - p
unfolding distance
distance_round n p q below inside = go (eqb p q) refl
  where
    go : (b : Bool) → eqb p q ≡ b → cond b n ((q + n - p) % n) ≡ q + n - p
    go true e = omega (arith, eqb-true p q e)
    go false e = past_zero n p q (omega (arith, eqb-false p q e)) (omega arith)

-- From a node to itself it is a full turn.
pub full_turn : (n p : ℕ) → distance n p p ≡ n
unfolding distance
full_turn n p = rw (eq-eqb p p refl)

-- Both cases as one: the distance from p, gone from p, ends at q or a turn on, and is 1 to n links.
pub record Away (n p q : ℕ) : Type 0 where
  pub some : 0 < distance n p q
  pub within : distance n p q ≤ n
  pub lands : (p + distance n p q) % n ≡ q

pub away : (n p q : ℕ) → p < n → q < n → Away n p q
away n p q source inside = go (dec_lt p q)
  where
    go : Dec (p < q) → Away n p q
    go (yes d) =
        let links = distance_ahead n p q d inside in
        let there : p + distance n p q ≡ q = omega arith in
        record { some = omega arith; within = omega arith; lands = rw there (mod-eq_of_lt inside) }
    go (no d) =
        let links = distance_round n p q (omega arith) source in
        let there : p + distance n p q ≡ q + n = omega arith in
        record {
          some = omega arith;
          within = omega arith;
          lands = rw there (add-mod_right q n ∙ mod-eq_of_lt inside);
        }

-- A row with its whole distance to go stands at its source, be it a full turn.
pub at_source : (n p q : ℕ) → p < n → q < n → standing n q (distance n p q) ≡ p
at_source n p q source inside =
    let links = away n p q source inside in
    at_source_of n p q (distance n p q) source links.within links.lands
