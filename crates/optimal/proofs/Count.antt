-- How many numbers below k have a property that can be decided, and how such counts compare.
--     count_within        a property within another counts no more
--     count_lacking       and fewer, where it lacks one that the other has
--     count_but_one       one more at most, where all but one lie within the other
--     count_into          no more than the other, where each is sent to one of the other and no two to the same
-- Assumes nothing.
use mathlib.Core.Path.{◌≡◌, refl}
use Prim.Native.Nat.{ℕ, zero, suc, ◌+◌, ◌≤◌, ◌<◌}
use native.Mathlib.Nat.{not-suc-le-zero}
use native.Mathlib.Omega.{arith}
use native.Mathlib.Decide.{ℕ_discrete}

-- A decided property of numbers.
abbrev pub Decided : (ℕ → Type 0) → Type 0
Decided P = (i : ℕ) → Dec (P i)

unfoldable pub tally : {P : Type 0} → Dec P → ℕ
tally (yes p) = 1
tally (no p) = 0

-- How many numbers below k have the property.
unfoldable pub count : {P : ℕ → Type 0} → ℕ → Decided P → ℕ
count zero d = 0
count (suc k) d = tally (d k) + count k d

pub tally_one : {P : Type 0} (d : Dec P) → P → tally d ≡ 1
unfolding tally
tally_one (yes p) q = refl
tally_one (no p) q = absurd (p q)

pub tally_none : {P : Type 0} (d : Dec P) → (P → ⊥) → tally d ≡ 0
unfolding tally
tally_none (yes p) q = absurd (q p)
tally_none (no p) q = refl

tally_within : {P Q : Type 0} (d : Dec P) (e : Dec Q) → (P → Q) → tally d ≤ tally e
unfolding tally
tally_within (yes p) e f = omega (arith, tally_one e (f p))
tally_within (no p) e f = omega arith

-- Is there a number below k with the property?
unfoldable pub find : {P : ℕ → Type 0} (k : ℕ) → Decided P → Dec ((i : ℕ) × (i < k) × P i)
find zero d = no (λ h. not-suc-le-zero h.1)
find {P} (suc k) d = go (d k) (find k d)
  where
    go : Dec (P k) → Dec ((i : ℕ) × (i < k) × P i) → Dec ((i : ℕ) × (i < suc k) × P i)
    go (yes p) e = yes (k, omega arith, p)
    go (no p) (yes h) = yes (h.0, omega (arith, h.1), h.2)
    go (no p) (no h) = no (λ x. last x (ℕ_discrete x.0 k))
      where
        last : (x : (i : ℕ) × (i < suc k) × P i) → Dec (x.0 ≡ k) → ⊥
        last x (yes e) = p (rw e at x.2)
        last x (no e) = h (x.0, omega (arith, x.1), x.2)

module _ {P Q : ℕ → Type 0} (d : Decided P) (e : Decided Q) where
  pub count_within : (k : ℕ) → ((i : ℕ) → i < k → P i → Q i) → count k d ≤ count k e
  unfolding count
  count_within zero f = omega arith
  count_within (suc k) f =
      omega (arith, tally_within (d k) (e k) (f k (omega arith)), count_within k (λ i l. f i (omega arith)))

  pub count_lacking : (k x : ℕ) → ((i : ℕ) → i < k → P i → Q i) → x < k → Q x → (P x → ⊥) → count k d < count k e
  unfolding count
  count_lacking zero x f l q p = absurd (not-suc-le-zero l)
  count_lacking (suc k) x f l q p = go (ℕ_discrete x k) (count_lacking k x (λ i m. f i (omega arith)))
    where
      go : Dec (x ≡ k) → (x < k → Q x → (P x → ⊥) → count k d < count k e)
          → tally (d k) + count k d < tally (e k) + count k e
      go (yes s) rest =
          let below = count_within k (λ i m. f i (omega arith)) in
          omega (arith, tally_one (e k) (rw s at q), tally_none (d k) (rw s at p))
      go (no s) rest = omega (arith, tally_within (d k) (e k) (f k (omega arith)), rest (omega arith) q p)

  -- All that have the first property and lack the second are one and the same number.
  pub count_but_one : (k : ℕ) → ((i j : ℕ) → i < k → j < k → P i → P j → (Q i → ⊥) → (Q j → ⊥) → i ≡ j)
      → count k d ≤ suc (count k e)
  unfolding count
  count_but_one zero f = omega arith
  count_but_one (suc k) f = go (d k) (e k) (count_but_one k (λ i j l m. f i j (omega arith) (omega arith)))
    where
      go : (a : Dec (P k)) (b : Dec (Q k)) → count k d ≤ suc (count k e)
          → tally a + count k d ≤ suc (tally b + count k e)
      go (yes p) (yes q) rest = omega (arith, tally_one (yes p) p, tally_one (yes q) q)
      go (yes p) (no q) rest = omega (arith, tally_one (yes p) p, count_within k (λ i l r. before i l r (e i)))
        where
          before : (i : ℕ) → i < k → P i → Dec (Q i) → Q i
          before i l r (yes s) = s
          before i l r (no s) = absurd (omega (arith, f i k (omega arith) (omega arith) r p s q))
      go (no p) b rest = omega (arith, tally_none (no p) p)

-- A number that has the property is counted; where none has it, nothing is.
pub count_some : {P : ℕ → Type 0} (d : Decided P) (k i : ℕ) → i < k → P i → 0 < count k d
count_some d k i l p = omega (arith, count_lacking (λ j. no (λ (z : ⊥). z)) d k i (λ j m. absurd) l p (λ z. z))

pub count_none : {P : ℕ → Type 0} (d : Decided P) (k : ℕ) → ((i : ℕ) → i < k → P i → ⊥) → count k d ≡ 0
unfolding count
count_none d zero f = refl
count_none d (suc k) f = omega (arith, tally_none (d k) (f k (omega arith)), count_none d k (λ i l. f i (omega arith)))

unfoldable pub both_decided : {A B : Type 0} → Dec A → Dec B → Dec (A × B)
both_decided (yes a) (yes b) = yes (a, b)
both_decided (yes a) (no b) = no (λ h. b h.1)
both_decided (no a) b = no (λ h. a h.0)

not_decided : {A : Type 0} → Dec A → Dec (A → ⊥)
not_decided (yes a) = no (λ h. h a)
not_decided (no a) = yes a

-- Each number of the first kind is sent to one of the second kind, and no two to the same.
pub count_into : {P : ℕ → Type 0} (d : Decided P) (m : ℕ) (f : ℕ → ℕ) (k : ℕ) {Q : ℕ → Type 0} (e : Decided Q)
    → ((i : ℕ) → i < k → P i → (f i < m) × Q (f i))
    → ((i j : ℕ) → i < k → j < k → P i → P j → f i ≡ f j → i ≡ j)
    → count k d ≤ count m e
unfolding count
count_into d m f zero e to one = omega arith
count_into {P} d m f (suc k) {Q} e to one =
    go (d k) (λ R c g. count_into d m f k {Q = R} c g (λ i j l n. one i j (omega arith) (omega arith)))
  where
    rest : (i : ℕ) → Dec (Q i × (i ≡ f k → ⊥))
    rest i = both_decided (e i) (not_decided (ℕ_discrete i (f k)))

    go : (a : Dec (P k))
        → ((R : ℕ → Type 0) (c : Decided R) → ((i : ℕ) → i < k → P i → (f i < m) × R (f i)) → count k d ≤ count m c)
        → tally a + count k d ≤ count m e
    go (yes p) more =
        let last = to k (omega arith) p in
        let others = more (λ i. Q i × (i ≡ f k → ⊥)) rest elsewhere in
        let fewer = count_lacking rest e m (f k) (λ i l r. r.0) last.0 last.1 (λ r. r.1 refl) in
        omega (arith, tally_one (yes p) p)
      where
        apart : (i : ℕ) → i < k → P i → f i ≡ f k → ⊥
        apart i l r s = omega (arith, one i k (omega arith) (omega arith) r p s)

        elsewhere : (i : ℕ) → i < k → P i → (f i < m) × (Q (f i) × (f i ≡ f k → ⊥))
        elsewhere i l r = let sent = to i (omega arith) r in (sent.0, (sent.1, apart i l r))
    go (no p) more = omega (arith, tally_none (no p) p, more Q e (λ i l r. to i (omega arith) r))

-- The count with the first number split off instead of the last.
pub count_front : {P : ℕ → Type 0} (d : Decided P) (k : ℕ) → count (suc k) d ≡ tally (d 0) + count k (λ i. d (suc i))
unfolding count
count_front d zero = refl
count_front d (suc k) = omega (arith, count_front d k)
