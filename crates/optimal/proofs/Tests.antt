-- Whether a list is a legal schedule, and whether it meets its table, can be computed: each test says just what its
-- definition says.
--     legal_decided, legalb, legalb_iff      of `Legal`
--     meets_decided, meetsb, meetsb_iff      of `Meets`
--     schedule_decided                       of `Schedule`, which has both
--     Says, as_decided                       what is computed of a statement holds of it
-- Each decision is put together from the parts of the definition as it stands, whatever numbers these compare.
-- Assumes nothing.
use mathlib.Core.Path.{◌≡◌, refl}
use mathlib.Core.Logic.{◌↔◌}
use Prim.Native.Nat.{ℕ, zero, suc, ◌<◌}
use native.Mathlib.Omega.{arith}
use native.Mathlib.Decide.{ℕ_discrete, dec_le, dec_lt}
use mathlib.Core.Bool.{Bool, true, false, decide, decide_iff}
use mathlib.Core.List.{List}
use lib.ListN.{length, get_or}
use Rattle.slack.specs.Slack.{Traffic}
use Rattle.optimal.specs.Schedule.{Schedule, Legal, Meets, named_in}
use Rattle.optimal.proofs.Count.{Decided, find, both_decided}

-- Two statements that follow from each other are decided alike.
unfoldable pub alike : {A B : Type 0} → (A → B) → (B → A) → Dec A → Dec B
alike f g (yes a) = yes (f a)
alike f g (no a) = no (λ b. a (g b))

-- Do all numbers below k have the property?
unfoldable pub all_below : {P : ℕ → Type 0} (k : ℕ) → Decided P → Dec ((i : ℕ) → i < k → P i)
all_below zero d = yes (λ i l. absurd (omega arith))
all_below {P} (suc k) d = go (d k) (all_below k d)
  where
    go : Dec (P k) → Dec ((i : ℕ) → i < k → P i) → Dec ((i : ℕ) → i < suc k → P i)
    go (no p) rest = no (λ h. p (h k (omega arith)))
    go (yes p) (no h) = no (λ f. h (λ i l. f i (omega arith)))
    go (yes p) (yes h) = yes (λ i l. last i l (ℕ_discrete i k))
      where
        last : (i : ℕ) → i < suc k → Dec (i ≡ k) → P i
        last i l (yes e) = rw e p
        last i l (no e) = h i (omega arith)

-- Does the row that an entry names have the property, if it names one?
unfoldable pub row_named_lem : {P : ℕ → Type 0} (entry : ℕ) → Decided P → Dec ((i : ℕ) → entry ≡ suc i → P i)
row_named_lem zero d = yes (λ i e. absurd (omega arith))
row_named_lem {P} (suc j) d = alike (λ p i e. at i p (omega arith)) (λ h. h j refl) (d j)
  where
    at : (i : ℕ) → P j → j ≡ i → P i
    at i p e = rw e at p

-- Are three things so?
unfoldable pub all_three : {A B C : Type 0} → Dec A → Dec B → Dec C → Dec (A × B × C)
all_three (yes a) (yes b) (yes c) = yes (a, b, c)
all_three (yes a) (yes b) (no c) = no (λ h. c h.2)
all_three (yes a) (no b) c = no (λ h. b h.1)
all_three (no a) b c = no (λ h. a h.0)

-- Is there a number with two properties, where all that have the first lie below k?
unfoldable pub some_below : {P Q : ℕ → Type 0} (k : ℕ) → ((i : ℕ) → P i → i < k) → Decided P → Decided Q
    → Dec ((i : ℕ) × P i × Q i)
some_below k small d e =
    alike (λ h. (h.0, h.2.0, h.2.1)) (λ h. (h.0, small h.0 h.1, (h.1, h.2)))
    (find k (λ i. both_decided (d i) (e i)))

-- What is said of a statement: that it holds, or that it does not.
unfoldable pub Says : Bool → Type 0 → Type 0
Says true P = P
Says false P = P → ⊥

pub as_decided : {P : Type 0} (d : Dec P) → Says (decide d) P
unfolding Says decide
as_decided (yes p) = p
as_decided (no p) = p

module _ (T : Traffic) (start : List ℕ) where
  unfoldable pub legal_decided : (slots : ℕ) (schedule : List ℕ) → Dec (Legal T start slots schedule)
  unfolding Legal
  legal_decided slots schedule =
      alike (λ h t p i l inside named. h t l p inside i named) (λ h t l p inside i named. h t p i l inside named)
      (all_below slots (λ t. all_below T.nodes (λ p. row_named_lem (get_or (named_in T schedule t) p 0) (λ i.
      all_three (dec_lt _ _) (dec_lt _ _) (ℕ_discrete _ _)))))

  unfoldable pub meets_decided : (schedule : List ℕ) → Dec (Meets T start schedule)
  unfolding Meets
  meets_decided schedule =
      all_below (length start) (λ i.
      some_below (suc (suc (get_or T.due i 0))) (λ t h. omega arith) (λ t. dec_le _ _) (λ t. ℕ_discrete _ _))

  unfoldable pub schedule_decided : (slots : ℕ) (schedule : List ℕ) → Dec (Schedule T start slots schedule)
  schedule_decided slots schedule =
      alike (λ h. record { entries = h.0; legal = h.1; meets = h.2 }) (λ s. (s.entries, s.legal, s.meets))
      (all_three (ℕ_discrete _ _) (legal_decided slots schedule) (meets_decided schedule))

  -- The test of a legal schedule, and that it is one.
  unfoldable pub legalb : (slots : ℕ) (schedule : List ℕ) → Bool
  legalb slots schedule = decide (legal_decided slots schedule)

  pub legalb_iff : (slots : ℕ) (schedule : List ℕ) → (legalb slots schedule ≡ true) ↔ Legal T start slots schedule
  unfolding legalb
  legalb_iff slots schedule = decide_iff (legal_decided slots schedule)

  -- The test of a schedule that meets its table, and that it is one.
  unfoldable pub meetsb : (schedule : List ℕ) → Bool
  meetsb schedule = decide (meets_decided schedule)

  pub meetsb_iff : (schedule : List ℕ) → (meetsb schedule ≡ true) ↔ Meets T start schedule
  unfolding meetsb
  meetsb_iff schedule = decide_iff (meets_decided schedule)
