-- Whether a list of entries is legal, meets its table and is a schedule of rows can be computed. Each decision is put
-- together from the parts of the definition as it stands, whatever numbers these compare.
-- Assumes nothing.
use Prim.Native.Nat.{ℕ, suc}
use native.Mathlib.Omega.{arith}
use native.Mathlib.Decide.{ℕ_discrete, dec_le, dec_lt}
use mathlib.Core.List.{List}
use lib.ListN.{length, get_or}
use Rattle.optimal.specs.Schedule.{named_in}
use Rattle.optimal.proofs.Count.{find}
use Rattle.optimal.proofs.Tests.{alike, all_below, row_named_lem, all_three, some_below}
use Rattle.cells.specs.Rows.{Freight, road, cells_left}
use Rattle.cells.specs.Rows.{Holds, Delivered, LegalRows, MeetsRows, RowSchedule}

-- Does one thing follow from another?
unfoldable pub follows : {A B : Type 0} → Dec A → Dec B → Dec (A → B)
follows a (yes b) = yes (λ x. b)
follows (yes a) (no b) = no (λ f. b (f a))
follows (no a) (no b) = yes (λ x. absurd (a x))

module _ (F : Freight) where
  unfoldable pub holds_decided : (left : List ℕ) (i p : ℕ) → Dec (Holds F left i p)
  unfolding Holds
  holds_decided left i p =
      find (length left) (λ c. all_three (ℕ_discrete _ _) (dec_lt _ _) (ℕ_discrete _ _))

  unfoldable pub delivered_decided : (left : List ℕ) (i : ℕ) → Dec (Delivered F left i)
  unfolding Delivered
  delivered_decided left i = all_below (length left) (λ c. follows (ℕ_discrete _ _) (ℕ_discrete _ _))

  unfoldable pub legal_rows_decided : (slots : ℕ) (schedule : List ℕ) → Dec (LegalRows F slots schedule)
  unfolding LegalRows
  legal_rows_decided slots schedule =
      alike (λ h t p i l inside named. h t l p inside i named) (λ h t l p inside i named. h t p i l inside named)
      (all_below slots (λ t. all_below F.nodes (λ p. row_named_lem (get_or (named_in (road F) schedule t) p 0) (λ i.
      holds_decided (cells_left F schedule t) i p))))

  unfoldable pub meets_rows_decided : (schedule : List ℕ) → Dec (MeetsRows F schedule)
  unfolding MeetsRows
  meets_rows_decided schedule =
      all_below (length F.len) (λ i.
      some_below (suc (suc (get_or F.due i 0))) (λ t h. omega arith) (λ t. dec_le _ _)
      (λ t. delivered_decided (cells_left F schedule t) i))

  unfoldable pub row_schedule_decided : (slots : ℕ) (schedule : List ℕ) → Dec (RowSchedule F slots schedule)
  row_schedule_decided slots schedule =
      alike (λ h. record { entries = h.0; legal = h.1; meets = h.2 }) (λ s. (s.entries, s.legal, s.meets))
      (all_three (ℕ_discrete _ _) (legal_rows_decided slots schedule) (meets_rows_decided schedule))
