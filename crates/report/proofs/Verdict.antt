-- The three lines of a refusal, one behind the other, and what follows them where a table is accepted.
-- Assumes nothing.
use mathlib.Core.Path.{◌≡◌, refl}
use mathlib.Core.List.{List, ◌++◌}
use Prim.Native.Nat.{ℕ, ◌+◌}
use lib.ListN.{length}
use Rattle.table.specs.declared.Refusal.{Refusal}
use Rattle.table.specs.Table.{refuse}
use Rattle.text.specs.Text.{line}
use Rattle.text.specs.Steps.{pasted}
use Rattle.report.specs.Report.{answer_key, row_key, slot_key, last_key, verdict_lines, arrive_lines, send_lines}
use Rattle.report.specs.Report.{accepted_text}
use Rattle.text.specs.Steps.{Put, Room}
use Rattle.text.proofs.Putting.{Putting, begun, fits, rest_room, put_on, one_put, put_last}

module _ (area : List ℕ) (r : Refusal) (room : Room area 0 (verdict_lines r)) where
  abbrev a : List ℕ
  a = line answer_key r.number

  abbrev b : List ℕ
  b = line row_key r.row

  abbrev d : List ℕ
  d = line slot_key r.slot.0

  start : Putting area 0 (verdict_lines r) area 0 (a ++ (b ++ d))
  unfolding verdict_lines
  start = begun area 0 (verdict_lines r) (a ++ (b ++ d)) room refl

  pub answer_fits : Room area 0 a
  answer_fits = fits start a (b ++ d) refl

  module _ {p₁ : ℕ} {area₁ : List ℕ} (put₁ : (p₁ ≡ 0 + length a) × (area₁ ≡ pasted area 0 a)) where
    one : Putting area 0 (verdict_lines r) area₁ p₁ (b ++ d)
    one = put_on start a (b ++ d) refl (one_put put₁)

    pub row_fits : Room area₁ p₁ b
    row_fits = fits one b d refl

    module _ {p₂ : ℕ} {area₂ : List ℕ} (put₂ : (p₂ ≡ p₁ + length b) × (area₂ ≡ pasted area₁ p₁ b)) where
      two : Putting area 0 (verdict_lines r) area₂ p₂ d
      two = put_on one b d refl (one_put put₂)

      pub slot_fits : Room area₂ p₂ d
      slot_fits = rest_room two

      pub verdict_put : {p₃ : ℕ} {area₃ : List ℕ} → (p₃ ≡ p₂ + length d) × (area₃ ≡ pasted area₂ p₂ d)
          → Put area 0 (verdict_lines r) p₃ area₃
      verdict_put put₃ = put_last two (one_put put₃)

-- What is printed for an accepted table has room in the area.
pub record Printing (area : List ℕ) (last : ℕ) (arrivals : List ℕ) (n slots : ℕ) (plan : List ℕ) : Type 0 where
  pub room : Room area 0 (accepted_text last arrivals n slots plan)

module _ {area : List ℕ} {last : ℕ} {arrivals : List ℕ} {n slots : ℕ} {plan : List ℕ}
    (k : Printing area last arrivals n slots plan) where
  abbrev head : List ℕ
  head = verdict_lines (refuse 0 0 0)

  abbrev stamp : List ℕ
  stamp = line last_key last

  abbrev arrives : List ℕ
  arrives = arrive_lines arrivals

  abbrev sends : List ℕ
  sends = send_lines n slots plan

  abbrev whole : List ℕ
  whole = accepted_text last arrivals n slots plan

  start' : Putting area 0 whole area 0 (head ++ (stamp ++ (arrives ++ sends)))
  unfolding accepted_text
  start' = begun area 0 whole (head ++ (stamp ++ (arrives ++ sends))) k.room refl

  pub head_fits : Room area 0 head
  head_fits = fits start' head (stamp ++ (arrives ++ sends)) refl

  module _ {p₁ : ℕ} {area₁ : List ℕ} (put₁ : Put area 0 head p₁ area₁) where
    one' : Putting area 0 whole area₁ p₁ (stamp ++ (arrives ++ sends))
    one' = put_on start' head (stamp ++ (arrives ++ sends)) refl put₁

    pub last_fits : Room area₁ p₁ stamp
    last_fits = fits one' stamp (arrives ++ sends) refl

    module _ {p₂ : ℕ} {area₂ : List ℕ} (put₂ : (p₂ ≡ p₁ + length stamp) × (area₂ ≡ pasted area₁ p₁ stamp)) where
      two' : Putting area 0 whole area₂ p₂ (arrives ++ sends)
      two' = put_on one' stamp (arrives ++ sends) refl (one_put put₂)

      pub arrives_fit : Room area₂ p₂ arrives
      arrives_fit = fits two' arrives sends refl

      module _ {p₃ : ℕ} {area₃ : List ℕ} (put₃ : Put area₂ p₂ arrives p₃ area₃) where
        three' : Putting area 0 whole area₃ p₃ sends
        three' = put_on two' arrives sends refl put₃

        pub sends_fit : Room area₃ p₃ sends
        sends_fit = rest_room three'

        pub accepted_put : {p₄ : ℕ} {area₄ : List ℕ} → Put area₃ p₃ sends p₄ area₄ → Put area 0 whole p₄ area₄
        accepted_put put₄ = put_last three' put₄
