-- Bytes written piece by piece, one behind the other.
--     begun, put_on, put_last, all_put      nothing written yet, one more piece, the last one, and all of them
--     fits, rest_room, as_long              the next piece has room, and the area keeps its length
-- Assumes nothing.
use mathlib.Core.Path.{◌≡◌, refl, ◌∙◌, ap, sym}
use mathlib.Core.List.{List, [], ◌++◌, append_assoc, append-nil}
use Prim.Native.Nat.{ℕ, ◌+◌, ◌≤◌}
use native.Mathlib.Omega.{arith}
use lib.ListN.{length, length-append}
use Rattle.text.specs.Steps.{pasted, Put, Room}
use Rattle.text.proofs.Pasting.{pasted_none, pasted_length, pasted_more}

-- Of the bytes `whole`, those before `rest` stand at their place in the area.
pub record Putting (area₀ : List ℕ) (from : ℕ) (whole area : List ℕ) (at : ℕ) (rest : List ℕ) : Type 0 where
  pub front : List ℕ
  pub room : Room area₀ from whole
  pub parts : front ++ rest ≡ whole
  pub place : at ≡ from + length front
  pub so : area ≡ pasted area₀ from front

pub begun : (area₀ : List ℕ) (from : ℕ) (whole rest : List ℕ) → Room area₀ from whole → whole ≡ rest
    → Putting area₀ from whole area₀ from rest
begun area₀ from whole rest room e =
    record { front = []; room = room; parts = sym e; place = omega arith; so = pasted_none area₀ from }

module _ {area₀ : List ℕ} {from : ℕ} {whole area : List ℕ} {at : ℕ} {rest : List ℕ}
    (k : Putting area₀ from whole area at rest) where
  front_fits : from + length k.front ≤ length area₀
  front_fits = omega (arith, ap length (sym k.parts), length-append k.front rest, k.room)

  pub as_long : length area ≡ length area₀
  as_long = ap length k.so ∙ pasted_length area₀ from k.front front_fits

  pub rest_room : Room area at rest
  rest_room = omega (arith, as_long, ap length (sym k.parts), length-append k.front rest, k.room, k.place)

  module _ (piece more : List ℕ) (e : rest ≡ piece ++ more) where
    pub fits : Room area at piece
    fits = omega (arith, rest_room, ap length e, length-append piece more)

    pub put_on : {next : ℕ} {area' : List ℕ} → Put area at piece next area' → Putting area₀ from whole area' next more
    put_on p =
        record {
          front = k.front ++ piece;
          room = k.room;
          parts = append_assoc k.front piece more ∙ ap (λ (l : List ℕ). k.front ++ l) (sym e) ∙ k.parts;
          place = omega (arith, p.place, k.place, length-append k.front piece);
          so = p.so ∙ rw (k.so, k.place) (pasted_more area₀ from k.front front_fits piece);
        }

-- what the writer of one line or item gives
pub one_put : {area : List ℕ} {at : ℕ} {bytes : List ℕ} {next : ℕ} {area' : List ℕ}
    → (next ≡ at + length bytes) × (area' ≡ pasted area at bytes) → Put area at bytes next area'
one_put e = record { place = e.0; so = e.1 }

-- nothing is left to write
pub all_put : {area₀ : List ℕ} {from : ℕ} {whole area : List ℕ} {at : ℕ} {rest : List ℕ}
    → Putting area₀ from whole area at rest → rest ≡ [] → Put area₀ from whole at area
all_put {area₀} {from} {whole} {area} {at} {rest} k e =
    let same : k.front ≡ whole = sym (append-nil k.front) ∙ ap (λ (l : List ℕ). k.front ++ l) (sym e) ∙ k.parts in
    record { place = k.place ∙ ap (λ (l : List ℕ). from + length l) same; so = k.so ∙ ap (pasted area₀ from) same }

-- the piece that is left is the last one
pub put_last : {area₀ : List ℕ} {from : ℕ} {whole area : List ℕ} {at : ℕ} {rest : List ℕ}
    → Putting area₀ from whole area at rest → {next : ℕ} {area' : List ℕ} → Put area at rest next area'
    → Put area₀ from whole next area'
put_last {rest = rest} k p = all_put (put_on k rest [] (sym (append-nil rest)) p) refl
