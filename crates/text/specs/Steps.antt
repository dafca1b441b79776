-- What the inner functions of the reader and the writer say: digits, and bytes at a place of an area.
use Rattle.std.specs.Prelude.{ℕ, zero, suc, ◌+◌, ◌/◌, ◌≤◌, ◌≡◌, List, ◌++◌, length, take, drop}

-- What is left of a number when its last k digits are taken off.
unfoldable pub tenth : ℕ → ℕ → ℕ
tenth zero v = v
tenth (suc k) v = tenth k (v / 10)

-- An area with some bytes written at a place.
unfoldable pub pasted : (area : List ℕ) (at : ℕ) (bytes : List ℕ) → List ℕ
pasted area at bytes = (take at area ++ bytes) ++ drop (at + length bytes) area

-- Some bytes were written at a place, and the place behind them returned.
pub record Put (area : List ℕ) (at : ℕ) (bytes : List ℕ) (next : ℕ) (area' : List ℕ) : Type 0 where
  pub place : next ≡ at + length bytes
  pub so : area' ≡ pasted area at bytes

-- There is room for some bytes at a place.
abbrev pub Room : (area : List ℕ) (at : ℕ) (bytes : List ℕ) → Type 0
Room area at bytes = at + length bytes ≤ length area
