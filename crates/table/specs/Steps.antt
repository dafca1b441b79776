-- What single steps of the code ask. The judgement of a table speaks of Table.antt alone.
use Rattle.std.specs.Prelude.{ℕ, ◌<◌, ◌≡◌, List, length, get_or}
use Rattle.table.specs.declared.Row.{Row}

-- The row of four zeros, which is read past the end of a list.
abbrev pub none : Row
none = record { src = 0; dst = 0; len = 0; due = 0 }

-- Each row's source and destination lie on the ring, and there is a place for its links.
pub record Measuring (n : ℕ) (rows : List Row) (left : List ℕ) : Type 0 where
  pub left_each : length left ≡ length rows
  pub src_inside : (i : ℕ) → i < length rows → (get_or rows i none).src < n
  pub dst_inside : (i : ℕ) → i < length rows → (get_or rows i none).dst < n
