-- The laws of a list of cells: its destinations, due slots and row numbers are as many as the cells, and each is its cell's.
--     dsts_long, dues_long, owners_long     how many they are
--     dst_at, due_at, owner_at              the entry at a place
-- Assumes nothing.
use mathlib.Core.Path.{◌≡◌}
use mathlib.Core.List.{List}
use Prim.Native.Nat.{ℕ}
use lib.ListN.{length, get_or, length-map, get_or-map}
use Rattle.slack.specs.declared.Cell.{Cell}
use Rattle.slack.specs.Slack.{dsts_in, dues_in, owners_in}

-- What a list of cells is taken to hold behind its end.
abbrev pub no_cell : Cell
no_cell = record { dst = record { 0 = 0 }; due = record { 0 = 0 }; row = 0; place = 0 }

module _ (cells : List Cell) where
  pub dsts_long : length (dsts_in cells) ≡ length cells
  unfolding dsts_in
  dsts_long = length-map cells _

  pub dues_long : length (dues_in cells) ≡ length cells
  unfolding dues_in
  dues_long = length-map cells _

  pub owners_long : length (owners_in cells) ≡ length cells
  unfolding owners_in
  owners_long = length-map cells _

  pub dst_at : (i : ℕ) → get_or (dsts_in cells) i 0 ≡ (get_or cells i no_cell).dst.0
  unfolding dsts_in
  dst_at i = get_or-map _ cells i no_cell

  pub due_at : (i : ℕ) → get_or (dues_in cells) i 0 ≡ (get_or cells i no_cell).due.0
  unfolding dues_in
  due_at i = get_or-map _ cells i no_cell

  pub owner_at : (i : ℕ) → get_or (owners_in cells) i 0 ≡ (get_or cells i no_cell).row
  unfolding owners_in
  owner_at i = get_or-map _ cells i no_cell
