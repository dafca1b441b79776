-- What an inner function asks of an area, which no promise of an entry point mentions.
use Rattle.std.specs.Prelude.{ℕ, suc}
use Rattle.table.specs.Table.{most_rows}

-- How many of the rows that an area gives are listed at most: one more than a table may have, so that too many are seen.
abbrev pub most_listed : ℕ
most_listed = suc most_rows
