-- The figure that a bench engineer writes for a row: equation (1) of source document 000. It stands still while the row is under way, but for one correction when the row passes node 0.
use Rattle.std.specs.Prelude.{ℕ, cond, List, ltb, ℤ, pos, ◌-ℤ◌, length, get_or}
use Rattle.lists.specs.Lists.{build}
use Rattle.slack.specs.Slack.{Traffic}

-- N while a row is beyond its destination, with node 0 still ahead of it, and 0 afterwards; a full turn is beyond.
unfoldable pub turn_of : (n dst left : ℕ) → ℕ
turn_of n dst left = cond (ltb dst left) n 0

-- The due slot less the destination, less N while the row is beyond it: a signed number.
unfoldable pub figure_of : (n dst due left : ℕ) → ℤ
figure_of n dst due left = (pos due -ℤ pos dst) -ℤ pos (turn_of n dst left)

-- The figure of row i in the state left.
unfoldable pub figure : Traffic → List ℕ → ℕ → ℤ
figure T left i = figure_of T.nodes (get_or T.dst i 0) (get_or T.due i 0) (get_or left i 0)

-- The figures of all rows.
unfoldable pub figures_of : Traffic → List ℕ → List ℤ
figures_of T left = build (length left) (figure T left)
