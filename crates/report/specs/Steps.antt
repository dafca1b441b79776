-- What single steps of the code ask and give. The promise of `respond` speaks of Report.antt alone; nothing here has to
-- be believed.
use Rattle.std.specs.Prelude.{ℕ, ◌*◌, ◌/◌, ◌≤◌, ◌≡◌, List, length}

-- A plan of whole slots with n entries each, as an accepted table has.
pub record Slotted (n : ℕ) (plan : List ℕ) : Type 0 where
  pub some : 1 ≤ n
  pub whole : length plan ≡ n * (length plan / n)
