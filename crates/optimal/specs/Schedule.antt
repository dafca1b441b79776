-- A legal schedule of messages of one cell, in the words of document 01, for any list of entries; the sending rule is
-- not mentioned. The planner's promise reads over rows of several cells (`cells/specs/Rows.antt`), and is led back to
-- this.
use Rattle.std.specs.Prelude.{ℕ, zero, suc, ◌+◌, ◌*◌, ◌<◌, ◌≤◌, ◌≡◌, cond, List, [], ◌∷◌, ltb, length, get_or, take, drop}
use Rattle.slack.specs.Slack.{Traffic, place, moved}

-- What a schedule names for the links in slot t, entry t × N + p for link p.
unfoldable pub named_in : Traffic → List ℕ → ℕ → List ℕ
named_in T schedule t = take T.nodes (drop (t * T.nodes) schedule)

-- The links that each row has still to go at instant t: at instant 0 it stands at its source, and being named moves it one node on.
unfoldable pub left_at : Traffic → (start schedule : List ℕ) → ℕ → List ℕ
left_at T start schedule zero = start
left_at T start schedule (suc t) = moved T (named_in T schedule t) (left_at T start schedule t)

-- Every row named for link p in slot t is a row of the table that is not yet delivered at instant t and stands at p.
unfoldable pub Legal : Traffic → (start : List ℕ) → (slots : ℕ) → (schedule : List ℕ) → Type 0
Legal T start slots schedule =
    (t p i : ℕ) → t < slots → p < T.nodes → get_or (named_in T schedule t) p 0 ≡ suc i →
    (i < length start) × (0 < get_or (left_at T start schedule t) i 0) × (place T (left_at T start schedule t) i ≡ p)

-- Every row stands at its destination at some instant no later than its due slot.
unfoldable pub Meets : Traffic → (start schedule : List ℕ) → Type 0
Meets T start schedule =
    (i : ℕ) → i < length start → (t : ℕ) × (t ≤ get_or T.due i 0) × (get_or (left_at T start schedule t) i 0 ≡ 0)

-- An entry for each link in each of `slots` slots, legal, and every row there in time.
pub record Schedule (T : Traffic) (start : List ℕ) (slots : ℕ) (schedule : List ℕ) : Type 0 where
  pub entries : length schedule ≡ slots * T.nodes
  pub legal : Legal T start slots schedule
  pub meets : Meets T start schedule

-- The entries of a schedule that name a row.
unfoldable pub busy : List ℕ → ℕ
busy [] = 0
busy (entry ∷ rest) = cond (ltb 0 entry) 1 0 + busy rest
