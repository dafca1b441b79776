-- Why least slack first is best, by counting.
-- Look at one link p and a stretch of slots that ends before slot b: the rows that cannot be at p for k more slots,
-- and must have crossed it before b to be in time, must not be more than the slots from then to b. That is `Window`.
--     window_before      any slot after which it holds began with it
--     window_after       a slot of least slack first keeps it
--     window_on_time     and where it holds no row is late
-- States are functions from rows to links to go. What the ring must supply is the record `Way`; an open chain could
-- supply it too. Assumes nothing.
use mathlib.Core.Path.{◌≡◌, ◌∙◌, sym}
use Prim.Native.Nat.{ℕ, zero, suc, ◌+◌, ◌-◌, ◌≤◌, ◌<◌}
use native.Mathlib.Omega.{arith, by_contra}
use native.Mathlib.Decide.{dec_le, dec_lt}
use Rattle.optimal.proofs.Count.{
  Decided,
  count,
  find,
  both_decided,
  count_within,
  count_lacking,
  count_but_one,
  count_some,
  count_none,
}

-- The way that rows go. Row i with l links to go, at most `reach i`, stands at `node i l`; `g p i` is how many links
-- it has to go where it stands at p.
pub record Way (rows nodes : ℕ) (reach : ℕ → ℕ) (node g : ℕ → ℕ → ℕ) : Type 0 where
  -- who stands at a node has a link to go
  pub positive : (p i : ℕ) → p < nodes → i < rows → 0 < g p i
  -- a row under way stands at a node
  pub inside : (i l : ℕ) → i < rows → 0 < l → l ≤ reach i → node i l < nodes
  -- and has as many links to go as one has from there
  pub away : (i l : ℕ) → i < rows → 0 < l → l ≤ reach i → g (node i l) i ≡ l
  -- only at p has it as many as from p
  pub only : (p i : ℕ) → p < nodes → i < rows → g p i ≤ reach i → node i (g p i) ≡ p
  -- all rows come to p the same way: where q is k links before p for row x, it is so for each row that has as far to go
  pub one_way : (p q k x i : ℕ) → p < nodes → q < nodes → x < rows → i < rows
      → g q x ≡ k + g p x → g q x ≤ reach x → k + g p i ≤ reach i → g q i ≡ k + g p i

module _ (rows nodes : ℕ) (reach : ℕ → ℕ) (node g : ℕ → ℕ → ℕ) (due : ℕ → ℕ) where
  -- Row i has still to cross link p, not before k slots from now, and in a slot before b if it is to be in time.
  abbrev pub Must : (left : ℕ → ℕ) (p k b i : ℕ) → Type 0
  Must left p k b i = (k + g p i ≤ left i) × (due i < b + g p i)

  pub must : (left : ℕ → ℕ) (p k b : ℕ) → Decided (Must left p k b)
  must left p k b i = both_decided (dec_le (k + g p i) (left i)) (dec_lt (due i) (b + g p i))

  -- At instant t, for every link and stretch of slots, no more rows must cross than there are slots.
  abbrev pub Window : ℕ → (ℕ → ℕ) → Type 0
  Window t left = (p k b : ℕ) → p < nodes → count rows (must left p k b) ≤ b - (t + k)

  -- No row has further to go than its way reaches.
  abbrev pub Near : (ℕ → ℕ) → Type 0
  Near left = (i : ℕ) → i < rows → left i ≤ reach i

  -- What one slot does to a state: each row has as many links to go as before or one less, and no two rows cross one
  -- link.
  pub record Step (left after : ℕ → ℕ) : Type 0 where
    pub no_more : (i : ℕ) → i < rows → after i ≤ left i
    pub one_less : (i : ℕ) → i < rows → left i ≤ suc (after i)
    pub single : (i j : ℕ) → i < rows → j < rows → after i < left i → after j < left j
        → node i (left i) ≡ node j (left j) → i ≡ j

  -- Row y crosses the link at which row x waits, and has no more slack.
  pub record Before (left after : ℕ → ℕ) (x y : ℕ) : Type 0 where
    pub known : y < rows
    pub same_node : node y (left y) ≡ node x (left x)
    pub moves : after y < left y
    pub no_more_slack : due y + left x ≤ due x + left y

  -- A slot of least slack first: a row waits only for one with no more slack.
  abbrev pub LeastFirst : (left after : ℕ → ℕ) → Type 0
  LeastFirst left after = (x : ℕ) → x < rows → 0 < left x → left x ≤ after x → (y : ℕ) × Before left after x y

  module _ (way : Way rows nodes reach node g) where
    -- Where the window holds, every row under way can be there in time: else it alone would overfill the link at
    -- which it stands.
    pub window_on_time : (t : ℕ) (left : ℕ → ℕ) → Near left → Window t left
        → (i : ℕ) → i < rows → 0 < left i → t + left i ≤ due i
    window_on_time t left near window i known links = by_contra (t + left i) (due i) (λ late. overfull late)
      where
        p : ℕ
        p = node i (left i)

        overfull : due i < t + left i → ⊥
        overfull late =
            let here : g p i ≡ left i = way.away i (left i) known links (near i known) in
            let at-node : p < nodes = way.inside i (left i) known links (near i known) in
            let in-it : Must left p 0 t i = omega arith in
            omega (arith, window p 0 t at-node, count_some (must left p 0 t) rows i known in-it)

    -- The window held before a slot, legal or not, after which it holds, where what the slot delivered was due no
    -- earlier.
    pub window_before : (t : ℕ) (left after : ℕ → ℕ) → Near left → Step left after → Window (suc t) after
        → ((i : ℕ) → i < rows → 0 < left i → after i ≡ 0 → t < due i) → Window t left
    window_before t left after near step window delivered = go
      where
        still_near : Near after
        still_near j l = omega (arith, near j l, step.no_more j l)

        -- who is in time after the slot was so before it
        in_time : (i : ℕ) → i < rows → 0 < left i → t + left i ≤ due i
        in_time i known links = still (dec_lt 0 (after i))
          where
            still : Dec (0 < after i) → t + left i ≤ due i
            still (yes d) =
                omega (arith, step.one_less i known, window_on_time (suc t) after still_near window i known d)
            still (no d) = omega (arith, step.one_less i known, delivered i known links (omega arith))

        -- of the rows that must cross p, only the one that did is no longer among them
        crossed : (p b i : ℕ) → p < nodes → i < rows → Must left p 0 b i → (Must after p 0 b i → ⊥)
            → (g p i ≡ left i) × (after i < left i)
        crossed p b i inside known m gone = go (dec_le (g p i) (after i))
          where
            go : Dec (g p i ≤ after i) → (g p i ≡ left i) × (after i < left i)
            go (yes d) = absurd (gone (omega arith))
            go (no d) = omega (arith, step.one_less i known)

        at : (p i : ℕ) → p < nodes → i < rows → g p i ≡ left i → node i (left i) ≡ p
        at p i inside known e = rw (sym e) (way.only p i inside known (omega (arith, near i known)))

        go : Window t left
        go p zero b inside = early (dec_lt t b)
          where
            early : Dec (t < b) → count rows (must left p 0 b) ≤ b - (t + 0)
            early (yes d) =
                omega (
                  arith,
                  window p 0 b inside,
                  count_but_one (must left p 0 b) (must after p 0 b) rows (λ i j l n m o u v.
                      let a = crossed p b i inside l m u in
                      let c = crossed p b j inside n o v in
                      step.single i j l n a.1 c.1 (at p i inside l a.0 ∙ sym (at p j inside n c.0))),
                )
            early (no d) =
                omega (
                  arith,
                  count_none (must left p 0 b) rows (λ i l m.
                      let links = way.positive p i inside l in
                      omega (arith, in_time i l (omega arith))),
                )
        go p (suc k) b inside =
            omega (
              arith,
              window p k b inside,
              count_within (must left p (suc k) b) (must after p k b) rows (λ i l m. omega (arith, step.one_less i l)),
            )

    -- A slot of least slack first keeps the window.
    pub window_after : (t : ℕ) (left after : ℕ → ℕ) → Near left → Step left after → LeastFirst left after
        → Window t left → Window (suc t) after
    window_after t left after near step least window p k b inside =
        go (find rows (λ i. both_decided (must after p k b i) (dec_le (left i) (k + g p i))))
      where
        -- what is to be shown of p, k and b
        Enough : Type 0
        Enough = count rows (must after p k b) ≤ b - (suc t + k)

        -- some row x of the set waited, k links before p, for a row y that is not in the set
        waited : (x : ℕ) → x < rows → Must after p k b x → left x ≤ k + g p x → Enough
        waited x known m far = compare (least x known links (omega arith))
          where
            -- the node at which x waited: k links before p, and so for every row that has as far to go
            q : ℕ
            q = node x (left x)

            links : 0 < left x
            links = omega (arith, way.positive p x inside known, step.no_more x known)

            stands : q < nodes
            stands = way.inside x (left x) known links (near x known)

            from_q : g q x ≡ left x
            from_q = way.away x (left x) known links (near x known)

            through : (i : ℕ) → i < rows → k + g p i ≤ after i → g q i ≡ k + g p i
            through i l h =
                let before-p : g q x ≡ k + g p x = omega (arith, from_q, step.no_more x known) in
                way.one_way p q k x i inside stands known l before-p (omega (arith, from_q, near x known))
                (omega (arith, near i l, step.no_more i l))

            -- the set lies within the window at q that ends k slots earlier; y is in that window and not in the set
            compare : (y : ℕ) × Before left after x y → Enough
            compare (y, first) =
                omega (
                  arith,
                  window q 0 (b - k) stands,
                  count_lacking (must after p k b) (must left q 0 (b - k)) rows y within first.known there gone,
                )
              where
                y_links : 0 < left y
                y_links = omega (arith, first.moves)

                y_from_q : g q y ≡ left y
                y_from_q =
                    rw first.same_node at (way.away y (left y) first.known y_links (near y first.known))

                within : (i : ℕ) → i < rows → Must after p k b i → Must left q 0 (b - k) i
                within i l h = omega (arith, through i l h.0, step.no_more i l)

                there : Must left q 0 (b - k) y
                there = omega (arith, y_from_q, first.no_more_slack, step.no_more x known)

                gone : Must after p k b y → ⊥
                gone h = omega (arith, y_from_q, through y first.known h.0, first.moves)

        go : Dec ((x : ℕ) × (x < rows) × (Must after p k b x × (left x ≤ k + g p x))) → Enough
        go (yes h) = waited h.0 h.1 h.2.0 h.2.1
        go (no h) =
            omega (
              arith,
              window p (suc k) b inside,
              count_within (must after p k b) (must left p (suc k) b) rows (λ i l m. all_moved i l m),
            )
          where
            all_moved : (i : ℕ) → i < rows → Must after p k b i → Must left p (suc k) b i
            all_moved i l m = (by_contra (suc k + g p i) (left i) (λ f. h (i, l, (m, omega arith))), m.1)
