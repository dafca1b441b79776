-- What document 01 says of the sending rule, shown of its definitions.
--     late_then .. then_not_late, late_lowest, late_none     which row is late
--     pick_least, pick_none, slot_names                      which row a node sends
--     place_inside, moved-.., run-.., state-..               where a row stands, how a slot changes the state
--     slot_length, plan_length                               how long a slot and a plan are
--     none_under_way, some_under_way                         when all are delivered
-- Slack appears here as natural numbers: row i has no more slack than row j where due i + left j ≤ due j + left i.
-- Assumes nothing.
use mathlib.Core.Path.{◌≡◌, refl, ◌∙◌, ap, sym}
use Prim.Native.Nat.{ℕ, zero, suc, ◌+◌, ◌-◌, ◌*◌, ◌≤◌, ◌<◌}
use native.Mathlib.Nat.{not-suc-le-zero}
use native.Mathlib.Omega.{arith}
use native.Mathlib.Decide.{ℕ_discrete, dec_lt}
use mathlib.Core.Bool.{Bool, true, false, cond, ◌&&◌, ◌||◌}
use mathlib.Core.List.{List, [], ◌∷◌}
use borrow.Author.Tests.{ltb-true, ltb-false, lt-ltb, eqb-true, eq-eqb, ne_eqb}
use lib.Dec.{ltb, eqb}
use lib.ListN.{length, get_or, length-append}
use Rattle.lists.proofs.Build.{length-build, get_or_build}
use Rattle.lists.proofs.Truth.{differ, both_hold, neither, not_both}
use Rattle.ring.specs.Ring.{standing}
use Rattle.ring.proofs.Turn.{on_ring}
use Rattle.slack.specs.Slack.{Traffic, OnRing, under_way, place, slack, is_late, late_from, late_row}
use Rattle.slack.specs.Slack.{better, pick, slot_of, moved, state_at, plan_of, any_under_way}
use Rattle.slack.proofs.Signed.{slack_below_zero, slack_compared}

-- a row's due slot, and its links to go
abbrev due : Traffic → ℕ → ℕ
due T i = get_or T.due i 0

abbrev links : List ℕ → ℕ → ℕ
links left i = get_or left i 0

-- ---- late

module _ (T : Traffic) (t : ℕ) (left : List ℕ) where
  -- the two tests that make a row late
  abbrev way : ℕ → Bool
  way i = ltb 0 (links left i)

  abbrev missed : ℕ → Bool
  missed i = ltb (due T i) (t + links left i)

  late_test : (i : ℕ) → is_late T t left i ≡ way i && missed i
  unfolding is_late under_way slack
  late_test i = ap (λ b. way i && b) (slack_below_zero (due T i) t (links left i))

  -- A late row is under way, and its due slot comes before it can be there, even without waiting.
  pub late_then : (i : ℕ) → is_late T t left i ≡ true → (0 < links left i) × (due T i < t + links left i)
  late_then i e =
      let (w, l) = both_hold (way i) (missed i) (sym (late_test i) ∙ e) in
      (ltb-true 0 (links left i) w, ltb-true (due T i) (t + links left i) l)

  -- A row that is not late and under way can still be there in time.
  pub not_late_then : (i : ℕ) → is_late T t left i ≡ false → 0 < links left i → t + links left i ≤ due T i
  not_late_then i e w =
      let in_time = not_both (way i) (missed i) (sym (late_test i) ∙ e) (lt-ltb 0 (links left i) w) in
      ltb-false (due T i) (t + links left i) in_time

  -- The same two, the other way round.
  pub then_late : (i : ℕ) → 0 < links left i → due T i < t + links left i → is_late T t left i ≡ true
  then_late i w l = late_test i ∙ rw (lt-ltb 0 (links left i) w, lt-ltb (due T i) (t + links left i) l)

  pub then_not_late : (i : ℕ) → (0 < links left i → t + links left i ≤ due T i) → is_late T t left i ≡ false
  then_not_late i h = go (is_late T t left i) refl
    where
      go : (b : Bool) → is_late T t left i ≡ b → is_late T t left i ≡ false
      go true e = absurd (omega (arith, late_then i e, h (late_then i e).0))
      go false e = e

  -- row r is the first that is late of the m rows from row i on
  record FirstLate (m i r : ℕ) : Type 0 where
    from : i ≤ r
    within : r < i + m
    late : is_late T t left r ≡ true
    before : (j : ℕ) → i ≤ j → j < r → is_late T t left j ≡ false

  late_from_lowest : (m i r : ℕ) → late_from T t left m i ≡ suc r → FirstLate m i r
  unfolding late_from
  late_from_lowest zero i r e = absurd (omega arith)
  late_from_lowest (suc m) i r e = go (is_late T t left i) refl e (late_from_lowest m (suc i) r)
    where
      go : (b : Bool) → is_late T t left i ≡ b → cond b (suc i) (late_from T t left m (suc i)) ≡ suc r
          → (late_from T t left m (suc i) ≡ suc r → FirstLate m (suc i) r) → FirstLate (suc m) i r
      go true f h more =
          let s : i ≡ r = omega arith in
          record {
            from = omega arith;
            within = omega arith;
            late = ap (is_late T t left) (sym s) ∙ f;
            before = λ j k l. absurd (omega arith);
          }
      go false f h more =
          record {
            from = omega (arith, (more h).from);
            within = omega (arith, (more h).within);
            late = (more h).late;
            before = λ j k l. at_or_after j k l (dec_lt i j);
          }
        where
          at_or_after : (j : ℕ) → i ≤ j → j < r → Dec (i < j) → is_late T t left j ≡ false
          at_or_after j k l (yes d) = (more h).before j d l
          at_or_after j k l (no d) = let s : j ≡ i = omega arith in ap (is_late T t left) s ∙ f

  -- none of the m rows from row i on is late
  abbrev NoneLate : (m i : ℕ) → Type 0
  NoneLate m i = (j : ℕ) → i ≤ j → j < i + m → is_late T t left j ≡ false

  late_from_none : (m i : ℕ) → late_from T t left m i ≡ 0 → NoneLate m i
  unfolding late_from
  late_from_none zero i e j k l = absurd (omega arith)
  late_from_none (suc m) i e j k l = go (is_late T t left i) refl e (late_from_none m (suc i)) (dec_lt i j)
    where
      go : (b : Bool) → is_late T t left i ≡ b → cond b (suc i) (late_from T t left m (suc i)) ≡ 0
          → (late_from T t left m (suc i) ≡ 0 → NoneLate m (suc i)) → Dec (i < j) → is_late T t left j ≡ false
      go true f h more d = absurd (omega arith)
      go false f h more (yes d) = more h j d (omega arith)
      go false f h more (no d) = let s : j ≡ i = omega arith in ap (is_late T t left) s ∙ f

  -- The row that stops a run is the lowest late one.
  pub record LowestLate (i : ℕ) : Type 0 where
    pub inside : i < length left
    pub late : is_late T t left i ≡ true
    pub before : (j : ℕ) → j < i → is_late T t left j ≡ false

  pub late_lowest : (i : ℕ) → late_row T t left ≡ suc i → LowestLate i
  unfolding late_row
  late_lowest i e =
      let h = late_from_lowest (length left) 0 i e in
      record { inside = omega (arith, h.within); late = h.late; before = λ j l. h.before j (omega arith) l }

  -- No row is named late just where no row is late.
  pub late_none : late_row T t left ≡ 0 → (i : ℕ) → i < length left → is_late T t left i ≡ false
  unfolding late_row
  late_none e i l = late_from_none (length left) 0 e i (omega arith) (omega arith)

  pub none_late : ((i : ℕ) → i < length left → is_late T t left i ≡ false) → late_row T t left ≡ 0
  none_late h = go (late_row T t left) refl
    where
      go : (r : ℕ) → late_row T t left ≡ r → late_row T t left ≡ 0
      go zero e = e
      go (suc r) e =
          let f = late_lowest r e in
          absurd (differ (sym (h r f.inside) ∙ f.late))

-- ---- the row that a node sends

-- Row j is under way and stands at node p.
pub record Stands (T : Traffic) (left : List ℕ) (p j : ℕ) : Type 0 where
  pub under_way_lem : 0 < links left j
  pub here : place T left j ≡ p

module _ (T : Traffic) (t : ℕ) (left : List ℕ) (p : ℕ) where
  -- row i has no more slack than row j, or less, or is found to have less
  abbrev NoMore : (i j : ℕ) → Type 0
  NoMore i j = due T i + links left j ≤ due T j + links left i

  abbrev Less : (i j : ℕ) → Type 0
  Less i j = due T i + links left j < due T j + links left i

  abbrev less : (i j : ℕ) → Bool
  less i j = ltb (due T i + links left j) (due T j + links left i)

  -- the test that a row must pass to be chosen: it stands there, and it beats the best so far, if there is one
  abbrev stands_and : (i : ℕ) → Bool → Bool
  stands_and i x = ltb 0 (links left i) && (eqb (place T left i) p && x)

  it_stands : (x : Bool) (i : ℕ) → stands_and i x ≡ true → Stands T left p i × (x ≡ true)
  it_stands x i e =
      let (w, r) = both_hold (ltb 0 (links left i)) (eqb (place T left i) p && x) e in
      let (h, b) = both_hold (eqb (place T left i) p) x r in
      (record { under_way_lem = ltb-true 0 (links left i) w; here = eqb-true (place T left i) p h }, b)

  it_does_not_beat : (x : Bool) (i : ℕ) → stands_and i x ≡ false → Stands T left p i → x ≡ false
  it_does_not_beat x i e s =
      let w = lt-ltb 0 (links left i) s.under_way_lem in
      let h = eq-eqb (place T left i) p s.here in
      not_both (eqb (place T left i) p) x (not_both (ltb 0 (links left i)) (eqb (place T left i) p && x) e w) h

  pub better_than_none : (i : ℕ) → better T t left p 0 i ≡ stands_and i true
  unfolding better under_way
  better_than_none i = refl

  pub better_than : (b i : ℕ) → better T t left p (suc b) i ≡ stands_and i (less i b)
  unfolding better under_way slack
  better_than b i =
      rw (ne_eqb (suc b) 0 (omega arith), slack_compared (due T i) (links left i) (due T b) (links left b) t)

  -- Row i is the choice among the first k: it stands at p, has the least slack of those that do,
  -- and is the lowest of those with as little.
  pub record Picked (k i : ℕ) : Type 0 where
    pub inside : i < k
    pub stands : Stands T left p i
    pub least : (j : ℕ) → j < k → Stands T left p j → NoMore i j
    pub lowest : (j : ℕ) → j < i → Stands T left p j → Less i j

  -- no row of the first k is under way at p
  Empty : ℕ → Type 0
  Empty k = (j : ℕ) → j < k → Stands T left p j → ⊥

  -- what the choice among the first k means, whichever it is
  Chosen : (k best : ℕ) → Type 0
  Chosen k zero = Empty k
  Chosen k (suc i) = Picked k i

  -- what holds of those before row k that stand there, and of row k if it does, holds of the first k + 1
  up_to : (P : ℕ → Type 0) (k : ℕ) → ((j : ℕ) → j < k → Stands T left p j → P j) → (Stands T left p k → P k)
      → (j : ℕ) → j < suc k → Stands T left p j → P j
  up_to P k before here j l s = go (dec_lt j k)
    where
      go : Dec (j < k) → P j
      go (yes d) = before j d s
      go (no d) = let e : j ≡ k = omega arith in rw e (here (rw e at s))

  first : (k : ℕ) → Empty k → Stands T left p k → Picked (suc k) k
  unfolding Empty
  first k none s =
      record {
        inside = omega arith;
        stands = s;
        least = up_to (NoMore k) k (λ j l r. absurd (none j l r)) (λ r. omega arith);
        lowest = λ j l r. absurd (none j l r);
      }

  over : (k b : ℕ) → Picked k b → Stands T left p k → Less k b → Picked (suc k) k
  over k b best s beats =
      record {
        inside = omega arith;
        stands = s;
        least = up_to (NoMore k) k (λ j l r. omega (arith, best.least j l r)) (λ r. omega arith);
        lowest = λ j l r. omega (arith, best.least j l r);
      }

  keeps : (k b : ℕ) → Picked k b → (Stands T left p k → NoMore b k) → Picked (suc k) b
  keeps k b best no_less =
      record {
        inside = omega (arith, best.inside);
        stands = best.stands;
        least = up_to (NoMore b) k best.least no_less;
        lowest = best.lowest;
      }

  next : (k best : ℕ) → Chosen k best → (x : Bool) → better T t left p best k ≡ x
      → Chosen (suc k) (cond x (suc k) best)
  unfolding Chosen Empty
  next k zero none true e = first k none (it_stands true k (sym (better_than_none k) ∙ e)).0
  next k zero none false e =
      let not-here : Stands T left p k → ⊥
      = λ s. differ (sym (it_does_not_beat true k (sym (better_than_none k) ∙ e) s)) in
      up_to (λ j. ⊥) k none not-here
  next k (suc b) best true e =
      let (s, l) = it_stands (less k b) k (sym (better_than b k) ∙ e) in
      over k b best s (ltb-true (due T k + links left b) (due T b + links left k) l)
  next k (suc b) best false e =
      keeps k b best (λ s.
      ltb-false (due T k + links left b) (due T b + links left k)
      (it_does_not_beat (less k b) k (sym (better_than b k) ∙ e) s))

  chosen : (k : ℕ) → Chosen k (pick T t left p k)
  unfolding pick Chosen Empty
  chosen zero = λ j l s. not-suc-le-zero l
  chosen (suc k) = next k (pick T t left p k) (chosen k) (better T t left p (pick T t left p k) k) refl

  -- A node that sends, sends the row of least slack that stands there, the lowest on a tie.
  pub pick_least : (k i : ℕ) → pick T t left p k ≡ suc i → Picked k i
  unfolding Chosen
  pick_least k i e = rw e at (chosen k)

  -- A node sends nothing only where no row under way stands there.
  pub pick_none : (k : ℕ) → pick T t left p k ≡ 0 → (j : ℕ) → j < k → Stands T left p j → ⊥
  unfolding Chosen Empty
  pick_none k e = rw e at (chosen k)

-- ---- where a row stands, and what a slot does

-- A row stands at a node of the ring.
pub place_inside : (T : Traffic) (left : List ℕ) → OnRing T left
    → (i : ℕ) → i < length left → place T left i < T.nodes
unfolding place standing
place_inside T left ring i l = on_ring T.nodes (links left i) (get_or T.dst i 0) (ring.dst_inside i l)

module _ (T : Traffic) (slot left : List ℕ) where
  -- what the link at which row i stands carries
  abbrev sent : ℕ → ℕ
  sent i = get_or slot (place T left i) 0

  abbrev after : ℕ → ℕ
  after i = links left i - cond (eqb (sent i) (suc i)) 1 0

  pub moved_length : length (moved T slot left) ≡ length left
  unfolding moved
  moved_length = length-build (length left) after

  -- A row has one link less to go where the link at which it stands carries it, and as many as before elsewhere.
  pub moved_entry : (i : ℕ) → i < length left → links (moved T slot left) i ≡ after i
  unfolding moved
  moved_entry i l = get_or_build (length left) after i 0 l

  pub moved_sent : (i : ℕ) → i < length left → sent i ≡ suc i → links (moved T slot left) i ≡ links left i - 1
  moved_sent i l e = moved_entry i l ∙ rw (eq-eqb (sent i) (suc i) e)

  pub moved_waits : (i : ℕ) → i < length left → (sent i ≡ suc i → ⊥) → links (moved T slot left) i ≡ links left i
  moved_waits i l e =
      let z : links left i - 0 ≡ links left i = omega arith in
      moved_entry i l ∙ rw (ne_eqb (sent i) (suc i) e, z)

  pub moved_less : (i : ℕ) → i < length left → links (moved T slot left) i ≤ links left i
  moved_less i l = rw (moved_entry i l) (omega arith)

  pub moved_by_one : (i : ℕ) → i < length left → links left i ≤ suc (links (moved T slot left) i)
  moved_by_one i l = rw (moved_entry i l) (go (eqb (sent i) (suc i)))
    where
      go : (b : Bool) → links left i ≤ suc (links left i - cond b 1 0)
      go true = omega arith
      go false = omega arith

  -- A row that has less to go than before was named on the link where it stood.
  pub moved_named : (i : ℕ) → i < length left → links (moved T slot left) i < links left i → sent i ≡ suc i
  moved_named i l less = go (ℕ_discrete (sent i) (suc i))
    where
      go : Dec (sent i ≡ suc i) → sent i ≡ suc i
      go (yes e) = e
      go (no e) = absurd (omega (arith, moved_waits i l e))

  -- A slot keeps the state a state of the ring.
  pub moved_on_ring : OnRing T left → OnRing T (moved T slot left)
  moved_on_ring ring =
      record {
        some_node = ring.some_node;
        dst_each = ring.dst_each ∙ sym moved_length;
        due_each = ring.due_each ∙ sym moved_length;
        dst_inside = λ i l. ring.dst_inside i (rw moved_length at l);
        left_inside = λ i l.
            let h = rw moved_length at l in
            omega (arith, moved_less i h, ring.left_inside i h);
      }

-- A run: each state is the one before it, changed by a slot, whoever named the slots.
module _ (T : Traffic) (state slot : ℕ → List ℕ) (next : (t : ℕ) → state (suc t) ≡ moved T (slot t) (state t)) where
  pub run_length : (t : ℕ) → length (state t) ≡ length (state 0)
  run_length zero = refl
  run_length (suc t) = ap length (next t) ∙ moved_length T (slot t) (state t) ∙ run_length t

  -- It stays on the ring.
  pub run_on_ring : OnRing T (state 0) → (t : ℕ) → OnRing T (state t)
  run_on_ring ring zero = ring
  run_on_ring ring (suc t) = rw (next t) (moved_on_ring T (slot t) (state t) (run_on_ring ring t))

  -- No row's links to go ever grow.
  pub run_less : (i : ℕ) → i < length (state 0) → (t s : ℕ) → t ≤ s → links (state s) i ≤ links (state t) i
  run_less i known t zero l = let e : t ≡ 0 = omega arith in rw e (omega arith)
  run_less i known t (suc s) l = go (dec_lt s t) (run_less i known t s)
    where
      go : Dec (s < t) → (t ≤ s → links (state s) i ≤ links (state t) i) → links (state (suc s)) i ≤ links (state t) i
      go (yes d) more = let e : t ≡ suc s = omega arith in rw e (omega arith)
      go (no d) more =
          let fewer = moved_less T (slot s) (state s) i (omega (arith, run_length s)) in
          rw (next s) (omega (arith, more (omega arith), fewer))

-- The rule's own run.
module _ (T : Traffic) (start : List ℕ) where
  pub state_length : (t : ℕ) → length (state_at T start t) ≡ length start
  unfolding state_at
  state_length = run_length T (state_at T start) (λ t. slot_of T t (state_at T start t)) (λ t. refl)

  pub state_on_ring : OnRing T start → (t : ℕ) → OnRing T (state_at T start t)
  unfolding state_at
  state_on_ring = run_on_ring T (state_at T start) (λ t. slot_of T t (state_at T start t)) (λ t. refl)

  pub state_less : (i : ℕ) → i < length start → (t s : ℕ) → t ≤ s
      → links (state_at T start s) i ≤ links (state_at T start t) i
  unfolding state_at
  state_less = run_less T (state_at T start) (λ t. slot_of T t (state_at T start t)) (λ t. refl)

-- The rule's slot has an entry for each link, the row that the node there sends.
module _ (T : Traffic) (t : ℕ) (left : List ℕ) where
  pub slot_length : length (slot_of T t left) ≡ T.nodes
  unfolding slot_of
  slot_length = length-build T.nodes (λ p. pick T t left p (length left))

  pub slot_entry : (p : ℕ) → p < T.nodes → get_or (slot_of T t left) p 0 ≡ pick T t left p (length left)
  unfolding slot_of
  slot_entry p l = get_or_build T.nodes (λ p. pick T t left p (length left)) p 0 l

  -- A row that it names on a link is the one that the node there is to send.
  pub slot_names : (p i : ℕ) → p < T.nodes → get_or (slot_of T t left) p 0 ≡ suc i → Picked T t left p (length left) i
  slot_names p i l e = pick_least T t left p (length left) i (sym (slot_entry p l) ∙ e)

-- A plan has an entry for each link in each slot.
pub plan_length : (T : Traffic) (start : List ℕ) (t : ℕ) → length (plan_of T start t) ≡ t * T.nodes
unfolding plan_of
plan_length T start zero = omega arith
plan_length T start (suc t) =
    let left = state_at T start t in
    length-append (plan_of T start t) (slot_of T t left) ∙ omega (arith, plan_length T start t, slot_length T t left)

-- ---- all delivered

-- Where nothing is under way, no row has links to go.
pub none_under_way : (left : List ℕ) → any_under_way left ≡ false → (i : ℕ) → links left i ≡ 0
unfolding any_under_way
none_under_way [] e i = refl
none_under_way (l ∷ ls) e zero =
    let h = neither (ltb 0 l) (any_under_way ls) e in
    omega (arith, ltb-false 0 l h.0)
none_under_way (l ∷ ls) e (suc i) = none_under_way ls (neither (ltb 0 l) (any_under_way ls) e).1 i

-- Where something is under way, some row is.
pub some_under_way : (left : List ℕ) → any_under_way left ≡ true → (i : ℕ) × (i < length left) × (0 < links left i)
unfolding any_under_way
some_under_way [] e = absurd (differ e)
some_under_way (l ∷ ls) e = go (ltb 0 l) refl e (some_under_way ls)
  where
    go : (b : Bool) → ltb 0 l ≡ b → b || any_under_way ls ≡ true
        → (any_under_way ls ≡ true → (i : ℕ) × (i < length ls) × (0 < links ls i))
        → (i : ℕ) × (i < length (l ∷ ls)) × (0 < links (l ∷ ls) i)
    go true f h more = (0, omega arith, ltb-true 0 l f)
    go false f h more = (suc (more h).0, omega (arith, (more h).1), (more h).2)
