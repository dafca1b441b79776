-- The figure of equation (1): it compares rows as slack does, and stands still but for one correction.
--     figure_is           the figure is a difference of natural numbers
--     figure_and_node     links to go, node, destination and turn: one sum
--     full_turn_told      a full turn is told from none
--     slack_by_figure     slack is the figure and the node, less the instant
--     same_order          at one node two rows compare by figure as they do by slack: the paper's Theorem 1
--     corrected_past_0, kept_elsewhere     what a move does to the figure
--     figure_at, figures_long     the list of figures
--     same_order_at, figure_next     the two laws above of the rows of a state, and of a slot of the rule
--     only_past_0, corrected_once     a figure changes only on the step from node N - 1 to node 0, and once in a run
-- Assumes nothing.
use mathlib.Core.Path.{◌≡◌, refl, ◌∙◌, ap, sym}
use mathlib.Core.Bool.{Bool, true, false, cond}
use mathlib.Core.List.{List}
use Prim.Native.Nat.{ℕ, suc, ◌+◌, ◌-◌, ◌≤◌, ◌<◌}
use native.Mathlib.Omega.{arith}
use borrow.Author.Tests.{lt-ltb, le-ltb, ltb-true, ltb-false, eqb-true, eqb-false}
use lib.Dec.{eqb, ltb}
use lib.IntN.{ℤ, pos, negsuc, ◌+ℤ◌, ◌-ℤ◌, sub_ℕ}
use lib.Signed.{lt_z}
use lib.ListN.{length, get_or}
use Rattle.lists.proofs.Build.{length-build, get_or_build}
use Rattle.ring.specs.Ring.{standing}
use Rattle.ring.proofs.Turn.{short_of_zero, past_zero}
use Rattle.slack.specs.Slack.{Traffic, OnRing, place, slack_of, slack, slot_of, moved, state_at}
use Rattle.slack.specs.Figure.{turn_of, figure_of, figure, figures_of}
use Rattle.slack.proofs.Signed.{below, above, slack_is, slack_compared, differences_compared, less_of_difference}
use Rattle.slack.proofs.Rule.{Stands, slot_names, place_inside, moved_sent, moved_waits}
use Rattle.slack.proofs.Rule.{state_length, state_on_ring, state_less}

-- The figure is the due slot less the sum of the destination and the turn.
pub figure_is : (n dst due left : ℕ) → figure_of n dst due left ≡ sub_ℕ due (dst + turn_of n dst left)
unfolding figure_of slack_of
figure_is n dst due left = slack_is due dst (turn_of n dst left)

-- A row that has `left` links to go stands where these lead to its destination, a turn on where node 0 lies between.
pub figure_and_node : (n dst left : ℕ) → dst < n → left ≤ n → left + standing n dst left ≡ dst + turn_of n dst left
unfolding standing turn_of
figure_and_node n dst left inside most = go (ltb dst left) refl
  where
    go : (b : Bool) → ltb dst left ≡ b → left + standing n dst left ≡ dst + cond b n 0
    go true e =
        let beyond : dst < left = ltb-true dst left e in
        omega (arith, past_zero n left dst beyond most)
    go false e =
        let short : left ≤ dst = ltb-false dst left e in
        omega (arith, short_of_zero n left dst short inside)

-- A full turn is told from none: with N links to go the figure is N lower than with none.
pub full_turn_told : (n dst due : ℕ) → dst < n → figure_of n dst due n ≡ figure_of n dst due 0 -ℤ pos n
unfolding turn_of
full_turn_told n dst due inside =
    let none : dst + turn_of n dst 0 ≡ dst = rw (le-ltb dst 0 (omega arith)) (omega arith) in
    let turn : dst + turn_of n dst n ≡ dst + n = rw (lt-ltb dst n inside) in
    figure_is n dst due n ∙ ap (sub_ℕ due) turn
    ∙ sym (ap (λ z. z -ℤ pos n) (figure_is n dst due 0 ∙ ap (sub_ℕ due) none) ∙ less_of_difference due dst n)

-- both parts of a difference raised alike, and the first part alone
both_raised : (a b c : ℕ) → sub_ℕ (a + c) (b + c) ≡ sub_ℕ a b
both_raised a b c = go (ltb a b) refl
  where
    go : (x : Bool) → ltb a b ≡ x → sub_ℕ (a + c) (b + c) ≡ sub_ℕ a b
    go true e =
        let l : a < b = ltb-true a b e in
        let s : b + c - suc (a + c) ≡ b - suc a = omega arith in
        below (a + c) (b + c) (omega arith) ∙ ap negsuc s ∙ sym (below a b l)
    go false e =
        let l : b ≤ a = ltb-false a b e in
        let s : a + c - (b + c) ≡ a - b = omega arith in
        above (a + c) (b + c) (omega arith) ∙ ap pos s ∙ sym (above a b l)

raised : (a b c : ℕ) → sub_ℕ a b +ℤ pos c ≡ sub_ℕ (a + c) b
raised a b c = go (ltb a b) refl
  where
    go : (x : Bool) → ltb a b ≡ x → sub_ℕ a b +ℤ pos c ≡ sub_ℕ (a + c) b
    go true e =
        let l : a < b = ltb-true a b e in
        let first : c + a ≡ a + c = omega arith in
        let second : suc (b - suc a) + a ≡ b = omega arith in
        ap (λ z. z +ℤ pos c) (below a b l) ∙ sym (both_raised c (suc (b - suc a)) a) ∙ rw (first, second)
    go false e =
        let l : b ≤ a = ltb-false a b e in
        let s : a - b + c ≡ a + c - b = omega arith in
        ap (λ z. z +ℤ pos c) (above a b l) ∙ ap pos s ∙ sym (above (a + c) b (omega arith))

-- Slack is the figure and the node, less the instant.
pub slack_by_figure : (n dst due left t : ℕ) → dst < n → left ≤ n
    → slack_of due t left ≡ (figure_of n dst due left +ℤ pos (standing n dst left)) -ℤ pos t
slack_by_figure n dst due left t inside most =
    let p = standing n dst left in
    let k = turn_of n dst left in
    let sum : dst + k + t ≡ t + left + p = omega (arith, figure_and_node n dst left inside most) in
    slack_is due t left
    ∙ sym (
    rw (figure_is n dst due left, raised due (dst + k) p, less_of_difference (due + p) (dst + k) t, sum)
    (both_raised due (t + left) p))

-- At one node two rows compare by figure as they do by slack, at whatever instant.
pub same_order : (n p t d₁ u₁ l₁ d₂ u₂ l₂ : ℕ) → d₁ < n → l₁ ≤ n → d₂ < n → l₂ ≤ n
    → standing n d₁ l₁ ≡ p → standing n d₂ l₂ ≡ p
    → lt_z (figure_of n d₁ u₁ l₁) (figure_of n d₂ u₂ l₂) ≡ lt_z (slack_of u₁ t l₁) (slack_of u₂ t l₂)
same_order n p t d₁ u₁ l₁ d₂ u₂ l₂ i₁ m₁ i₂ m₂ e₁ e₂ =
    rw (figure_is n d₁ u₁ l₁, figure_is n d₂ u₂ l₂, differences_compared u₁ k₁ u₂ k₂, slack_compared u₁ l₁ u₂ l₂ t)
    (go (ltb (u₁ + l₂) (u₂ + l₁)) refl)
  where
    k₁ : ℕ
    k₁ = d₁ + turn_of n d₁ l₁

    k₂ : ℕ
    k₂ = d₂ + turn_of n d₂ l₂

    a₁ : l₁ + p ≡ k₁
    a₁ = omega (arith, e₁, figure_and_node n d₁ l₁ i₁ m₁)

    a₂ : l₂ + p ≡ k₂
    a₂ = omega (arith, e₂, figure_and_node n d₂ l₂ i₂ m₂)

    go : (b : Bool) → ltb (u₁ + l₂) (u₂ + l₁) ≡ b → ltb (u₁ + k₂) (u₂ + k₁) ≡ ltb (u₁ + l₂) (u₂ + l₁)
    go true e =
        let less = ltb-true (u₁ + l₂) (u₂ + l₁) e in
        lt-ltb (u₁ + k₂) (u₂ + k₁) (omega (arith, a₁, a₂)) ∙ sym e
    go false e =
        let more = ltb-false (u₁ + l₂) (u₂ + l₁) e in
        le-ltb (u₁ + k₂) (u₂ + k₁) (omega (arith, a₁, a₂)) ∙ sym e

turn_beyond : (n dst left : ℕ) → dst < left → turn_of n dst left ≡ n
unfolding turn_of
turn_beyond n dst left h = rw (lt-ltb dst left h)

turn_short : (n dst left : ℕ) → left ≤ dst → turn_of n dst left ≡ 0
unfolding turn_of
turn_short n dst left h = rw (le-ltb dst left h)

-- A row under way stands at node N - 1 just where one link beyond its turn is left.
last_node : (n dst left : ℕ) → dst < n → left ≤ n → 0 < left
    → suc (standing n dst left) ≡ n → left ≡ suc dst
last_node n dst left inside most way last = go (ltb dst left) refl
  where
    sum : left + standing n dst left ≡ dst + turn_of n dst left
    sum = figure_and_node n dst left inside most

    go : (b : Bool) → ltb dst left ≡ b → left ≡ suc dst
    go true e = omega (arith, sum, turn_beyond n dst left (ltb-true dst left e))
    go false e = absurd (omega (arith, sum, turn_short n dst left (ltb-false dst left e)))

-- What a move does to the figure: a row that steps from node N - 1 to node 0 has its figure corrected by N.
module _ (n dst due left : ℕ) (inside : dst < n) (most : left ≤ n) (way : 0 < left) where
  pub corrected_past_0 : suc (standing n dst left) ≡ n
      → figure_of n dst due (left - 1) ≡ figure_of n dst due left +ℤ pos n
  corrected_past_0 last =
      let next : left ≡ suc dst = last_node n dst left inside most way last in
      let none : dst + turn_of n dst (left - 1) ≡ dst = omega (arith, turn_short n dst (left - 1) (omega arith)) in
      let all : dst + turn_of n dst left ≡ dst + n = omega (arith, turn_beyond n dst left (omega arith)) in
      rw (figure_is n dst due (left - 1), figure_is n dst due left, none, all, raised due (dst + n) n)
      (sym (both_raised due dst n))

  same_turn : (suc (standing n dst left) ≡ n → ⊥) → turn_of n dst (left - 1) ≡ turn_of n dst left
  same_turn other = go (ltb dst (left - 1)) refl (ltb dst left) refl
    where
      go : (a : Bool) → ltb dst (left - 1) ≡ a → (b : Bool) → ltb dst left ≡ b
          → turn_of n dst (left - 1) ≡ turn_of n dst left
      go true e b f =
          let l = ltb-true dst (left - 1) e in
          turn_beyond n dst (left - 1) l ∙ sym (turn_beyond n dst left (omega arith))
      go false e true f =
          let l = ltb-false dst (left - 1) e in
          let m = ltb-true dst left f in
          absurd (other (omega (arith, figure_and_node n dst left inside most, turn_beyond n dst left m)))
      go false e false f =
          let l = ltb-false dst (left - 1) e in
          let m = ltb-false dst left f in
          turn_short n dst (left - 1) l ∙ sym (turn_short n dst left m)

  -- Elsewhere it stands still.
  pub kept_elsewhere : (suc (standing n dst left) ≡ n → ⊥) → figure_of n dst due (left - 1) ≡ figure_of n dst due left
  kept_elsewhere other = rw (figure_is n dst due (left - 1), figure_is n dst due left, same_turn other)

-- The figures of all rows: one for each, and the row's own.
module _ (T : Traffic) (left : List ℕ) where
  pub figures_long : length (figures_of T left) ≡ length left
  unfolding figures_of
  figures_long = length-build (length left) (figure T left)

  pub figure_at : (i : ℕ) → i < length left → get_or (figures_of T left) i (pos 0) ≡ figure T left i
  unfolding figures_of
  figure_at i h = get_or_build (length left) (figure T left) i (pos 0) h

module _ (T : Traffic) (left : List ℕ) (ring : OnRing T left) (t : ℕ) where
  -- Two rows of a state that stand at one node compare by figure as they do by slack.
  pub same_order_at : (p i j : ℕ) → i < length left → j < length left → place T left i ≡ p → place T left j ≡ p
      → lt_z (figure T left i) (figure T left j) ≡ lt_z (slack T t left i) (slack T t left j)
  unfolding figure slack place
  same_order_at p i j hi hj =
      same_order T.nodes p t (get_or T.dst i 0) (get_or T.due i 0) (get_or left i 0)
      (get_or T.dst j 0) (get_or T.due j 0) (get_or left j 0)
      (ring.dst_inside i hi) (ring.left_inside i hi) (ring.dst_inside j hj) (ring.left_inside j hj)

  abbrev slot : List ℕ
  slot = slot_of T t left

  abbrev next : List ℕ
  next = moved T slot left

  abbrev last : ℕ
  last = T.nodes - 1

  -- the row that the last link carries steps from node N - 1 to node 0
  from_last_node : (i : ℕ) → get_or slot last 0 ≡ suc i → Stands T left last i × (suc (place T left i) ≡ T.nodes)
  from_last_node i named =
      let here = (slot_names T t left last i (omega (arith, ring.some_node)) named).stands in
      (here, omega (arith, here.here, ring.some_node))

  -- A row's figure after a slot: corrected where the last link carries the row, and as it was elsewhere.
  pub figure_next : (i : ℕ) → i < length left
      → figure T next i ≡ cond (eqb (get_or slot last 0) (suc i)) (figure T left i +ℤ pos T.nodes) (figure T left i)
  unfolding figure place
  figure_next i h = go (eqb (get_or slot last 0) (suc i)) refl (eqb (get_or slot (place T left i) 0) (suc i)) refl
    where
      n : ℕ
      n = T.nodes

      with_links : ℕ → ℤ
      with_links k = figure_of n (get_or T.dst i 0) (get_or T.due i 0) k

      links : ℕ
      links = get_or left i 0

      go : (a : Bool) → eqb (get_or slot last 0) (suc i) ≡ a → (b : Bool) → eqb (get_or slot (place T left i) 0) (suc i) ≡ b
          → with_links (get_or next i 0) ≡ cond a (with_links links +ℤ pos n) (with_links links)
      go true ea b eb =
          let named = eqb-true (get_or slot last 0) (suc i) ea in
          let (here, past) = from_last_node i named in
          ap with_links (moved_sent T slot left i h (rw here.here named))
          ∙ corrected_past_0 n (get_or T.dst i 0) (get_or T.due i 0) links
          (ring.dst_inside i h) (ring.left_inside i h) here.under_way_lem past
      go false ea true eb =
          let named = eqb-true (get_or slot (place T left i) 0) (suc i) eb in
          let here = (slot_names T t left (place T left i) i (place_inside T left ring i h) named).stands in
          ap with_links (moved_sent T slot left i h named)
          ∙ kept_elsewhere n (get_or T.dst i 0) (get_or T.due i 0) links
          (ring.dst_inside i h) (ring.left_inside i h) here.under_way_lem
          (λ e. eqb-false (get_or slot last 0) (suc i) ea (rw (e_last e) named))
        where
          e_last : suc (place T left i) ≡ n → last ≡ place T left i
          e_last e = omega arith
      go false ea false eb =
          ap with_links (moved_waits T slot left i h (eqb-false (get_or slot (place T left i) 0) (suc i) eb))

  -- A row whose figure is corrected in a slot: the last link carries it, from node N - 1 to node 0, and N is added.
  pub record Corrected (i : ℕ) : Type 0 where
    pub carried_last : get_or slot last 0 ≡ suc i
    pub from_last : place T left i ≡ last
    pub beyond : get_or left i 0 ≡ suc (get_or T.dst i 0)
    pub past : get_or next i 0 ≡ get_or T.dst i 0
    pub by_n : figure T next i ≡ figure T left i +ℤ pos T.nodes

  -- A figure that does not stand still in a slot is corrected so.
  pub only_past_0 : (i : ℕ) → i < length left → (figure T next i ≡ figure T left i → ⊥) → Corrected i
  unfolding place
  only_past_0 i h changed = go (eqb (get_or slot last 0) (suc i)) refl (figure_next i h)
    where
      go : (a : Bool) → eqb (get_or slot last 0) (suc i) ≡ a
          → figure T next i ≡ cond a (figure T left i +ℤ pos T.nodes) (figure T left i) → Corrected i
      go true e f =
          let named = eqb-true (get_or slot last 0) (suc i) e in
          let (here, past) = from_last_node i named in
          let far : get_or left i 0 ≡ suc (get_or T.dst i 0)
          = last_node T.nodes (get_or T.dst i 0) (get_or left i 0) (ring.dst_inside i h) (ring.left_inside i h)
          here.under_way_lem past in
          let sent = moved_sent T slot left i h (rw here.here named) in
          record {
            carried_last = named;
            from_last = here.here;
            beyond = far;
            past = omega (arith, sent, far);
            by_n = f;
          }
      go false e f = absurd (changed f)

-- In a whole run a row's figure is corrected at most once.
module _ (T : Traffic) (start : List ℕ) (ring : OnRing T start) (i : ℕ) (h : i < length start) where
  abbrev pub figure_then : ℕ → ℤ
  figure_then t = figure T (state_at T start t) i

  -- the figure does not stand still in slot t
  abbrev pub Changes : ℕ → Type 0
  Changes t = figure_then (suc t) ≡ figure_then t → ⊥

  change : (t : ℕ) → Changes t → Corrected T (state_at T start t) (state_on_ring T start ring t) t i
  unfolding state_at
  change t =
      only_past_0 T (state_at T start t) (state_on_ring T start ring t) t i (omega (arith, state_length T start t))

  -- a change before another: the row has passed node 0 already
  earlier : (t s : ℕ) → t < s → Changes t → Changes s → ⊥
  unfolding state_at
  earlier t s l a b =
      let fewer = state_less T start i h (suc t) s l in
      let gone : get_or (state_at T start (suc t)) i 0 ≡ get_or T.dst i 0 = (change t a).past in
      omega (arith, fewer, gone, (change s b).beyond)

  pub corrected_once : (t s : ℕ) → Changes t → Changes s → t ≡ s
  corrected_once t s a b = go (ltb t s) refl (ltb s t) refl
    where
      go : (x : Bool) → ltb t s ≡ x → (y : Bool) → ltb s t ≡ y → t ≡ s
      go true e y f = absurd (earlier t s (ltb-true t s e) a b)
      go false e true f = absurd (earlier s t (ltb-true s t f) b a)
      go false e false f = omega (arith, ltb-false t s e, ltb-false s t f)
