-- One row looked at: what its node would send afterwards, for each way through `look`.
-- Assumes nothing.
use mathlib.Core.Path.{◌≡◌, ◌∙◌, ap, sym}
use mathlib.Core.Bool.{Bool, true, false, cond, ◌||◌, and-false, or-true}
use Prim.Native.Nat.{ℕ, zero, suc, pred, ◌+◌, ◌-◌, ◌≤◌, ◌<◌, ◌^◌}
use native.Mathlib.Numerals.{add-one, sub-one}
use native.Mathlib.Omega.{arith}
use borrow.Author.Tests.{lt-ltb, eq-eqb, ne_eqb}
use borrow.Author.Rules.{sfits_of}
use mir.Syntax.{w32}
use mir.Val.{to_z, of_z}
use mir.Facts.{to_z-of_z}
use mathlib.Core.List.{List}
use lib.Dec.{eqb}
use lib.IntN.{ℤ, pos}
use lib.Signed.{lt_z, mag}
use lib.ListN.{length, get_or, set, replicate}
use lib.Seq.{set-get_or}
use Rattle.lists.proofs.Build.{length-build, get_or_build, build_ext, build_const, set-build}
use Rattle.ring.specs.Ring.{standing}
use Rattle.ring.proofs.Turn.{on_ring as turn_inside}
use Rattle.slack.specs.Slack.{under_way}
use Rattle.slot.specs.Steps.{Board, stands_at, lower, lowest, seen, Looking}

-- two signed numbers compared as the code does, in the bits of an i32
pub compared : (x y : ℤ) (b : Bool) → mag x < 2 ^ 31 → mag y < 2 ^ 31
    → lt_z (to_z w32 (of_z w32 x)) (to_z w32 (of_z w32 y)) ≡ b → lt_z x y ≡ b
compared x y b fx fy = rw (to_z-of_z (sfits_of {w = w32} {z = x} fx), to_z-of_z (sfits_of {w = w32} {z = y} fy)) (λ t. t)

-- row j has a lower figure than row k
abbrev pub below : Board → (j k : ℕ) → Bool
below B j k = lt_z (get_or B.figure j (pos 0)) (get_or B.figure k (pos 0))

module _ (B : Board) (i : ℕ) where
  abbrev so_far : ℕ → ℕ
  so_far p = lowest B p i

  chosen : (p : ℕ) → lower B p (so_far p) i ≡ true → lowest B p (suc i) ≡ suc i
  unfolding lowest
  chosen p e = rw e

  passed : (p : ℕ) → lower B p (so_far p) i ≡ false → lowest B p (suc i) ≡ so_far p
  unfolding lowest
  passed p e = rw e

  -- a row that is delivered is not looked at
  pub nothing_seen : get_or B.left i 0 ≡ 0 → seen B (suc i) ≡ seen B i
  unfolding seen lower under_way
  nothing_seen e = build_ext B.nodes (λ p. lowest B p (suc i)) so_far (λ p h. passed p (rw e))

  elsewhere : (q : ℕ) → (stands_at B i ≡ q → ⊥) → lower B q (so_far q) i ≡ false
  unfolding lower
  elsewhere q d = rw (ne_eqb (stands_at B i) q d, and-false)

  -- a row counts at the node where it stands, and at no other
  one_seen : (p : ℕ) → p ≡ stands_at B i → set (seen B i) p (lowest B p (suc i)) ≡ seen B (suc i)
  unfolding seen
  one_seen p e =
      set-build B.nodes so_far (λ q. lowest B q (suc i)) p (λ q h differs.
      passed q (elsewhere q (λ same. differs (sym same ∙ sym e))))

  module _ (p : ℕ) (at : p ≡ stands_at B i) (inside : p < B.nodes) (under_way_lem : 0 < get_or B.left i 0) where
    pub best_is : get_or (seen B i) p 0 ≡ so_far p
    unfolding seen
    best_is = get_or_build B.nodes so_far p 0 inside

    -- at its own node it is for the figure to decide
    here_is : lower B p (so_far p) i ≡ (eqb (so_far p) 0 || below B i (pred (so_far p)))
    unfolding lower under_way
    here_is = rw (lt-ltb 0 (get_or B.left i 0) under_way_lem, eq-eqb (stands_at B i) p (sym at))

    took : (eqb (so_far p) 0 || below B i (pred (so_far p))) ≡ true → set (seen B i) p (i + 1) ≡ seen B (suc i)
    took e = ap (set (seen B i) p) (add-one i ∙ sym (chosen p (here_is ∙ e))) ∙ one_seen p at

    -- the first row that the node holds
    pub first_seen : so_far p ≡ 0 → set (seen B i) p (i + 1) ≡ seen B (suc i)
    first_seen e = took (rw (e))

    -- a row with a lower figure than the one before
    pub tighter_seen : below B i (pred (so_far p)) ≡ true → set (seen B i) p (i + 1) ≡ seen B (suc i)
    tighter_seen e = took (rw (e, or-true))

    -- a row with no lower figure: the lower row goes
    pub looser_seen : (so_far p ≡ 0 → ⊥) → below B i (pred (so_far p)) ≡ false → seen B (suc i) ≡ seen B i
    looser_seen some e =
        sym (one_seen p at) ∙ rw (passed p (here_is ∙ rw (ne_eqb (so_far p) 0 some, e)), ← best_is, set-get_or)

-- before the first row every link is idle
pub none_looked : (B : Board) (n : ℕ) → n ≡ B.nodes → replicate {A = ℕ} n 0 ≡ seen B 0
unfolding seen lowest
none_looked B n e = rw e (sym (build_const B.nodes 0))

pub seen-length : (B : Board) (i : ℕ) → length (seen B i) ≡ B.nodes
unfolding seen
seen-length B i = length-build B.nodes (λ p. lowest B p i)

-- none but the rows looked at can be named
pub lowest_few : (B : Board) (p i : ℕ) → lowest B p i ≤ i
unfolding lowest
lowest_few B p zero = omega arith
lowest_few B p (suc i) = go (lower B p (lowest B p i) i) (lowest_few B p i)
  where
    go : (b : Bool) → lowest B p i ≤ i → cond b (suc i) (lowest B p i) ≤ suc i
    go true h = omega arith
    go false h = omega arith

-- The same of a slot that `look` is handed.
module _ {B : Board} {i : ℕ} {slot : List ℕ} (k : Looking B i slot) where
  pub idle : get_or B.left i 0 ≡ 0 → slot ≡ seen B (suc i)
  idle e = k.so_far ∙ sym (nothing_seen B i e)

  pub on_ring : (get_or B.dst i 0 < B.nodes) × (get_or B.left i 0 ≤ B.nodes)
  on_ring = (k.placed.dst_inside i k.row, k.placed.left_inside i k.row)

-- The row is under way, and stands at p.
pub record Standing (B : Board) (i : ℕ) (slot : List ℕ) (p : ℕ) : Type 0 where
  pub looking : Looking B i slot
  pub at : p ≡ stands_at B i
  pub not_there : get_or B.left i 0 ≡ 0 → ⊥

module _ {B : Board} {i : ℕ} {slot : List ℕ} {p : ℕ} (k : Standing B i slot p) where
  way : 0 < get_or B.left i 0
  way = let not = k.not_there in omega arith

  inside : p < B.nodes
  unfolding stands_at standing
  inside = rw k.at (turn_inside B.nodes (get_or B.left i 0) (get_or B.dst i 0) (on_ring k.looking).0)

  pub slot_has : p < length slot
  slot_has = rw (k.looking.so_far, seen-length B i) inside

  best_was : get_or slot p 0 ≡ lowest B p i
  best_was = rw k.looking.so_far (best_is B i p k.at inside way)

  pub first : get_or slot p 0 ≡ 0 → set slot p (i + 1) ≡ seen B (suc i)
  first e = rw k.looking.so_far (first_seen B i p k.at inside way (sym best_was ∙ e))

  module _ (held : get_or slot p 0 ≡ 0 → ⊥) where
    -- the row that the node would send so far
    pub rival_is : get_or slot p 0 - 1 < length B.left
    rival_is = omega (arith, best_was, lowest_few B p i, k.looking.row)

    rival : get_or slot p 0 - 1 ≡ pred (lowest B p i)
    rival = rw (sub-one, best_was)

    pub tighter : below B i (get_or slot p 0 - 1) ≡ true → set slot p (i + 1) ≡ seen B (suc i)
    tighter e = rw k.looking.so_far (tighter_seen B i p k.at inside way (ap (below B i) (sym rival) ∙ e))

    pub looser : below B i (get_or slot p 0 - 1) ≡ false → slot ≡ seen B (suc i)
    looser e =
        let no_lower = ap (below B i) (sym rival) ∙ e in
        k.looking.so_far ∙ sym (looser_seen B i p k.at inside way (λ z. held (best_was ∙ z)) no_lower)
