-- What follows of the promise of the busiest link.
--     busiest_is_most, busiest_is_lowest      the busiest link has the largest load, and every lower link has less
--     Busiest, busiest_built                  the same of loads that are built by a rule
-- Assumes nothing.
use mathlib.Core.Path.{◌≡◌, ◌∙◌, sym}
use Prim.Native.Nat.{ℕ, ◌≤◌, ◌<◌}
use native.Mathlib.Omega.{arith}
use mathlib.Core.List.{List}
use lib.ListN.{length, get_or}
use Rattle.lists.specs.Lists.{build, largest}
use Rattle.lists.proofs.Build.{length-build, get_or_build}
use Rattle.lists.proofs.Figures.{at_most_largest}
use Rattle.lists.proofs.FirstPlace.{place_of, not_before, largest_there}
use Rattle.area.specs.declared.LinkLoad.{LinkLoad}
use Rattle.area.specs.Area.{busiest_in}

module _ (loads : List ℕ) where
  -- The busiest link.
  abbrev busiest : ℕ
  busiest = (busiest_in loads).link.0

  -- The busiest link of a ring that has a link is one of its links, has the load named, and no link has more.
  pub busiest_is_most : 0 < length loads
      → (busiest < length loads)
      × (get_or loads busiest 0 ≡ (busiest_in loads).load)
      × ((p : ℕ) → get_or loads p 0 ≤ (busiest_in loads).load)
  unfolding busiest_in
  busiest_is_most some =
      let there = largest_there loads some in
      let found = place_of (largest loads) loads there.0 there.1 in
      (found.inside, found.here, at_most_largest loads)

  -- Every lower link has less.
  pub busiest_is_lowest : (p : ℕ) → p < busiest → get_or loads p 0 < (busiest_in loads).load
  unfolding busiest_in
  busiest_is_lowest p lower = omega (arith, at_most_largest loads p, not_before (largest loads) loads p lower)

-- A link of a ring of n that no other has more load than, and every lower one has less.
pub record Busiest (n : ℕ) (load_of : ℕ → ℕ) (top : LinkLoad) : Type 0 where
  pub on_ring : top.link.0 < n
  pub has_it : load_of top.link.0 ≡ top.load
  pub none_more : (p : ℕ) → p < n → load_of p ≤ top.load
  pub lower_less : (p : ℕ) → p < top.link.0 → load_of p < top.load

-- The busiest of loads that are built by a rule.
pub busiest_built : (n : ℕ) (f : ℕ → ℕ) → 0 < n → Busiest n f (busiest_in (build n f))
busiest_built n f some =
    let at : (p : ℕ) → p < n → get_or (build n f) p 0 ≡ f p = λ p l. get_or_build n f p 0 l in
    let most = busiest_is_most (build n f) (omega (arith, length-build n f)) in
    let inside : busiest (build n f) < n = omega (arith, most.0, length-build n f) in
    record {
      on_ring = inside;
      has_it = sym (at (busiest (build n f)) inside) ∙ most.1;
      none_more = λ p l. omega (arith, at p l, most.2 p);
      lower_less = λ p l. omega (arith, at p (omega arith), busiest_is_lowest (build n f) p l);
    }
