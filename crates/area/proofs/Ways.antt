-- The way of a row round the ring, and the loads of all links together.
--     crosses_by_distance      a link lies on a row's way exactly if its end is no farther than the destination
--     turn_crosses_all         a row to its own node crosses every link
--     way_long                 a row crosses as many links as its destination is away
--     loads_sum_to_sends       all loads of a table without a bad row together are the sum of length times distance
-- Assumes nothing.
use mathlib.Core.Path.{◌≡◌, refl, ◌∙◌, ap, sym}
use Prim.Native.Nat.{ℕ, zero, suc, ◌+◌, ◌-◌, ◌*◌, ◌%◌, ◌≤◌, ◌<◌}
use native.Mathlib.Nat.{mod-eq_of_lt, mul-zero, mul-one}
use native.Mathlib.Decide.{dec_lt}
use native.Mathlib.Omega.{arith}
use mathlib.Core.Bool.{Bool, true, false, cond, ◌||◌, ◌&&◌}
use mathlib.Core.List.{List, [], ◌∷◌}
use borrow.Author.Tests.{ltb-true, ltb-false, leb-true, leb-false, lt-ltb, le-ltb, le-leb, lt-leb}
use lib.Dec.{ltb, leb, leb-suc-suc, leb-suc-zero}
use Rattle.std.proofs.Common.{Ok}
use Rattle.lists.specs.Lists.{build, total}
use Rattle.lists.proofs.Build.{build_ext}
use Rattle.lists.proofs.Sums.{total_both, total_same, total_times}
use Rattle.ring.specs.Ring.{distance}
use Rattle.ring.proofs.Standing.{one_turn, distance_ahead, distance_round}
use Rattle.table.specs.declared.Row.{Row}
use Rattle.table.specs.Table.{sends_of, judge_rows}
use Rattle.table.proofs.Judging.{GoodRow, good_row}
use Rattle.area.specs.Area.{crosses, load}
use Rattle.area.proofs.Loads.{counted}
use Rattle.area.proofs.GoodRows.{AllGood, good_judged}

-- A test for less and a test for no more, of numbers that lie one farther apart.
one_gap : (a b c d : ℕ) → suc a + d ≡ c + b → ltb a b ≡ leb c d
one_gap a b c d e = go (ltb a b) refl
  where
    go : (t : Bool) → ltb a b ≡ t → t ≡ leb c d
    go true f = sym (le-leb c d (omega (arith, ltb-true a b f)))
    go false f = sym (lt-leb c d (omega (arith, ltb-false a b f)))

-- The end of link p, seen from a source at it or before it, and from one behind it.
module _ (n s p : ℕ) (hs : s < n) (hp : p < n) where
  end_ahead : s ≤ p → distance n s ((p + 1) % n) ≡ p + 1 - s
  end_ahead l = go (dec_lt (p + 1) n)
    where
      go : Dec (p + 1 < n) → distance n s ((p + 1) % n) ≡ p + 1 - s
      go (yes d) = rw (mod-eq_of_lt d) (distance_ahead n s (p + 1) (omega arith) d)
      go (no d) =
          let turn : (p + 1) % n ≡ 0 = omega (arith, one_turn n (p + 1) (omega arith) (omega arith)) in
          rw turn (omega (arith, distance_round n s 0 (omega arith) hs))

  end_round : p < s → distance n s ((p + 1) % n) ≡ p + 1 + n - s
  end_round l =
      let short : p + 1 < n = omega arith in
      rw (mod-eq_of_lt short) (distance_round n s (p + 1) (omega arith) hs)

-- A link lies on a row's way exactly if its end is no farther from the row's source than the destination is.
pub crosses_by_distance : (n : ℕ) (r : Row) (p : ℕ)
    → p < n
    → r.src < n
    → r.dst < n
    → crosses n r p ≡ leb (distance n r.src ((p + 1) % n)) (distance n r.src r.dst)
unfolding crosses
crosses_by_distance n r p hp hs hd = rw (lt-ltb p n hp) (go (ltb s d) refl (leb s p) refl)
  where
    s : ℕ
    s = r.src

    d : ℕ
    d = r.dst

    end : ℕ
    end = distance n s ((p + 1) % n)

    go : (a : Bool)
        → ltb s d ≡ a
        → (b : Bool)
        → leb s p ≡ b
        → cond a (b && ltb p d) (b || ltb p d) ≡ leb end (distance n s d)
    go true ea true eb =
        let far = distance_ahead n s d (ltb-true s d ea) hd in
        let l : s ≤ p = leb-true s p eb in
        one_gap p d end (distance n s d) (omega (arith, ltb-true s d ea, end_ahead n s p hs hp l, far))
    go true ea false eb =
        let far = distance_ahead n s d (ltb-true s d ea) hd in
        let l : p < s = leb-false s p eb in
        sym (lt-leb end (distance n s d) (omega (arith, ltb-true s d ea, end_round n s p hs hp l, far)))
    go false ea true eb =
        let far = distance_round n s d (ltb-false s d ea) hs in
        let l : s ≤ p = leb-true s p eb in
        sym (le-leb end (distance n s d) (omega (arith, end_ahead n s p hs hp l, far)))
    go false ea false eb =
        let far = distance_round n s d (ltb-false s d ea) hs in
        let l : p < s = leb-false s p eb in
        one_gap p d end (distance n s d) (omega (arith, end_round n s p hs hp l, far))

-- A row to its own node crosses every link.
pub turn_crosses_all : (n : ℕ) (r : Row) (p : ℕ) → p < n → r.src ≡ r.dst → crosses n r p ≡ true
unfolding crosses
turn_crosses_all n r p hp own =
    rw (lt-ltb p n hp, le-ltb r.src r.dst (omega arith)) (go (leb r.src p) refl)
  where
    go : (b : Bool) → leb r.src p ≡ b → b || ltb p r.dst ≡ true
    go true e = refl
    go false e = lt-ltb p r.dst (omega (arith, leb-false r.src p e))

-- ---- sums over the links
-- 1 for every place below b.
abbrev below : ℕ → ℕ → ℕ
below b p = cond (ltb p b) 1 0

-- There are b places below b.
below_long : (n b : ℕ) → b ≤ n → total (build n (below b)) ≡ b
unfolding total
below_long zero b h = omega arith
below_long (suc n) zero h =
    let never : build n (λ i. below 0 (suc i)) ≡ build n (λ i. 0) =
    build_ext n (λ i. below 0 (suc i)) (λ i. 0) (λ i l. rw (leb-suc-zero (suc i)))
    in
    omega (arith, ap total never, total_same n 0)
below_long (suc n) (suc b) h =
    let first : below (suc b) 0 ≡ 1 = rw (lt-ltb 0 (suc b) (omega arith)) in
    let rest : build n (λ i. below (suc b) (suc i)) ≡ build n (below b) =
    build_ext n (λ i. below (suc b) (suc i)) (below b) (λ i l. rw (leb-suc-suc (suc i) b))
    in
    omega (arith, first, ap total rest, below_long n b (omega arith))

-- ---- the way of one row
-- 1 for every link that a row crosses.
abbrev on : ℕ → Row → ℕ → ℕ
on n r p = cond (crosses n r p) 1 0

module _ (n : ℕ) (r : Row) (good : GoodRow n r) where
  -- A link on the way to a destination above the source lies below the destination, but not below the source.
  ahead : r.src < r.dst → (p : ℕ) → p < n → on n r p + below r.src p ≡ below r.dst p
  unfolding crosses
  ahead h p l = rw (lt-ltb p n l, lt-ltb r.src r.dst h) (go (leb r.src p) refl)
    where
      go : (b : Bool) → leb r.src p ≡ b → cond (b && ltb p r.dst) 1 0 + below r.src p ≡ below r.dst p
      go true e = rw (le-ltb p r.src (leb-true r.src p e)) (omega arith)
      go false e =
          let less : p < r.src = leb-false r.src p e in
          rw (lt-ltb p r.src less, lt-ltb p r.dst (omega arith)) (omega arith)

  -- On the way round node 0 it lies below the destination or not below the source: on a full turn it always does.
  round : r.dst ≤ r.src → (p : ℕ) → p < n → on n r p + below r.src p ≡ 1 + below r.dst p
  unfolding crosses
  round h p l = rw (lt-ltb p n l, le-ltb r.src r.dst (omega arith)) (go (leb r.src p) refl)
    where
      go : (b : Bool) → leb r.src p ≡ b → cond (b || ltb p r.dst) 1 0 + below r.src p ≡ 1 + below r.dst p
      go true e =
          let past : r.src ≤ p = leb-true r.src p e in
          rw (le-ltb p r.src past, le-ltb p r.dst (omega arith)) (omega arith)
      go false e = rw (lt-ltb p r.src (leb-false r.src p e)) (omega arith)

  -- The links on the way and those below the source, summed up.
  both_sums : (g : ℕ → ℕ)
      → ((p : ℕ) → p < n → on n r p + below r.src p ≡ g p)
      → total (build n (on n r)) + r.src ≡ total (build n g)
  both_sums g same =
      let sum = total_both n (on n r) (below r.src) in
      let is = build_ext n (λ p. on n r p + below r.src p) g same in
      omega (arith, sum, ap total is, below_long n r.src (omega (arith, good.src_inside)))

  -- A row crosses as many links as its destination is away.
  pub way_long : total (build n (on n r)) ≡ distance n r.src r.dst
  way_long = go (ltb r.src r.dst) refl
    where
      to : total (build n (below r.dst)) ≡ r.dst
      to = below_long n r.dst (omega (arith, good.dst_inside))

      go : (b : Bool) → ltb r.src r.dst ≡ b → total (build n (on n r)) ≡ distance n r.src r.dst
      go true e =
          let h : r.src < r.dst = ltb-true r.src r.dst e in
          let away = distance_ahead n r.src r.dst h good.dst_inside in
          omega (arith, both_sums (below r.dst) (ahead h), to, away)
      go false e =
          let h : r.dst ≤ r.src = ltb-false r.src r.dst e in
          let sums = both_sums (λ p. 1 + below r.dst p) (round h) in
          let away = distance_round n r.src r.dst h good.src_inside in
          omega (arith, sums, total_both n (λ p. 1) (below r.dst), total_same n 1, to, away)

-- What one row adds to all loads together: all its cells, on each link of its way.
way_loads : (n : ℕ) (r : Row)
    → GoodRow n r
    → total (build n (counted n r)) ≡ r.len * distance n r.src r.dst
way_loads n r good =
    ap total (build_ext n (counted n r) (λ p. r.len * on n r p) (λ p l. each (crosses n r p)))
    ∙ total_times n r.len (on n r) ∙ ap (λ (k : ℕ). r.len * k) (way_long n r good)
  where
    each : (b : Bool) → cond b r.len 0 ≡ r.len * cond b 1 0
    each true = sym (mul-one r.len)
    each false = sym (mul-zero r.len)

-- All loads together are the sends of all rows.
sum_of_loads : (n : ℕ) (rows : List Row) → AllGood n rows → total (build n (load n rows)) ≡ sends_of n rows
unfolding AllGood load sends_of total
sum_of_loads n [] g = total_same n 0 ∙ omega arith
sum_of_loads n (r ∷ rows) g =
    total_both n (counted n r) (load n rows)
    ∙ omega (arith, way_loads n r (good_row n r g.0), sum_of_loads n rows g.1)

-- All loads of a table without a bad row together are its sends: the sum of length times distance over its rows.
pub loads_sum_to_sends : (n : ℕ) (rows : List Row)
    → judge_rows n rows 0 ≡ Ok tt
    → total (build n (load n rows)) ≡ sends_of n rows
loads_sum_to_sends n rows good = sum_of_loads n rows (good_judged n rows 0 good)
