-- The counts of a row's way, stepped stretch by stretch.
--     part_stepped                    one stretch of a list stepped
--     one_stretch, two_stretches      the links of a row's way are one stretch, or two where it passes node 0
--     way_ahead, way_round            the counts of such a way
-- Assumes nothing.
use mathlib.Core.Path.{◌≡◌, refl, ◌∙◌, ap, sym}
use mathlib.Core.Bool.{Bool, true, false, cond, ◌&&◌, ◌||◌}
use mathlib.Core.List.{List, [], ◌∷◌, ◌++◌, map}
use native.Mathlib.Nat.{not-suc-le-zero, le_of_suc-le-suc}
use Prim.Native.Nat.{ℕ, zero, suc, ◌+◌, ◌-◌, ◌≤◌, ◌<◌, min}
use native.Mathlib.Omega.{arith}
use borrow.Author.Tests.{le-leb, lt-leb, lt-ltb, le-ltb, ltb-true, ltb-false}
use borrow.Rule.Slice.PartMut.{mid_of, post_of, put_mid, Post-is, mid_len, same_len_mid}
use lib.Dec.{leb, ltb}
use lib.ListN.{length, get_or, take, drop, length-map, get_or-append}
use lib.Seq.{length-take-le, get_or-take, get_or-drop, get_or-append-add}
use Rattle.lists.specs.Lists.{build}
use Rattle.lists.proofs.Build.{is_build, build_ext, get_or_build, length-build}
use Rattle.table.specs.declared.Row.{Row}
use Rattle.area.specs.Area.{most_links, crosses}
use Rattle.edit_store.specs.Store.{step_for}
use Rattle.edit_store.specs.Steps.{stepped_way}

-- An entry of a list that a rule was applied to.
map_at : (f : ℕ → ℕ) (l : List ℕ) (i : ℕ) → i < length l → get_or (map f l) i 0 ≡ f (get_or l i 0)
map_at f [] i h = absurd (not-suc-le-zero h)
map_at f (x ∷ l) zero h = refl
map_at f (x ∷ l) (suc i) h = map_at f l i (le_of_suc-le-suc h)

-- The entries of a list in which a part was put: before it, in it, and behind it.
module _ (a b : ℕ) (l ys : List ℕ) (h : a ≤ b) (k : b ≤ length l) (long : length ys ≡ b - a) where
  front : length (take a l) ≡ a
  front = length-take-le a l (omega arith)

  pub put_before : (p : ℕ) → p < a → get_or (put_mid a (b - a) l ys) p 0 ≡ get_or l p 0
  put_before p s =
      get_or-append (take a l) (ys ++ post_of a (b - a) l) 0 p (omega (arith, front)) ∙ get_or-take a l p 0 s

  past_front : (p : ℕ) → a ≤ p → get_or (put_mid a (b - a) l ys) p 0 ≡ get_or (ys ++ drop b l) (p - a) 0
  past_front p s =
      let sum : p ≡ length (take a l) + (p - a) = omega (arith, front) in
      ap (λ (i : ℕ). get_or (put_mid a (b - a) l ys) i 0) sum
      ∙ get_or-append-add (take a l) (ys ++ post_of a (b - a) l) (p - a) 0 ∙ rw (Post-is a b l h)

  pub put_inside : (p : ℕ) → a ≤ p → p < b → get_or (put_mid a (b - a) l ys) p 0 ≡ get_or ys (p - a) 0
  put_inside p s t = past_front p s ∙ get_or-append ys (drop b l) 0 (p - a) (omega (arith, long))

  pub put_behind : (p : ℕ) → b ≤ p → get_or (put_mid a (b - a) l ys) p 0 ≡ get_or l p 0
  put_behind p s =
      let sum : p - a ≡ length ys + (p - b) = omega (arith, long) in
      let back : b + (p - b) ≡ p = omega arith in
      past_front p (omega arith) ∙ ap (λ (i : ℕ). get_or (ys ++ drop b l) i 0) sum
      ∙ get_or-append-add ys (drop b l) (p - b) 0 ∙ get_or-drop b l (p - b) 0 ∙ ap (λ (i : ℕ). get_or l i 0) back

  pub put_long : length (put_mid a (b - a) l ys) ≡ length l
  put_long = same_len_mid a (b - a) l ys (long ∙ sym (mid_len a b l k))

-- p lies from a on, before b.
abbrev pub between : (a b p : ℕ) → Bool
between a b p = leb a p && ltb p b

-- The count x of link p where the stretch from a to b is stepped by one step.
abbrev pub in_stretch : (by : ℕ → ℕ) (a b p x : ℕ) → ℕ
in_stretch by a b p x = cond (between a b p) (by x) x

module _ (by : ℕ → ℕ) (a b : ℕ) where
  pub stretch_in : (p x : ℕ) → a ≤ p → p < b → in_stretch by a b p x ≡ by x
  stretch_in p x h k = rw (le-leb a p h, lt-ltb p b k)

  pub stretch_below : (p x : ℕ) → p < a → in_stretch by a b p x ≡ x
  stretch_below p x h = rw (lt-leb a p h)

  pub stretch_above : (p x : ℕ) → b ≤ p → in_stretch by a b p x ≡ x
  stretch_above p x h = go (leb a p)
    where
      go : (t : Bool) → cond (t && ltb p b) (by x) x ≡ x
      go true = rw (le-ltb p b h)
      go false = refl

  -- One stretch of a list stepped.
  pub part_stepped : (l ys : List ℕ)
      → a ≤ b
      → b ≤ length l
      → ys ≡ map by (mid_of a (b - a) l)
      → put_mid a (b - a) l ys ≡ build (length l) (λ p. in_stretch by a b p (get_or l p 0))
  part_stepped l ys h k so =
      is_build (length l) (λ p. in_stretch by a b p (get_or l p 0)) 0 (put_mid a (b - a) l ys)
      (put_long a b l ys h k long) (λ p s. entry p (ltb p a) (ltb p b) refl refl)
    where
      long : length ys ≡ b - a
      long = ap length so ∙ length-map (mid_of a (b - a) l) (by) ∙ mid_len a b l k

      inside : (p : ℕ) → a ≤ p → p < b → get_or ys (p - a) 0 ≡ by (get_or l p 0)
      inside p s t =
          let short : p - a < length (mid_of a (b - a) l) = omega (arith, mid_len a b l k) in
          let back : a + (p - a) ≡ p = omega arith in
          let there : get_or (mid_of a (b - a) l) (p - a) 0 ≡ get_or l p 0 =
          get_or-take (b - a) (drop a l) (p - a) 0 (omega arith)
          ∙ get_or-drop a l (p - a) 0 ∙ ap (λ (i : ℕ). get_or l i 0) back
          in
          rw so (map_at by (mid_of a (b - a) l) (p - a) short ∙ ap by there)

      entry : (p : ℕ) (before inside : Bool)
          → ltb p a ≡ before
          → ltb p b ≡ inside
          → get_or (put_mid a (b - a) l ys) p 0 ≡ in_stretch by a b p (get_or l p 0)
      entry p true y ex ey =
          let less = ltb-true p a ex in
          put_before a b l ys h k long p less ∙ sym (stretch_below p (get_or l p 0) less)
      entry p false true ex ey =
          let more = ltb-false p a ex in
          let less = ltb-true p b ey in
          put_inside a b l ys h k long p more less ∙ inside p more less ∙ sym (stretch_in p (get_or l p 0) more less)
      entry p false false ex ey =
          let more = ltb-false p b ey in
          put_behind a b l ys h k long p more ∙ sym (stretch_above p (get_or l p 0) more)

-- ---- the links of a way as stretches
module _ (by : ℕ → ℕ) (n : ℕ) (r : Row) where
  off_ring : (p x : ℕ) → n ≤ p → step_for by n r p x ≡ x
  unfolding step_for crosses
  off_ring p x h = rw (le-ltb p n h)

  -- A link of the ring is crossed.
  on_way_lem : (p x : ℕ)
      → p < n
      → (b : Bool)
      → cond (ltb r.src r.dst) (leb r.src p && ltb p r.dst) (leb r.src p || ltb p r.dst) ≡ b
      → step_for by n r p x ≡ cond b (by x) x
  unfolding step_for crosses
  on_way_lem p x h b e = rw (lt-ltb p n h, e)

  -- Where a way's stretch begins and where it ends.
  abbrev start : ℕ
  start = min r.src n

  abbrev stop : ℕ
  stop = min r.dst n

  pub one_stretch : r.src < r.dst
      → (p x : ℕ)
      → in_stretch by (min r.src n) (min r.dst n) p x ≡ step_for by n r p x
  one_stretch way p x = go (ltb p n) (ltb p r.src) (ltb p r.dst) refl refl refl
    where
      go : (on before short : Bool)
          → ltb p n ≡ on
          → ltb p r.src ≡ before
          → ltb p r.dst ≡ short
          → in_stretch by start stop p x ≡ step_for by n r p x
      go false before short e f g =
          let past = ltb-false p n e in
          stretch_above by start stop p x (omega arith) ∙ sym (off_ring p x past)
      go true true short e f g =
          let less = ltb-true p r.src f in
          let here = ltb-true p n e in
          stretch_below by start stop p x (omega arith)
          ∙ sym (on_way_lem p x here false (rw (lt-ltb r.src r.dst way, lt-leb r.src p less)))
      go true false true e f g =
          let more = ltb-false p r.src f in
          let less = ltb-true p r.dst g in
          let here = ltb-true p n e in
          stretch_in by start stop p x (omega arith) (omega arith)
          ∙ sym (on_way_lem p x here true (rw (lt-ltb r.src r.dst way, le-leb r.src p more, g)))
      go true false false e f g =
          let more = ltb-false p r.src f in
          let past = ltb-false p r.dst g in
          let here = ltb-true p n e in
          stretch_above by start stop p x (omega arith)
          ∙ sym (on_way_lem p x here false (rw (lt-ltb r.src r.dst way, le-leb r.src p more, g)))

  pub two_stretches : r.dst ≤ r.src
      → (p x : ℕ)
      → in_stretch by 0 (min r.dst n) p (in_stretch by (min r.src n) n p x) ≡ step_for by n r p x
  two_stretches way p x = go (ltb p n) (ltb p r.src) (ltb p r.dst) refl refl refl
    where
      go : (on before short : Bool)
          → ltb p n ≡ on
          → ltb p r.src ≡ before
          → ltb p r.dst ≡ short
          → in_stretch by 0 stop p (in_stretch by start n p x) ≡ step_for by n r p x
      go false before short e f g =
          let past = ltb-false p n e in
          stretch_above by 0 stop p _ (omega arith) ∙ stretch_above by start n p x past
          ∙ sym (off_ring p x past)
      go true true true e f g =
          let less = ltb-true p r.dst g in
          let early = ltb-true p r.src f in
          let here = ltb-true p n e in
          rw (stretch_below by start n p x (omega arith))
          (stretch_in by 0 stop p x (omega arith) (omega arith))
          ∙ sym (on_way_lem p x here true (rw (le-ltb r.src r.dst way, lt-leb r.src p early, g)))
      go true true false e f g =
          let past = ltb-false p r.dst g in
          let early = ltb-true p r.src f in
          let here = ltb-true p n e in
          stretch_above by 0 stop p _ (omega arith) ∙ stretch_below by start n p x (omega arith)
          ∙ sym (on_way_lem p x here false (rw (le-ltb r.src r.dst way, lt-leb r.src p early, g)))
      go true false short e f g =
          let more = ltb-false p r.src f in
          let here = ltb-true p n e in
          stretch_above by 0 stop p _ (omega arith) ∙ stretch_in by start n p x (omega arith) here
          ∙ sym (on_way_lem p x here true (rw (le-ltb r.src r.dst way, le-leb r.src p more)))

-- ---- the counts of a way, in one list of all links
module _ (by : ℕ → ℕ) (n : ℕ) (r : Row) (l : List ℕ) (ring : n ≤ most_links) (long : length l ≡ most_links) where
  -- The count of link p, stepped where the row crosses it.
  abbrev stepped : ℕ → ℕ
  stepped p = step_for by n r p (get_or l p 0)

  pub way_ahead : {from to : ℕ} {ys : List ℕ}
      → from ≡ min r.src n
      → to ≡ min r.dst n
      → r.src < r.dst
      → ys ≡ map by (mid_of from (to - from) l)
      → put_mid from (to - from) l ys ≡ stepped_way by n r l
  unfolding stepped_way
  way_ahead {from} {to} {ys} f t way so =
      part_stepped by from to l ys (omega arith) (omega arith) so
      ∙ rw long (build_ext most_links (λ p. in_stretch by from to p (get_or l p 0)) stepped one)
    where
      one : (p : ℕ) → p < most_links → in_stretch by from to p (get_or l p 0) ≡ stepped p
      one p h = rw (f, t) (one_stretch by n r way p (get_or l p 0))

  pub way_round : {from to : ℕ} {ys zs : List ℕ}
      → from ≡ min r.src n
      → to ≡ min r.dst n
      → r.dst ≤ r.src
      → ys ≡ map by (mid_of from (n - from) l)
      → zs ≡ map by (take to (put_mid from (n - from) l ys))
      → zs ++ drop to (put_mid from (n - from) l ys) ≡ stepped_way by n r l
  unfolding stepped_way
  way_round {from} {to} {ys} {zs} f t way so last =
      let all : to - 0 ≡ to = omega arith in
      rw all at (part_stepped by 0 to l' zs (omega arith) (omega (arith, whole)) (rw all last))
      ∙ rw whole (build_ext most_links (λ p. in_stretch by 0 to p (get_or l' p 0)) stepped both)
    where
      l' : List ℕ
      l' = put_mid from (n - from) l ys

      upper : ℕ → ℕ
      upper p = in_stretch by from n p (get_or l p 0)

      first : l' ≡ build most_links upper
      first = part_stepped by from n l ys (omega arith) (omega arith) so ∙ rw long

      whole : length l' ≡ most_links
      whole = ap length first ∙ length-build most_links upper

      both : (p : ℕ) → p < most_links → in_stretch by 0 to p (get_or l' p 0) ≡ stepped p
      both p h =
          let entry : get_or l' p 0 ≡ upper p =
          ap (λ (m : List ℕ). get_or m p 0) first ∙ get_or_build most_links upper p 0 h
          in
          rw (entry, f, t) (two_stretches by n r way p (get_or l p 0))
