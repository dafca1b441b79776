-- The cells of a row keep their order, whatever rows a schedule names.
--     laid_on_ring     cells laid out from a table of the ring are a state of the ring
--     behind           at any instant a cell has no more links to go than a later cell of its row has an instant later
--     far_behind       and so k instants later for the cell k places behind it
-- Assumes nothing.
use mathlib.Core.Path.{◌≡◌, refl, ◌∙◌, ap, sym}
use Prim.Native.Nat.{ℕ, zero, suc, ◌+◌, ◌-◌, ◌≤◌, ◌<◌}
use native.Mathlib.Omega.{arith}
use native.Mathlib.Decide.{dec_lt}
use mathlib.Core.Bool.{true, ◌&&◌}
use mathlib.Core.List.{List}
use borrow.Author.Tests.{ltb-true, lt-ltb, eqb-true, eq-eqb}
use lib.Dec.{ltb, eqb}
use lib.ListN.{length, get_or}
use Rattle.lists.specs.Lists.{total}
use Rattle.lists.proofs.Build.{get_or_build}
use Rattle.slack.specs.Slack.{Traffic, OnRing, under_way, place, moved}
use Rattle.lists.proofs.Truth.{differ, both_hold}
use Rattle.slack.proofs.Rule.{Stands, place_inside, moved_named, moved_by_one, run_length, run_on_ring, run_less}
use Rattle.ring.specs.Ring.{distance}
use Rattle.ring.proofs.Onward.{still_to_go}
use Rattle.optimal.specs.Schedule.{named_in}
use Rattle.cells.specs.Rows.{Freight, owners_of, owners, laid_out, cell_links, road}
use Rattle.cells.specs.Rows.{waits, earliest, carried, cells_left}
use Rattle.cells.specs.Cells.{dues_of, cell_dues, cell_traffic}
use Rattle.cells.specs.Steps.{Laden}
use Rattle.best.proofs.First.{First, first_then}
use Rattle.cells.proofs.Seats.{first_cell, per_cell_length, per_cell_entry, Seat, seat, cell_known}

-- ---- what is said of a cell

module _ (F : Freight) where
  pub owners_long : length (owners F) ≡ total F.len
  unfolding owners owners_of
  owners_long = per_cell_length F.len (λ i j. suc i)

  pub links_long : length (cell_links F) ≡ total F.len
  unfolding cell_links laid_out
  links_long = per_cell_length F.len (λ i j. get_or F.links i 0)

  dst_long : length (cell_traffic F).dst ≡ total F.len
  unfolding cell_traffic laid_out
  dst_long = per_cell_length F.len (λ i j. get_or F.dst i 0)

  pub due_long : length (cell_traffic F).due ≡ total F.len
  unfolding cell_traffic cell_dues dues_of
  due_long = per_cell_length F.len (λ i j. get_or F.due i 0 - (get_or F.len i 0 - suc j))

  module _ (i j : ℕ) (known : i < length F.len) (in_row : j < get_or F.len i 0) where
    pub owner_at : get_or (owners F) (first_cell F.len i + j) 0 ≡ suc i
    unfolding owners owners_of
    owner_at = per_cell_entry F.len (λ i j. suc i) i j known in_row

    pub links_at : get_or (cell_links F) (first_cell F.len i + j) 0 ≡ get_or F.links i 0
    unfolding cell_links laid_out
    links_at = per_cell_entry F.len (λ i j. get_or F.links i 0) i j known in_row

    pub dst_at : get_or (cell_traffic F).dst (first_cell F.len i + j) 0 ≡ get_or F.dst i 0
    unfolding cell_traffic laid_out
    dst_at = per_cell_entry F.len (λ i j. get_or F.dst i 0) i j known in_row

    pub due_at : get_or (cell_traffic F).due (first_cell F.len i + j) 0
        ≡ get_or F.due i 0 - (get_or F.len i 0 - suc j)
    unfolding cell_traffic cell_dues dues_of
    due_at = per_cell_entry F.len (λ i j. get_or F.due i 0 - (get_or F.len i 0 - suc j)) i j known in_row

  module _ {c : ℕ} (s : Seat F.len c) where
    pub seat_owner : get_or (owners F) c 0 ≡ suc s.row
    seat_owner = ap (λ x. get_or (owners F) x 0) s.is ∙ owner_at s.row s.place s.known s.in_row

    pub seat_links : get_or (cell_links F) c 0 ≡ get_or F.links s.row 0
    seat_links = ap (λ x. get_or (cell_links F) x 0) s.is ∙ links_at s.row s.place s.known s.in_row

    pub seat_dst : get_or (cell_traffic F).dst c 0 ≡ get_or F.dst s.row 0
    seat_dst = ap (λ x. get_or (cell_traffic F).dst x 0) s.is ∙ dst_at s.row s.place s.known s.in_row

    pub seat_due : get_or (cell_traffic F).due c 0
        ≡ get_or F.due s.row 0 - (get_or F.len s.row 0 - suc s.place)
    seat_due = ap (λ x. get_or (cell_traffic F).due x 0) s.is ∙ due_at s.row s.place s.known s.in_row

  -- Cells of a table of the ring are a state of the ring.
  pub laid_on_ring : Laden F → OnRing (cell_traffic F) (cell_links F)
  laid_on_ring laden =
      record {
        some_node = unfold cell_traffic in laden.some_node;
        dst_each = dst_long ∙ sym links_long;
        due_each = due_long ∙ sym links_long;
        dst_inside = λ c l. dst_in c (seat F.len c (rw links_long at l));
        left_inside = λ c l. left_in c (seat F.len c (rw links_long at l));
      }
    where
      dst_in : (c : ℕ) → Seat F.len c → get_or (cell_traffic F).dst c 0 < (cell_traffic F).nodes
      dst_in c s = rw (seat_dst s) (unfold cell_traffic in laden.dst_inside s.row s.known)

      left_in : (c : ℕ) → Seat F.len c → get_or (cell_links F) c 0 ≤ (cell_traffic F).nodes
      left_in c s = rw (seat_links s) (unfold cell_traffic in laden.links_inside s.row s.known)

  -- Two cells of one row, the first before the second.
  pub record Pair (c d : ℕ) : Type 0 where
    pub row : ℕ
    pub first : ℕ
    pub second : ℕ
    pub known : row < length F.len
    pub before : first < second
    pub in_row : second < get_or F.len row 0
    pub c_is : c ≡ first_cell F.len row + first
    pub d_is : d ≡ first_cell F.len row + second

  pub pair : (c d : ℕ) → c < d → d < total F.len → get_or (owners F) c 0 ≡ get_or (owners F) d 0 → Pair c d
  pair c d l known same = go (seat F.len c (omega arith)) (seat F.len d known)
    where
      go : Seat F.len c → Seat F.len d → Pair c d
      go a b =
          let rows : a.row ≡ b.row = omega (arith, seat_owner a, seat_owner b) in
          let starts : first_cell F.len a.row ≡ first_cell F.len b.row = ap (first_cell F.len) rows in
          record {
            row = b.row;
            first = a.place;
            second = b.place;
            known = b.known;
            before = omega (arith, a.is, b.is);
            in_row = b.in_row;
            c_is = a.is ∙ ap (λ x. x + a.place) starts;
            d_is = b.is;
          }

  module _ {c d : ℕ} (pr : Pair c d) where
    abbrev seat_c : Seat F.len c
    seat_c =
        record {
          row = pr.row;
          place = pr.first;
          known = pr.known;
          in_row = omega (arith, pr.before, pr.in_row);
          is = pr.c_is;
        }

    abbrev seat_d : Seat F.len d
    seat_d =
        record { row = pr.row; place = pr.second; known = pr.known; in_row = pr.in_row; is = pr.d_is }

    pub pair_owner : get_or (owners F) c 0 ≡ get_or (owners F) d 0
    pair_owner = seat_owner seat_c ∙ sym (seat_owner seat_d)

    pub pair_dst : get_or (cell_traffic F).dst c 0 ≡ get_or (cell_traffic F).dst d 0
    pair_dst = seat_dst seat_c ∙ sym (seat_dst seat_d)

    pub pair_links : get_or (cell_links F) c 0 ≡ get_or (cell_links F) d 0
    pair_links = seat_links seat_c ∙ sym (seat_links seat_d)

    -- the earlier one is due no later
    pub pair_due : get_or (cell_traffic F).due c 0 ≤ get_or (cell_traffic F).due d 0
    pair_due = omega (arith, seat_due seat_c, seat_due seat_d, pr.before)

-- ---- a slot that names rows

module _ (F : Freight) where
  abbrev T : Traffic
  T = cell_traffic F

  -- The road and the traffic of the cells differ in due slots alone, which no move asks for.
  pub same_place : (left : List ℕ) (c : ℕ) → place (road F) left c ≡ place T left c
  unfolding place road cell_traffic
  same_place left c = refl

  pub same_move : (slot left : List ℕ) → moved (road F) slot left ≡ moved T slot left
  unfolding moved place road cell_traffic
  same_move slot left = refl

  pub waits_then : (left : List ℕ) (row p c : ℕ) → waits F left row p c ≡ true
      → (get_or (owners F) c 0 ≡ row) × Stands T left p c
  unfolding waits under_way
  waits_then left row p c e =
      let at = place (road F) left c in
      let (of_row, rest) = both_hold (eqb (get_or (owners F) c 0) row) (ltb 0 (get_or left c 0) && eqb at p) e in
      let (under_way_lem, here) = both_hold (ltb 0 (get_or left c 0)) (eqb at p) rest in (
        eqb-true (get_or (owners F) c 0) row of_row,
        record {
          under_way_lem = ltb-true 0 (get_or left c 0) under_way_lem;
          here = sym (same_place left c) ∙ eqb-true at p here;
        },
      )

  pub then_waits : (left : List ℕ) (row p c : ℕ) → get_or (owners F) c 0 ≡ row → Stands T left p c
      → waits F left row p c ≡ true
  unfolding waits under_way
  then_waits left row p c e s =
      let of_row = eq-eqb (get_or (owners F) c 0) row e in
      let here = eq-eqb (place (road F) left c) p (same_place left c ∙ s.here) in
      rw (of_row, lt-ltb 0 (get_or left c 0) s.under_way_lem, here)

  module _ (left : List ℕ) (ring : OnRing T left) where
    -- Two cells under way to one node that stand at one node have as far to go.
    pub same_left : (c d p : ℕ) → c < length left → d < length left → get_or T.dst c 0 ≡ get_or T.dst d 0
        → Stands T left p c → Stands T left p d → get_or left c 0 ≡ get_or left d 0
    same_left c d p kc kd same a b = sym (from_here c kc a) ∙ ap (distance T.nodes p) same ∙ from_here d kd b
      where
        from_here : (e : ℕ) → e < length left → Stands T left p e
            → distance T.nodes p (get_or T.dst e 0) ≡ get_or left e 0
        from_here e known s =
            rw (sym s.here)
            (unfold place in
            still_to_go T.nodes (get_or T.dst e 0) (get_or left e 0)
            (ring.dst_inside e known) s.under_way_lem (ring.left_inside e known))

    -- And two that have as far to go stand at one node.
    stands_with : (c d p : ℕ) → get_or T.dst c 0 ≡ get_or T.dst d 0 → get_or left c 0 ≡ get_or left d 0
        → Stands T left p d → Stands T left p c
    stands_with c d p same far s = record { under_way_lem = omega (arith, s.under_way_lem); here = here ∙ s.here }
      where
        here : place T left c ≡ place T left d
        here = unfold place in rw (same, far)

    -- Earlier cells of a row have no farther to go.
    abbrev pub Ordered : Type 0
    Ordered = (c d : ℕ) → Pair F c d → get_or left c 0 ≤ get_or left d 0

    carried_at : (slot : List ℕ) (p : ℕ) → p < T.nodes
        → get_or (carried F slot left) p 0 ≡ earliest F left (get_or slot p 0) p
    unfolding carried cell_traffic
    carried_at slot p l = get_or_build F.nodes (λ p. earliest F left (get_or slot p 0) p) p 0 l

    -- A cell that moves has none of its row before it at its node, so the cells before it are farther on.
    pub stays_behind : (slot : List ℕ) → length left ≡ total F.len → Ordered → (c d : ℕ) → Pair F c d
        → get_or left c 0 ≤ get_or (moved T (carried F slot left) left) d 0
    stays_behind slot long ordered c d pr = go (dec_lt (get_or after d 0) (get_or left d 0))
      where
        after : List ℕ
        after = moved T (carried F slot left) left

        kd : d < length left
        kd = omega (arith, pr.d_is, cell_known F.len pr.row pr.second pr.known pr.in_row)

        kc : c < d
        kc = omega (arith, pr.c_is, pr.d_is, pr.before)

        q : ℕ
        q = place T left d

        -- the row that is named where the later cell stands
        row : ℕ
        row = get_or slot q 0

        go : Dec (get_or after d 0 < get_or left d 0) → get_or left c 0 ≤ get_or after d 0
        go (no m) = omega (arith, ordered c d pr)
        go (yes m) = farther (dec_lt (get_or left c 0) (get_or left d 0))
          where
            named : earliest F left row q ≡ suc d
            named =
                sym (carried_at slot q (place_inside T left ring d kd))
                ∙ moved_named T (carried F slot left) left d kd m

            first : First (waits F left row q) (length left) 0 d
            first = first_then (waits F left row q) (length left) 0 d (unfold earliest in named)

            waiting : (get_or (owners F) d 0 ≡ row) × Stands T left q d
            waiting = waits_then left row q d first.passes

            farther : Dec (get_or left c 0 < get_or left d 0) → get_or left c 0 ≤ get_or after d 0
            farther (yes l) = omega (arith, moved_by_one T (carried F slot left) left d kd)
            farther (no l) =
                let far : get_or left c 0 ≡ get_or left d 0 = omega (arith, ordered c d pr) in
                let beside = stands_with c d q (pair_dst F pr) far waiting.1 in
                let too = then_waits left row q c (pair_owner F pr ∙ waiting.0) beside in
                absurd (differ (sym (first.none_before c (omega arith) kc) ∙ too))

-- ---- a run of slots that name rows

module _ (F : Freight) (laden : Laden F) (schedule : List ℕ) where
  abbrev pub left : ℕ → List ℕ
  left t = cells_left F schedule t

  abbrev pub slot : ℕ → List ℕ
  slot t = carried F (named_in (road F) schedule t) (left t)

  pub next : (t : ℕ) → left (suc t) ≡ moved (cell_traffic F) (slot t) (left t)
  unfolding cells_left
  next t = same_move F (slot t) (left t)

  pub at_start : left 0 ≡ cell_links F
  unfolding cells_left
  at_start = refl

  pub left_on_ring : (t : ℕ) → OnRing (cell_traffic F) (left t)
  left_on_ring = run_on_ring (cell_traffic F) left slot next (rw at_start (laid_on_ring F laden))

  pub left_long : (t : ℕ) → length (left t) ≡ total F.len
  left_long t = run_length (cell_traffic F) left slot next t ∙ ap length at_start ∙ links_long F

  -- a state in which the cells keep their order leads to one that lies behind it
  one_slot : (t : ℕ) → Ordered F (left t) (left_on_ring t)
      → (c d : ℕ) → Pair F c d → get_or (left t) c 0 ≤ get_or (left (suc t)) d 0
  one_slot t order c d pr =
      rw (next t)
      (stays_behind F (left t) (left_on_ring t) (named_in (road F) schedule t) (left_long t) order c d pr)

  pub ordered : (t : ℕ) → Ordered F (left t) (left_on_ring t)
  ordered zero c d pr = rw at_start (omega (arith, pair_links F pr))
  ordered (suc t) c d pr =
      let in_row : pr.first < get_or F.len pr.row 0 = omega (arith, pr.before, pr.in_row) in
      let inside = cell_known F.len pr.row pr.first pr.known in_row in
      let known : c < length (left 0) = omega (arith, left_long 0, pr.c_is, inside) in
      let less = run_less (cell_traffic F) left slot next c known t (suc t) (omega arith) in
      omega (arith, one_slot t (ordered t) c d pr, less)

  -- At any instant a cell has no more links to go than a later cell of its row has one instant later.
  pub behind : (t : ℕ) → (c d : ℕ) → Pair F c d → get_or (left t) c 0 ≤ get_or (left (suc t)) d 0
  behind t = one_slot t (ordered t)

  -- And so k instants later for the cell k places behind it.
  pub far_behind : (i j k t : ℕ) → i < length F.len → j + k < get_or F.len i 0
      → get_or (left t) (first_cell F.len i + j) 0 ≤ get_or (left (t + k)) (first_cell F.len i + (j + k)) 0
  far_behind i j zero t known in_row =
      let a : t + 0 ≡ t = omega arith in
      let b : j + 0 ≡ j = omega arith in
      rw (a, b) (omega arith)
  far_behind i j (suc k) t known in_row =
      let a : t + suc k ≡ suc (t + k) = omega arith in
      let b : j + suc k ≡ suc (j + k) = omega arith in
      let c : ℕ = first_cell F.len i + (j + k) in
      let d : ℕ = first_cell F.len i + suc (j + k) in
      let pr : Pair F c d
      = record {
        row = i;
        first = j + k;
        second = suc (j + k);
        known = known;
        before = omega arith;
        in_row = omega arith;
        c_is = refl;
        d_is = refl;
      } in
      rw (a, b) (omega (arith, far_behind i j k t known (omega arith), behind (t + k) c d pr))
