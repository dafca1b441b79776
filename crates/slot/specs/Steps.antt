-- What single steps of the code ask and give. The promise of a run speaks of Slack.antt alone; nothing here has to be
-- believed.
use Rattle.std.specs.Prelude.{ℕ, zero, suc, pred, ◌-◌, ◌≤◌, ◌<◌, ◌^◌, ◌≡◌, Bool, false, cond, ◌&&◌, ◌||◌, List, [], ◌∷◌, eqb, ℤ, pos, ◌+ℤ◌, length, get_or}
use Rattle.std.specs.Int.Signed.{lt_z, mag}
use Rattle.lists.specs.Lists.{build}
use Rattle.ring.specs.Ring.{standing}
use Rattle.slack.specs.Figure.{figures_of}
use Rattle.slack.specs.declared.Cargo.{Cargo}
use Rattle.slack.specs.Slack.{Traffic, traffic, dsts_in, OnRing, under_way, slot_of, moved}

-- What a slot is chosen from: the number of nodes, and each row's destination, links to go and figure.
pub record Board : Type 0 where
  pub nodes : ℕ
  pub dst : List ℕ
  pub left : List ℕ
  pub figure : List ℤ

abbrev pub board : ℕ → List ℕ → List ℕ → List ℤ → Board
board nodes dst left figure = record { nodes = nodes; dst = dst; left = left; figure = figure }

-- What a slot of a cargo is chosen from.
abbrev pub board_of : Cargo → (left : List ℕ) → (figure : List ℤ) → Board
board_of cargo left figure = board cargo.nodes (dsts_in cargo.cells.now) left figure

-- The node at which row i stands.
unfoldable pub stands_at : Board → ℕ → ℕ
stands_at B i = standing B.nodes (get_or B.dst i 0) (get_or B.left i 0)

-- Row i stands at p, not delivered, and has a lower figure than the row numbered best, or there is none such.
unfoldable pub lower : Board → (p best i : ℕ) → Bool
lower B p best i =
    under_way B.left i
    && (eqb (stands_at B i) p && (eqb best 0 || lt_z (get_or B.figure i (pos 0)) (get_or B.figure (pred best) (pos 0))))

-- The number of the row of lowest figure that stands at p, of the first i rows; the lower row on a tie; 0 where none
-- stands there.
unfoldable pub lowest : Board → (p i : ℕ) → ℕ
lowest B p zero = 0
lowest B p (suc i) = let best = lowest B p i in cond (lower B p best i) (suc i) best

-- What the links are to carry once the first i rows have been looked at.
unfoldable pub seen : Board → ℕ → List ℕ
seen B i = build B.nodes (λ p. lowest B p i)

-- The figures once the row that the last link carries has passed node 0.
unfoldable pub turned : (n : ℕ) (slot : List ℕ) → List ℤ → List ℤ
turned n slot figures =
    build (length figures) (λ i.
    cond (eqb (get_or slot (n - 1) 0) (suc i)) (get_or figures i (pos 0) +ℤ pos n) (get_or figures i (pos 0)))

-- Each row of a board has a destination on the ring, a figure, and no more links to go than the ring has.
pub record Placed (B : Board) : Type 0 where
  pub dst_each : length B.dst ≡ length B.left
  pub figure_each : length B.figure ≡ length B.left
  pub dst_inside : (i : ℕ) → i < length B.left → get_or B.dst i 0 < B.nodes
  pub left_inside : (i : ℕ) → i < length B.left → get_or B.left i 0 ≤ B.nodes

-- A slot names row i on some link.
unfoldable pub named : List ℕ → ℕ → Bool
named [] i = false
named (entry ∷ entries) i = eqb entry (suc i) || named entries i

-- The links to go once the rows that a slot names have gone one link.
unfoldable pub less : (slot left : List ℕ) → List ℕ
less slot left = build (length left) (λ i. get_or left i 0 - cond (named slot i) 1 0)

-- A list in which the rows that a slot names are stamped with an instant.
unfoldable pub stamped : (slot : List ℕ) → ℕ → List ℕ → List ℕ
stamped slot t list = build (length list) (λ i. cond (named slot i) t (get_or list i 0))

-- A slot names only rows that have links to go, each on one link.
pub record Sending (slot left arrivals : List ℕ) : Type 0 where
  pub rows : length arrivals ≡ length left
  pub to_go : (p i : ℕ) → p < length slot → get_or slot p 0 ≡ suc i → (i < length left) × (0 < get_or left i 0)
  pub once : (p q i : ℕ) → p < length slot → q < length slot → get_or slot p 0 ≡ suc i → get_or slot q 0 ≡ suc i → p ≡ q

-- Row numbers fit 16 bits, and row i has its turn to be looked at.
pub record Looking (B : Board) (i : ℕ) (slot : List ℕ) : Type 0 where
  pub placed : Placed B
  pub few : length B.left < 2 ^ 16
  pub row : i < length B.left
  pub so_far : slot ≡ seen B i

-- The last link names a row with a figure, or none; no figure is near the ends of 32 bits.
pub record Turning (n : ℕ) (slot : List ℕ) (figures : List ℤ) : Type 0 where
  pub some_node : 0 < n
  pub links : length slot ≡ n
  pub names : get_or slot (n - 1) 0 ≤ length figures
  pub small : (i : ℕ) → i < length figures → mag (get_or figures i (pos 0)) < 2 ^ 30

-- A slot can be planned: the figures are those of some due slots, and there is an entry for each link and an arrival
-- for each row.
pub record Slotted (n : ℕ) (dst : List ℕ) (t : ℕ)
    (left : List ℕ) (figures : List ℤ) (slot arrivals : List ℕ) : Type 0 where
  pub due : List ℕ
  pub ring : OnRing (traffic n dst due) left
  pub figured : figures ≡ figures_of (traffic n dst due) left
  pub few : length left < 2 ^ 16
  pub small : (i : ℕ) → i < length left → get_or due i 0 < 2 ^ 16
  pub soon : suc t < 2 ^ 16
  pub links : length slot ≡ n
  pub rows : length arrivals ≡ length left

-- What planning one slot gives: the slot, the state after it, the figures of that state, and the stamps.
pub record SlotPlanned (T : Traffic) (t : ℕ)
    (left arrivals slot left' : List ℕ) (figures' : List ℤ) (arrivals' : List ℕ) : Type 0 where
  pub carries : slot ≡ slot_of T t left
  pub moves : left' ≡ moved T (slot_of T t left) left
  pub figures : figures' ≡ figures_of T (moved T (slot_of T t left) left)
  pub stamps : arrivals' ≡ stamped (slot_of T t left) (suc t) arrivals

-- The same for whatever due slots these are the figures of: they alone say which row goes first.
abbrev pub SlotPlannedBy : (n : ℕ) (dst : List ℕ) (t : ℕ) (left : List ℕ) (figures : List ℤ)
    (arrivals slot left' : List ℕ) (figures' : List ℤ) (arrivals' : List ℕ) → Type 0
SlotPlannedBy n dst t left figures arrivals slot left' figures' arrivals' =
    (due : List ℕ) → OnRing (traffic n dst due) left → figures ≡ figures_of (traffic n dst due) left
    → SlotPlanned (traffic n dst due) t left arrivals slot left' figures' arrivals'
