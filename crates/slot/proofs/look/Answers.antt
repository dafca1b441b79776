-- `slot::look` meets its contract: each way through it is one law of a row looked at.
-- Assumes nothing.
use borrow.Author.Rules.{rules}
use mathlib.Core.Path.{◌≡◌}
use Prim.Native.Nat.{ℕ, ◌-◌, ◌<◌, ◌^◌}
use native.Mathlib.Omega.{arith}
use mathlib.Core.List.{List}
use lib.IntN.{ℤ, pos}
use lib.Signed.{mag}
use lib.ListN.{get_or}
use Rattle.ring.specs.Ring.{standing}
use Rattle.slack.specs.declared.Cell.{Cell}
use Rattle.slack.specs.Slack.{dsts_in}
use Rattle.slack.proofs.Cells.{no_cell, dsts_long, dst_at}
use Rattle.slot.specs.Steps.{board, Looking, stands_at}
use Rattle.slot.proofs.Looking.{compared, idle, on_ring, Standing, slot_has, first, rival_is, tighter, looser}
use Rattle.slot.proofs.look.Goals as goal

-- From where the row's node is known it is under way, and stands at that node.
stands : {n : ℕ} (cells : List Cell) {left : List ℕ} {figure : List ℤ} {i : ℕ} {slot : List ℕ} {p : ℕ}
    → Looking (board n (dsts_in cells) left figure) i slot
    → p ≡ standing n (get_or cells i no_cell).dst.0 (get_or left i 0) → (get_or left i 0 ≡ 0 → ⊥)
    → Standing (board n (dsts_in cells) left figure) i slot p
unfolding stands_at
stands cells {i} k at not_there = record { looking = k; at = rw (dst_at cells i) at; not_there = not_there }

pub returns-then-to_go-eq0 : goal.returns-then-to_go-eq0
returns-then-to_go-eq0 c = idle c.requires c.if-to_go-eq0.true

pub bounds-cargo-i : goal.bounds-cargo-i
bounds-cargo-i c = omega (arith, c.requires.placed.dst_each, dsts_long c.args.cargo.cells.now, c.requires.row)

pub node_at-at-requires : goal.node_at-at-requires
node_at-at-requires c = rw (dst_at c.args.cargo.cells.now c.args.i) at (on_ring c.requires)

pub bounds-slot-p : goal.bounds-slot-p
bounds-slot-p c = slot_has (stands c.args.cargo.cells.now c.requires c.node_at-at.ensures c.if-to_go-eq0.false)

pub bounds-slot-p-then-best-eq0 : goal.bounds-slot-p-then-best-eq0
bounds-slot-p-then-best-eq0 c = slot_has (stands c.args.cargo.cells.now c.requires c.node_at-at.ensures c.if-to_go-eq0.false)

pub returns-then-best-eq0 : goal.returns-then-best-eq0
returns-then-best-eq0 c = first (stands c.args.cargo.cells.now c.requires c.node_at-at.ensures c.if-to_go-eq0.false) c.if-best-eq0.true

pub bounds-figure-b : goal.bounds-figure-b
bounds-figure-b c =
    let k = stands c.args.cargo.cells.now c.requires c.node_at-at.ensures c.if-to_go-eq0.false in
    omega (arith, rival_is k c.if-best-eq0.false, k.looking.placed.figure_each)

pub returns-then-figure-i : goal.returns-then-figure-i
returns-then-figure-i c =
    let k = stands c.args.cargo.cells.now c.requires c.node_at-at.ensures c.if-to_go-eq0.false in
    let a = c.args in
    let x : ℤ = get_or a.figure.now a.i (pos 0) in
    let y : ℤ = get_or a.figure.now (get_or a.slot.now c.node_at-at.result.0 0 - 1) (pos 0) in
    let fx : mag x < 2 ^ 31 = search rules in
    let fy : mag y < 2 ^ 31 = search rules in
    tighter k c.if-best-eq0.false (compared x y _ fx fy c.if-figure-i.true)

pub returns-else-figure-i : goal.returns-else-figure-i
returns-else-figure-i c =
    let k = stands c.args.cargo.cells.now c.requires c.node_at-at.ensures c.if-to_go-eq0.false in
    let a = c.args in
    let x : ℤ = get_or a.figure.now a.i (pos 0) in
    let y : ℤ = get_or a.figure.now (get_or a.slot.now c.node_at-at.result.0 0 - 1) (pos 0) in
    let fx : mag x < 2 ^ 31 = search rules in
    let fy : mag y < 2 ^ 31 = search rules in
    looser k c.if-best-eq0.false (compared x y _ fx fy c.if-figure-i.false)
