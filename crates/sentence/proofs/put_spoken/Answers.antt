-- `sentence::put_spoken` meets its contract: three pieces written one behind the other.
-- Assumes nothing.
use Prim.Native.Nat.{◌≤◌, ◌<◌}
use native.Mathlib.Omega.{arith}
use lib.ListN.{length}
use Rattle.text.proofs.Numeral.{width_most}
use Rattle.sentence.specs.Sentence.{spoken}
use Rattle.sentence.proofs.Putting.{no_room, spoken_long, row_fits, slot_fits, spoken_put}
use Rattle.sentence.proofs.put_spoken.Goals as goal

pub overflow_add-length : goal.overflow_add-length
overflow_add-length c = omega (arith, width_most c.args.row, c.width_of.ensures)

pub overflow_add-length-2 : goal.overflow_add-length-2
overflow_add-length-2 c =
    let a = c.args in
    omega (arith, width_most a.row, width_most a.slot, c.width_of.ensures, c.width_of-2.ensures)

pub overflow_add-length-3 : goal.overflow_add-length-3
overflow_add-length-3 c =
    let a = c.args in
    omega (arith, width_most a.row, width_most a.slot, c.width_of.ensures, c.width_of-2.ensures)

pub returns-then-area-length : goal.returns-then-area-length
returns-then-area-length c =
    let a = c.args in
    let bytes = spoken a.string.now a.row a.slot in
    let long = spoken_long a.string.now a.row a.slot in
    let short : length a.area.now < length bytes =
    omega (arith, long, c.width_of.ensures, c.width_of-2.ensures) in
    no_room bytes a.area.now c.of_table.ensures short

pub put_item-third-requires : goal.put_item-third-requires
put_item-third-requires c =
    let a = c.args in
    let long = spoken_long a.string.now a.row a.slot in
    let fits : length (spoken a.string.now a.row a.slot) ≤ length a.area.now =
    omega (arith, long, c.width_of.ensures, c.width_of-2.ensures) in
    let one = c.put_bytes-second in
    row_fits a.string.now a.area.now a.row a.slot fits one.result one.new.area one.ensures

pub put_numeral-requires : goal.put_numeral-requires
put_numeral-requires c =
    let a = c.args in
    let long = spoken_long a.string.now a.row a.slot in
    let fits : length (spoken a.string.now a.row a.slot) ≤ length a.area.now =
    omega (arith, long, c.width_of.ensures, c.width_of-2.ensures) in
    let one = c.put_bytes-second in
    let two = c.put_item-third in
    slot_fits a.string.now a.area.now a.row a.slot fits
    one.result one.new.area one.ensures
    two.result two.new.area two.ensures

pub returns : goal.returns
returns c =
    let a = c.args in
    let long = spoken_long a.string.now a.row a.slot in
    let fits : length (spoken a.string.now a.row a.slot) ≤ length a.area.now =
    omega (arith, long, c.width_of.ensures, c.width_of-2.ensures) in
    let one = c.put_bytes-second in
    let two = c.put_item-third in
    spoken_put a.string.now a.area.now a.row a.slot fits
    one.result one.new.area one.ensures
    two.result two.new.area two.ensures
    (omega (arith, c.width_of.ensures, c.width_of-2.ensures))
    c.put_numeral.ensures.1
