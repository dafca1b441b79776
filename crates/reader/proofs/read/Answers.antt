-- `reader::read` meets its contract: the rows that were read go to the front of the lent rows.
use Rattle.std.proofs.Common.{◌∙◌, ap, length, sym, rules, length-take-le}
use Rattle.text.proofs.RoundTrip.{rows_counted}
use Rattle.reader.proofs.Taking.{refused_taken, rows_fit, rows_front, read_taken}
use Rattle.reader.proofs.read.Goals as goal

pub returns-in_err-parsed : goal.returns-in_err-parsed
returns-in_err-parsed c = refused_taken _ _ c.in_err-parsed.ensures (search rules)

pub slice_bounds-copy_from_slice-end : goal.slice_bounds-copy_from_slice-end
slice_bounds-copy_from_slice-end c = (rows_fit c.args.text.now _ c.in_ok-parsed.ensures.0).0

pub slice_bounds-copy_from_slice-end-2 : goal.slice_bounds-copy_from_slice-end-2
slice_bounds-copy_from_slice-end-2 c = sym (length-take-le _ _ (rows_fit c.args.text.now _ c.in_ok-parsed.ensures.0).0)

pub shared_ref_as_front-copy_from_slice : goal.shared_ref_as_front-copy_from_slice
shared_ref_as_front-copy_from_slice c = (rows_fit c.args.text.now _ c.in_ok-parsed.ensures.0).1

pub copy_from_slice-requires : goal.copy_from_slice-requires
copy_from_slice-requires c =
    let found = c.in_ok-parsed.ensures in
    let front = rows_front c.args.text.now _ found.0 _ found.1 in
    length-take-le _ _ (rows_fit c.args.text.now _ found.0).0
    ∙ sym (ap length front ∙ sym (rows_counted c.args.text.now _ _ found.0))

pub returns : goal.returns
returns c =
    let found = c.in_ok-parsed.ensures in
    read_taken c.args.text.now c.args.rows.now found.0
    (c.copy_from_slice.ensures.after ∙ rows_front c.args.text.now _ found.0 _ found.1)
