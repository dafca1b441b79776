-- `text::put_numeral` meets its contract: after j turns the first j digits stand at their place.
use Rattle.std.proofs.Common.{◌∙◌, sym, arith}
use lib.Seq.{paste-zero}
use Rattle.text.specs.Text.{numeral}
use Rattle.text.proofs.Numeral.{numeral-length}
use Rattle.text.proofs.Pasting.{numeral_byte, put_more, put_all}
use Rattle.text.proofs.put_numeral.Goals as goal

pub loop-j-init : goal.loop-j-init
loop-j-init c = record {
  long = c.width_of-w.ensures ∙ sym (numeral-length c.args.v);
  so = paste-zero c.args.area.now c.args.at (numeral c.args.v);
}

pub loop-j-preserved : goal.loop-j-preserved
loop-j-preserved c =
    let v = c.args.v in
    let k = c.loop-j in record {
      long = k.invariant.long;
      so =
          put_more c.args.area.now c.args.at (numeral v) c.requires k.j k.area c.digit.result (omega arith)
          (c.digit.ensures ∙ numeral_byte v k.j c.width_of-w.result c.width_of-w.ensures (omega arith)) k.invariant.so;
    }

pub returns : goal.returns
returns c =
    let k = c.loop-j in (
      omega arith,
      put_all c.args.area.now c.args.at (numeral c.args.v) c.requires k.j k.area (omega arith) k.invariant.so,
    )
