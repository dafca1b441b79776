-- `text::put_bytes` meets its contract: a part of the area was overwritten by the bytes.
use Rattle.std.proofs.Common.{◌∙◌, length, refl, arith}
use Rattle.std.proofs.lemmas.Slice.{put_mid-paste}
use Rattle.text.proofs.Pasting.{pasted_all}
use Rattle.text.proofs.put_bytes.Goals as goal

pub returns : goal.returns
returns c =
    let area = c.args.area.now in
    let bytes = c.args.bytes.now in (
      refl,
      put_mid-paste c.args.at _ area _ bytes (length bytes) c.copy_from_slice.ensures.after (omega arith) refl
          ∙ pasted_all area c.args.at bytes,
    )
