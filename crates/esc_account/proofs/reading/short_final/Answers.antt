use Rattle.std.proofs.Common.{arith, refl, sym, ◌∙◌}
use Rattle.esc_account.proofs.Segments.ShortSequenceEvent.{short_told}
use Rattle.esc_account.proofs.reading.short_final.Goals as goal

pub returns-else-read-body-clause-told : goal.returns-else-read-body-clause-told
returns-else-read-body-clause-told c = λ s after h item.
    short_told _ c.args.segment.bytes.now _ c.read.result s c.args.segment.finished after h
    (sym item.kind ∙ c.is_csi.ensures c.if-not-is_csi.false) item.bytes
    (omega (arith, c.if-bytes-lt3.false)) c.if-bytes-ne27.false c.if-bytes-ne91.false refl
    (omega (arith, c.if-read-body.false)) c.read.ensures.keeps
