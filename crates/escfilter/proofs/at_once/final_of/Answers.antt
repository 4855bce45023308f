use Rattle.std.proofs.Common.{arith, refl, sym, ◌∙◌}
use Rattle.esc_account.proofs.Segments.EscapeEndsSegment.{first_shape}
use Rattle.esc_account.proofs.Segments.ShortSequenceEvent.{short_told}
use Rattle.esc_frame.specs.Segments.{joined_bytes}
use Rattle.escfilter.proofs.AtOnce.{sequence_reading}
use Rattle.escfilter.proofs.at_once.final_of.Goals as goal

pub returns-else-read-body : goal.returns-else-read-body
returns-else-read-body c = λ s gs each item.
    let kind = sym item.kind ∙ c.is_csi.ensures c.if-not-is_csi.false in
    sequence_reading c.args.limit s gs c.args.segment.finished _ _ kind item.finished
    (short_told _ c.args.segment.bytes.now _ c.read.result s c.args.segment.finished
    (joined_bytes gs) (first_shape s gs each) kind item.bytes
    (omega (arith, c.if-bytes-lt3.false)) c.if-bytes-ne27.false c.if-bytes-ne91.false refl
    (omega (arith, c.if-read-body.false)) c.read.ensures.keeps)
