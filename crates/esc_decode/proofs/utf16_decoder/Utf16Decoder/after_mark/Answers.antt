use Rattle.esc_decode.proofs.Utf16Streams.{by_mark, no_mark}
use Rattle.esc_decode.proofs.utf16_decoder.Utf16Decoder.after_mark.Goals as goal

pub returns-then-self : goal.returns-then-self
returns-then-self c = λ k s is.
    by_mark k s c.args.bytes.now c.take_mark.result.now c.args.self.now c.take_mark.new.self is
    c.if-self.true c.take_mark.ensures

pub returns-else-self : goal.returns-else-self
returns-else-self c = λ k s is. no_mark k s c.args.bytes.now c.args.self.now is c.if-self.false
