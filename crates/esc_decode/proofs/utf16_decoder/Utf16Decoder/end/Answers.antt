use Rattle.std.proofs.lemmas.Result.{on_ok_weaker}
use Rattle.esc_decode.specs.Spellings.{spell_all}
use Rattle.esc_decode.proofs.Utf16Streams.{ended}
use Rattle.esc_decode.specs.Units.{cut_short}
use Rattle.esc_decode.proofs.utf16_decoder.Utf16Decoder.end.Goals as goal

pub returns-clause-decoded : goal.returns-clause-decoded
returns-clause-decoded g c = λ k s is.
    let u = c.args.self.now.units in
    on_ok_weaker c.end.result
    (λ text. (spell_all (cut_short u.odd u.high), text, ended k s c.args.self.now is))
    c.end.ensures.text
