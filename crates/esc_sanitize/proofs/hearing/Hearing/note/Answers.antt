use Rattle.std.proofs.Common.{◌∙◌}
use Rattle.esc_decode.specs.Decodings.{decoded_stream}
use Rattle.esc_sanitize.specs.Written.{passed_of}
use Rattle.esc_sanitize.proofs.hearing.Hearing.note.Goals as goal

pub returns-clause-heard : goal.returns-clause-heard
returns-clause-heard g c = λ s h.
    let o = c.args.self.now.options in (
      c.note.ensures.heard (decoded_stream o.encoding s) (passed_of g.P.Admit o s) h.0,
      c.note.ensures.way ∙ h.1,
    )
