use Rattle.std.proofs.Common.{◌++◌, subst}
use Rattle.std.proofs.lemmas.Result.{on_ok_weaker}
use Rattle.esc_decode.specs.Decodings.{decoded_stream}
use Rattle.esc_sanitize.proofs.Following.{follows_end, on_err_any}
use Rattle.esc_sanitize.specs.Audits.{HeardAll}
use Rattle.esc_sanitize.specs.Written.{passing_of}
use Rattle.esc_sanitize.proofs.hearing.Hearing.finish.Goals as goal

pub returns-clause-ended : goal.returns-clause-ended
returns-clause-ended g c = λ s h.
    let old = c.args.self.now in
    let o = old.options in
    let added = c.in_ok-finish.ensures.ended h.going h.closed s h.decodes in
    on_ok_weaker c.hear_end.result
    (λ heard.
    follows_end g.F.StreamFilter g.P.Admit g.B.Book o old.decoding old.auditor s h
    c.finish.new.self c.hear_end.new.self (g.F.StreamFilter.added c.finish.new.self.filter)
    added
    (subst (λ t. HeardAll g.P.Admit g.B.Book c.hear_end.new.self (decoded_stream o.encoding s)
    (passing_of g.P.Admit o s ++ t)) c.output.ensures heard) c.hear_end.ensures.keeps)
    (c.hear_end.ensures.ended (decoded_stream o.encoding s) (passing_of g.P.Admit o s) h.heard)

pub returns-in_err-finish-clause-refused : goal.returns-in_err-finish-clause-refused
returns-in_err-finish-clause-refused g c = λ s h.
    on_err_any _ c.from_residual.result
    (c.in_err-finish.ensures.refused h.going h.closed s h.decodes)
