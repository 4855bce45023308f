use Rattle.std.proofs.Common.{◌++◌, subst, ◌∙◌}
use Rattle.std.proofs.lemmas.Result.{on_ok_weaker}
use Rattle.esc_decode.specs.Decodings.{decoded_stream}
use Rattle.esc_sanitize.proofs.Following.{follows_more, on_err_any}
use Rattle.esc_sanitize.specs.Audits.{Heard}
use Rattle.esc_sanitize.specs.Written.{passing_of}
use Rattle.esc_sanitize.proofs.hearing.Hearing.feed.Goals as goal

pub returns-clause-given : goal.returns-clause-given
returns-clause-given g c = λ s h.
    let old = c.args.self.now in
    let o = old.options in
    let k = c.in_ok-feed.ensures.given h.going h.closed s h.decodes in
    let x = c.chunk.result.now in
    on_ok_weaker c.hear.result
    (λ heard.
    follows_more g.F.StreamFilter g.P.Admit g.B.Book o old.decoding old.auditor s h c.feed.new.self
    c.hear.new.self c.args.bytes.now x (g.F.StreamFilter.added c.feed.new.self.filter) k.0 k.1
    c.in_ok-feed.ensures.became.1 (c.chunk.ensures ∙ c.in_ok-feed.ensures.became.0)
    (subst (λ t. Heard g.P.Admit g.B.Book c.hear.new.self (decoded_stream o.encoding s ++ x)
    (passing_of g.P.Admit o s ++ t)) c.output.ensures heard) c.hear.ensures.keeps)
    (c.hear.ensures.heard (decoded_stream o.encoding s) (passing_of g.P.Admit o s) h.heard)

pub returns-in_err-feed-clause-refused : goal.returns-in_err-feed-clause-refused
returns-in_err-feed-clause-refused g c = λ s h.
    on_err_any _ c.from_residual.result
    (c.in_err-feed.ensures.refused h.going h.closed s h.decodes)
