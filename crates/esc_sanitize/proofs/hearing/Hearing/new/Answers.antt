use Rattle.esc_sanitize.proofs.Following.{follows_none}
use Rattle.esc_sanitize.proofs.hearing.Hearing.new.Goals as goal

pub returns-clause-begins : goal.returns-clause-begins
returns-clause-begins g c = λ b heard way.
    follows_none g.F.StreamFilter g.P.Admit g.B.Book c.args.options c.new.result c.args.auditor
    c.args.filter b (c.new.ensures.begins b.going b.closed b.given b.adds)
    c.new.ensures.filter.1 heard way
