use Rattle.esc_filter.proofs.Output.NothingWasFed.{begun, nothing}
use Rattle.esc_sanitize.proofs.Beginning.{begins_framed, begins_whole}
use Rattle.esc_sanitize.proofs.Texts.{whole_adds}
use Rattle.esc_sanitize.proofs.chain.framed.Goals as goal

pub returns-then-by_lines : goal.returns-then-by_lines
returns-then-by_lines g c =
    let o = c.args.options in
    let k = c.lined.ensures in
    begins_framed _ c.lined.result o.guard o.limit (g.P.Admit.admits o.policy) _ _ o.resumes
    o.by_lines c.if-by_lines.true k k.given

pub returns-else-by_lines : goal.returns-else-by_lines
returns-else-by_lines g c =
    let o = c.args.options in
    let p = g.P.Admit.admits o.policy in
    let new = begun g.P.Admit.admits o.guard o.limit o.policy c.with_guard.result
    c.with_guard.ensures.policy c.with_guard.ensures.fed in
    begins_whole _ _ o.guard o.limit p o.resumes o.by_lines c.if-by_lines.false new
    (whole_adds o.guard o.limit p) (nothing o.guard o.limit p)
