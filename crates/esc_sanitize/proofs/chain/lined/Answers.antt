use Rattle.std.proofs.Common.{false, refl, true}
use Rattle.esc_filter.proofs.Output.NothingWasFed.{begun_lines, begun_resuming}
use Rattle.esc_sanitize.proofs.Beginning.{begins_lined}
use Rattle.esc_sanitize.proofs.Texts.{lines_add, resumed_add}
use Rattle.esc_sanitize.proofs.chain.lined.Goals as goal

pub returns-then-resumes : goal.returns-then-resumes
returns-then-resumes g c =
    let o = c.args.options in
    let p = g.P.Admit.admits o.policy in
    let new = begun_resuming g.P.Admit.admits true o.guard o.limit o.policy c.new.result
    c.new.ensures.policy c.new.ensures.fed in
    begins_lined _ _ o.guard o.limit p o.resumes true c.if-resumes.true new
    (resumed_add o.guard o.limit p) refl

pub returns-else-resumes : goal.returns-else-resumes
returns-else-resumes g c =
    let o = c.args.options in
    let p = g.P.Admit.admits o.policy in
    let new = begun_lines g.P.Admit.admits o.guard o.limit o.policy c.with_guard.result
    c.with_guard.ensures.policy c.with_guard.ensures.fed in
    begins_lined _ _ o.guard o.limit p o.resumes false c.if-resumes.false new
    (lines_add o.guard o.limit p) refl
