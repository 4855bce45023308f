use Rattle.std.proofs.Common.{ap, ◌∙◌}
use Rattle.esc_sanitize.specs.Judged.{judged_rule}
use Rattle.esc_sanitize.proofs.Auditing.{way_lines, way_none, way_whole}
use Rattle.esc_sanitize.proofs.auditor.Auditor.new.Goals as goal

pub returns-then-not-options-clause-way : goal.returns-then-not-options-clause-way
returns-then-not-options-clause-way g c =
    way_none g.P.Admit c.args.options c.if-not-options.true

pub returns-then-by_lines-clause-way : goal.returns-then-by_lines-clause-way
returns-then-by_lines-clause-way g c =
    way_lines g.P.Admit c.args.options _ c.if-not-options.false c.if-by_lines.true
    (ap (judged_rule g.P.Admit) c.new.ensures.judge ∙ c.new-judge.ensures.rule)

pub returns-else-by_lines-clause-way : goal.returns-else-by_lines-clause-way
returns-else-by_lines-clause-way g c =
    way_whole g.P.Admit c.args.options _ c.if-not-options.false c.if-by_lines.false
    (ap (judged_rule g.P.Admit) c.new-else-by_lines.ensures.judge ∙ c.new-judge.ensures.rule)
