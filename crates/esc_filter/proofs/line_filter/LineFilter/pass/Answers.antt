use Rattle.std.proofs.Common.{◌++◌, true, ap, ◌∙◌}
use Rattle.esc_filter.proofs.Results.{pushed}
use Rattle.esc_filter.specs.Lines.{added_by}
use Rattle.esc_filter.proofs.line_filter.LineFilter.pass.Goals as goal

pub returns-in-Ok-clause-given : goal.returns-in-Ok-clause-given
returns-in-Ok-clause-given g c = λ u limit l h.
    let d = c.in-Ok.ensures.given true u limit l h in
    pushed c.push_str.result (added_by c.args.self.now) c.output.result.now _
    c.push_str.ensures.bytes
    (λ e. (
      d.0,
      (_, d.1, e ∙ ap (λ t. added_by c.args.self.now ++ t) c.output.ensures),
    ))

pub returns-in-Err-clause-refused : goal.returns-in-Err-clause-refused
returns-in-Err-clause-refused g c = λ u limit l h. (c.in-Err.ensures.refused true u limit l h).3
