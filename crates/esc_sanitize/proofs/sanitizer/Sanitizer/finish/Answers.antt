use Rattle.std.proofs.Common.{rules, ◌∙◌, ap, sym, if◌then◌else◌, [], ◌++◌}
use Rattle.esc_sanitize.specs.Sanitized.{no_book}
use Rattle.esc_sanitize.proofs.Auditing.{audited}
use Rattle.esc_sanitize.proofs.Following.{on_err_any}
use Rattle.esc_sanitize.specs.Stages.{auditor_of, options_of, staged_added}
use Rattle.esc_sanitize.specs.Written.{going_of}
use Rattle.esc_sanitize.proofs.sanitizer.Sanitizer.finish.Goals as goal

pub returns-in-Ok-clause-ended : goal.returns-in-Ok-clause-ended
returns-in-Ok-clause-ended g c = λ s h.
    let V = g.P.Admit in
    let z = c.finish.new.self in
    let k = c.in-Ok.ensures.ended s h.2 in (
      audited V no_book (options_of z) (auditor_of z) s k.0.0.0 k.0.0.1 k.0.1,
      search rules,
    )

pub returns-in-Err-clause-refused : goal.returns-in-Err-clause-refused
returns-in-Err-clause-refused g c = λ s h.
    on_err_any _ c.fail-in-Err.result
    (c.fail-in-Err.ensures.result, c.in-Err.ensures.refused s h.2)
