use Rattle.esc_sanitize.proofs.Following.{on_err_any}
use Rattle.esc_sanitize.proofs.sanitizer.Sanitizer.feed.Goals as goal

pub returns-in-Err-clause-refused : goal.returns-in-Err-clause-refused
returns-in-Err-clause-refused g c = λ s h.
    on_err_any _ c.fail-in-Err.result
    (c.fail-in-Err.ensures.result, c.in-Err.ensures.refused s h.2)
