use Rattle.std.proofs.Common.{ap}
use Rattle.esc_calls.specs.Kept.{sanitizer_state_in}
use Rattle.esc_calls.proofs.sanitizer_chunks.sanitizer_begin.Goals as goal

pub returns-in-Ok-clause-begun : goal.returns-in-Ok-clause-begun
returns-in-Ok-clause-begun c = λ done.
    let e = c.begin.ensures.begun done in (
      c.in-Ok.settings,
      c.in-Ok.ensures.said,
      (c.new.result, ap sanitizer_state_in e, c.new.ensures),
    )
