use Rattle.std.proofs.Common.{Some}
use Rattle.caret_notation.proofs.silent.frame_some.Goals as goal

pub returns-in-Ok-clause-given : goal.returns-in-Ok-clause-given
returns-in-Ok-clause-given g c = λ limit s h.
    let w = (c.in-Ok.ensures.parsed (Some limit) s h).given in (w.0.0, w.1)
