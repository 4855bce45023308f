use Rattle.esc_sixel.specs.Classes.{class_of}
use Rattle.esc_sixel.specs.Steps.{HasConsumed, closed_of, open_of, Closed}
use Rattle.esc_sixel.proofs.Bytes.OneByteMore.{after_none, after_some, closed_push, open_push}
use Rattle.esc_sixel.proofs.builder.SixelBuilder.push.Goals as goal

pub returns-in-None-clause-ok : goal.returns-in-None-clause-ok
unfolding HasConsumed
returns-in-None-clause-ok g c = λ ps s h.
    rw (closed_push Closed s c.args.byte, open_push Closed s c.args.byte)
    (after_none ps (closed_of Closed s) (open_of Closed s) (class_of c.args.byte) c.args.byte _ _ _
    _ _ _
    c.push_alone.result h.0 h.1 c.in-None.is (c.push_alone.ensures.ok c.args.byte c.in-None.is))

pub returns-in-Some-clause-ok : goal.returns-in-Some-clause-ok
unfolding HasConsumed
returns-in-Some-clause-ok g c = λ ps s h.
    rw (closed_push Closed s c.args.byte, open_push Closed s c.args.byte)
    (after_some ps (closed_of Closed s) (open_of Closed s) c.in-Some.introducer
    (class_of c.args.byte) c.args.byte _ _ _ _ _ _
    c.push_after.result h.0 h.1 c.in-Some.is c.push_after.ensures.ok)
