use Rattle.std.proofs.Common.{[], ◌∷◌, ap, ◌∙◌, subst}
use Rattle.esc_frame.specs.Classes.{without_noise}
use Rattle.esc_frame.specs.Events.{StopsAt}
use Rattle.esc_frame.specs.Segments.{escape_event, executes}
use Rattle.esc_frame.proofs.Emits.EventsFold.{stops_more}
use Rattle.esc_segments.proofs.Dispatching.{escape_emitted, inner_is, last_is}
use Rattle.esc_segments.proofs.Executes.{executes_whole_escape}
use Rattle.esc_frame.proofs.Steps.FailureIsHandedOn.{error_of}
use Rattle.esc_segments.proofs.dispatch.escape.Goals as goal

pub returns-clause-emitted : goal.returns-clause-emitted
returns-clause-emitted g c = λ finished x f after h e i.
    let bytes = c.args.bytes.now in
    escape_emitted ⊥ g.V.VTActor.takes g.V.VTActor.refuses c.dispatch_escape.result c.args.actor.now
    c.execute_in.new.actor c.dispatch_escape.new.actor
    bytes x _ f
    _ e h.1 (inner_is bytes x 0x1b f e) (last_is bytes (0x1b ∷ x) f e)
    c.in_ok-execute_in.ensures.emitted c.dispatch_escape.ensures.emitted

pub returns-in_err-execute_in-clause-emitted : goal.returns-in_err-execute_in-clause-emitted
returns-in_err-execute_in-clause-emitted g c = λ finished x f after h e i.
    rw (error_of c.from_residual.result c.from_residual.ensures.0).1
    (stops_more ⊥ g.V.VTActor.takes g.V.VTActor.refuses (executes x)
    (escape_event (without_noise x) f ∷ [])
    c.args.actor.now c.execute_in.new.actor
    (subst (λ es. StopsAt ⊥ g.V.VTActor.takes g.V.VTActor.refuses c.args.actor.now es
    c.execute_in.new.actor)
    (ap executes e ∙ executes_whole_escape x f h.1) c.in_err-execute_in.ensures.emitted))
