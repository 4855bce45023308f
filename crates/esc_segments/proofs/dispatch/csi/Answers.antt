use Rattle.std.proofs.Common.{[], ◌∷◌, ◌++◌, ap, ◌∙◌, subst, append_assoc}
use Rattle.esc_frame.specs.declared.classes.Kind.TheVariants as kind
use Rattle.esc_frame.specs.Classes.{without_noise}
use Rattle.esc_frame.specs.Events.{StopsAt}
use Rattle.esc_frame.specs.Segments.{csi_events, executes, opener, opener_events}
use Rattle.esc_frame.proofs.Emits.EventsFold.{stops_more}
use Rattle.esc_segments.proofs.Dispatching.{before_last, csi_emitted, last_is}
use Rattle.esc_segments.proofs.Executes.{executes_whole_csi}
use Rattle.esc_frame.proofs.Steps.FailureIsHandedOn.{error_of}
use Rattle.esc_segments.proofs.dispatch.csi.Goals as goal

pub returns-clause-emitted : goal.returns-clause-emitted
returns-clause-emitted g c = λ finished o x f after h e i.
    let bytes = c.args.bytes.now in
    let body = c.split_opener.result.1.now in
    let s = c.split_opener.ensures kind.Csi o (x ++ f ∷ []) h.0
    (e ∙ append_assoc (opener kind.Csi o) x (f ∷ [])) in
    csi_emitted ⊥ g.V.VTActor.takes g.V.VTActor.refuses c.dispatch_csi.result c.args.actor.now
    c.execute_in.new.actor c.dispatch_csi.new.actor bytes x _ o f
    _ e h.2 (before_last body x f s.1) (last_is body x f s.1)
    c.in_ok-execute_in.ensures.emitted c.dispatch_csi.ensures.emitted

pub returns-in_err-execute_in-clause-emitted : goal.returns-in_err-execute_in-clause-emitted
returns-in_err-execute_in-clause-emitted g c = λ finished o x f after h e i.
    rw (error_of c.from_residual.result c.from_residual.ensures.0).1
    (stops_more ⊥ g.V.VTActor.takes g.V.VTActor.refuses (opener_events o ++ executes x)
    (csi_events (without_noise x) f) c.args.actor.now
    c.execute_in.new.actor
    (subst (λ es. StopsAt ⊥ g.V.VTActor.takes g.V.VTActor.refuses c.args.actor.now es
    c.execute_in.new.actor)
    (ap executes e ∙ executes_whole_csi o x f h.2) c.in_err-execute_in.ensures.emitted))
