use Rattle.std.proofs.Common.{[], ◌∷◌, ◌++◌, if◌then◌else◌, sym, ap, ◌∙◌, subst}
use Rattle.std.specs.List.{FoldsTo}
use Rattle.std.proofs.lemmas.List.{append-nil}
use Rattle.esc_frame.specs.declared.classes.Kind.TheVariants as kind
use Rattle.esc_frame.specs.Classes.{is_text, bytes_of_class}
use Rattle.esc_frame.specs.Events.{Takes}
use Rattle.esc_frame.specs.Events.Event.{ApcDispatch}
use Rattle.esc_frame.specs.Segments.{executes, opener_events}
use Rattle.fallible_alloc.specs.Refusals.{Refused}
use Rattle.esc_segments.proofs.Dispatching.{string_stops, string_emitted}
use Rattle.esc_segments.proofs.Executes.{executes_opener}
use Rattle.esc_frame.proofs.Steps.FailureIsHandedOn.{error_of}
use Rattle.esc_segments.proofs.strings.apc.Goals as goal

pub returns-then-finished-clause-emitted : goal.returns-then-finished-clause-emitted
returns-then-finished-clause-emitted g c = λ o d after h w i.
    let s = c.split_opener.ensures kind.Apc o d h.0 w in
    string_emitted (Refused g.row.A.Denot)
    g.V.VTActor.takes g.V.VTActor.refuses c.dispatch_apc.result c.args.actor.now
    c.execute_in.new.actor c.dispatch_apc.new.actor kind.Apc o
    c.split_opener.result.0.now _ s.0 c.in_ok-execute_in.ensures.emitted
    (subst (λ b. Takes (Refused g.row.A.Denot)
    g.V.VTActor.takes g.V.VTActor.refuses c.dispatch_apc.result c.execute_in.new.actor
    (if b then ApcDispatch (bytes_of_class is_text d) ∷ [] else []) c.dispatch_apc.new.actor)
    (sym c.if-finished.true)
    (subst (λ t. Takes (Refused g.row.A.Denot)
    g.V.VTActor.takes g.V.VTActor.refuses c.dispatch_apc.result c.execute_in.new.actor
    (ApcDispatch (bytes_of_class is_text t) ∷ [])
    c.dispatch_apc.new.actor) s.1 c.dispatch_apc.ensures.emitted))

pub returns-else-finished-clause-emitted : goal.returns-else-finished-clause-emitted
returns-else-finished-clause-emitted g c = λ o d after h w i.
    let s = c.split_opener.ensures kind.Apc o d h.0 w in
    subst (λ b. FoldsTo g.V.VTActor.takes c.args.actor.now (opener_events o
    ++ (if b then ApcDispatch (bytes_of_class is_text d) ∷ [] else [])) c.execute_in.new.actor)
    (sym c.if-finished.false)
    (subst (λ es. FoldsTo g.V.VTActor.takes c.args.actor.now es c.execute_in.new.actor)
    (ap executes s.0 ∙ executes_opener kind.Apc o ∙ sym (append-nil (opener_events o)))
    c.in_ok-execute_in.ensures.emitted)

pub returns-in_err-execute_in-clause-emitted : goal.returns-in_err-execute_in-clause-emitted
returns-in_err-execute_in-clause-emitted g c = λ o d after h w i.
    rw (error_of c.from_residual.result c.from_residual.ensures.0).1
    (let s = c.split_opener.ensures kind.Apc o d h.0 w in
    string_stops (Refused g.row.A.Denot)
    g.V.VTActor.takes g.V.VTActor.refuses c.args.actor.now c.execute_in.new.actor kind.Apc o
    c.split_opener.result.0.now _ s.0
    c.in_err-execute_in.ensures.emitted)
