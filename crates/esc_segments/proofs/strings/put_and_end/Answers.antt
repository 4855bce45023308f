use Rattle.std.proofs.Common.{[], ◌∷◌, ◌++◌, if◌then◌else◌, sym, subst}
use Rattle.std.specs.List.{FoldsTo}
use Rattle.std.proofs.lemmas.List.{append-nil}
use Rattle.esc_frame.specs.Events.{Takes}
use Rattle.esc_frame.specs.Events.Event.{DcsUnhook}
use Rattle.esc_frame.specs.Segments.{puts}
use Rattle.esc_frame.proofs.Emits.EventsFold.{receives_takes, stops_more}
use Rattle.esc_segments.proofs.Emitted.{takes_then}
use Rattle.esc_frame.proofs.Steps.FailureIsHandedOn.{error_of}
use Rattle.esc_segments.proofs.strings.put_and_end.Goals as goal

pub returns-then-finished-clause-emitted : goal.returns-then-finished-clause-emitted
returns-then-finished-clause-emitted g c =
    takes_then ⊥ g.V.VTActor.takes g.V.VTActor.refuses c.dcs_unhook.result (puts c.args.content.now)
    (if c.args.finished then DcsUnhook ∷ [] else [])
    c.args.actor.now c.put_all.new.actor c.dcs_unhook.new.self c.in_ok-put_all.ensures.emitted
    (subst (λ b. Takes ⊥ g.V.VTActor.takes g.V.VTActor.refuses c.dcs_unhook.result
    c.put_all.new.actor
    (if b then DcsUnhook ∷ [] else []) c.dcs_unhook.new.self)
    (sym c.if-finished.true)
    (receives_takes ⊥ g.V.VTActor.takes g.V.VTActor.refuses c.dcs_unhook.result c.put_all.new.actor
    c.dcs_unhook.new.self DcsUnhook c.dcs_unhook.ensures.receives))

pub returns-else-finished-clause-emitted : goal.returns-else-finished-clause-emitted
returns-else-finished-clause-emitted g c =
    subst (λ b. FoldsTo g.V.VTActor.takes c.args.actor.now (puts c.args.content.now
    ++ (if b then DcsUnhook ∷ [] else [])) c.put_all.new.actor)
    (sym c.if-finished.false)
    (subst (λ es. FoldsTo g.V.VTActor.takes c.args.actor.now es c.put_all.new.actor)
    (sym (append-nil (puts c.args.content.now))) c.in_ok-put_all.ensures.emitted)

pub returns-in_err-put_all-clause-emitted : goal.returns-in_err-put_all-clause-emitted
returns-in_err-put_all-clause-emitted g c =
    rw (error_of c.from_residual.result c.from_residual.ensures.0).1
    (stops_more ⊥ g.V.VTActor.takes g.V.VTActor.refuses (puts c.args.content.now)
    (if c.args.finished then DcsUnhook ∷ [] else []) c.args.actor.now
    c.put_all.new.actor c.in_err-put_all.ensures.emitted)
