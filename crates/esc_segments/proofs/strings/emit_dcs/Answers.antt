use Rattle.std.proofs.Common.{◌≡◌, true, [], ◌∷◌, ◌++◌, if◌then◌else◌, sym, ◌∙◌, subst}
use Rattle.esc_frame.specs.Bodies.{is_dcs_header}
use Rattle.esc_frame.specs.Classes.{without_noise}
use Rattle.esc_frame.specs.Events.{StopsAt, Takes}
use Rattle.esc_frame.specs.Events.Event.{DcsUnhook}
use Rattle.esc_frame.specs.Segments.{hook_event, puts}
use Rattle.esc_frame.proofs.Emits.EventsFold.{stops_more}
use Rattle.fallible_alloc.specs.Refusals.{Refused}
use Rattle.esc_segments.proofs.Emitted.{takes_by, takes_then}
use Rattle.esc_frame.proofs.Steps.FailureIsHandedOn.{error_of}
use Rattle.esc_segments.proofs.strings.emit_dcs.Goals as goal

pub returns-clause-emitted : goal.returns-clause-emitted
returns-clause-emitted g c =
    let x = without_noise c.args.x.now in
    let formed : true ≡ is_dcs_header x =
    sym c.if-not-is_formed.false ∙ c.is_formed.ensures x c.header_of-header.ensures in
    subst (λ b. Takes (Refused g.row.A.Denot)
    g.V.VTActor.takes g.V.VTActor.refuses c.put_and_end.result c.args.actor.now
    (if b then (hook_event x c.args.last ∷ puts c.args.content.now)
    ++ (if c.args.finished then DcsUnhook ∷ [] else []) else []) c.put_and_end.new.actor) formed
    (takes_then (Refused g.row.A.Denot) g.V.VTActor.takes g.V.VTActor.refuses c.put_and_end.result
    (hook_event x c.args.last ∷ [])
    (puts c.args.content.now ++ (if c.args.finished then DcsUnhook ∷ [] else [])) c.args.actor.now
    c.hook.new.actor c.put_and_end.new.actor c.in_ok-hook.ensures.emitted
    (takes_by (Refused g.row.A.Denot) g.V.VTActor.takes g.V.VTActor.refuses c.put_and_end.result
    (puts c.args.content.now ++ (if c.args.finished then DcsUnhook ∷ [] else []))
    c.hook.new.actor c.put_and_end.new.actor
    c.put_and_end.ensures.emitted))

pub returns-in_err-hook-clause-emitted : goal.returns-in_err-hook-clause-emitted
returns-in_err-hook-clause-emitted g c =
    rw (error_of c.from_residual.result c.from_residual.ensures.0).1
    (let x = without_noise c.args.x.now in
    let formed : true ≡ is_dcs_header x =
    sym c.if-not-is_formed.false ∙ c.is_formed.ensures x c.header_of-header.ensures in
    subst (λ b. StopsAt (Refused g.row.A.Denot)
    g.V.VTActor.takes g.V.VTActor.refuses c.args.actor.now
    (if b then (hook_event x c.args.last ∷ puts c.args.content.now)
    ++ (if c.args.finished then DcsUnhook ∷ [] else []) else []) c.hook.new.actor) formed
    (stops_more (Refused g.row.A.Denot) g.V.VTActor.takes g.V.VTActor.refuses
    (hook_event x c.args.last ∷ [])
    (puts c.args.content.now ++ (if c.args.finished then DcsUnhook ∷ [] else [])) c.args.actor.now
    c.hook.new.actor c.in_err-hook.ensures.emitted))
