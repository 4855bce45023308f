use Rattle.std.proofs.Common.{[], ◌∷◌, ◌++◌, if◌then◌else◌, ◌∙◌, append_assoc, arith}
use Rattle.esc_frame.specs.declared.classes.Kind.TheVariants as kind
use Rattle.esc_frame.specs.Bodies.{is_dcs_header}
use Rattle.esc_frame.specs.Classes.{without_noise}
use Rattle.esc_frame.specs.Events.{Takes}
use Rattle.esc_frame.specs.Events.Event.{DcsUnhook}
use Rattle.esc_frame.specs.Segments.{hook_event, opener, puts}
use Rattle.fallible_alloc.specs.Refusals.{Refused}
use Rattle.esc_segments.proofs.Dispatching.{header_is, header_moves, string_stops, string_emitted}
use Rattle.esc_frame.proofs.Steps.FailureIsHandedOn.{error_of}
use Rattle.esc_segments.proofs.strings.dcs.Goals as goal

pub returns-then-run-body-clause-emitted : goal.returns-then-run-body-clause-emitted
returns-then-run-body-clause-emitted g c = λ o x f d after h w i.
    let q = opener kind.Dcs o in
    let s = c.split_opener.ensures kind.Dcs o (x ++ f ∷ d) h.0 (w ∙ append_assoc (q ++ x) (f ∷ []) d
    ∙ append_assoc q x (f ∷ d)) in
    let p = header_is c.split_opener.result.1.now x d f c.header_run-run.result s.1 h.1 h.2
    c.header_run-run.ensures.run in absurd (omega (arith, p.room))

pub returns-clause-emitted : goal.returns-clause-emitted
returns-clause-emitted g c = λ o x f d after h w i.
    let q = opener kind.Dcs o in
    let s = c.split_opener.ensures kind.Dcs o (x ++ f ∷ d) h.0 (w ∙ append_assoc (q ++ x) (f ∷ []) d
    ∙ append_assoc q x (f ∷ d)) in
    let p = header_is c.split_opener.result.1.now x d f c.header_run-run.result s.1 h.1 h.2
    c.header_run-run.ensures.run in
    string_emitted (Refused g.row.A.Denot)
    g.V.VTActor.takes g.V.VTActor.refuses c.emit_dcs.result c.args.actor.now c.execute_in.new.actor
    c.emit_dcs.new.actor kind.Dcs o
    c.split_opener.result.0.now _ s.0 c.in_ok-execute_in.ensures.emitted
    (header_moves c.split_opener.result.1.now x d f c.header_run-run.result p
    (λ x f d. Takes (Refused g.row.A.Denot)
    g.V.VTActor.takes g.V.VTActor.refuses c.emit_dcs.result c.execute_in.new.actor
    (if is_dcs_header (without_noise x) then (hook_event (without_noise x) f ∷ puts d)
    ++ (if c.args.finished then DcsUnhook ∷ [] else []) else []) c.emit_dcs.new.actor)
    c.emit_dcs.ensures.emitted)

pub returns-in_err-execute_in-clause-emitted : goal.returns-in_err-execute_in-clause-emitted
returns-in_err-execute_in-clause-emitted g c = λ o x f d after h w i.
    rw (error_of c.from_residual.result c.from_residual.ensures.0).1
    (let q = opener kind.Dcs o in
    let s = c.split_opener.ensures kind.Dcs o (x ++ f ∷ d) h.0 (w ∙ append_assoc (q ++ x) (f ∷ []) d
    ∙ append_assoc q x (f ∷ d)) in
    string_stops (Refused g.row.A.Denot)
    g.V.VTActor.takes g.V.VTActor.refuses c.args.actor.now c.execute_in.new.actor kind.Dcs o
    c.split_opener.result.0.now _ s.0
    c.in_err-execute_in.ensures.emitted)
