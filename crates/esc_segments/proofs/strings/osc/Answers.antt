use Rattle.std.proofs.Common.{[], ◌∷◌, ◌++◌, if◌then◌else◌, sym, ap, ◌∙◌, subst, append_assoc}
use Rattle.std.specs.List.{FoldsTo}
use Rattle.std.proofs.lemmas.List.{append-nil}
use Rattle.esc_values.specs.Clear.{parts_of}
use Rattle.esc_frame.specs.declared.classes.Kind.TheVariants as kind
use Rattle.esc_frame.specs.Events.{Takes}
use Rattle.esc_frame.specs.Events.Event.{OscDispatch}
use Rattle.esc_frame.specs.Segments.{ending_bytes, executes, opener, opener_events, text_bytes, text_of}
use Rattle.fallible_alloc.specs.Refusals.{Refused}
use Rattle.esc_segments.proofs.Dispatching.{over_is, string_halts, string_stops, string_emitted}
use Rattle.esc_segments.proofs.Executes.{executes_opener}
use Rattle.esc_frame.proofs.Steps.FailureIsHandedOn.{error_of}
use Rattle.esc_segments.proofs.strings.osc.Goals as goal

pub returns-then-not-finished-clause-emitted : goal.returns-then-not-finished-clause-emitted
returns-then-not-finished-clause-emitted g c = λ o ps e after h w i.
    let s = c.split_opener.ensures kind.Osc o (text_bytes ps ++ ending_bytes e) h.0
    (w ∙ append_assoc (opener kind.Osc o) (text_bytes ps) (ending_bytes e)) in
    subst (λ b. FoldsTo g.V.VTActor.takes c.args.actor.now
    (opener_events o ++ (if b then OscDispatch (parts_of (text_of ps)) ∷ [] else []))
    c.execute_in.new.actor)
    (sym c.if-not-finished.true)
    (subst (λ es. FoldsTo g.V.VTActor.takes c.args.actor.now es c.execute_in.new.actor)
    (ap executes s.0 ∙ executes_opener kind.Osc o ∙ sym (append-nil (opener_events o)))
    c.in_ok-execute_in.ensures.emitted)

pub returns-clause-emitted : goal.returns-clause-emitted
returns-clause-emitted g c = λ o ps e after h w i.
    let s = c.split_opener.ensures kind.Osc o (text_bytes ps ++ ending_bytes e) h.0
    (w ∙ append_assoc (opener kind.Osc o) (text_bytes ps) (ending_bytes e)) in
    let v = over_is o ps e after c.args.finished c.if-not-finished.false i in
    let k = c.in_ok-kept.ensures.ok ps e after s.1 h.1 v in
    string_emitted (Refused g.row.A.Denot)
    g.V.VTActor.takes g.V.VTActor.refuses c.osc_text.result c.args.actor.now c.execute_in.new.actor
    c.osc_text.new.self kind.Osc o
    c.split_opener.result.0.now _ s.0 c.in_ok-execute_in.ensures.emitted
    (subst (λ b. Takes (Refused g.row.A.Denot)
    g.V.VTActor.takes g.V.VTActor.refuses c.osc_text.result c.execute_in.new.actor
    (if b then OscDispatch (parts_of (text_of ps)) ∷ [] else []) c.osc_text.new.self)
    (sym c.if-not-finished.false)
    (subst (λ t. Takes (Refused g.row.A.Denot)
    g.V.VTActor.takes g.V.VTActor.refuses c.osc_text.result c.execute_in.new.actor
    (OscDispatch (parts_of t) ∷ [])
    c.osc_text.new.self) (c.deref.ensures.value ∙ k) c.osc_text.ensures.emitted))

pub returns-in_err-kept-clause-emitted : goal.returns-in_err-kept-clause-emitted
returns-in_err-kept-clause-emitted g c = λ o ps e after h w i.
    rw (error_of c.from_residual-in_err-kept.result c.from_residual-in_err-kept.ensures.0).1
    (let s = c.split_opener.ensures kind.Osc o (text_bytes ps ++ ending_bytes e) h.0
    (w ∙ append_assoc (opener kind.Osc o) (text_bytes ps) (ending_bytes e)) in
    string_halts (Refused g.row.A.Denot)
    g.V.VTActor.takes g.V.VTActor.refuses c.args.actor.now c.execute_in.new.actor kind.Osc o
    c.split_opener.result.0.now _ c.in_err-kept.ensures.refused s.0
    c.in_ok-execute_in.ensures.emitted)

pub returns-in_err-execute_in-clause-emitted : goal.returns-in_err-execute_in-clause-emitted
returns-in_err-execute_in-clause-emitted g c = λ o ps e after h w i.
    rw (error_of c.from_residual.result c.from_residual.ensures.0).1
    (let s = c.split_opener.ensures kind.Osc o (text_bytes ps ++ ending_bytes e) h.0
    (w ∙ append_assoc (opener kind.Osc o) (text_bytes ps) (ending_bytes e)) in
    string_stops (Refused g.row.A.Denot)
    g.V.VTActor.takes g.V.VTActor.refuses c.args.actor.now c.execute_in.new.actor kind.Osc o
    c.split_opener.result.0.now _ s.0
    c.in_err-execute_in.ensures.emitted)
