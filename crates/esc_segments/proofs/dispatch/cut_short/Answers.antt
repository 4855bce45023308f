use Rattle.std.proofs.Common.{◌≡◌, Bool, ap, false, true, ◌∙◌, subst}
use Rattle.esc_frame.specs.declared.classes.Kind.TheVariants as kind
use Rattle.esc_frame.specs.Events.{Takes}
use Rattle.esc_frame.specs.Segments.{Segment, executes}
use Rattle.esc_segments.specs.Parts.{Emits}
use Rattle.esc_segments.proofs.Executes.{executes_escape, executes_opened, executes_opener}
use Rattle.esc_segments.proofs.KindCases.{cut_shorts}
use Rattle.esc_segments.proofs.dispatch.cut_short.Goals as goal

not_both : (b : Bool) → b ≡ false → b ≡ true → ⊥
not_both b e f = cc

pub returns-then-opens_dcs-clause-emitted : goal.returns-then-opens_dcs-clause-emitted
returns-then-opens_dcs-clause-emitted g c = λ finished s k.
    let P : Segment → Type 0 = λ x. Emits ⊥ g.V.VTActor.takes g.V.VTActor.refuses
    c.execute_in.result c.args.actor.now c.execute_in.new.actor c.args.bytes.now finished x in
    cut_shorts P s k
    (λ x. λ after h e i.
    absurd (not_both _ (c.opens_dcs.ensures.escape x h e) c.if-opens_dcs.true))
    (λ o x. λ after h e i.
    absurd (not_both _ (c.opens_dcs.ensures.csi o x h.0 e) c.if-opens_dcs.true))
    (λ o x. λ after h e i.
    let parts = c.split_opener.ensures kind.Dcs o x h.0 e in
    subst (λ es. Takes ⊥ g.V.VTActor.takes g.V.VTActor.refuses c.execute_in.result c.args.actor.now
    es c.execute_in.new.actor)
    (ap executes parts.0 ∙ executes_opener kind.Dcs o) c.execute_in.ensures.emitted)

pub returns-else-opens_dcs-clause-emitted : goal.returns-else-opens_dcs-clause-emitted
returns-else-opens_dcs-clause-emitted g c = λ finished s k.
    let P : Segment → Type 0 = λ x. Emits ⊥ g.V.VTActor.takes g.V.VTActor.refuses
    c.execute_in-else-opens_dcs.result c.args.actor.now c.execute_in-else-opens_dcs.new.actor
    c.args.bytes.now finished x in
    cut_shorts P s k
    (λ x. λ after h e i.
    subst (λ es. Takes ⊥ g.V.VTActor.takes g.V.VTActor.refuses c.execute_in-else-opens_dcs.result
    c.args.actor.now es c.execute_in-else-opens_dcs.new.actor)
    (ap executes e ∙ executes_escape x) c.execute_in-else-opens_dcs.ensures.emitted)
    (λ o x. λ after h e i.
    subst (λ es. Takes ⊥ g.V.VTActor.takes g.V.VTActor.refuses c.execute_in-else-opens_dcs.result
    c.args.actor.now es c.execute_in-else-opens_dcs.new.actor)
    (ap executes e ∙ executes_opened kind.Csi o x) c.execute_in-else-opens_dcs.ensures.emitted)
    (λ o x. λ after h e i.
    absurd (not_both _ c.if-opens_dcs.false (c.opens_dcs.ensures.dcs o x h.0 e)))
