use Rattle.std.proofs.Common.{◌∙◌, sym, subst, map, take, ◌+◌, arith}
use Rattle.std.specs.List.{FoldsTo}
use Rattle.esc_frame.specs.Classes.{class_of, is_put, bytes_of_class}
use Rattle.esc_frame.specs.Events.Event.{DcsPut}
use Rattle.esc_segments.proofs.Emitted.{emitted_next, emitted_same, emitted_stop}
use Rattle.esc_segments.proofs.strings.put_all.Goals as goal
use Rattle.esc_segments.proofs.strings.put_all.Goals.{then-is_put+in-Ok, else-is_put}

pub returns-in-Err-clause-emitted : goal.returns-in-Err-clause-emitted
returns-in-Err-clause-emitted g c =
    emitted_stop g.V.VTActor.takes g.V.VTActor.refuses DcsPut (λ b.
    is_put (class_of b)) c.args.content.now c.loop-b.b-index (omega arith) c.args.actor.now
    c.loop-b.actor _ c.loop-b.invariant.1 ⊥ (sym c.is_put.ensures ∙ c.if-is_put.true)
    c.in-Err.ensures.receives

pub loop-b-preserved : goal.loop-b-preserved
loop-b-preserved g c =
    let i = c.loop-b.b-index in
    let content = c.args.content.now in
    elim c.if-is_put.branch [
      | then-is_put+in-Ok w ↦ subst (λ a. g.V.VTActor.is_ready a
          × FoldsTo g.V.VTActor.takes c.args.actor.now
          (map DcsPut (bytes_of_class is_put (take (i + 1) content))) a)
          (sym w.actor-is) (
            w.in-Ok.ensures.ready c.loop-b.invariant.0,
            emitted_next g.V.VTActor.takes g.V.VTActor.refuses DcsPut (λ b.
                is_put (class_of b)) content i (omega arith) c.args.actor.now c.loop-b.actor _
                c.loop-b.invariant.1 (sym c.is_put.ensures ∙ w.if-is_put.true)
                w.in-Ok.ensures.receives,
          )
      | else-is_put w ↦ subst (λ a. g.V.VTActor.is_ready a
          × FoldsTo g.V.VTActor.takes c.args.actor.now
          (map DcsPut (bytes_of_class is_put (take (i + 1) content))) a)
          (sym w.actor-is) (
            c.loop-b.invariant.0,
            emitted_same g.V.VTActor.takes g.V.VTActor.refuses DcsPut (λ b.
                is_put (class_of b)) content i (omega arith) c.args.actor.now c.loop-b.actor
                c.loop-b.actor c.loop-b.invariant.1 (sym c.is_put.ensures ∙ w.if-is_put.false),
          )
    ]
