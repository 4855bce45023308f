use Rattle.std.proofs.Common.{◌∙◌, sym, subst, map, take, ◌+◌, arith}
use Rattle.std.specs.List.{FoldsTo}
use Rattle.esc_frame.specs.Classes.{class_of, is_c0, bytes_of_class}
use Rattle.esc_frame.specs.Events.Event.{Execute}
use Rattle.esc_segments.proofs.Emitted.{emitted_next, emitted_same, emitted_stop}
use Rattle.esc_segments.proofs.dispatch.execute_in.Goals as goal
use Rattle.esc_segments.proofs.dispatch.execute_in.Goals.{then-is_c0+in-Ok, else-is_c0}

pub returns-in-Err-clause-emitted : goal.returns-in-Err-clause-emitted
returns-in-Err-clause-emitted g c =
    emitted_stop g.V.VTActor.takes g.V.VTActor.refuses Execute (λ b. is_c0 (class_of b))
    c.args.bytes.now c.loop-b.b-index (omega arith) c.args.actor.now
    c.loop-b.actor _ c.loop-b.invariant.1 ⊥ (sym c.is_c0.ensures ∙ c.if-is_c0.true)
    c.in-Err.ensures.receives

pub loop-b-preserved : goal.loop-b-preserved
loop-b-preserved g c =
    let i = c.loop-b.b-index in
    let bytes = c.args.bytes.now in
    elim c.if-is_c0.branch [
      | then-is_c0+in-Ok w ↦ subst (λ a. g.V.VTActor.is_ready a
          × FoldsTo g.V.VTActor.takes c.args.actor.now
          (map Execute (bytes_of_class is_c0 (take (i + 1) bytes))) a)
          (sym w.actor-is) (
            w.in-Ok.ensures.ready c.loop-b.invariant.0,
            emitted_next g.V.VTActor.takes g.V.VTActor.refuses Execute (λ b. is_c0 (class_of b))
                bytes i (omega arith) c.args.actor.now c.loop-b.actor _
                c.loop-b.invariant.1 (sym c.is_c0.ensures ∙ w.if-is_c0.true)
                w.in-Ok.ensures.receives,
          )
      | else-is_c0 w ↦ subst (λ a. g.V.VTActor.is_ready a
          × FoldsTo g.V.VTActor.takes c.args.actor.now
          (map Execute (bytes_of_class is_c0 (take (i + 1) bytes))) a)
          (sym w.actor-is) (
            c.loop-b.invariant.0,
            emitted_same g.V.VTActor.takes g.V.VTActor.refuses Execute (λ b. is_c0 (class_of b))
                bytes i (omega arith) c.args.actor.now c.loop-b.actor
                c.loop-b.actor c.loop-b.invariant.1 (sym c.is_c0.ensures ∙ w.if-is_c0.false),
          )
    ]
