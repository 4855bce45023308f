use Rattle.std.proofs.Common.{◌∙◌, refl, sym}
use Rattle.esc_frame.specs.declared.machine.State.TheVariants as state
use Rattle.esc_frame.specs.declared.utf8.sequence.Pending.TheVariants as pending
use Rattle.esc_frame.specs.Machine.Prefixes.{prefix_of}
use Rattle.esc_frame.specs.Segments.{text_of}
use Rattle.esc_frame.proofs.Steps.StringsGrow.{sequence_pushed}
use Rattle.esc_frame.proofs.machine.Machine.whole_in_osc.Goals as goal

pub returns-then-pairs_with-clause-moved : goal.returns-then-pairs_with-clause-moved
returns-then-pairs_with-clause-moved g c = λ o ps k.
    rw (sym c.pairs_with.ensures ∙ c.if-pairs_with.true)
    (c.leave_osc_by_pair.ensures.moved c.args.self.now.limit (text_of ps) k)

pub returns-else-pairs_with-clause-moved : goal.returns-else-pairs_with-clause-moved
returns-else-pairs_with-clause-moved g c = λ o ps k.
    sequence_pushed g.K.TextRoom.keeps g.K.TextRoom.may_fail g.V.EventSink.stops
    c.args.self.now.limit
    g.V.EventSink.takes g.V.EventSink.refuses c.put.result
    (record c.args.self.now {
      state = state.Osc;
      pending = pending.Nothing;
      text = c.put.new.text;
    }) o ps (prefix_of c.args.self.now.pending) c.args.b c.args.class c.args.actor.now
    c.put.ensures.refused (sym c.pairs_with.ensures ∙ c.if-pairs_with.false) refl refl
    (c.put.ensures.ok (text_of ps) k)
