use Rattle.std.proofs.Common.{◌∙◌, refl, sym}
use Rattle.esc_frame.specs.declared.machine.State.TheVariants as state
use Rattle.esc_frame.specs.declared.utf8.sequence.Pending.TheVariants as pending
use Rattle.esc_frame.specs.Events.Event.{Print}
use Rattle.esc_frame.specs.Leads.Unfinished.{Ground}
use Rattle.esc_frame.proofs.Emits.EventsFold.{receives_moved}
use Rattle.esc_frame.specs.Machine.Calls.{Fails}
use Rattle.esc_frame.proofs.machine.Machine.whole.Goals as goal

pub returns-then-pairs_with-clause-moved : goal.returns-then-pairs_with-clause-moved
returns-then-pairs_with-clause-moved g c = λ limit own.
    rw (sym c.pairs_with.ensures ∙ c.if-pairs_with.true) (c.c1_in_utf8.ensures.moved limit own)

pub returns-else-pairs_with-clause-moved : goal.returns-else-pairs_with-clause-moved
returns-else-pairs_with-clause-moved g c = λ limit own.
    rw (sym c.pairs_with.ensures ∙ c.if-pairs_with.false, ← c.character-c.ensures)
    (receives_moved g.K.TextRoom.keeps
    (Fails g.K.TextRoom.may_fail g.V.EventSink.stops g.row.A.Denot)
    limit own g.V.EventSink.takes g.V.EventSink.refuses
    c.print.result Ground (Print c.character-c.result)
    (record c.args.self.now { state = state.Ground; pending = pending.Nothing }) c.args.actor.now
    c.print.new.self (refl, refl) c.print.ensures.receives)
