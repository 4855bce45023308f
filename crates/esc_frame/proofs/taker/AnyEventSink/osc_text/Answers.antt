use Rattle.std.proofs.Common.{[], ◌∷◌}
use Rattle.esc_values.specs.Clear.{parts_of}
use Rattle.esc_frame.specs.Events.Event.{OscDispatch}
use Rattle.esc_frame.specs.Limits.{has_few_parts}
use Rattle.fallible_alloc.specs.Refusals.{Refused}
use Rattle.esc_frame.proofs.Emits.EventsFold.{takes_few}
use Rattle.esc_frame.proofs.taker.AnyEventSink.osc_text.Goals as goal

pub returns : goal.returns
returns g c = let t = c.args.text.now in record {
  emitted = takes_few (has_few_parts t) (Refused g.row.A.Denot) g.V.VTActor.takes
      g.V.VTActor.refuses c.osc_text.result c.args.self.now c.osc_text.new.self
      (OscDispatch (parts_of t) ∷ []) c.osc_text.ensures.emitted c.osc_text.ensures.few;
  ready = c.osc_text.ensures.ready;
}
