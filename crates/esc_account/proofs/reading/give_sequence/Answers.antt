use Rattle.esc_account.proofs.Segments.ShortSequenceEvent.{gives_one, taken_ok}
use Rattle.esc_account.proofs.reading.give_sequence.Goals as goal

pub returns-in-Some : goal.returns-in-Some
returns-in-Some g c = λ s after h item.
    gives_one g.V.VTActor.takes g.V.VTActor.refuses c.csi_dispatch.result _ _ _ _ _ _
    c.csi_dispatch.ensures.receives (c.in-Some.ensures.told s after h item) c.as_slice.ensures

pub returns-in-None : goal.returns-in-None
returns-in-None g c = λ s after h item.
    taken_ok _ _ c.segment_events.result (c.segment_events.ensures.emitted s after h item)
