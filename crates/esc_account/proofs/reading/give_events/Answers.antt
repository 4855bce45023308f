use Rattle.esc_account.proofs.Segments.ShortSequenceEvent.{taken_ok}
use Rattle.esc_account.proofs.reading.give_events.Goals as goal

pub returns-else-is_csi : goal.returns-else-is_csi
returns-else-is_csi g c = λ s after h item.
    taken_ok _ _ c.segment_events.result (c.segment_events.ensures.emitted s after h item)
