use Rattle.std.proofs.Common.{Some}
use Rattle.esc_frame.specs.Segments.{events_of}
use Rattle.esc_actions.specs.Values.{plain}
use Rattle.esc_parse.proofs.Values.EventsGiveValues.{performs}
use Rattle.esc_frame.specs.Segments.{joined_bytes}
use Rattle.esc_account.proofs.Segments.EscapeEndsSegment.{first_shape}
use Rattle.esc_account.proofs.Segments.ShortHasNoLimit.{splits}
use Rattle.esc_account.proofs.reading.split_into.Goals as goal

pub returns-in-Ok : goal.returns-in-Ok
returns-in-Ok g c = λ s gs each item.
    let w = performs _ (λ p v q. ⊥) (Some c.args.limit) (events_of s c.args.segment.finished) _
    plain _ (c.in-Ok.ensures s (joined_bytes gs) (first_shape s gs each) item)
    c.new.ensures.hooks in
    splits _ c.args.limit c.args.segment.kind c.args.segment.bytes.now c.args.segment.finished s gs
    _ _ each item.kind item.bytes item.finished c.requires.short w.1
