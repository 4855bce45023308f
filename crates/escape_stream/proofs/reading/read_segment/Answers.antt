use Rattle.std.proofs.Common.{◌++◌, ap, map, ◌∙◌, None}
use Rattle.esc_frame.specs.Segments.{events_of}
use Rattle.esc_actions.specs.Readings.{reading}
use Rattle.esc_actions.specs.Values.{plain, value_of}
use Rattle.esc_parse.proofs.Lists.StepsOverLists.{stops_wanting}
use Rattle.esc_parse.proofs.Values.EventsGiveValues.{collects, performs, performs_segment}
use Rattle.escape_stream.proofs.reading.read_segment.Goals as goal

pub returns-in-Ok-clause-ok : goal.returns-in-Ok-clause-ok
returns-in-Ok-clause-ok g c = λ s after h i.
    let w = performs _ (λ p v q. ⊥) None (events_of s c.args.segment.now.finished) _ plain _
    (c.in-Ok.ensures.emitted s after h i) (c.new-2.ensures.hooks) in
    collects _ _ _ w.1
    ∙ ap (λ l. map value_of l ++ reading s c.args.segment.now.finished) c.new.ensures

pub returns-in-Err-clause-refused : goal.returns-in-Err-clause-refused
returns-in-Err-clause-refused g c = λ s after h i.
    stops_wanting _ _ _ _ (λ p v q w. w.2.1) _ _ _
    (performs_segment _ _ None s c.args.segment.now.finished _ _
    (c.in-Err.ensures.emitted s after h i) c.new-2.ensures.hooks)
