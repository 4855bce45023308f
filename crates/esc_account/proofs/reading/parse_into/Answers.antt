use Rattle.std.proofs.Common.{Some, [], ◌∷◌, ◌++◌, ap, ◌∙◌}
use Rattle.std.specs.List.{FoldsTo}
use Rattle.esc_actions.specs.Values.{value_of}
use Rattle.esc_parse.specs.Given.{At}
use Rattle.esc_account.proofs.Fates.ResultsOfEqualValues.{fed_by}
use Rattle.esc_account.proofs.Segments.EscapeEndsSegment.{reads_finished, reads_unfinished}
use Rattle.esc_account.proofs.reading.parse_into.Goals as goal

pub returns-then-not-segment-clause-given : goal.returns-then-not-segment-clause-given
returns-then-not-segment-clause-given g c = λ s gs each item.
    fed_by (λ vs q. FoldsTo (At value_of g.S.Sink.takes) c.args.sink vs q) _ _ _
    c.feed_into.ensures.given
    (reads_unfinished c.meaning_of_the_cut.ensures (Some c.args.limit) s gs c.args.segment.finished
    c.args.segment.bytes.now each item.finished c.if-not-segment.true item.bytes)

pub returns-in-Ok-clause-given : goal.returns-in-Ok-clause-given
returns-in-Ok-clause-given g c = λ s gs each item.
    fed_by (λ vs q. FoldsTo (At value_of g.S.Sink.takes) c.args.sink vs q) _ _ _
    c.feed_into-in-Ok.ensures.given
    (reads_finished c.meaning_of_the_cut.ensures (Some c.args.limit) s gs c.args.segment.finished
    c.as_slice.result.now each item.finished c.if-not-segment.false
    (c.as_slice.ensures.value ∙ c.in-Ok.ensures.given ∙ ap (λ x. x ++ 0x1b ∷ []) item.bytes))
