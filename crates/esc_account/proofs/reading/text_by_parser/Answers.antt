use Rattle.std.proofs.Common.{Some, [], ◌∷◌, ◌++◌, ap, ◌∙◌}
use Rattle.esc_actions.specs.Texts.{list_text}
use Rattle.esc_account.proofs.Fates.ResultsOfEqualValues.{spelled_ok}
use Rattle.esc_account.proofs.Segments.EscapeEndsSegment.{reads_finished, reads_unfinished}
use Rattle.esc_account.proofs.reading.text_by_parser.Goals as goal

pub returns-then-not-segment-clause-given : goal.returns-then-not-segment-clause-given
returns-then-not-segment-clause-given g c = λ s gs each item.
    spelled_ok _ _ _ c.normal_text.ensures.ok (ap list_text
    (reads_unfinished c.meaning_of_the_cut.ensures (Some c.args.limit) s gs c.args.segment.finished
    c.args.segment.bytes.now each item.finished c.if-not-segment.true item.bytes))

pub returns-in-Ok-clause-given : goal.returns-in-Ok-clause-given
returns-in-Ok-clause-given g c = λ s gs each item.
    spelled_ok _ _ _ c.normal_text-in-Ok.ensures.ok (ap list_text
    (reads_finished c.meaning_of_the_cut.ensures (Some c.args.limit) s gs c.args.segment.finished
    c.as_slice.result.now each item.finished c.if-not-segment.false
    (c.as_slice.ensures.value ∙ c.in-Ok.ensures.given ∙ ap (λ x. x ++ 0x1b ∷ []) item.bytes)))
