use Rattle.std.proofs.Common.{Some, []}
use Rattle.std.proofs.lemmas.Result.{IfErr-at_err}
use Rattle.esc_actions.proofs.Meaning.MeaningsJoin.{yield_whole}
use Rattle.esc_actions.specs.Meaning.{meaning_within}
use Rattle.esc_actions.specs.Values.{value_of}
use Rattle.esc_parse.proofs.Lists.StepsOverLists.{on_ok_at, stops_wanting}
use Rattle.esc_parse.specs.Given.{At}
use Rattle.esc_account.proofs.Fates.ResultsOfEqualValues.{folds_same}
use Rattle.esc_account.proofs.reading.feed_into.Goals as goal

pub returns-in-Ok-clause-given : goal.returns-in-Ok-clause-given
returns-in-Ok-clause-given g c =
    let w = on_ok_at _ c.in-Ok.is
    (c.parse_into-result.ensures.given (Some c.args.limit) [] c.with_limit-parser.ensures) in
    folds_same (At value_of g.S.Sink.takes) c.args.sink _ _ _
    (yield_whole (Some c.args.limit) c.args.bytes.now) w.1

pub returns-in-Ok-clause-handed_out : goal.returns-in-Ok-clause-handed_out
returns-in-Ok-clause-handed_out g c =
    let w = on_ok_at _ c.in-Ok.is
    (c.parse_into-result.ensures.given (Some c.args.limit) [] c.with_limit-parser.ensures) in (
      meaning_within (Some c.args.limit) c.args.bytes.now,
      c.handed_out.ensures (Some c.args.limit) c.args.bytes.now,
      folds_same (At value_of g.S.Sink.takes) c.args.sink _ _ _
          (yield_whole (Some c.args.limit) c.args.bytes.now) w.1,
    )

pub returns-clause-refused : goal.returns-clause-refused
returns-clause-refused g c = λ why.
    let f = IfErr-at_err _ c.in-Err.is
    (c.parse_into-result.ensures.refused (Some c.args.limit) [] c.with_limit-parser.ensures) in
    (stops_wanting _ _ _ _ (λ p v q w. why p w.0 q w.2) _ _ _ f.2).1
