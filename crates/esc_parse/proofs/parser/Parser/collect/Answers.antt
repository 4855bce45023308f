use Rattle.std.proofs.Common.{◌++◌, map, ap, ◌∙◌}
use Rattle.std.proofs.lemmas.Result.{IfErr-at_err, IfOk-at_ok}
use Rattle.esc_parse.proofs.Lists.StepsOverLists.{stops_wanting}
use Rattle.esc_parse.proofs.Lists.ResultIsError.{ok_is_no_error, same_error}
use Rattle.esc_parse.proofs.Values.EventsGiveValues.{collects}
use Rattle.esc_parse.proofs.parser.Parser.collect.Goals as goal
use Rattle.esc_actions.specs.Meaning.{yield_within}
use Rattle.esc_actions.specs.Values.{value_of}

pub returns-in-Ok-clause-given : goal.returns-in-Ok-clause-given
returns-in-Ok-clause-given g c = λ limit s h.
    let w = IfOk-at_ok _ c.in-Ok.is (c.parse_into-result.ensures.given limit s h) in (
      w.0,
      collects _ _ _ w.1
          ∙ ap (λ l. map value_of l ++ yield_within limit s c.args.bytes.now) c.new.ensures.items,
    )

pub returns-in-Ok-clause-failed : goal.returns-in-Ok-clause-failed
returns-in-Ok-clause-failed g c = λ h.
    absurd (ok_is_no_error _ _ _ c.in-Ok.is (c.parse_into-result.ensures.failed h).0)

pub returns-in-Err-clause-refused : goal.returns-in-Err-clause-refused
returns-in-Err-clause-refused g c = λ limit s h.
    let f = IfErr-at_err _ c.in-Err.is (c.parse_into-result.ensures.refused limit s h) in
    let w = stops_wanting _ _ _ _ (λ p v q w. w.2.1) _ _ _ f.2 in
    (f.0, f.1, w.0, w.1)

pub returns-in-Err-clause-failed : goal.returns-in-Err-clause-failed
returns-in-Err-clause-failed g c = λ h.
    let f = c.parse_into-result.ensures.failed h in
    (same_error _ _ _ c.in-Err.is f.0, f.1)
