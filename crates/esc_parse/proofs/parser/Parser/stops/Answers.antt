use Rattle.std.proofs.Common.{◌+◌, ◌++◌, ap, length, arith, ◌∙◌}
use Rattle.esc_actions.specs.Meaning.{yield_within}
use Rattle.esc_parse.proofs.Lists.StepsOverLists.{nothing_left}
use Rattle.esc_parse.specs.Fed.{ParserHasConsumedWithin}
use Rattle.esc_parse.proofs.parser.Parser.stops.Goals as goal

pub returns-then-actions-had-clause-yes : goal.returns-then-actions-had-clause-yes
unfolding ParserHasConsumedWithin
returns-then-actions-had-clause-yes g c = λ limit s b h e ground. (
  λ none. (let few = e ∙ ap (λ l. c.args.had + length l) none in absurd
      (omega (arith, few, c.if-actions-had.true))),
  (c.is_ground.ensures.ground limit (s ++ b) h.0).0 ground,
)

pub returns-then-actions-had-clause-no : goal.returns-then-actions-had-clause-no
unfolding ParserHasConsumedWithin
returns-then-actions-had-clause-no g c =
    λ limit s b h e stop. (c.is_ground.ensures.ground limit (s ++ b) h.0).1 stop.1

pub returns-else-actions-had-clause-no : goal.returns-else-actions-had-clause-no
unfolding ParserHasConsumedWithin
returns-else-actions-had-clause-no g c = λ limit s b h e stop.
    absurd
    (stop.0 (nothing_left (yield_within limit s b) (omega (arith, e, c.if-actions-had.false))))
