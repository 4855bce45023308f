use Rattle.std.proofs.Common.{sym, subst}
use Rattle.esc_actions.proofs.Meaning.MeaningsJoin.{mode_nil}
use Rattle.esc_parse.proofs.parser.Parser.restart.Goals as goal
use Rattle.esc_parse.specs.Fed.{Hooks, ParserHasConsumedWithin}

pub returns-clause-fed : goal.returns-clause-fed
unfolding ParserHasConsumedWithin
returns-clause-fed g c = λ limit s h. (
  c.restart.ensures.fed limit s h.0,
  subst (λ m. Hooks limit c.restart-2.new.self m) (sym (mode_nil limit))
      (c.restart-2.ensures.hooks limit _ h.1),
)
