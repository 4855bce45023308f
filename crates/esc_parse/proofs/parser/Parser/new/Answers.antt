use Rattle.std.proofs.Common.{None, sym, subst}
use Rattle.esc_actions.proofs.Meaning.MeaningsJoin.{mode_nil}
use Rattle.esc_parse.proofs.parser.Parser.new.Goals as goal
use Rattle.esc_parse.specs.Fed.{Hooks, ParserHasConsumedWithin}

pub returns : goal.returns
unfolding ParserHasConsumedWithin
returns g c = (
  c.new.ensures,
  subst (λ m. Hooks None c.new-2.result m) (sym (mode_nil None)) c.new-2.ensures.hooks,
)
