use Rattle.std.proofs.Common.{Some, sym, subst}
use Rattle.esc_actions.proofs.Meaning.MeaningsJoin.{mode_nil}
use Rattle.esc_parse.proofs.parser.Parser.with_limit.Goals as goal
use Rattle.esc_parse.specs.Fed.{Hooks, ParserHasConsumedWithin}

pub returns : goal.returns
unfolding ParserHasConsumedWithin
returns g c = (
  c.with_limit.ensures,
  subst (λ m. Hooks (Some c.args.limit) c.new.result m)
      (sym (mode_nil (Some c.args.limit))) c.new.ensures.hooks,
)
