use Rattle.std.proofs.Common.{sym, ◌∙◌}
use Rattle.esc_actions.specs.Values.{value_of}
use Rattle.esc_filter.proofs.Output.OneValueMore.{adds_one, ends_one}
use Rattle.esc_filter.proofs.encoder.Encoder.append.Goals as goal

pub returns-clause-written : goal.returns-clause-written
returns-clause-written g c = λ vs h. (
  c.is_string-self.ensures ∙ sym (ends_one vs (value_of c.args.action.now)),
  adds_one c.args.self.now.follows_string vs (value_of c.args.action.now) _ _ h
      c.in_ok-append_after.ensures.ok,
)
