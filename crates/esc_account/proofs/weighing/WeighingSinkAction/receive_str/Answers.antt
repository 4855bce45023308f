use Rattle.std.proofs.lemmas.Str.{IsUtf8-past_char}
use Rattle.esc_actions.specs.declared.action.Action.TheVariants as action
use Rattle.esc_parse.proofs.Runs.RunsOfText.{char_taken, chars_taken}
use Rattle.esc_account.proofs.Fates.FateByFacts.{Took}
use Rattle.esc_account.proofs.weighing.WeighingSinkAction.receive_str.Goals as goal

pub loop-c-preserved : goal.loop-c-preserved
loop-c-preserved g c =
    let at = c.loop-c in
    let step = c.in-Some.ensures.steps.0 in (
      IsUtf8-past_char _ _ c.in-Some.c at.invariant.0 step,
      char_taken action.Print (Took g.P.Admit.admits) (λ _ _ _. ⊥) c.args.text.now _ _ c.in-Some.c
          c.args.self.now
          at.self _ at.invariant.0 step at.invariant.1 c.weigh.ensures,
    )

pub returns-clause-given : goal.returns-clause-given
returns-clause-given g c =
    chars_taken action.Print (Took g.P.Admit.admits) c.args.text.now _ c.args.self.now _
    c.in-None.ensures.steps.0.0 c.loop-c.invariant.1
