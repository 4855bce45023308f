use Rattle.std.proofs.Common.{inl}
use Rattle.std.proofs.lemmas.Str.{IsUtf8-past_char}
use Rattle.esc_actions.specs.declared.action.Action.TheVariants as action
use Rattle.esc_parse.proofs.Runs.RunsOfText.{char_stopped, char_taken, chars_taken}
use Rattle.fallible_alloc.specs.Refusals.{Refused}
use Rattle.esc_account.specs.Briefs.{Keeps}
use Rattle.esc_account.proofs.brief.BriefSinkAction.receive_str.Goals as goal

pub loop-c-preserved : goal.loop-c-preserved
loop-c-preserved g c =
    let at = c.loop-c in
    let step = c.in-Some.ensures.steps.0 in (
      IsUtf8-past_char _ _ c.in-Some.c at.invariant.0 step,
      char_taken action.Print Keeps (λ _ _ _. Refused g.row.A.Denot) c.args.text.now _ _ c.in-Some.c
          c.args.self.now
          at.self _ at.invariant.0 step at.invariant.1 c.in-Ok.ensures.given,
    )

pub returns-clause-given : goal.returns-clause-given
returns-clause-given g c =
    chars_taken action.Print Keeps c.args.text.now _ c.args.self.now _
    c.in-None.ensures.steps.0.0 c.loop-c.invariant.1

pub returns-in-Err-clause-given : goal.returns-in-Err-clause-given
returns-in-Err-clause-given g c =
    let at = c.loop-c in
    char_stopped action.Print Keeps (λ _ _ _. Refused g.row.A.Denot) c.args.text.now _ _ c.in-Some.c
    c.args.self.now _ _
    at.invariant.0 c.in-Some.ensures.steps.0 at.invariant.1 c.in-Err.ensures.given

pub receive-requires : goal.receive-requires
receive-requires g c = inl tt
