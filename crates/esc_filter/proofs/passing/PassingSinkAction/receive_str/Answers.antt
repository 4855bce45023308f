use Rattle.std.proofs.Common.{chars}
use Rattle.std.proofs.lemmas.Str.{IsUtf8-past_char}
use Rattle.esc_actions.specs.declared.action.Action.TheVariants.{Print}
use Rattle.esc_normal.proofs.Spelling.{match_both}
use Rattle.esc_parse.proofs.Runs.RunsOfText.{char_stopped, char_taken, chars_taken}
use Rattle.esc_filter.proofs.Output.RunsOfText.{run_passes, run_refused}
use Rattle.esc_filter.specs.Fed.{Refuses, TakesBy}
use Rattle.esc_filter.proofs.passing.PassingSinkAction.receive_str.Goals as goal

pub returns-then-keeps-clause-given : goal.returns-then-keeps-clause-given
returns-then-keeps-clause-given g c =
    match_both _ _ _ _ c.append_str.result
    (run_passes g.P.Admit.admits (chars c.args.text.now) c.args.self.now c.append_str.new.self
    (c.admits_str.ensures c.if-admits_str.true))
    (run_refused g.P.Admit.admits (chars c.args.text.now) c.args.self.now c.append_str.new.self)
    c.append_str.ensures

pub loop-c-preserved : goal.loop-c-preserved
loop-c-preserved g c =
    let at = c.loop-c in
    let step = c.in-Some.ensures.steps.0 in (
      IsUtf8-past_char _ _ c.in-Some.c at.invariant.0 step,
      char_taken Print (TakesBy g.P.Admit.admits) Refuses c.args.text.now _ _ c.in-Some.c
          c.args.self.now _ _ at.invariant.0 step at.invariant.1
          c.in-Ok.ensures.given,
    )

pub returns-in-Err-clause-given : goal.returns-in-Err-clause-given
returns-in-Err-clause-given g c =
    let at = c.loop-c in
    char_stopped Print (TakesBy g.P.Admit.admits) Refuses c.args.text.now _ _ c.in-Some.c
    c.args.self.now _ _ at.invariant.0
    c.in-Some.ensures.steps.0 at.invariant.1 c.in-Err.ensures.given

pub returns-clause-given : goal.returns-clause-given
returns-clause-given g c =
    chars_taken Print (TakesBy g.P.Admit.admits) c.args.text.now _ c.args.self.now _
    c.in-None.ensures.steps.0.0 c.loop-c.invariant.1
