use Rattle.std.proofs.lemmas.Str.{IsUtf8-past_char}
use Rattle.esc_actions.specs.declared.action.Action.TheVariants as action
use Rattle.esc_html.specs.Fed.{Takes}
use Rattle.esc_parse.proofs.Runs.RunsOfText.{char_stopped, char_taken, chars_taken}
use Rattle.fallible_alloc.specs.Refusals.{Refused}
use Rattle.esc_html.proofs.page.Page.take_each.Goals as goal

pub loop-c-preserved : goal.loop-c-preserved
loop-c-preserved g c =
    let at = c.loop-c in
    let step = c.in-Some.ensures.steps.0 in (
      IsUtf8-past_char _ _ c.in-Some.c at.invariant.0 step,
      char_taken action.Print Takes (λ p a q. Refused g.row.A.Denot) c.args.text.now _ _
          c.in-Some.c c.args.self.now _ _ at.invariant.0 step at.invariant.1
          c.in-Ok.ensures.ok,
    )

pub returns-in-Err : goal.returns-in-Err
returns-in-Err g c =
    let at = c.loop-c in
    char_stopped action.Print Takes (λ p a q. Refused g.row.A.Denot) c.args.text.now _ _
    c.in-Some.c c.args.self.now _ _ at.invariant.0
    c.in-Some.ensures.steps.0 at.invariant.1 c.in-Err.ensures.refused

pub returns : goal.returns
returns g c =
    chars_taken action.Print Takes c.args.text.now _ c.args.self.now _
    c.in-None.ensures.steps.0.0 c.loop-c.invariant.1
