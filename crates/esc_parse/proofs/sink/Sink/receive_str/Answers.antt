use Rattle.std.proofs.Common.{subst}
use Rattle.std.proofs.lemmas.Str.{IsUtf8-past_char}
use Rattle.esc_parse.proofs.Runs.RunsOfText.{char_may, char_stopped, char_taken, chars_taken}
use Rattle.std.proofs.Common.{◌⊎◌, sym}
use Rattle.esc_parse.proofs.sink.Sink.receive_str.Goals as goal

pub loop-c-preserved : goal.loop-c-preserved
loop-c-preserved g c =
    let at = c.loop-c in
    let step = c.in-Some.ensures.steps.0 in (
      (λ r. c.in-Ok.ensures.ready (at.invariant.0 r)),
      IsUtf8-past_char _ _ c.in-Some.c at.invariant.1 step,
      char_taken g.T.ActionShape.print g.Self.Sink.takes g.Self.Sink.refuses c.args.text.now _ _
          c.in-Some.c c.args.self.now _ _ at.invariant.1 step at.invariant.2
          (subst (λ x. g.Self.Sink.takes at.self x c.receive.new.self) c.print.ensures
          c.in-Ok.ensures.given),
    )

pub returns-in-Err-clause-given : goal.returns-in-Err-clause-given
returns-in-Err-clause-given g c =
    let at = c.loop-c in
    char_stopped g.T.ActionShape.print g.Self.Sink.takes g.Self.Sink.refuses c.args.text.now _ _
    c.in-Some.c c.args.self.now _ _ at.invariant.1
    c.in-Some.ensures.steps.0 at.invariant.2
    (subst (λ x. g.Self.Sink.refuses at.self x c.receive.new.self) c.print.ensures
    c.in-Err.ensures.given)

pub returns-clause-given : goal.returns-clause-given
returns-clause-given g c =
    chars_taken g.T.ActionShape.print g.Self.Sink.takes c.args.text.now _ c.args.self.now _
    c.in-None.ensures.steps.0.0 c.loop-c.invariant.2

pub receive-requires : goal.receive-requires
receive-requires g c =
    let at = c.loop-c in
    subst (λ x. g.Self.Sink.is_ready at.self ⊎ g.Self.Sink.may at.self x) (sym c.print.ensures)
    (char_may g.Self.Sink.is_ready g.Self.Sink.may g.T.ActionShape.print g.Self.Sink.takes
    c.args.text.now _ _ c.in-Some.c c.args.self.now
    at.self at.invariant.1 c.in-Some.ensures.steps.0 at.invariant.2 at.invariant.0
    c.requires.ready)
