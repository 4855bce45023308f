use Rattle.std.proofs.Common.{◌++◌, ap, sym, ◌∙◌}
use Rattle.std.proofs.lemmas.Bool.{true≢false}
use Rattle.esc_values.specs.Clear.{framed_text, parts_of}
use Rattle.esc_normal.proofs.Spelling.{command_given, command_refused}
use Rattle.esc_normal.proofs.spell.TextSinkSinkAction.receive_command.Goals as goal

pub returns-in-Ok-clause-given : goal.returns-in-Ok-clause-given
returns-in-Ok-clause-given g c = record {
  taken = λ _.
      let text = c.args.self.now.text in
      command_given c.args.self.now _ (parts_of c.args.text.now) (
        c.in-Ok.ensures.ok.0 ∙ ap (λ t. text ++ framed_text t) c.in-Some.ensures.same
            ∙ ap (λ t. text ++ t) (sym c.in-Some.ensures.written),
        c.in-Ok.ensures.ok.1,
      );
  left = λ e. absurd (true≢false e);
  refused = tt;
}

pub returns-in-Err-clause-given : goal.returns-in-Err-clause-given
returns-in-Err-clause-given g c = record {
  taken = tt;
  left = tt;
  refused =
      command_refused ⊥ c.args.self.now _ (parts_of c.args.text.now) c.in-Err.ensures.refused;
}
