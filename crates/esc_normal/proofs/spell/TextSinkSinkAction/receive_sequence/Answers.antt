use Rattle.std.proofs.Common.{◌++◌, ap, sym, ◌∙◌}
use Rattle.std.proofs.lemmas.Bool.{true≢false}
use Rattle.esc_normal.proofs.Spelling.{plain_given, plain_refused}
use Rattle.esc_normal.proofs.spell.TextSinkSinkAction.receive_sequence.Goals as goal

pub returns-in-Ok-clause-given : goal.returns-in-Ok-clause-given
returns-in-Ok-clause-given g c = record {
  taken = λ _.
      let more = c.args.parameters_truncated in
      plain_given c.args.self.now _ c.args.params.now more c.args.control
      (c.in-Some.ensures.plain more) (
        c.in-Ok.ensures.ok.0 ∙ ap (λ t. c.args.self.now.text ++ t)
            (sym (c.in-Some.ensures.text more)),
        c.in-Ok.ensures.ok.1,
      );
  left = λ e. absurd (true≢false e);
  refused = tt;
}

pub returns-in-Err-clause-given : goal.returns-in-Err-clause-given
returns-in-Err-clause-given g c = record {
  taken = tt;
  left = tt;
  refused =
      let more = c.args.parameters_truncated in
      plain_refused ⊥ c.args.self.now _ c.args.params.now more c.args.control
      (c.in-Some.ensures.plain more)
      c.in-Err.ensures.refused;
}

pub returns-in-Ok-write_sequence-clause-given : goal.returns-in-Ok-write_sequence-clause-given
returns-in-Ok-write_sequence-clause-given g c = record {
  taken = λ _.
      plain_given c.args.self.now _ c.args.params.now c.args.parameters_truncated c.args.control
      (c.is_plain.ensures c.if-not-is_plain.false)
      c.in-Ok-write_sequence.ensures.ok;
  left = λ e. absurd (true≢false e);
  refused = tt;
}

pub returns-in-Err-write_sequence-clause-given : goal.returns-in-Err-write_sequence-clause-given
returns-in-Err-write_sequence-clause-given g c = record {
  taken = tt;
  left = tt;
  refused =
      plain_refused ⊥ c.args.self.now _ c.args.params.now c.args.parameters_truncated c.args.control
      (c.is_plain.ensures c.if-not-is_plain.false) c.in-Err-write_sequence.ensures.refused;
}
