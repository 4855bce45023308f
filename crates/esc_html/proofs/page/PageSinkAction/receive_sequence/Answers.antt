use Rattle.std.proofs.Common.{rules}
use Rattle.std.proofs.lemmas.Bool.{true≢false}
use Rattle.esc_html.proofs.Sequences.OneNumberIsOneValue.{asked_refused, asked_taken}
use Rattle.esc_html.proofs.Sequences.SequenceIsOneAction.{on_err, rendition_refused, rendition_taken, sequence_refused, sequence_taken}
use Rattle.esc_html.proofs.page.PageSinkAction.receive_sequence.Goals as goal

pub returns-in-Some-clause-given : goal.returns-in-Some-clause-given
returns-in-Some-clause-given g c = record {
  taken = λ yes.
      asked_taken c.args.self.now _ c.args.params.now c.args.parameters_truncated c.args.control _
      c.in-Some.ensures c.in_ok-select_common.ensures.ok;
  left = λ e. absurd (true≢false e);
  refused = tt;
}

pub returns-in_err-select_common-clause-given : goal.returns-in_err-select_common-clause-given
returns-in_err-select_common-clause-given g c = record {
  taken = search rules;
  left = search rules;
  refused =
      on_err _ _ (asked_refused c.args.self.now _ c.args.params.now c.args.parameters_truncated
      c.args.control _ c.in-Some.ensures c.in_err-select_common.ensures.refused);
}

pub returns-in-Some-short_rendition-clause-given :
    goal.returns-in-Some-short_rendition-clause-given
returns-in-Some-short_rendition-clause-given g c = record {
  taken = λ yes.
      rendition_taken c.args.self.now _ _ c.in-Some-short_rendition.rendition
      c.in-Some-short_rendition.ensures c.in_ok-take_rendition.ensures.ok;
  left = λ e. absurd (true≢false e);
  refused = tt;
}

pub returns-in_err-take_rendition-clause-given : goal.returns-in_err-take_rendition-clause-given
returns-in_err-take_rendition-clause-given g c = record {
  taken = search rules;
  left = search rules;
  refused =
      on_err _ _ (rendition_refused c.args.self.now _ _ c.in-Some-short_rendition.rendition
      c.in-Some-short_rendition.ensures c.in_err-take_rendition.ensures.refused);
}

pub returns-clause-given : goal.returns-clause-given
returns-clause-given g c = record {
  taken = λ yes.
      sequence_taken c.args.self.now _ _ c.args.params.now c.args.parameters_truncated
      c.args.control
      (c.is_unspecified.ensures c.if-not-is_unspecified.false) c.in_ok-take_params.ensures.ok;
  left = λ e. absurd (true≢false e);
  refused = tt;
}

pub returns-in_err-take_params-clause-given : goal.returns-in_err-take_params-clause-given
returns-in_err-take_params-clause-given g c = record {
  taken = search rules;
  left = search rules;
  refused =
      on_err _ _ (sequence_refused c.args.self.now _ _ c.args.params.now
      c.args.parameters_truncated c.args.control
      (c.is_unspecified.ensures c.if-not-is_unspecified.false)
      c.in_err-take_params.ensures.refused);
}
