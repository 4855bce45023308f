use Rattle.std.proofs.Common.{◌++◌, Ok, Err, true, ap, sym, ◌∙◌}
use Rattle.std.proofs.lemmas.Bool.{true≢false}
use Rattle.std.specs.declared.alloc.AllocError.{AllocError}
use Rattle.esc_sequences.specs.Csis.{csi_of}
use Rattle.esc_normal.proofs.Spelling.{plain_given, plain_refused}
use Rattle.esc_filter.proofs.GivingBack.ChangesAreNoted.{sequence_denied, sequence_noted}
use Rattle.esc_filter.proofs.written.WrittenSinkAction.receive_sequence.Goals as goal

pub returns-in-Ok-clause-given : goal.returns-in-Ok-clause-given
returns-in-Ok-clause-given g c = record {
  taken =
      let p = c.args.self.now in
      let more = c.args.parameters_truncated in
      let (v, one, after, pens) = c.note_short.ensures in
      sequence_noted {E = AllocError} (Ok true) (csi_of c.args.params.now more c.args.control) p _
      c.pen_after_final-self.result c.write_short.new.self (
        v,
        ap (λ b. csi_of c.args.params.now b c.args.control) c.if-parameters_truncated.false ∙ one,
        after,
        c.pen_after_final-self.ensures ∙ pens p.pen,
      ) (λ _. plain_given p.spell c.write_short.new.self c.args.params.now more c.args.control
      (c.in-Some.ensures.plain more) (
        c.in-Ok.ensures.ok.0 ∙ ap (λ t. p.spell.text ++ t) (sym (c.in-Some.ensures.text more)),
        c.in-Ok.ensures.ok.1,
      ));
  left = λ e. absurd (true≢false e);
  refused = tt;
}

pub returns-in-Err-clause-given : goal.returns-in-Err-clause-given
returns-in-Err-clause-given g c = record {
  taken = tt;
  left = tt;
  refused =
      let p = c.args.self.now in
      let more = c.args.parameters_truncated in
      sequence_denied (Err c.in-Err.error) (csi_of c.args.params.now more c.args.control) p _
      c.write_short.new.self
      (plain_refused ⊥ p.spell c.write_short.new.self c.args.params.now more c.args.control
      (c.in-Some.ensures.plain more) c.in-Err.ensures.refused);
}
