use Rattle.std.proofs.Common.{◌≡◌, refl}
use Rattle.std.proofs.lemmas.Bool.{true≢false}
use Rattle.esc_sequences.specs.Csis.{unspecified}
use Rattle.esc_sequences.specs.declared.csi.CSI.TheVariants as csi_variant
use Rattle.esc_actions.specs.Values.{csi, value_of}
use Rattle.esc_actions.specs.declared.action.Action.TheVariants as action
use Rattle.escape_stream.proofs.Lent.{may_one, one_given, one_refused}
use Rattle.escape_stream.specs.declared.borrowed.ActionRef.TheVariants.{Sequence}
use Rattle.escape_stream.proofs.borrow_adapter.BorrowAdapterSinkAction.receive_sequence.Goals as goal

pub receive-requires-clause-ready : goal.receive-requires-clause-ready
receive-requires-clause-ready g c =
    may_one g.S.BorrowingSink.takes (λ a v. value_of a ≡ csi v) c.args.self.now
    c.nothing_begun.ensures _
    (unspecified c.args.params.now c.args.parameters_truncated c.args.control)
    (action.CSI (csi_variant.Unspecified (record {
      params = c.args.params.now;
      parameters_truncated = c.args.parameters_truncated;
      control = c.args.control;
    })))
    (Sequence c.args.params c.args.parameters_truncated c.args.control)
    (c.has_no_name.ensures c.if-not-has_no_name.false) refl refl
    g.S.BorrowingSink.is_ready g.S.BorrowingSink.may c.requires

pub returns-in-Ok-clause-given : goal.returns-in-Ok-clause-given
returns-in-Ok-clause-given g c = record {
  taken = λ _.
      one_given g.S.BorrowingSink.takes (λ a v. value_of a ≡ csi v) c.args.self.now
      c.nothing_begun.ensures _
      (unspecified c.args.params.now c.args.parameters_truncated c.args.control)
      (action.CSI (csi_variant.Unspecified (record {
        params = c.args.params.now;
        parameters_truncated = c.args.parameters_truncated;
        control = c.args.control;
      })))
      (Sequence c.args.params c.args.parameters_truncated c.args.control)
      (c.has_no_name.ensures c.if-not-has_no_name.false) refl refl _
      c.nothing_begun.ensures c.in-Ok.ensures.given;
  left = λ e. absurd (true≢false e);
  refused = tt;
}

pub returns-in-Err-clause-given : goal.returns-in-Err-clause-given
returns-in-Err-clause-given g c = record {
  taken = tt;
  left = tt;
  refused =
      one_refused g.S.BorrowingSink.takes (λ a v. value_of a ≡ csi v) c.args.self.now
      c.nothing_begun.ensures _
      (unspecified c.args.params.now c.args.parameters_truncated c.args.control)
      (action.CSI (csi_variant.Unspecified (record {
        params = c.args.params.now;
        parameters_truncated = c.args.parameters_truncated;
        control = c.args.control;
      })))
      (Sequence c.args.params c.args.parameters_truncated c.args.control)
      (c.has_no_name.ensures c.if-not-has_no_name.false) refl refl
      g.S.BorrowingSink.refuses _ c.in-Err.ensures.given;
}
