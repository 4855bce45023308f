use Rattle.std.proofs.Common.{Some, ap, sym, subst, rules}
use Rattle.std.specs.List.{FoldsTo}
use Rattle.esc_parse.specs.Given.{By}
use Rattle.esc_sequences.specs.Csis.{csi_of}
use Rattle.caret_notation.proofs.Filters.VerdictOfJudge.{Asks, IsSequence, sequence_taken}
use Rattle.caret_notation.proofs.judge.JudgeSinkAction.receive_sequence.Goals as goal

pub returns-clause-given : goal.returns-clause-given
returns-clause-given g c = record {
  taken = λ _.
      let p = c.args.self.now in
      subst (λ k. FoldsTo (By (IsSequence g.P.Admit.admits) (Asks g.P.Admit.admits)) p
      (csi_of c.args.params.now c.args.parameters_truncated c.args.control)
      (record p { verdict = k })) (sym c.with-self.ensures)
      (sequence_taken g.P.Admit.admits c.in-Some.passes p c.args.params.now
      c.args.parameters_truncated c.args.control c.if-parameters_truncated.false
      (λ e. c.in-Some.ensures.passes (ap Some e)) (λ e. c.in-Some.ensures.stays (ap Some e)));
  left = search rules;
  refused = search rules;
}
