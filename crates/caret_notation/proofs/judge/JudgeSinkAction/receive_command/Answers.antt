use Rattle.std.proofs.Common.{[], ◌∷◌, sym, subst, rules}
use Rattle.std.specs.List.{FoldsTo}
use Rattle.esc_parse.specs.Given.{By}
use Rattle.esc_values.specs.Clear.{parts_of}
use Rattle.caret_notation.proofs.Filters.VerdictOfJudge.{Asks, IsCommand, command_taken}
use Rattle.caret_notation.proofs.judge.JudgeSinkAction.receive_command.Goals as goal

pub returns-clause-given : goal.returns-clause-given
returns-clause-given g c = record {
  taken = λ _.
      let p = c.args.self.now in
      subst (λ k. FoldsTo (By (IsCommand g.P.Admit.admits) (Asks g.P.Admit.admits)) p
      (parts_of c.args.text.now ∷ []) (record p { verdict = k })) (sym c.with-self.ensures)
      (command_taken g.P.Admit.admits c.in-Some.passes p (parts_of c.args.text.now)
      c.in-Some.ensures);
  left = search rules;
  refused = search rules;
}
