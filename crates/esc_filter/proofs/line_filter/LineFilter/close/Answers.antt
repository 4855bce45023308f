use Rattle.std.proofs.Common.{rules, ◌≡◌, [], ◌++◌, false, true, ap, sym, ◌∙◌, append-nil}
use Rattle.esc_actions.specs.Texts.{list_text}
use Rattle.esc_filter.proofs.GivingBack.GivingBackRestores.{nothing_back}
use Rattle.esc_filter.proofs.Results.{pushed}
use Rattle.esc_filter.specs.Closing.{closing, given_back, keeps_cursor}
use Rattle.esc_filter.specs.Lines.{added_by, passed_of_line, policy_of_lines}
use Rattle.esc_filter.proofs.line_filter.LineFilter.close.Goals as goal

pub returns-then-not-is_changed-clause-given : goal.returns-then-not-is_changed-clause-given
returns-then-not-is_changed-clause-given g c = λ u limit l h.
    let admits = g.P.Admit.admits (policy_of_lines c.args.self.now) in
    let vs = passed_of_line u limit admits l in
    let none : c.is_changed.result ≡ false = search rules in
    let e : list_text (closing admits vs) ≡ [] =
    ap list_text (ap (given_back (keeps_cursor admits)) (sym h.1.1)
    ∙ nothing_back _ (keeps_cursor admits) c.args.self.now.filter.written.left
    (c.is_changed.ensures none)) in (
      c.restart.ensures.fed true u limit l h,
      sym (append-nil (added_by c.args.self.now))
          ∙ ap (λ t. added_by c.args.self.now ++ t) (sym e),
    )

pub returns-in-Ok-clause-given : goal.returns-in-Ok-clause-given
returns-in-Ok-clause-given g c = λ u limit l h.
    let d = c.in-Ok.ensures.ended true u limit l h in
    pushed c.push_str.result (added_by c.args.self.now) c.output.result.now _
    c.push_str.ensures.bytes
    (λ e. (d.0, e ∙ ap (λ t. added_by c.args.self.now ++ t) (c.output.ensures ∙ d.1)))
