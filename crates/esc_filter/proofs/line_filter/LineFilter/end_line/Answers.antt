use Rattle.std.proofs.Common.{◌++◌, ◌∙◌, true, [], ap, subst, sym, append_assoc}
use Rattle.esc_actions.specs.Texts.{list_text}
use Rattle.esc_filter.specs.Fed.{HasConsumedIn}
use Rattle.esc_filter.specs.Closing.{closing}
use Rattle.esc_filter.specs.Lines.{added_by, end_text, passed_of_line, policy_of_lines}
use Rattle.esc_parse.proofs.Lists.StepsOverLists.{on_ok_more}
use Rattle.esc_filter.proofs.line_filter.LineFilter.end_line.Goals as goal

pub returns-in-Ok-clause-given : goal.returns-in-Ok-clause-given
returns-in-Ok-clause-given g c = λ u limit l h.
    let admits = g.P.Admit.admits (policy_of_lines c.args.self.now) in
    let old = added_by c.args.self.now in
    let holds = c.args.self.now.holds in
    let back = list_text (closing admits (passed_of_line u limit admits l)) in
    let d = c.in-Ok.ensures.given u limit l h in
    on_ok_more _ _ c.append_end.result (λ e. (
      subst (HasConsumedIn u true limit admits []) (sym c.append_end.ensures.kept.0) d.0,
      e ∙ ap (λ p. added_by c.close.new.self ++ end_text (g.P.Admit.admits p) holds)
          c.in-Ok.ensures.kept.0
          ∙ ap (λ t. t ++ end_text admits holds) d.1
          ∙ append_assoc old back (end_text admits holds),
    )) c.append_end.ensures.end
