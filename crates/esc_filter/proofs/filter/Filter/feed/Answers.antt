use Rattle.std.proofs.Common.{Some, ap, sym, subst, ◌∙◌, ◌≡◌}
use Rattle.std.proofs.lemmas.Result.{IfErr-at_err}
use Rattle.esc_parse.proofs.Lists.StepsOverLists.{on_ok_at}
use Rattle.esc_normal.proofs.HaveTexts.{handed_out_have_texts}
use Rattle.esc_normal.proofs.Spelling.{stops_denied}
use Rattle.esc_filter.proofs.Output.WrittenOfPassing.{fed_all}
use Rattle.esc_filter.specs.Noted.{HasNoted, without_text}
use Rattle.esc_filter.specs.Passing.{in_lines, passed_as}
use Rattle.esc_filter.proofs.filter.Filter.feed.Goals as goal

pub returns-in-Ok-clause-given : goal.returns-in-Ok-clause-given
returns-in-Ok-clause-given g c = λ b u limit s h.
    let admits = g.P.Admit.admits c.args.self.now.policy in
    let begun : c.emptied.result ≡ without_text c.args.self.now.written =
    c.emptied.ensures ∙ ap without_text c.replace-written.ensures.value in
    let k = on_ok_at _ c.in-Ok.is (c.parse_into-result.ensures.given (Some limit) s h.0) in
    let w = fed_all g.P.Admit.admits (λ p. p.policy.now) (λ p. p.written) b u (Some limit) s
    c.args.bytes.now _ _ (ap (λ x. x.spell.text) begun)
    (subst (HasNoted b u (passed_as u (Some limit) (in_lines b admits) s)) (sym begun) h.1) k.1 in
    ((k.0, w.0), w.1)

pub returns-in-Err-clause-refused : goal.returns-in-Err-clause-refused
returns-in-Err-clause-refused g c = λ b u limit s h.
    let f = IfErr-at_err _ c.in-Err.is (c.parse_into-result.ensures.refused (Some limit) s h.0) in
    let have = handed_out_have_texts _ (c.yield_handed_out.ensures (Some limit) s c.args.bytes.now)
    in (
      f.0,
      f.1,
      ap (λ x. x.spell.text) c.replace-written.ensures.after ∙ c.new-new.ensures.text,
      stops_denied _ _ _ _ _ have f.2,
    )
