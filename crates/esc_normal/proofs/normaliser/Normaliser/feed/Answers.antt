use Rattle.std.proofs.Common.{ap, ◌∙◌}
use Rattle.std.proofs.lemmas.Result.{IfErr-at_err, err_from_is_err_and}
use Rattle.esc_parse.proofs.Lists.StepsOverLists.{if_err_is, on_ok_at}
use Rattle.esc_normal.proofs.HaveTexts.{handed_out_have_texts}
use Rattle.esc_normal.proofs.Normalising.{fed_more}
use Rattle.esc_normal.proofs.Spelling.{stops_denied}
use Rattle.esc_normal.proofs.normaliser.Normaliser.feed.Goals as goal

pub returns-clause-given : goal.returns-clause-given
returns-clause-given g c = λ limit s h.
    let k = on_ok_at _ c.in_ok-result.was (c.parse_into-result.ensures.given limit s h.0) in
    let begun = c.emptied.ensures.same ∙ ap (λ x. x.follows_string) c.replace-spell.ensures.value
    ∙ h.1 in
    let w = fed_more limit s c.args.bytes.now _ _ c.emptied.ensures.text begun k.1 in
    ((k.0, w.0), w.1)

pub returns-in_err-result-clause-refused : goal.returns-in_err-result-clause-refused
returns-in_err-result-clause-refused g c = λ limit s h.
    let f = IfErr-at_err _ c.in_err-result.was (c.parse_into-result.ensures.refused limit s h.0) in
    let have = handed_out_have_texts _ (c.yield_handed_out.ensures limit s c.args.bytes.now) in
    let p = err_from_is_err_and c.from_residual.result c.from_residual.ensures.1 in
    if_err_is _ c.from_residual.result p.0 p.1 (
      p.2 ∙ f.0,
      f.1,
      ap (λ x. x.text) c.replace-spell.ensures.after ∙ c.new.ensures.text,
      stops_denied _ _ _ _ _ have f.2,
    )
