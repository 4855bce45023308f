use Rattle.std.proofs.Common.{Some, ap, ◌∙◌}
use Rattle.std.proofs.lemmas.Result.{IfErr-at_err}
use Rattle.esc_parse.proofs.Lists.StepsOverLists.{on_ok_at}
use Rattle.esc_html.specs.Fed.{state_of, text_of}
use Rattle.esc_html.proofs.Pages.ValuesOfPage.{fed_more, stops_refused}
use Rattle.esc_html.proofs.html_writer.HtmlWriter.feed.Goals as goal

pub returns-in-Ok-clause-given : goal.returns-in-Ok-clause-given
returns-in-Ok-clause-given g c = λ limit y s h.
    let k = on_ok_at _ c.in-Ok.is (c.parse_into-result.ensures.given (Some limit) s h.parser) in
    let m = fed_more (Some limit) y s c.args.bytes.now c.emptied.result _
    c.emptied.ensures.text
    (c.emptied.ensures.state ∙ ap state_of c.replace-page.ensures.value ∙ h.state)
    (c.emptied.ensures.layout ∙ ap (λ x. x.layout) c.replace-page.ensures.value ∙ h.layout)
    k.1 in (
      record {
        parser = k.0;
        state = m.0;
        layout = m.1;
      },
      m.2,
      m.3,
    )

pub returns-in-Err-clause-refused : goal.returns-in-Err-clause-refused
returns-in-Err-clause-refused g c = λ limit y s h.
    let f = IfErr-at_err _ c.in-Err.is
    (c.parse_into-result.ensures.refused (Some limit) s h.parser) in (
      f.0,
      f.1,
      ap text_of c.replace-page.ensures.after ∙ c.new-blank.ensures.text,
      stops_refused _ _ _ _ (λ o. o.1) (λ p v q r. r.2) _ _ _ f.2,
    )
