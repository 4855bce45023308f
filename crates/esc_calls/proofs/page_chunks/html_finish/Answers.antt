use Rattle.std.proofs.Common.{Global, ◌++◌, Some, ap, subst, sym, ◌∙◌}
use Rattle.esc_html.proofs.Pages.ValuesOfPage.{closing_same}
use Rattle.esc_html.specs.Shown.{IsPage}
use Rattle.esc_calls.proofs.Keeping.{kept_has}
use Rattle.esc_calls.specs.InChunks.{text_in}
use Rattle.esc_calls.specs.Kept.{page_in}
use Rattle.esc_calls.specs.PageStates.{IsFed, open_page}
use Rattle.esc_calls.proofs.page_chunks.html_finish.Goals as goal

pub returns-clause-closed : goal.returns-clause-closed
returns-clause-closed c = λ limit y s h done.
    let old = c.in-Page.state in
    let is = ap page_in
    (c.in-Some.ensures.some ∙ ap Some (sym c.deref_mut.ensures.value ∙ c.in-Page.is)) in
    let f = kept_has page_in (IsFed limit y s) c.args.page.now old is h in
    let text = ap text_in c.of.ensures.begun ∙ closing_same limit y s old.writer f.0 in
    record {
      text = text;
      page = subst (λ t. IsPage Global (Some limit) y s (open_page limit y s ++ t)) (sym text)
          (c.streams_are_pages.ensures (Some limit) y s);
    }
