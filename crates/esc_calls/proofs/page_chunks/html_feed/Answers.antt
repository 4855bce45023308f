use Rattle.std.proofs.Common.{◌++◌, Some, ap, sym, ◌∙◌}
use Rattle.esc_calls.proofs.Keeping.{kept_has}
use Rattle.esc_calls.specs.InChunks.{text_in}
use Rattle.esc_calls.specs.Kept.{page_in}
use Rattle.esc_calls.specs.PageStates.{IsFed, open_page}
use Rattle.esc_calls.proofs.page_chunks.html_feed.Goals as goal

pub returns-then-status-eq-DONE-clause-taken : goal.returns-then-status-eq-DONE-clause-taken
returns-then-status-eq-DONE-clause-taken c = λ limit y s h done.
    let is = ap page_in
    (c.in-Some.ensures.some ∙ ap Some (sym c.deref_mut.ensures.value ∙ c.in-Page.is)) in
    let f = kept_has page_in (IsFed limit y s) c.args.page.now c.in-Page.state is h in
    let k = c.feed-status.ensures.taken limit y s f done in
    record {
      fed = (c.feed-status.new.self, ap page_in c.of.ensures.begun, k.0);
      text = k.1 ∙ ap (λ t. open_page limit y s ++ t) (sym (ap text_in c.of.ensures.begun));
    }
