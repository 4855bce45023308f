use Rattle.std.proofs.Common.{ap, refl, ◌∙◌}
use Rattle.esc_calls.specs.InChunks.{text_in}
use Rattle.esc_calls.specs.Kept.{page_in}
use Rattle.esc_calls.proofs.page_chunks.html_begin.Goals as goal

pub returns-clause-begun : goal.returns-clause-begun
returns-clause-begun c = λ done.
    let e = c.begin.ensures.begun done in
    let f = c.with_layout.ensures in
    ((_, ap page_in e, (f.fed, refl)), ap text_in e ∙ f.empty)
