use Rattle.std.proofs.Common.{ap, ◌∙◌}
use Rattle.esc_calls.specs.InChunks.{text_in}
use Rattle.esc_calls.specs.Kept.{normaliser_in}
use Rattle.esc_calls.proofs.normal_chunks.normal_begin.Goals as goal

pub returns-clause-begun : goal.returns-clause-begun
returns-clause-begun c = λ done.
    let e = c.begin.ensures.begun done in
    ((c.new.result, ap normaliser_in e, c.new.ensures.fed), ap text_in e ∙ c.new.ensures.empty)
