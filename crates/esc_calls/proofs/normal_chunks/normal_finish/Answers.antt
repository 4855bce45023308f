use Rattle.std.proofs.Common.{Global, Some, ap, sym, ◌∙◌}
use Rattle.esc_actions.specs.Meaning.{meaning_within}
use Rattle.esc_normal.specs.Normalising.{HasConsumed}
use Rattle.esc_calls.proofs.Keeping.{kept_has}
use Rattle.esc_calls.specs.InChunks.{text_in}
use Rattle.esc_calls.specs.Kept.{normaliser_in}
use Rattle.esc_calls.proofs.normal_chunks.normal_finish.Goals as goal

pub returns-clause-finished : goal.returns-clause-finished
returns-clause-finished c = λ limit s h done.
    let is = ap normaliser_in
    (c.in-Some.ensures.some ∙ ap Some (sym c.deref_mut.ensures.value ∙ c.in-Normal.is)) in
    let f = kept_has normaliser_in (HasConsumed {A = Global} (Some limit) s) c.args.normaliser.now
    c.in-Normal.inner is h in
    let e = c.of.ensures.begun in
    record {
      begun = (
        (c.restart.new.self, ap normaliser_in e, c.restart.ensures.fed (Some limit) s f),
        ap text_in e ∙ c.restart.ensures.empty,
      );
      reads_back = λ w. c.reads_back.ensures (meaning_within {A = Global} (Some limit) s) w;
    }
