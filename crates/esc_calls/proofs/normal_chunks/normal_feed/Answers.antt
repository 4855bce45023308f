use Rattle.std.proofs.Common.{Global, ◌++◌, Some, ap, refl, sym, ◌∙◌}
use Rattle.esc_normal.proofs.Normalising.{added_form, form_longer}
use Rattle.esc_normal.specs.Normalising.{HasConsumed}
use Rattle.esc_calls.proofs.Keeping.{kept_has}
use Rattle.esc_calls.specs.InChunks.{text_in}
use Rattle.esc_calls.specs.Kept.{normaliser_in}
use Rattle.esc_calls.specs.NormalChunks.{normal_text}
use Rattle.esc_calls.proofs.normal_chunks.normal_feed.Goals as goal

pub returns-in-Ok-clause-taken : goal.returns-in-Ok-clause-taken
returns-in-Ok-clause-taken c = λ limit s h done.
    let is = ap normaliser_in
    (c.in-Some.ensures.some ∙ ap Some (sym c.deref_mut.ensures.value ∙ c.in-Normal.is)) in
    let f = kept_has normaliser_in (HasConsumed {A = Global} (Some limit) s) c.args.normaliser.now
    c.in-Normal.inner is h in
    let k = c.in-Ok.ensures.given (Some limit) s f in
    record {
      fed = (c.feed.new.self, ap normaliser_in c.of.ensures.begun, k.0);
      text = k.1 ∙ ap (λ t. normal_text limit s ++ t) (sym (ap text_in c.of.ensures.begun));
    }

pub returns-in-Err-clause-memory : goal.returns-in-Err-clause-memory
returns-in-Err-clause-memory c = λ limit s h differs.
    let is = ap normaliser_in
    (c.in-Some.ensures.some ∙ ap Some (sym c.deref_mut.ensures.value ∙ c.in-Normal.is)) in
    let f = kept_has normaliser_in (HasConsumed {A = Global} (Some limit) s) c.args.normaliser.now
    c.in-Normal.inner is h in (
      refl,
      record {
        ended = c.take.ensures.ended;
        beginning = (
          added_form Global (Some limit) s c.args.bytes.now,
          form_longer Global (Some limit) s c.args.bytes.now,
        );
      },
      (c.in-Err.ensures.refused (Some limit) s f).3,
    )
