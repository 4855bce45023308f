use Rattle.std.proofs.Common.{Global, ◌++◌, false, Some, ap, refl, sym, subst, ◌∙◌}
use Rattle.esc_filter.proofs.Output.TextsGrow.{text_longer}
use Rattle.esc_filter.specs.Fed.{TakesIn}
use Rattle.esc_filter.specs.Rules.{admits}
use Rattle.esc_filter.specs.Characters.{keep_all}
use Rattle.esc_calls.proofs.Keeping.{filter_fed}
use Rattle.esc_calls.proofs.filter_chunks.filter_feed.Goals as goal
use Rattle.esc_calls.specs.Filtered.{open_text}
use Rattle.esc_calls.specs.InChunks.{text_in}
use Rattle.esc_calls.specs.Kept.{filter_in}

pub returns-in-Ok-clause-taken : goal.returns-in-Ok-clause-taken
returns-in-Ok-clause-taken c = λ limit p s h done.
    let is = ap filter_in
    (c.in-Some.ensures.some ∙ ap Some (sym c.deref_mut.ensures.value ∙ c.in-Filter.is)) in
    let f = filter_fed limit p s c.args.filter.now c.in-Filter.inner is h in
    let k = subst
    (λ x. TakesIn {A = Global} false (admits x) limit s c.args.bytes.now c.feed.new.self) f.1
    (c.in-Ok.ensures.given false keep_all limit s f.0) in
    record {
      taken = record {
        fed = (
          c.feed.new.self,
          ap filter_in c.of.ensures.begun,
          (k.0, c.in-Ok.ensures.policy ∙ f.1),
        );
        text = k.1 ∙ ap (λ t. open_text limit p s ++ t) (sym (ap text_in c.of.ensures.begun));
      };
      filtered = c.passed_reads_back.ensures.goes_on (Some limit) (admits p)
          (s ++ c.args.bytes.now);
    }

pub returns-in-Err-clause-memory : goal.returns-in-Err-clause-memory
returns-in-Err-clause-memory c = λ limit p s h differs.
    let is = ap filter_in
    (c.in-Some.ensures.some ∙ ap Some (sym c.deref_mut.ensures.value ∙ c.in-Filter.is)) in
    let f = filter_fed limit p s c.args.filter.now c.in-Filter.inner is h in (
      refl,
      record {
        ended = c.take.ensures.ended;
        beginning = (
          _,
          text_longer {A = Global} (Some limit) (admits p) s c.args.bytes.now,
        );
      },
      (c.in-Err.ensures.refused false keep_all limit s f.0).3,
    )
