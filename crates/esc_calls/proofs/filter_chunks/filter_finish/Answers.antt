use Rattle.std.proofs.Common.{Global, ◌++◌, false, Some, ap, sym, subst, ◌∙◌}
use Rattle.esc_filter.specs.Fed.{Ends}
use Rattle.esc_filter.specs.Rules.{admits}
use Rattle.esc_filter.specs.Characters.{keep_all}
use Rattle.esc_calls.proofs.Keeping.{filter_fed}
use Rattle.esc_calls.proofs.filter_chunks.filter_finish.Goals as goal
use Rattle.esc_calls.specs.Filtered.{open_text}
use Rattle.esc_calls.specs.InChunks.{text_in}
use Rattle.esc_calls.specs.Kept.{filter_in}

pub returns-in-Ok-clause-finished : goal.returns-in-Ok-clause-finished
returns-in-Ok-clause-finished c = λ limit p s h done.
    let is = ap filter_in
    (c.in-Some.ensures.some ∙ ap Some (sym c.deref_mut.ensures.value ∙ c.in-Filter.is)) in
    let f = filter_fed limit p s c.args.filter.now c.in-Filter.inner is h in
    let k = subst (λ x. Ends {A = Global} false (admits x) limit s c.finish.new.self) f.1
    (c.in-Ok.ensures.ended false keep_all limit s f.0) in
    record {
      fed = (
        c.finish.new.self,
        ap filter_in c.of.ensures.begun,
        (k.0, c.in-Ok.ensures.policy ∙ f.1),
      );
      text = c.closing_comes_last.ensures (Some limit) (admits p) s
          ∙ ap (λ t. open_text limit p s ++ t) (sym (ap text_in c.of.ensures.begun ∙ k.1));
      filtered = c.passed_reads_back.ensures.ended (Some limit) (admits p) s;
    }
