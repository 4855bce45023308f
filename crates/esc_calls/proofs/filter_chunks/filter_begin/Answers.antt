use Rattle.std.proofs.Common.{ap, sym, ◌∙◌}
use Rattle.esc_calls.proofs.Known.{if_known}
use Rattle.esc_calls.proofs.filter_chunks.filter_begin.Goals as goal
use Rattle.esc_calls.specs.FilterChunks.{FilterHasConsumed}
use Rattle.esc_calls.specs.InChunks.{Begins, text_in}
use Rattle.esc_calls.specs.Kept.{filter_in}
use Rattle.esc_calls.specs.Policies.{policy_numbered}

pub returns-clause-begun : goal.returns-clause-begun
returns-clause-begun c = λ done.
    let e = c.begin.ensures.begun done in
    let f = c.new.ensures in
    if_known (λ p. Begins (FilterHasConsumed c.args.limit p) c.begin.new.stream)
    (policy_numbered c.args.policy) c.in-Some.policy (sym c.policy_of.ensures ∙ c.in-Some.is)
    ((c.new.result, ap filter_in e, (f.fed, f.policy)), ap text_in e ∙ f.empty)
