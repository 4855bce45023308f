use Rattle.std.proofs.Common.{ap, ◌∙◌, rules, tests}
use Rattle.std.specs.Iterator.Adapters.{copied_source}
use Rattle.std.specs.Slice.Iter.{iter_rest}
use Rattle.std.proofs.lemmas.Iterator.{items_from_collect, YieldsList-from_slice}
use Rattle.std.proofs.lemmas.Iterator.Consumers.{YieldsList-from_copied, YieldsList-from_filter}
use Rattle.esc_frame.specs.Bodies.{is_dcs_parameter}
use Rattle.esc_segments.proofs.strings.parameter_bytes.Goals as goal

pub returns-clause-ok : goal.returns-clause-ok
returns-clause-ok g c =
    items_from_collect _ c.collect.ensures.ran
    (YieldsList-from_filter _ is_dcs_parameter
    (YieldsList-from_copied (YieldsList-from_slice c.args.x.now
    (ap (λ s. iter_rest (copied_source s)) c.filter.ensures.source
    ∙ ap iter_rest c.copied.ensures.source ∙ c.iter.ensures.rest)))
    c.filter.ensures.closure (λ x r q k. search (rules, tests)))
