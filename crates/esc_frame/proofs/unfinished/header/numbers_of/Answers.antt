use Rattle.std.proofs.Common.{pos, ap, ◌∙◌, rules}
use Rattle.std.specs.Slice.Iter.{iter_rest}
use Rattle.std.proofs.lemmas.Iterator.{items_from_collect, YieldsList-from_slice, YieldsList-from_map}
use Rattle.esc_frame.specs.Bodies.{capped_at_i64, value_after}
use Rattle.esc_frame.proofs.unfinished.header.numbers_of.Goals as goal

pub returns-clause-ok : goal.returns-clause-ok
returns-clause-ok g c =
    items_from_collect _ c.collect.ensures.ran
    (YieldsList-from_map _ (λ p. pos (capped_at_i64 (value_after 0 p.now)))
    (YieldsList-from_slice c.args.osc_units.now
    (ap iter_rest c.map.ensures.source ∙ c.iter.ensures.rest))
    c.map.ensures.closure (λ x r q k. search rules))
