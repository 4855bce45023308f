use Rattle.std.proofs.Common.{rules, tests}
use Rattle.std.proofs.lemmas.Iterator.Search.{any_from_yields_List}
use Rattle.std.proofs.lemmas.Iterator.Splits.{YieldsList-from_slice_split}
use Rattle.esc_filter.specs.Schemes.{has_scheme, is_comma}
use Rattle.esc_filter.proofs.schemes.has_one_scheme.Goals as goal

pub returns : goal.returns
returns c =
    any_from_yields_List (has_scheme c.args.address.now) _ _ _ c.any.ensures.ran
    (YieldsList-from_slice_split _ is_comma c.args.schemes.now c.split.ensures.rest
    c.split.ensures.done c.split.ensures.closure (λ x r q k. search (rules, tests)))
    (λ x b q k. search rules)
