use Rattle.esc_frame.specs.Stream.{events_within}
use Rattle.esc_parse.proofs.Data.CountedToLimit.{data_fits, kept_fits, kept_sum}
use Rattle.esc_parse.proofs.parser.Parser.kept.Goals as goal
use Rattle.esc_parse.specs.Fed.{ParserHasConsumedWithin}
use Rattle.esc_actions.specs.Meaning.{mode_from}
use Rattle.esc_actions.specs.Values.{plain}

pub returns-clause-given : goal.returns-clause-given
unfolding ParserHasConsumedWithin
returns-clause-given g c = λ limit s h gs cut.
    kept_sum _ _ _ _ _ (c.kept-text.ensures.given limit s h.0 gs cut)
    (c.kept-bytes.ensures.counts limit (mode_from plain (events_within limit s)) h.1)
    c.saturating_add.ensures

pub returns-clause-within : goal.returns-clause-within
unfolding ParserHasConsumedWithin
returns-clause-within g c = λ limit s h.
    let cut = c.has_cut.ensures s in
    let count = c.kept-bytes.ensures.counts limit (mode_from plain (events_within limit s)) h.1 in
    kept_fits limit _ _ _ _ _
    (c.kept-text.ensures.given limit s h.0 cut.0 cut.1) count c.saturating_add.ensures
    (c.keeps_once.ensures limit s cut.0 cut.1) (c.kept-text.ensures.within limit s h.0)
    (data_fits limit _ _ count)
