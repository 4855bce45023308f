use Rattle.std.proofs.Common.{ap, ◌∙◌}
use Rattle.esc_actions.specs.Meaning.{meaning}
use Rattle.escape_stream.proofs.Backs.{means_first}
use Rattle.esc_parse.proofs.Lists.StepsOverLists.{if_ok_more}
use Rattle.escape_stream.proofs.reading_back.first_meant.Goals as goal
use Rattle.esc_parse.specs.Firsts.{first}

pub returns-in-Ok-clause-itself : goal.returns-in-Ok-clause-itself
returns-in-Ok-clause-itself g c = λ o h.
    if_ok_more _ _ c.first_action.result
    (λ r w. w ∙ ap (λ t. first (meaning t)) (c.as_bytes.ensures ∙ c.in-Ok.ensures.ok)
    ∙ means_first c.reads_back.ensures _ o h)
    c.first_action.ensures.meant
