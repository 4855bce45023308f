use Rattle.esc_actions.proofs.Meaning.MeetsHeadline.{at_meaning}
use Rattle.esc_parse.proofs.Lists.StepsOverLists.{if_ok_more, is_ok_unless}
use Rattle.escape_stream.proofs.input_chunks.parse_chunks.Goals as goal

pub returns-clause-returned : goal.returns-clause-returned
returns-clause-returned g c =
    if_ok_more _ _ c.join_chunks.result
    (λ v w. at_meaning _ _ w (c.headline.ensures _)) c.join_chunks.ensures.given

pub returns-clause-headline : goal.returns-clause-headline
returns-clause-headline g c = λ never.
    is_ok_unless _ _ _ c.join_chunks.result never
    (returns-clause-returned g c) c.join_chunks.ensures.refused
