use Rattle.std.proofs.Common.{◌++◌, [], ap, ◌∙◌}
use Rattle.std.proofs.lemmas.Result.{IfErr-at_err}
use Rattle.esc_actions.proofs.Meaning.MeaningsJoin.{yield_whole}
use Rattle.esc_actions.specs.Meaning.{yield_within}
use Rattle.esc_actions.specs.Texts.{list_text, texts_after}
use Rattle.esc_parse.proofs.Lists.StepsOverLists.{on_ok_at}
use Rattle.esc_normal.proofs.HaveTexts.{handed_out_have_texts}
use Rattle.esc_normal.proofs.Spelling.{spells, stops_denied}
use Rattle.esc_normal.proofs.normalisation.normal_text.Goals as goal

pub returns-in-Ok-clause-ok : goal.returns-in-Ok-clause-ok
returns-in-Ok-clause-ok g c =
    let limit = c.args.limit in
    let empty = c.new.result in
    let given = on_ok_at _ c.in-Ok.is
    (c.parse_into-result.ensures.given limit [] c.parser_within.ensures) in
    let all = yield_within {A = g.row.A.Denot} limit [] c.args.bytes.now in
    spells empty all _ given.1 ∙ ap (λ t. t ++ texts_after empty.follows_string all)
    c.new.ensures.text
    ∙ ap (λ b. texts_after b all) c.new.ensures.plain
    ∙ ap list_text (yield_whole limit c.args.bytes.now)

pub returns-in-Err-clause-refused : goal.returns-in-Err-clause-refused
returns-in-Err-clause-refused g c =
    let limit = c.args.limit in
    let f = IfErr-at_err _ c.in-Err.is
    (c.parse_into-result.ensures.refused limit [] c.parser_within.ensures) in
    stops_denied _ _ _ _ _
    (handed_out_have_texts _ (c.yield_handed_out.ensures limit [] c.args.bytes.now)) f.2
