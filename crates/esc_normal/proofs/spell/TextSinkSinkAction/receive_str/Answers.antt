use Rattle.std.proofs.Common.{ap, chars, false}
use Rattle.std.proofs.lemmas.Result.{err_from_is_err_and}
use Rattle.esc_parse.proofs.Lists.StepsOverLists.{match_err}
use Rattle.esc_parse.proofs.Runs.RunsOfText.{refuses_run, some_chars}
use Rattle.esc_normal.proofs.OwnTexts.{spells_str}
use Rattle.esc_normal.proofs.spell.TextSinkSinkAction.receive_str.Goals as goal

pub returns-clause-given : goal.returns-clause-given
returns-clause-given g c =
    spells_str c.args.text.now c.args.self.now _ c.requires.run.some c.utf8.text
    (ap (λ t. record { text = t; follows_string = false }) c.in_ok-push_str.ensures.ok)

pub returns-in_err-push_str-clause-given : goal.returns-in_err-push_str-clause-given
returns-in_err-push_str-clause-given g c =
    let p = err_from_is_err_and c.from_residual.result c.from_residual.ensures.1 in
    match_err _ _ c.from_residual.result p.0 p.1
    (refuses_run _ _ (chars c.args.text.now) _ _
    (some_chars c.args.text.now c.utf8.text c.requires.run.some)
    (λ x has. c.in_err-push_str.ensures.refused))
