use Rattle.std.proofs.Common.{chars, sym, ◌∙◌}
use Rattle.esc_parse.proofs.Runs.RunsOfText.{refuses_run, some_chars}
use Rattle.esc_html.proofs.Pages.RunIsEachCharacter.{chars_taken, received}
use Rattle.esc_html.proofs.page.PageSinkAction.receive_str.Goals as goal

pub returns-then-are_characters-clause-given : goal.returns-then-are_characters-clause-given
returns-then-are_characters-clause-given g c =
    received _ _ _ _ c.take_run.result
    (λ e. chars_taken c.args.text.now c.args.self.now c.take_run.new.self c.utf8.text
    c.requires.run.all (sym c.are_characters.ensures ∙ c.if-are_characters.true) e)
    (λ r. refuses_run _ _ (chars c.args.text.now) _ _
    (some_chars c.args.text.now c.utf8.text c.requires.run.some) (λ x. r))
    c.take_run.ensures.ok c.take_run.ensures.refused
