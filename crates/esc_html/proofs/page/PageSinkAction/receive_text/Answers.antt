use Rattle.std.proofs.Common.{ap, ◌∙◌}
use Rattle.std.specs.List.{filter}
use Rattle.esc_parse.proofs.Runs.RunsOfText.{refuses_run}
use Rattle.esc_html.specs.Fed.{is_visible, with_text}
use Rattle.esc_html.proofs.Pages.RunIsEachCharacter.{bytes_taken, received}
use Rattle.esc_html.proofs.page.PageSinkAction.receive_text.Goals as goal

pub returns-clause-given : goal.returns-clause-given
returns-clause-given g c =
    received _ _ _ _ c.take_run.result
    (λ e. bytes_taken c.args.text.now c.args.self.now c.take_run.new.self c.requires.run.all
    (e ∙ ap (λ x. with_text c.args.self.now (filter is_visible x)) c.as_str.ensures))
    (λ r. refuses_run _ _ c.args.text.now _ _ c.requires.run.some (λ x. r))
    c.take_run.ensures.ok c.take_run.ensures.refused
