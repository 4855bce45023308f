use Rattle.std.proofs.Common.{ap, ◌∙◌}
use Rattle.std.proofs.lemmas.Result.{on_ok_weaker}
use Rattle.esc_terminal.specs.Links.{known_of}
use Rattle.screen_lines.specs.Parts.{out_from}
use Rattle.screen_lines.specs.Rows.{first_going}
use Rattle.screen_lines.specs.Written.{out_of}
use Rattle.screen_lines.proofs.lines.Lines.push_cells.Goals as goal

pub returns-clause-ok : goal.returns-clause-ok
returns-clause-ok g c =
    on_ok_weaker c.push_written.result
    (λ e. e ∙ ap (out_from (out_of c.args.self.now))
    (c.written.ensures (known_of c.args.styles.now) first_going))
    c.push_written.ensures.ok
