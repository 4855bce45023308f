use Rattle.std.proofs.Common.{◌∙◌}
use Rattle.esc_html.proofs.Pages.ValuesOfPage.{closing_same}
use Rattle.esc_html.proofs.html_writer.HtmlWriter.finish.Goals as goal

pub returns-clause-closes : goal.returns-clause-closes
returns-clause-closes g c = λ limit y s h.
    c.closing.ensures ∙ closing_same limit y s c.args.self.now h
