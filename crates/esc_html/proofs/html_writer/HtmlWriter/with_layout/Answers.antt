use Rattle.std.proofs.Common.{Some, sym, ap, ◌∙◌}
use Rattle.esc_actions.proofs.Meaning.MeaningsJoin.{meaning_nil}
use Rattle.esc_html.specs.Pages.{first_state, state_from}
use Rattle.esc_html.proofs.html_writer.HtmlWriter.with_layout.Goals as goal

pub returns-clause-fed : goal.returns-clause-fed
returns-clause-fed g c =
    let y = c.args.layout in
    record {
      parser = c.with_limit.ensures;
      state = c.new.ensures.state ∙ ap (state_from y.per_line (first_state y.inline))
          (sym (meaning_nil (Some c.args.limit)));
      layout = c.new.ensures.layout;
    }
