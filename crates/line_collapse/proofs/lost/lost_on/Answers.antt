use Rattle.std.proofs.Common.{ap, ◌++◌, ◌∙◌}
use Rattle.esc_screen.specs.Screens.{grid_of}
use Rattle.esc_terminal.specs.Links.{known_of}
use Rattle.line_collapse.proofs.Adding.{list_added}
use Rattle.line_collapse.specs.Amounts.{missing}
use Rattle.line_collapse.specs.RowText.{row_bytes, row_chars}
use Rattle.line_collapse.specs.Tallies.{kept_amount, printed_amount}
use Rattle.line_collapse.specs.Streams.{rows_left}
use Rattle.line_collapse.proofs.lost.lost_on.Goals as goal

pub returns : goal.returns
returns g c = λ m n s rs h.
    let ls = rows_left (known_of c.args.styles.now) (grid_of c.args.screen.now) in
    c.missing_in.ensures
    ∙ ap (λ x. missing x c.with_left.result) (c.printed.ensures ∙ h.printed)
    ∙ ap (missing (printed_amount g.row.A.Denot m n s))
    (list_added row_chars row_bytes rs ls c.kept.result c.with_left.result
    (c.kept.ensures ∙ h.kept) c.with_left.ensures)
