use Rattle.std.proofs.Common.{sym, ◌∙◌}
use Rattle.esc_html.proofs.Sequences.OneNumberAsks.{lone_is}
use Rattle.esc_html.proofs.renditions.lone_rendition.Goals as goal

pub returns : goal.returns
returns c =
    lone_is c.args.params.now c.args.parameters_truncated c.args.control c.of_entries.result
    (sym c.is_lone_number.ensures ∙ c.if-not-is_lone_number.false) c.of_entries.ensures
