use Rattle.std.proofs.Common.{sym, ◌∙◌}
use Rattle.esc_html.proofs.Sequences.OneNumberIsOneValue.{asks_whole}
use Rattle.esc_html.proofs.renditions.common_rendition.Goals as goal

pub returns : goal.returns
returns c =
    asks_whole c.args.params.now c.args.parameters_truncated c.args.control c.common_of.result
    (sym c.is_whole_rendition.ensures ∙ c.if-not-is_whole_rendition.false) c.common_of.ensures
