use Rattle.std.proofs.Common.{◌∙◌}
use Rattle.esc_filter.proofs.Admission.GroupsByKey.{escape_row_group}
use Rattle.esc_filter.proofs.function_groups.group_of_escape_function.Goals as goal

pub returns : goal.returns
returns c = c.group_of_escape_key.ensures ∙ escape_row_group c.args.function _ c.row.ensures.key
