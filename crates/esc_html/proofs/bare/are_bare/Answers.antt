use Rattle.std.proofs.Common.{ap, ◌∙◌}
use Rattle.std.specs.List.{list_all}
use Rattle.esc_html.specs.Characters.{is_bare}
use Rattle.esc_html.proofs.bare.are_bare.Goals as goal

pub returns : goal.returns
returns c = c.are_bare_bytes.ensures ∙ ap (list_all is_bare) c.as_bytes.ensures.value
