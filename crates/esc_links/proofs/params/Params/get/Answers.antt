use Rattle.std.proofs.Common.{ap, ◌∙◌, string_bytes, Some}
use Rattle.std.specs.Option.{option_map}
use Rattle.esc_links.specs.Hyperlinks.{value_at}
use Rattle.esc_links.proofs.ParamsSeen.{value_shown}
use Rattle.esc_links.proofs.params.Params.get.Goals as goal

pub returns-in-Some : goal.returns-in-Some
returns-in-Some g c =
    ap Some c.as_str.ensures.value
    ∙ ap (option_map string_bytes) c.in-Some.ensures.value
    ∙ value_shown c.args.key.now c.self.inside.tree.entries
    ∙ ap (value_at c.args.key.now) c.self.view_is

pub returns-in-None : goal.returns-in-None
returns-in-None g c =
    ap (option_map string_bytes) c.in-None.ensures.value
    ∙ value_shown c.args.key.now c.self.inside.tree.entries
    ∙ ap (value_at c.args.key.now) c.self.view_is
