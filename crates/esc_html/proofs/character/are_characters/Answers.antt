use Rattle.std.proofs.Common.{sym, ap, ◌∙◌}
use Rattle.std.specs.List.{list_all}
use Rattle.esc_html.specs.Characters.{is_low_byte}
use Rattle.esc_html.proofs.Texts.NoNoncharacters.{low_text}
use Rattle.esc_html.proofs.character.are_characters.Goals as goal

pub returns-then-are_low_bytes : goal.returns-then-are_low_bytes
returns-then-are_low_bytes c =
    sym (low_text c.args.text.now c.utf8.text
    (ap (list_all is_low_byte) (sym c.as_bytes.ensures.value)
    ∙ sym c.are_low_bytes.ensures ∙ c.if-are_low_bytes.true))
