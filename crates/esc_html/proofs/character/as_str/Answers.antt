use Rattle.esc_html.proofs.Pages.RunIsEachCharacter.{bytes_utf8}
use Rattle.esc_html.proofs.character.as_str.Goals as goal

pub from_utf8_unchecked-requires : goal.from_utf8_unchecked-requires
from_utf8_unchecked-requires c = bytes_utf8 c.args.text.now c.requires
