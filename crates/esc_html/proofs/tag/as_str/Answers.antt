use Rattle.esc_html.proofs.Texts.RunsAreEscaped.{ascii_utf8}
use Rattle.esc_html.proofs.tag.as_str.Goals as goal

pub from_utf8_unchecked-requires : goal.from_utf8_unchecked-requires
from_utf8_unchecked-requires c = ascii_utf8 c.args.code.now c.requires
