use Rattle.esc_html.proofs.Texts.EscapedBytesAreUtf8.{page_parts_encoded}
use Rattle.esc_html.proofs.laws.page_parts_encoded.Goals as goal

pub returns : goal.returns
returns c = page_parts_encoded
