use Rattle.esc_html.proofs.Texts.PartsReadAsTokens.{page_parts_read_back}
use Rattle.esc_html.proofs.laws.page_parts_read_back.Goals as goal

pub returns : goal.returns
returns c = page_parts_read_back
