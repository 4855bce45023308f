use Rattle.esc_html.proofs.Texts.TokensAreListed.{page_parts_close}
use Rattle.esc_html.proofs.laws.page_parts_close.Goals as goal

pub returns : goal.returns
returns c = page_parts_close
