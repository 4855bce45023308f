use Rattle.esc_html.proofs.Texts.TokensAreListed.{page_parts_are_listed}
use Rattle.esc_html.proofs.laws.page_parts_are_listed.Goals as goal

pub returns : goal.returns
returns c = page_parts_are_listed
