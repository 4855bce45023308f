use Rattle.std.proofs.Common.{◌∙◌}
use Rattle.esc_html.proofs.Parts.PartsAreSafe.{page_address}
use Rattle.esc_html.proofs.address.is_page_address.Goals as goal

pub returns : goal.returns
returns c = c.is_safe_address.ensures ∙ page_address c.args.address.now c.utf8.address
