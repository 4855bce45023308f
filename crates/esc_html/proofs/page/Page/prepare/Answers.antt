use Rattle.esc_html.proofs.Pages.RunIsEachCharacter.{ok_first}
use Rattle.esc_html.proofs.page.Page.prepare.Goals as goal

pub returns-else-ends_line-clause-layout : goal.returns-else-ends_line-clause-layout
returns-else-ends_line-clause-layout g c = ok_first _ _ c.open.result c.open.ensures.stays
