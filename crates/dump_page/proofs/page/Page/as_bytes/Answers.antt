use Rattle.std.proofs.Common.{sym, subst}
use Rattle.dump_page.specs.Pages.{IsPage}
use Rattle.dump_page.proofs.page.Page.as_bytes.Goals as goal

pub returns : goal.returns
returns c = subst (λ x. ∥ IsPage x ∥₁) (sym c.as_bytes.ensures.value) c.as_str.ensures
