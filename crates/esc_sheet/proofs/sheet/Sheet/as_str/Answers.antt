use Rattle.std.proofs.Common.{sym, subst}
use Rattle.esc_sheet.specs.Sheets.{IsSheet}
use Rattle.esc_sheet.proofs.sheet.Sheet.as_str.Goals as goal

pub returns : goal.returns
returns c = subst (λ x. ∥ IsSheet x ∥₁) (sym c.as_str.ensures.value) c.args.self.now.safe
