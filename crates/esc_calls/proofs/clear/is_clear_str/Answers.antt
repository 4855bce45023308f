use Rattle.std.proofs.Common.{sym, ◌∙◌}
use Rattle.esc_calls.proofs.WrittenBack.{clear_if, clear_only}
use Rattle.esc_calls.proofs.clear.is_clear_str.Goals as goal

pub returns : goal.returns
returns c = (
  λ h. clear_if c.args.text.now c.utf8.text (sym c.are_clear.ensures ∙ h),
  λ h. c.are_clear.ensures ∙ clear_only c.args.text.now h,
)
