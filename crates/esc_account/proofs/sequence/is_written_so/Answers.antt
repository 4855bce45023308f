use Rattle.std.proofs.Common.{false, ap, ◌∙◌}
use Rattle.esc_write.specs.Plain.{short_text}
use Rattle.esc_account.proofs.sequence.is_written_so.Goals as goal

pub returns-in-Some-Lone : goal.returns-in-Some-Lone
returns-in-Some-Lone c = λ h. (
  c.in-Some-Lone.ensures.plain false,
  c.in-Some-Lone.ensures.text false
      ∙ ap (λ s. short_text s c.args.last) c.in-Some-Lone.field-0-is ∙ c.is_headed.ensures h,
)

pub returns-in-Some-Palette : goal.returns-in-Some-Palette
returns-in-Some-Palette c = λ h. (
  c.in-Some-Palette.ensures.plain false,
  c.in-Some-Palette.ensures.text false
      ∙ ap (λ s. short_text s c.args.last) c.in-Some-Palette.field-0-is
      ∙ c.is_palette.ensures h,
)
