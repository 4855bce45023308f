use Rattle.std.proofs.Common.{◌≡◌, refl}
use Rattle.std.specs.Fmt.{decimal, digits}
use Rattle.esc_osc_values.specs.Codes.{change_code, code_text, color_number}
use Rattle.esc_osc_values.specs.declared.dynamic_color_number.DynamicColorNumber.{DynamicColorNumber}
use Rattle.esc_osc_values.specs.declared.dynamic_color_number.DynamicColorNumber.TheVariants as color
use Rattle.esc_osc.proofs.laws.number_of_color.Goals as goal

numbers : (n : DynamicColorNumber) → decimal (color_number n) ≡ code_text (change_code n)
unfolding digits
numbers color.TextForegroundColor = refl
numbers n = refl

pub returns : goal.returns
returns c = rw c.number.ensures (numbers c.args.color)
