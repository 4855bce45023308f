use Rattle.std.proofs.Common.{◌∙◌, sym, ap}
use Rattle.esc_values.specs.Scalars.{number_of}
use Rattle.esc_values.proofs.Numbers.ParseIsNumber.{number_from_parse, number_none}
use Rattle.esc_values.proofs.scalar.read_usize.Goals as goal

pub returns-in_default : goal.returns-in_default
returns-in_default c = sym (number_none 64 c.args.bytes.now c.in_default.ensures.cases.0)

pub returns : goal.returns
returns c = c.ok.ensures.value ∙ number_from_parse 64 c.in-Ok.text.now c.parse.result
    c.parse.ensures.value.0 ∙ ap (number_of 64) c.in-Ok.ensures.cases.0
