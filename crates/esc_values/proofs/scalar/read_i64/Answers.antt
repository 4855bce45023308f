use Rattle.std.proofs.Common.{◌∙◌, sym, ap}
use mir.Syntax.Width.{w64}
use Rattle.esc_values.specs.Scalars.{signed_of}
use Rattle.esc_values.proofs.Numbers.SignedReadsBack.{signed_from_parse, signed_none}
use Rattle.esc_values.proofs.scalar.read_i64.Goals as goal

pub returns-in_default : goal.returns-in_default
returns-in_default c = sym (signed_none 64 c.args.bytes.now c.in_default.ensures.cases.0)

pub returns : goal.returns
returns c = c.ok.ensures.value ∙ signed_from_parse w64 c.in-Ok.text.now c.parse.result
    c.parse.ensures.value.0 ∙ ap (signed_of 64) c.in-Ok.ensures.cases.0
