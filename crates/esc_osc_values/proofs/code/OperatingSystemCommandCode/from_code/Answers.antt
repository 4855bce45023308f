use Rattle.std.proofs.Common.{rules, ◌<◌, length, refl, sym, ◌∙◌}
use Rattle.esc_osc_values.specs.Codes.{all_codes, code_of}
use Rattle.esc_osc_values.specs.declared.code.OperatingSystemCommandCode.TheVariants as code
use Rattle.esc_osc_values.proofs.Codes.{code_of_none, named_later}
use Rattle.esc_osc_values.proofs.Keys.{same_key, other_key}
use Rattle.esc_osc_values.proofs.code.OperatingSystemCommandCode.from_code.Goals as goal

pub loop-known-init : goal.loop-known-init
unfolding code_of
loop-known-init c = (refl, refl)

pub loop-known-preserved : goal.loop-known-preserved
loop-known-preserved c =
    let i = c.loop-known.known-index in
    let lt : i < length all_codes = search rules in (
      refl,
      named_later all_codes c.args.code.now i code.SetIconNameAndWindowTitle lt
          (other_key c.args.code.now _ (search rules))
          ∙ c.loop-known.invariant.1,
    )

pub returns-then-key-wanted : goal.returns-then-key-wanted
returns-then-key-wanted c =
    same_key c.args.code.now _ (search rules) (search rules)

pub returns : goal.returns
returns c = code_of_none c.args.code.now (sym (search rules))
