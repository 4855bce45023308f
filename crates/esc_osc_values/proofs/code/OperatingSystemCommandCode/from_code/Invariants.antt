use Rattle.std.proofs.Common.{◌≡◌, drop}
use Rattle.esc_osc_values.specs.Codes.{all_codes, code_of, first_named}
use Rattle.esc_osc_values.proofs.code.OperatingSystemCommandCode.from_code.Given as goal

-- none of the codes before has the text
abbrev pub invariant-loop-known : goal.invariant-loop-known
invariant-loop-known l = (l.known-items ≡ all_codes)
    × (first_named (drop l.known-index all_codes) l.code ≡ code_of l.code)
