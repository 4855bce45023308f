use Rattle.std.proofs.Common.{◌≡◌, ◌<◌, ◌^◌, drop}
use Rattle.esc_osc_values.specs.Colors.{hex_after}
use Rattle.esc_osc_values.proofs.read_color.read_hex.Given as goal

abbrev pub invariant-loop-digit : goal.invariant-loop-digit
invariant-loop-digit l =
    (hex_after 0 l.digits ≡ hex_after l.value (drop l.digit-index l.digits))
    × (l.value < 16 ^ l.digit-index)
