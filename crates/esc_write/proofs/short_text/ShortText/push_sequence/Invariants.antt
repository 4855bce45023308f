use Rattle.std.proofs.Common.{◌≡◌, ◌∷◌, take}
use Rattle.esc_values.specs.Params.{csi_params_text}
use Rattle.esc_write.proofs.short_text.ShortText.push_sequence.Given as goal

abbrev pub invariant-loop-param : goal.invariant-loop-param
invariant-loop-param l = l.self ≡ 0x1b ∷ 0x5b ∷ csi_params_text (take l.param-index l.params)
