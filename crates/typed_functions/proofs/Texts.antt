-- The texts of spellings, part by part.
use Rattle.std.proofs.Common.{◌≡◌, List, ◌++◌}
use Rattle.std.proofs.lemmas.Grind.{flat_map-append}
use Rattle.esc_values.specs.Params.{csi_params_text, param_text}
use Rattle.esc_values.specs.declared.csi_param.CsiParam.{CsiParam}

pub joined_text : (x y : List CsiParam)
    → csi_params_text (x ++ y) ≡ csi_params_text x ++ csi_params_text y
joined_text x y = flat_map-append param_text x y
