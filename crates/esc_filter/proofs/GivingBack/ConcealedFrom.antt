-- Renditions that conceal text, from some parameter on.
use Rattle.std.proofs.Common.{◌≡◌, ℕ, zero, suc, List, [], ◌∷◌, drop, refl}
use Rattle.esc_values.specs.declared.csi_param.CsiParam.{CsiParam}
use Rattle.esc_filter.specs.Concealed.{conceals_after}

pub without_first : (n : ℕ) (es : List CsiParam)
    → conceals_after n es ≡ conceals_after 0 (drop n es)
without_first zero es = refl
without_first (suc n) [] = refl
without_first (suc n) (e ∷ es) = without_first n es
