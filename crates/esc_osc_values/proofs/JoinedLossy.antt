-- The lossy text of clear parts with `;` between them.
use Rattle.std.proofs.Common.{ℕ, ◌≡◌, List, [], ◌∷◌, ◌++◌, refl, ap}
use Rattle.std.specs.List.{flat_map}
use Rattle.std.specs.Str.Lossy.{utf8_lossy}
use Rattle.esc_values.specs.Clear.{AreClearParts, semicolon_list}
use Rattle.esc_values.proofs.Clear.ClearTexts.{part_lossy}
use Rattle.esc_osc_values.specs.Lists.{joined_by}

after_lossy : (ps : List (List ℕ)) → AreClearParts ps
    → flat_map (λ y. 0x3b ∷ utf8_lossy y) ps ≡ flat_map (λ q. 0x3b ∷ q) ps
after_lossy [] h = refl
after_lossy (p ∷ ps) h = rw (part_lossy p h.0) (ap (λ t. (0x3b ∷ p) ++ t) (after_lossy ps h.1))

pub lossy_joined : (ps : List (List ℕ)) → AreClearParts ps → joined_by utf8_lossy ps
    ≡ semicolon_list ps
lossy_joined [] h = refl
lossy_joined (p ∷ ps) h = rw (part_lossy p h.0) (ap (λ t. p ++ t) (after_lossy ps h.1))
