-- The values of a segment, without the data of a device control string but its first byte.
use Rattle.std.specs.Prelude.{Bool, true, false, ◌&&◌, ◌||◌, if◌then◌else◌, List, [], ◌∷◌}
use Rattle.esc_actions.specs.Values.{Value, datum}

abbrev pub is_datum : {A : Type 0} → Value A → Bool
is_datum (datum b) = true
is_datum _ = false

-- those of these, where data came before them or not
abbrev pub brief_after : {A : Type 0} → Bool → List (Value A) → List (Value A)
brief_after came [] = []
brief_after came (v ∷ vs) = if came && is_datum v then brief_after true vs
    else v ∷ brief_after (came || is_datum v) vs

abbrev pub brief : {A : Type 0} → List (Value A) → List (Value A)
brief vs = brief_after false vs
