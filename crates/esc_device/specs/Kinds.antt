-- The string that a header of a device control string opens.
use Rattle.std.specs.Prelude.{ℕ, ◌==◌, Bool, true, false, if◌then◌else◌, List, [], ◌∷◌}
use Rattle.esc_device.specs.declared.kind.StringKind.{StringKind}
use Rattle.esc_device.specs.declared.kind.StringKind.TheVariants as kind

-- by the intermediates, if the final byte is `q`: none, `+`, `$`, others
abbrev pub query_kind : List ℕ → StringKind
query_kind [] = kind.Sixel
query_kind (i ∷ []) =
    if i == 0x2b then kind.Termcap else if i == 0x24 then kind.Short else kind.Other
query_kind (i ∷ j ∷ is) = kind.Other

-- by the final byte, the intermediates, and whether more of these were left out
abbrev pub kind_of : ℕ → List ℕ → Bool → StringKind
kind_of f is true = kind.Other
kind_of f is false = if f == 0x71 then query_kind is else kind.Other
