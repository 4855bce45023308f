-- Control sequences that ask for one rendition by its number.
use Rattle.std.specs.Prelude.{ℕ, ◌==◌, ◌&&◌, Bool, not, List, [], ◌∷◌, Option, None}
use Rattle.esc_values.specs.declared.csi_param.CsiParam.{CsiParam}
use Rattle.esc_html.specs.Renditions.{is_number}
use Rattle.typed_functions.specs.Renditions.{byte_of}

-- no parameter was left out, and the control sequence asks for renditions
abbrev pub is_whole_rendition : Bool → ℕ → Bool
is_whole_rendition truncated last = not truncated && last == 0x6d

-- the parameters are one number, and the control sequence asks for renditions
abbrev pub is_lone_number : List CsiParam → Bool → ℕ → Bool
is_lone_number es truncated last = not truncated && (last == 0x6d && is_number es)

-- the only parameter, if it is a number of at most 255
abbrev pub lone_byte : List CsiParam → Option ℕ
lone_byte (e ∷ []) = byte_of e
lone_byte _ = None
