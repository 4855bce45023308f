-- The texts of modes and short controls.
use Rattle.std.specs.Prelude.{ℕ, ℤ, if◌then◌else◌, List, [], ◌∷◌, ◌++◌, codes}
use Rattle.std.specs.Char.{encode_utf8}
use Rattle.std.specs.Fmt.{signed_decimal}
use Rattle.std.specs.List.{flat_map}
use Rattle.esc_values.specs.Params.{is_private_prefix}
use Rattle.esc_device.specs.declared.enter.EnterDeviceControlMode.{EnterDeviceControlMode}
use Rattle.esc_device.specs.declared.mode.DeviceControlMode.{DeviceControlMode}
use Rattle.esc_device.specs.declared.mode.DeviceControlMode.TheVariants.{Enter, Exit, Data, ShortDeviceControl}
use Rattle.esc_device.specs.declared.short.ShortDeviceControl.{ShortDeviceControl as Short}

-- bytes as the characters of the same numbers
abbrev pub as_text : List ℕ → List ℕ
as_text bs = flat_map encode_utf8 bs

-- those from 3C to 3F, and all others
abbrev pub private_prefixes_text : List ℕ → List ℕ
private_prefixes_text bs = flat_map (λ b. if is_private_prefix b then encode_utf8 b else []) bs

abbrev pub others_text : List ℕ → List ℕ
others_text bs = flat_map (λ b. if is_private_prefix b then [] else encode_utf8 b) bs

-- parameters, with `;` between them
abbrev pub params_text : List ℤ → List ℕ
params_text [] = []
params_text (p ∷ ps) = signed_decimal p ++ flat_map (λ q. 0x3b ∷ signed_decimal q) ps

-- `ESC P`, private_prefixes, parameters, other intermediates, the final byte
abbrev pub enter_text : {A : Type 0} → EnterDeviceControlMode A → List ℕ
enter_text e = 0x1b ∷ codes "P" ++ private_prefixes_text e.intermediates ++ params_text e.params
    ++ others_text e.intermediates ++ encode_utf8 e.byte

-- `ESC P`, parameters, intermediates, the final byte, the data, `ESC \`
abbrev pub short_text : {A : Type 0} → Short A → List ℕ
short_text s = 0x1b ∷ codes "P" ++ params_text s.params ++ as_text s.intermediates
    ++ encode_utf8 s.byte ++ as_text s.content ++ 0x1b ∷ codes "\\"

abbrev pub mode_text : {A : Type 0} → DeviceControlMode A → List ℕ
mode_text (Enter e) = enter_text e
mode_text Exit = []
mode_text (Data b) = encode_utf8 b
mode_text (ShortDeviceControl s) = short_text s
