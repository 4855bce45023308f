-- Which modes and short controls read back from their texts.
use Rattle.std.specs.Prelude.{ℕ, ◌≡◌, ◌≤◌, nat_lt, nat_le, ◌==◌, ◌&&◌, ◌||◌, Bool, true, false, List, [], ◌∷◌, length}
use Rattle.std.specs.List.{list_all}
use Rattle.esc_values.specs.Params.{is_final, is_intermediate_byte, after_private_prefix}
use Rattle.esc_sixel.specs.Writable.{AreNatural}
use Rattle.esc_device.specs.Kinds.{kind_of}
use Rattle.esc_device.specs.declared.enter.EnterDeviceControlMode.{EnterDeviceControlMode}
use Rattle.esc_device.specs.declared.mode.DeviceControlMode.{DeviceControlMode}
use Rattle.esc_device.specs.declared.mode.DeviceControlMode.TheVariants.{Enter, Exit, Data, ShortDeviceControl}
use Rattle.esc_device.specs.declared.short.ShortDeviceControl.{ShortDeviceControl as Short}
use Rattle.esc_device.specs.declared.kind.StringKind.TheVariants as kind

-- a byte that data can hold and a text can write: 00-17, 19, 1C-7E
abbrev pub is_datum : ℕ → Bool
is_datum b = nat_lt b 0x18 || ((b == 0x19) || (nat_le 0x1c b && nat_lt b 0x7f))

abbrev pub AreData : List ℕ → Type 0
AreData d = list_all is_datum d ≡ true

-- optionally a private prefix 3C-3F, then 20-2F, at most two together
abbrev pub AreIntermediates : List ℕ → Type 0
AreIntermediates is = (list_all is_intermediate_byte (after_private_prefix is) ≡ true)
    × (length is ≤ 2)

-- A header of its form, with parameters that are not negative and all its intermediates, and that
-- opens no sixel image, termcap query or short control.
abbrev pub IsWritableEnter : {A : Type 0} → EnterDeviceControlMode A → Type 0
IsWritableEnter e = (is_final e.byte ≡ true) × AreIntermediates e.intermediates
    × AreNatural e.params × (e.ignored_extra_intermediates ≡ false)
    × (kind_of e.byte e.intermediates false ≡ kind.Other)

-- `$` and `q`, parameters that are not negative, and data that a text can write
abbrev pub IsWritableShort : {A : Type 0} → Short A → Type 0
IsWritableShort s = (s.byte ≡ 0x71) × (s.intermediates ≡ 0x24 ∷ []) × AreNatural s.params
    × AreData s.content

abbrev pub IsWritable : {A : Type 0} → DeviceControlMode A → Type 0
IsWritable (Enter e) = IsWritableEnter e
IsWritable Exit = Unit {0}
IsWritable (Data b) = is_datum b ≡ true
IsWritable (ShortDeviceControl s) = IsWritableShort s

-- a byte that data of a stream can hold and no text can write: A0-FF
abbrev pub is_high_byte : ℕ → Bool
is_high_byte b = nat_le 0xa0 b
