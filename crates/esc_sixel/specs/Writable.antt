-- The sixel images that can be written, and their texts.
use Rattle.std.specs.Prelude.{ℕ, ℤ, pos, negsuc, ◌≡◌, ◌<◌, ◌≤◌, ◌*◌, ◌^◌, ◌==◌, ◌||◌, Bool, true, List, [], ◌∷◌, ◌++◌, map, Option, Some, None}
use Rattle.std.specs.List.{list_all}
use Rattle.esc_values.specs.Clear.{parts_of}
use Rattle.esc_values.specs.Params.{capped_at_i64, value_after, is_digit, is_from}
use Rattle.esc_sixel.specs.Items.{items}
use Rattle.esc_sixel.specs.Meaning.{percent, sixel_of}
use Rattle.esc_sixel.specs.Texts.{sixel_output}
use Rattle.esc_sixel.specs.declared.sixel.Sixel.{Sixel}
use Rattle.esc_sixel.specs.declared.sixel_data.SixelData.{SixelData}
use Rattle.esc_sixel.specs.declared.sixel_data.SixelData.TheVariants.{Data, Repeat, DefineColorMapRGB, DefineColorMapHSL, SelectColorMapEntry}

-- a channel of a colour that is read of a percentage from 0 to 100
abbrev pub IsChannel : ℕ → Type 0
IsChannel c = (p : ℕ) × (p ≤ 100) × (c ≡ percent p)

-- six pixels, numbers within their types, channels of percentages
abbrev pub IsWritableData : SixelData → Type 0
IsWritableData (Data v) = v < 64
IsWritableData (Repeat v n) = (n < 2 ^ 32) × (v < 64)
IsWritableData (DefineColorMapRGB n c) = (n < 2 ^ 16)
    × (IsChannel c.0 × (IsChannel c.1 × IsChannel c.2))
IsWritableData (DefineColorMapHSL n h l s) = (n < 2 ^ 16)
    × ((h < 2 ^ 16) × ((l < 2 ^ 8) × (s < 2 ^ 8)))
IsWritableData (SelectColorMapEntry n) = n < 2 ^ 16
IsWritableData d = Unit {0}

abbrev pub AreWritableData : List SixelData → Type 0
AreWritableData [] = Unit {0}
AreWritableData (d ∷ ds) = IsWritableData d × AreWritableData ds

-- a number of 64 bits with its sign that is not negative
abbrev pub IsNatural : ℤ → Type 0
IsNatural (pos n) = n < 2 ^ 63
IsNatural (negsuc n) = ⊥

abbrev pub AreNatural : List ℤ → Type 0
AreNatural [] = Unit {0}
AreNatural (z ∷ zs) = IsNatural z × AreNatural zs

abbrev pub IsGrid : Option ℤ → Type 0
IsGrid None = Unit {0}
IsGrid (Some z) = IsNatural z

-- no sizes, or both, whose product is at most 100,000,000
abbrev pub AreSizes : Option ℕ → Option ℕ → Type 0
AreSizes None None = Unit {0}
AreSizes (Some w) (Some h) = (w < 2 ^ 32) × ((h < 2 ^ 32) × (w * h ≤ 100000000))
AreSizes w h = ⊥

-- an image whose numbers can be written, and are read as they are
abbrev pub IsWritable : {A : Type 0} → Sixel A → Type 0
IsWritable s = IsNatural s.pan
    × (IsNatural s.pad
    × (AreSizes s.pixel_width s.pixel_height
    × (IsGrid s.horizontal_grid_size × AreWritableData s.content)))

-- 30-39, 3B
abbrev pub is_parameter_byte : ℕ → Bool
is_parameter_byte b = is_digit b || (b == 0x3b)

-- 20-7E
abbrev pub is_data_byte : ℕ → Bool
is_data_byte b = is_from 0x20 0x7e b

-- the parameters of a header: the numbers between `;`, an empty one being 0; none if there are no
-- bytes
abbrev pub params_of : List ℕ → List ℤ
params_of x = map (λ p. pos (capped_at_i64 (value_after 0 p))) (parts_of x)

-- the image is written as `ESC P`, parameters, `q` and data, which mean the image
abbrev pub WritesBack : {A : Type 0} → Sixel A → Type 0
WritesBack {A = A} s =
    (x : List ℕ) × (d : List ℕ) × (sixel_output s ≡ Some (0x1b ∷ 0x50 ∷ (x ++ 0x71 ∷ d)))
    × (list_all is_parameter_byte x ≡ true) × (list_all is_data_byte d ≡ true)
    × (sixel_of {A = A} (params_of x) (items d) ≡ s)
