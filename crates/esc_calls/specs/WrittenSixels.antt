-- The text of the sixel image of a value and rows.
use Rattle.std.specs.Prelude.{ℕ, pos, ◌≡◌, Bool, true, if◌then◌else◌, List, ◌∷◌, ◌++◌, Option, Some, None, map, ⊤}
use Rattle.std.specs.Global.{Global}
use Rattle.std.specs.List.{list_all}
use Rattle.flat_values.specs.Sixels.{sixel_row}
use Rattle.flat_values.specs.declared.sixel_row.SixelRow.{SixelRow}
use Rattle.esc_sixel.specs.Texts.{sixel_output}
use Rattle.esc_sixel.specs.Writable.{IsWritable, is_data_byte, is_parameter_byte, params_of}
use Rattle.esc_sixel.specs.declared.sixel.Sixel.{Sixel}
use Rattle.esc_calls.specs.SixelValues.{IsHeader, IsOptional, sixel_in}
use Rattle.esc_calls.specs.Written.{RefusedFor}
use Rattle.esc_calls.specs.declared.sixel_value.SixelValue.{SixelValue}
use Rattle.esc_values.specs.Clear.{string_terminator}

-- a number of a value: none if it is absent. It is 0 there
abbrev pub optional : {X : Type 0} → Bool → X → Option X
optional has x = if has then Some x else None

abbrev pub IsGiven : {X : Type 0} → X → Bool → X → Type 0
IsGiven zero has x = IsOptional zero (optional has x) has x

abbrev pub AreGiven : SixelValue → Type 0
AreGiven v = IsGiven (pos 0) v.has_grid_size v.grid_size
    × IsGiven 0 v.has_pixel_width v.pixel_width × IsGiven 0 v.has_pixel_height v.pixel_height

-- the value and the rows are those of an image
abbrev pub HasSixel : SixelValue → List SixelRow → Sixel Global → Type 0
HasSixel v rs s = IsHeader s v × (map sixel_row s.content ≡ rs)

-- parameters and data as a device control string, without its end
abbrev pub sixel_string : List ℕ → List ℕ → List ℕ
sixel_string x d = 0x1b ∷ 0x50 ∷ (x ++ 0x71 ∷ d)

-- the value and the rows are those of the image, whose text has these parameters, of digits and
-- `;`, and this data, of ASCII, which mean the same image
pub record IsWrittenAs (v : SixelValue) (rs : List SixelRow) (s : Sixel Global) (x d : List ℕ)
    : Type 0 where
  pub has : HasSixel v rs s
  pub output : sixel_output s ≡ Some (sixel_string x d)
  pub parameters : list_all is_parameter_byte x ≡ true
  pub clear : list_all is_data_byte d ≡ true
  pub back : sixel_in (params_of x) d ≡ s

-- the whole text of such an image
abbrev pub IsText : SixelValue → List SixelRow → List ℕ → Type 0
IsText v rs t = (s : Sixel Global) × (x : List ℕ) × (d : List ℕ) × IsWrittenAs v rs s x d
    × (t ≡ sixel_string x d ++ string_terminator)

-- any image can be held, and why none was written
abbrev pub IsHeld : Sixel Global → Type 0
IsHeld s = ⊤

abbrev pub IsRefusal : SixelValue → List SixelRow → ℕ → Type 0
IsRefusal v rs = RefusedFor (HasSixel v rs) IsHeld IsWritable
