-- The output for the sixel image of parameters and data.
use Rattle.std.specs.Prelude.{ℕ, ℤ, pos, ◌≡◌, Bool, List, Option, length, map}
use Rattle.std.specs.Global.{Global}
use Rattle.std.specs.Option.{is_some, unwrap_or}
use Rattle.flat_values.specs.Sixels.{sixel_row}
use Rattle.flat_values.specs.declared.sixel_row.SixelRow.{SixelRow}
use Rattle.esc_sixel.specs.Dimensions.{dimensions_of}
use Rattle.esc_sixel.specs.Items.{items}
use Rattle.esc_sixel.specs.Meaning.{sixel_of}
use Rattle.esc_sixel.specs.declared.sixel.Sixel.{Sixel}
use Rattle.esc_calls.specs.declared.sixel_value.SixelValue.{SixelValue}

-- the image that parameters and data mean, and the rows of its content
abbrev pub sixel_in : List ℤ → List ℕ → Sixel Global
sixel_in ps t = sixel_of {A = Global} ps (items t)

abbrev pub sixel_rows : List ℤ → List ℕ → List SixelRow
sixel_rows ps t = map sixel_row (sixel_in ps t).content

-- a number that may be absent: whether it is there, and it, or 0
abbrev pub IsOptional : {X : Type 0} → X → Option X → Bool → X → Type 0
IsOptional zero o has x = (has ≡ is_some o) × (x ≡ unwrap_or o zero)

-- the value has the parts of an image before its data
pub record IsHeader (s : Sixel Global) (v : SixelValue) : Type 0 where
  pub pan : v.pan ≡ s.pan
  pub pad : v.pad ≡ s.pad
  pub grid : IsOptional (pos 0) s.horizontal_grid_size v.has_grid_size v.grid_size
  pub width : IsOptional 0 s.pixel_width v.has_pixel_width v.pixel_width
  pub height : IsOptional 0 s.pixel_height v.has_pixel_height v.pixel_height
  pub background : v.background_is_transparent ≡ s.background_is_transparent

-- the value is that of an image
pub record IsSixel (s : Sixel Global) (v : SixelValue) : Type 0 where
  pub header : IsHeader s v
  pub dimensions : (v.width, v.height) ≡ dimensions_of s
  pub count : v.item_count ≡ length s.content
