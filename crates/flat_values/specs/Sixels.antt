-- The rows of sixel data.
use Rattle.std.specs.Prelude.{ℕ}
use Rattle.esc_sixel.specs.declared.sixel_data.SixelData.{SixelData}
use Rattle.esc_sixel.specs.declared.sixel_data.SixelData.TheVariants.{CarriageReturn, Data, DefineColorMapHSL, DefineColorMapRGB, NewLine, Repeat, SelectColorMapEntry}
use Rattle.flat_values.specs.declared.sixel_row.SixelRow.{SixelRow}
use Rattle.flat_values.specs.declared.sixel_row.TheConstants.{CARRIAGE_RETURN, DEFINE_HSL, DEFINE_RGB, NEW_LINE, PIXELS, REPEAT, SELECT}

-- a row of this kind, with pixels so many times
abbrev pub pixels_row : ℕ → ℕ → ℕ → SixelRow
pixels_row k p n = record {
  kind = k;
  count = n;
  color = 0;
  hue = 0;
  pixels = p;
  red = 0;
  green = 0;
  blue = 0;
  lightness = 0;
  saturation = 0;
}

-- a row of this kind, with the number of a colour
abbrev pub color_row : ℕ → ℕ → SixelRow
color_row k n = record (pixels_row k 0 0) { color = n }

-- The row of a part of data. It is the whole of it, as the law `sixel_rows_are_whole` says.
abbrev pub sixel_row : SixelData → SixelRow
sixel_row (Data p) = pixels_row PIXELS p 1
sixel_row (Repeat p n) = pixels_row REPEAT p n
sixel_row (DefineColorMapRGB n c) =
    record (color_row DEFINE_RGB n) { red = c.0; green = c.1; blue = c.2 }
sixel_row (DefineColorMapHSL n h l s) =
    record (color_row DEFINE_HSL n) { hue = h; lightness = l; saturation = s }
sixel_row (SelectColorMapEntry n) = color_row SELECT n
sixel_row CarriageReturn = pixels_row CARRIAGE_RETURN 0 0
sixel_row NewLine = pixels_row NEW_LINE 0 0
