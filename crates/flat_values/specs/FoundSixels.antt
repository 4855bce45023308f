-- The part of sixel data that a row says.
use Rattle.std.specs.Prelude.{◌==◌, if◌then◌else◌}
use Rattle.esc_sixel.specs.declared.sixel_data.SixelData.{SixelData}
use Rattle.esc_sixel.specs.declared.sixel_data.SixelData.TheVariants.{CarriageReturn, Data, DefineColorMapHSL, DefineColorMapRGB, NewLine, Repeat, SelectColorMapEntry}
use Rattle.flat_values.specs.declared.sixel_row.SixelRow.{SixelRow}
use Rattle.flat_values.specs.declared.sixel_row.TheConstants.{CARRIAGE_RETURN, DEFINE_HSL, DEFINE_RGB, PIXELS, REPEAT, SELECT}

-- by the kind of the row; a new line where there is no such kind
abbrev pub item_in : SixelRow → SixelData
item_in r = if r.kind == PIXELS then Data r.pixels else if r.kind == REPEAT
    then Repeat r.pixels r.count
    else if r.kind == DEFINE_RGB then DefineColorMapRGB r.color (r.red, r.green, r.blue)
    else if r.kind == DEFINE_HSL then DefineColorMapHSL r.color r.hue r.lightness r.saturation
    else if r.kind == SELECT then SelectColorMapEntry r.color
    else if r.kind == CARRIAGE_RETURN then CarriageReturn else NewLine
