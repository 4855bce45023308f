-- The text of a sixel image.
use Rattle.std.specs.Prelude.{ℕ, ℤ, pos, negsuc, ◌+◌, ◌*◌, ◌/◌, ◌==◌, nat_lt, Bool, true, false, if◌then◌else◌, List, [], ◌∷◌, ◌++◌, codes}
use Rattle.std.specs.Prelude.{Option, Some, None, unwrap_or}
use Rattle.std.specs.List.{flat_map, list_all}
use Rattle.std.specs.Fmt.{decimal, signed_decimal}
use Rattle.esc_sixel.specs.declared.sixel.Sixel.{Sixel}
use Rattle.esc_sixel.specs.declared.sixel_data.SixelData.{SixelData}
use Rattle.esc_sixel.specs.declared.sixel_data.SixelData.TheVariants.{Data, Repeat, DefineColorMapRGB, DefineColorMapHSL, SelectColorMapEntry, CarriageReturn}
use Rattle.esc_sixel.specs.declared.sixel_data.SixelData.TheVariants.{NewLine}

-- whether its values, if it has one, are six pixels
abbrev pub is_sixel : SixelData → Bool
is_sixel (Data v) = nat_lt v 64
is_sixel (Repeat v n) = nat_lt v 64
is_sixel d = true

-- the least percentage that is read as no less than a channel
abbrev pub least_percent : ℕ → ℕ
least_percent c = (100 * c + 254) / 255

-- the character of six pixels
abbrev pub pixels_text : ℕ → List ℕ
pixels_text v = (v + 0x3f) ∷ []

-- the text of a slice of data
abbrev pub data_text : SixelData → List ℕ
data_text (Data v) = pixels_text v
data_text (Repeat v n) = codes "!" ++ decimal n ++ pixels_text v
data_text (DefineColorMapRGB n c) = codes "#" ++ decimal n ++ codes ";2;"
    ++ decimal (least_percent c.0) ++ codes ";" ++ decimal (least_percent c.1)
    ++ codes ";" ++ decimal (least_percent c.2)
data_text (DefineColorMapHSL n h l s) = codes "#" ++ decimal n ++ codes ";1;" ++ decimal h
    ++ codes ";" ++ decimal l ++ codes ";" ++ decimal s
data_text (SelectColorMapEntry n) = codes "#" ++ decimal n
data_text CarriageReturn = codes "$"
data_text NewLine = codes "-"

-- the same, and none if a value is over 63
abbrev pub data_output : SixelData → Option (List ℕ)
data_output d = if is_sixel d then Some (data_text d) else None

abbrev pub content_text : List SixelData → List ℕ
content_text ds = flat_map data_text ds

abbrev pub content_output : List SixelData → Option (List ℕ)
content_output ds = if list_all is_sixel ds then Some (content_text ds) else None

-- the second parameter
abbrev pub flag_text : Bool → List ℕ
flag_text true = codes "1"
flag_text false = codes "0"

-- the third parameter, if there is one
abbrev pub grid_text : Option ℤ → List ℕ
grid_text None = []
grid_text (Some z) = codes ";" ++ signed_decimal z

abbrev pub background_text : Bool → Option ℤ → List ℕ
background_text t g = flag_text t ++ grid_text g

abbrev pub is_int : ℤ → ℕ → Bool
is_int (pos n) k = n == k
is_int (negsuc n) k = false

-- the first parameter that means this pan and pad, if there is one
abbrev pub short_form : ℤ → ℤ → Option (List ℕ)
short_form pan pad = if is_int pad 1
    then (if is_int pan 2 then Some (codes "0") else if is_int pan 5 then Some (codes "2") else if
    is_int pan 3 then Some (codes "3")
    else if is_int pan 1 then Some (codes "7") else None)
    else None

-- pan and pad, and the sizes, as raster attributes
abbrev pub ratio_text : ℤ → ℤ → List ℕ
ratio_text pan pad = signed_decimal pan ++ codes ";" ++ signed_decimal pad

abbrev pub size_text : ℕ → Option ℕ → List ℕ
size_text w h = decimal w ++ codes ";" ++ decimal (unwrap_or h 0)

-- `ESC P`, the parameters, `q`, and raster attributes: with sizes if there is a width, without if
-- no first parameter suffices
abbrev pub sized_header : {A : Type 0} → ℕ → Sixel A → List ℕ
sized_header w s = 0x1b ∷ codes "P;" ++ background_text s.background_is_transparent
    s.horizontal_grid_size ++ codes "q\""
    ++ ratio_text s.pan s.pad ++ codes ";" ++ size_text w s.pixel_height

abbrev pub short_header : {A : Type 0} → List ℕ → Sixel A → List ℕ
short_header m s = 0x1b ∷ codes "P" ++ m ++ codes ";" ++ background_text s.background_is_transparent
    s.horizontal_grid_size ++ codes "q"

abbrev pub ratio_header : {A : Type 0} → Sixel A → List ℕ
ratio_header s = 0x1b ∷ codes "P;" ++ background_text s.background_is_transparent
    s.horizontal_grid_size ++ codes "q\"" ++ ratio_text s.pan s.pad

abbrev pub header_by : {A : Type 0} → Option ℕ → Option (List ℕ) → Sixel A → List ℕ
header_by (Some w) m s = sized_header w s
header_by None (Some m) s = short_header m s
header_by None None s = ratio_header s

abbrev pub header_text : {A : Type 0} → Sixel A → List ℕ
header_text s = header_by s.pixel_width (short_form s.pan s.pad) s

-- the text of an image
abbrev pub sixel_text : {A : Type 0} → Sixel A → List ℕ
sixel_text s = header_text s ++ content_text s.content

-- the same, and none if a value is over 63
abbrev pub sixel_output : {A : Type 0} → Sixel A → Option (List ℕ)
sixel_output s = if list_all is_sixel s.content then Some (sixel_text s) else None
