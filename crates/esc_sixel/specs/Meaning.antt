-- The meaning of the parameters of a header and of the items of data.
use Rattle.std.specs.Prelude.{ℕ, ℤ, pos, negsuc, map, ◌-◌, ◌*◌, ◌/◌, ◌^◌, ◌==◌, nat_lt, nat_le, min, Bool, false, not, ◌&&◌, if◌then◌else◌, List, [], ◌∷◌}
use Rattle.std.specs.Prelude.{Option, Some, None, option_map, unwrap_or}
use Rattle.std.specs.Option.{is_some}
use Rattle.std.specs.List.{flat_map, slice_get, list_any}
use Rattle.esc_values.specs.Scalars.{and_then, some_if}
use Rattle.esc_sixel.specs.Items.{Item, OfReturn, OfLine, OfPixels, OfRepeat, OfColor, OfRaster, OfJunk}
use Rattle.esc_sixel.specs.Runs.{param, separators}
use Rattle.esc_sixel.specs.declared.sixel.Sixel.{Sixel}
use Rattle.esc_sixel.specs.declared.sixel_data.SixelData.{SixelData}
use Rattle.esc_sixel.specs.declared.sixel_data.SixelData.TheVariants.{Data, Repeat, DefineColorMapRGB, DefineColorMapHSL, SelectColorMapEntry, CarriageReturn}
use Rattle.esc_sixel.specs.declared.sixel_data.SixelData.TheVariants.{NewLine}

-- the pan that the first parameter of a header means
abbrev pub pan_number : ℕ → ℕ
pan_number n = if n == 0 then 2 else if n == 1 then 2 else if n == 2 then 5 else if n == 3 then 3
    else if n == 4 then 3
    else if n == 7 then 1 else if n == 8 then 1 else if n == 9 then 1 else 2

abbrev pub header_pan : List ℤ → ℤ
header_pan [] = pos 2
header_pan (pos n ∷ ps) = pos (pan_number n)
header_pan (negsuc n ∷ ps) = pos 2

-- whether the second says that the background is transparent
abbrev pub is_one : Option ℤ → Bool
is_one (Some (pos n)) = n == 1
is_one z = false

-- parameter k of raster attributes as a size, if it is there and has 32 bits
abbrev pub size_of : List ℕ → ℕ → Option ℕ
size_of run k = and_then (param run k) (λ n. some_if (nat_lt n (2 ^ 32)) n)

-- the width and the height, if both are there and their product is at most 100,000,000
abbrev pub sizes_of : List ℕ → Option (ℕ × ℕ)
sizes_of run = and_then (size_of run 2) (λ w.
    and_then (size_of run 3) (λ h. some_if (nat_le (w * h) 100000000) (w, h)))

-- the pan, pad and sizes of raster attributes; the sizes only if they have three `;` or more
abbrev pub raster_pan : Item → Option ℤ
raster_pan (OfRaster run) = Some (pos (unwrap_or (param run 0) 2))
raster_pan i = None

abbrev pub raster_pad : Item → Option ℤ
raster_pad (OfRaster run) = Some (pos (unwrap_or (param run 1) 1))
raster_pad i = None

abbrev pub raster_sizes : Item → Option (Option (ℕ × ℕ))
raster_sizes (OfRaster run) = some_if (nat_le 3 (separators run)) (sizes_of run)
raster_sizes i = None

-- raster attributes that have three `;` or more, and no sizes
abbrev pub is_oversize : Item → Bool
is_oversize (OfRaster run) = nat_le 3 (separators run) && not (is_some (sizes_of run))
is_oversize i = false

-- parameter k as a number
abbrev pub number : List ℕ → ℕ → ℕ
number run k = unwrap_or (param run k) 0

-- a channel of a colour that is given as a percentage
abbrev pub percent : ℕ → ℕ
percent p = min 255 (255 * p / 100)

-- a `#` and its run
abbrev pub color_of : List ℕ → SixelData
color_of run = if nat_le 4 (separators run)
    then (if number run 1 == 1
    then DefineColorMapHSL (min (number run 0) 65535) (min (number run 2) 65535)
    (min (number run 3) 255) (min (number run 4) 255)
    else DefineColorMapRGB (min (number run 0) 65535) (
      percent (number run 2),
      percent (number run 3),
      percent (number run 4),
    ))
    else SelectColorMapEntry (min (number run 0) 65535)

-- a `!` and its run before six pixels
abbrev pub repeat_of : List ℕ → ℕ → SixelData
repeat_of run v = Repeat v (min (unwrap_or (param run 0) 1) 4294967295)

-- six pixels each
abbrev pub drawn_data : List ℕ → List SixelData
drawn_data run = map (λ b. Data (b - 0x3f)) run

-- the data that an item adds
abbrev pub gives : Item → List SixelData
gives OfReturn = CarriageReturn ∷ []
gives OfLine = NewLine ∷ []
gives (OfPixels v) = Data v ∷ []
gives (OfRepeat run (Some v)) = repeat_of run v ∷ []
gives (OfRepeat run None) = []
gives (OfColor run) = color_of run ∷ []
gives (OfRaster run) = []
gives (OfJunk b) = []

-- the value of f for the last item that has one; x if there is none
abbrev pub last_of : {X : Type 0} → (Item → Option X) → X → List Item → X
last_of f x [] = x
last_of f x (i ∷ is) = last_of f (unwrap_or (f i) x) is

-- the items after the last that passes the test; all if none does
abbrev pub after_last : (Item → Bool) → List Item → List Item
after_last t [] = []
after_last t (i ∷ is) = if list_any t (i ∷ is) then after_last t is else i ∷ is

-- The image of a header's parameters and the items of the data. Pan and pad are those of the last
-- raster attributes, and the sizes those of the last that have sizes or are oversize. The data is
-- given by the items after the last oversize ones.
abbrev pub sixel_of : {A : Type 0} → List ℤ → List Item → Sixel A
sixel_of ps is = record {
  pan = last_of raster_pan (header_pan ps) is;
  pad = last_of raster_pad (pos 1) is;
  pixel_width = option_map (λ (s : ℕ × ℕ). s.0) (last_of raster_sizes None is);
  pixel_height = option_map (λ (s : ℕ × ℕ). s.1) (last_of raster_sizes None is);
  background_is_transparent = is_one (slice_get ps 1);
  horizontal_grid_size = slice_get ps 2;
  content = flat_map gives (after_last is_oversize is);
}
