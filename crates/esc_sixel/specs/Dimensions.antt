-- How large a sixel image is.
use Rattle.std.specs.Prelude.{◌≡◌, ℕ, ◌+◌, ◌*◌, min, max, Bool, true, false, if◌then◌else◌, List, [], ◌∷◌, Option, Some}
use Rattle.esc_sixel.specs.declared.dimensions.Extent.{Extent}
use Rattle.esc_sixel.specs.declared.sixel.Sixel.{Sixel}
use Rattle.esc_sixel.specs.declared.sixel_data.SixelData.{SixelData}
use Rattle.esc_sixel.specs.declared.sixel_data.SixelData.TheVariants.{Data, Repeat, CarriageReturn, NewLine}

-- the greatest number of 32 bits
abbrev pub u32_max : ℕ
u32_max = 4294967295

-- the width of the line after a slice of data, if it was n wide
abbrev pub line_after : ℕ → SixelData → ℕ
line_after n (Data v) = n + 1
line_after n (Repeat v c) = n + c
line_after n CarriageReturn = 0
line_after n NewLine = 0
line_after n d = n

abbrev pub ends_line : SixelData → Bool
ends_line CarriageReturn = true
ends_line NewLine = true
ends_line d = false

-- the width of the widest line, if the first is n wide already
abbrev pub widest_after : ℕ → List SixelData → ℕ
widest_after n [] = n
widest_after n (d ∷ ds) =
    if ends_line d then max n (widest_after 0 ds) else widest_after (line_after n d) ds

-- the number of the last band with a sixel, if the first band is number b, and f is the last so far
abbrev pub band_after : ℕ → SixelData → ℕ
band_after b NewLine = b + 1
band_after b d = b

abbrev pub found_after : ℕ → ℕ → SixelData → ℕ
found_after b f (Data v) = b
found_after b f (Repeat v c) = b
found_after b f d = f

abbrev pub last_band : ℕ → ℕ → List SixelData → ℕ
last_band b f [] = f
last_band b f (d ∷ ds) = last_band (band_after b d) (found_after b f d) ds

-- the width and height of the drawing of data
abbrev pub measured_size : List SixelData → ℕ × ℕ
measured_size ds = (min (widest_after 0 ds) u32_max, min (6 * last_band 1 0 ds) u32_max)

-- the sizes of the raster attributes, if both are there; else those of the drawing of the data
abbrev pub dimensions_by : Option ℕ → Option ℕ → List SixelData → ℕ × ℕ
dimensions_by (Some w) (Some h) ds = (w, h)
dimensions_by w h ds = measured_size ds

abbrev pub dimensions_of : {A : Type 0} → Sixel A → ℕ × ℕ
dimensions_of s = dimensions_by s.pixel_width s.pixel_height s.content

-- the counters hold these numbers, at most the greatest of 32 bits
pub record Has (e : Extent) (best n b f : ℕ) : Type 0 where
  pub widest : e.widest ≡ min best u32_max
  pub line : e.line ≡ min n u32_max
  pub band : e.band ≡ min b u32_max
  pub last : e.last ≡ min f u32_max
