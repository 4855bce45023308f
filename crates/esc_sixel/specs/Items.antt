-- The items of sixel data: how it is cut into commands and single bytes.
use Rattle.std.specs.Prelude.{ℕ, ◌≡◌, ◌+◌, Bool, true, false, if◌then◌else◌, List, [], ◌∷◌, ◌++◌, Option, Some, None}
use Rattle.std.specs.List.{flat_map}
use Rattle.esc_sixel.specs.Classes.{class_of}
use Rattle.esc_sixel.specs.declared.class.Class.{Class}
use Rattle.esc_sixel.specs.declared.class.Class.TheVariants.{Return, Line, Pixels, Introduces, Digit, Separator}
use Rattle.esc_sixel.specs.declared.introducer.Introducer.TheVariants as introducer

-- An item: a byte by itself, or an introducer with its longest run of digits and `;`. Six pixels
-- directly after the run of a `!` belong to its item.
pub data Item : Type 0 where
  OfReturn : Item
  OfLine : Item
  OfPixels : ℕ → Item
  OfRepeat : List ℕ → Option ℕ → Item
  OfColor : List ℕ → Item
  OfRaster : List ℕ → Item
  OfJunk : ℕ → Item

-- digits and `;`
abbrev pub in_run : Class → Bool
in_run (Digit d) = true
in_run Separator = true
in_run c = false

-- the number of six pixels
abbrev pub pixels_of : Class → Option ℕ
pixels_of (Pixels v) = Some v
pixels_of c = None

-- the longest prefix of digits and `;`
abbrev pub run_of : List ℕ → List ℕ
run_of [] = []
run_of (b ∷ bs) = if in_run (class_of b) then b ∷ run_of bs else []

-- the rest after it
abbrev pub after_run : List ℕ → List ℕ
after_run [] = []
after_run (b ∷ bs) = if in_run (class_of b) then after_run bs else b ∷ bs

-- the six pixels of the first byte
abbrev pub first_pixels : List ℕ → Option ℕ
first_pixels [] = None
first_pixels (b ∷ bs) = pixels_of (class_of b)

-- the place of a byte: in no run, in the run of a `!` or directly after it, in the run of another
-- introducer
pub data Place : Type 0 where
  Outside : Place
  InRepeat : Place
  InRun : Place

-- whether a byte belongs to the item that began before it
abbrev pub belongs : Place → Class → Bool
belongs Outside c = false
belongs InRepeat (Pixels v) = true
belongs InRepeat c = in_run c
belongs InRun c = in_run c

abbrev pub begun_place : Class → Place
begun_place (Introduces introducer.Repeat) = InRepeat
begun_place (Introduces m) = InRun
begun_place c = Outside

abbrev pub place_after : Place → Class → Place
place_after p c = if in_run c then p else begun_place c

-- the item that a byte begins, if these bytes follow it
abbrev pub item_of : Class → ℕ → List ℕ → Item
item_of Return b bs = OfReturn
item_of Line b bs = OfLine
item_of (Pixels v) b bs = OfPixels v
item_of (Introduces introducer.Repeat) b bs = OfRepeat (run_of bs) (first_pixels (after_run bs))
item_of (Introduces introducer.Color) b bs = OfColor (run_of bs)
item_of (Introduces introducer.Raster) b bs = OfRaster (run_of bs)
item_of c b bs = OfJunk b

-- the items that begin in these bytes, the first of which is at this place
abbrev pub items_at : Place → List ℕ → List Item
items_at p [] = []
items_at p (b ∷ bs) = if belongs p (class_of b) then items_at (place_after p (class_of b)) bs
    else item_of (class_of b) b bs ∷ items_at (place_after p (class_of b)) bs

-- the items of the data
abbrev pub items : List ℕ → List Item
items bs = items_at Outside bs

-- the bytes of an item
abbrev pub pixels_bytes : Option ℕ → List ℕ
pixels_bytes None = []
pixels_bytes (Some v) = (v + 0x3f) ∷ []

abbrev pub bytes_of : Item → List ℕ
bytes_of OfReturn = 0x24 ∷ []
bytes_of OfLine = 0x2d ∷ []
bytes_of (OfPixels v) = (v + 0x3f) ∷ []
bytes_of (OfRepeat r o) = 0x21 ∷ (r ++ pixels_bytes o)
bytes_of (OfColor r) = 0x23 ∷ r
bytes_of (OfRaster r) = 0x22 ∷ r
bytes_of (OfJunk b) = b ∷ []

-- the items, joined, are the data
abbrev pub IsCut : List ℕ → Type 0
IsCut bs = flat_map bytes_of (items bs) ≡ bs
