-- The image that is read from any data, after parameters that are not negative, can be written.
use Rattle.std.proofs.Common.{◌≡◌, ℕ, ℤ, pos, negsuc, ◌*◌, ◌^◌, ◌<◌, ◌==◌, min, nat_lt, nat_le, Bool, true, false, if◌then◌else◌, List, [], ◌∷◌, ◌++◌}
use Rattle.std.proofs.Common.{get_or, Option, Some, None, refl, arith, inl, inr}
use Rattle.std.specs.List.{flat_map, list_any, slice_get}
use Rattle.std.specs.Option.{option_map, unwrap_or}
use Rattle.std.proofs.lemmas.Bool.{leb-true, cases_Bool}
use Rattle.std.proofs.lemmas.Bool.Decides.{nat_tests}
use borrow.Author.Tests.{ltb-true}
use Rattle.esc_values.specs.Params.{capped_at_i64}
use Rattle.esc_values.specs.Scalars.{and_then, some_if}
use Rattle.esc_values.proofs.Numbers.FactsIfSome.{Where, where_if}
use Rattle.esc_sixel.specs.Classes.{class_of}
use Rattle.esc_sixel.specs.Items.{Item, OfReturn, OfLine, OfPixels, OfRepeat, OfColor, OfRaster, OfJunk, Place, Outside, pixels_of, run_of, after_run}
use Rattle.esc_sixel.specs.Items.{first_pixels}
use Rattle.esc_sixel.specs.Items.{belongs, place_after, item_of, items_at, items}
use Rattle.esc_sixel.specs.Meaning.{pan_number, header_pan, size_of, sizes_of, raster_pan, raster_pad, raster_sizes, is_oversize, number, percent, color_of}
use Rattle.esc_sixel.specs.Meaning.{gives}
use Rattle.esc_sixel.specs.Meaning.{last_of, after_last, sixel_of}
use Rattle.esc_sixel.specs.Runs.{numbers_after, param, separators}
use Rattle.esc_sixel.specs.Writable.{IsChannel, IsWritableData, AreWritableData, IsNatural, AreNatural, IsGrid, AreSizes, IsWritable}
use Rattle.esc_sixel.specs.declared.class.Class.{Class}
use Rattle.esc_sixel.specs.declared.class.Class.TheVariants.{Return, Line, Pixels, Introduces, Digit, Separator, Junk}
use Rattle.esc_sixel.specs.declared.introducer.Introducer.TheVariants as introducer
use Rattle.esc_sixel.specs.declared.sixel_data.SixelData.{SixelData}
use Rattle.esc_sixel.specs.declared.sixel_data.SixelData.TheVariants.{DefineColorMapRGB, DefineColorMapHSL, SelectColorMapEntry}

-- items whose values are six pixels
abbrev IsItem : Item → Type 0
IsItem (OfPixels v) = v < 64
IsItem (OfRepeat r (Some v)) = v < 64
IsItem i = Unit {0}

abbrev AreItems : List Item → Type 0
AreItems [] = Unit {0}
AreItems (i ∷ is) = IsItem i × AreItems is

pixels_small : (b v : ℕ) → class_of b ≡ Pixels v → v < 64
unfolding class_of
pixels_small b v e = grind (arith, nat_tests)

class_small : (b : ℕ) (c : Class) → class_of b ≡ c → Where (λ v. v < 64) (pixels_of c)
class_small b (Pixels v) e = pixels_small b v e
class_small b Return e = tt
class_small b Line e = tt
class_small b (Introduces m) e = tt
class_small b (Digit d) e = tt
class_small b Separator e = tt
class_small b Junk e = tt

first_small : (bs : List ℕ) → Where (λ v. v < 64) (first_pixels bs)
first_small [] = tt
first_small (b ∷ bs) = class_small b (class_of b) refl

repeat_item : (r : List ℕ) (o : Option ℕ) → Where (λ v. v < 64) o → IsItem (OfRepeat r o)
repeat_item r None h = tt
repeat_item r (Some v) h = h

begun_item : (b : ℕ) (bs : List ℕ) (c : Class) → class_of b ≡ c → IsItem (item_of c b bs)
begun_item b bs Return e = tt
begun_item b bs Line e = tt
begun_item b bs (Pixels v) e = pixels_small b v e
begun_item b bs (Introduces introducer.Repeat) e =
    repeat_item (run_of bs) (first_pixels (after_run bs)) (first_small (after_run bs))
begun_item b bs (Introduces introducer.Color) e = tt
begun_item b bs (Introduces introducer.Raster) e = tt
begun_item b bs (Digit d) e = tt
begun_item b bs Separator e = tt
begun_item b bs Junk e = tt

are_items : (p : Place) (bs : List ℕ) → AreItems (items_at p bs)
are_items p [] = tt
are_items p (b ∷ bs) = elim (cases_Bool (belongs p (class_of b))) [
  | inl e ↦ rw e (are_items (place_after p (class_of b)) bs)
  | inr e ↦ rw e (begun_item b bs (class_of b) refl, are_items (place_after p (class_of b)) bs)
]

items_after : (t : Item → Bool) (is : List Item) → AreItems is → AreItems (after_last t is)
items_after t [] h = tt
items_after t (i ∷ is) h = elim (cases_Bool (list_any t (i ∷ is))) [
  | inl e ↦ rw e (items_after t is h.1)
  | inr e ↦ rw e h
]

-- the colour that they give
channel_is : (p : ℕ) → IsChannel (percent p)
channel_is p = (min p 100, omega arith, omega arith)

choose : (b : Bool) (x y : SixelData) → IsWritableData x → IsWritableData y
    → IsWritableData (if b then x else y)
choose true x y h k = h
choose false x y h k = k

short_small : (n : ℕ) → min n 65535 < 2 ^ 16
short_small n = omega arith

byte_small : (n : ℕ) → min n 255 < 2 ^ 8
byte_small n = omega arith

color_is : (run : List ℕ) → IsWritableData (color_of run)
color_is run =
    let hsl = DefineColorMapHSL (min (number run 0) 65535) (min (number run 2) 65535)
    (min (number run 3) 255) (min (number run 4) 255) in
    let rgb = DefineColorMapRGB (min (number run 0) 65535) (
      percent (number run 2),
      percent (number run 3),
      percent (number run 4),
    ) in
    let select = SelectColorMapEntry (min (number run 0) 65535) in
    let in_hsl : IsWritableData hsl = (
      short_small (number run 0),
      (short_small (number run 2), (byte_small (number run 3), byte_small (number run 4))),
    ) in
    let in_rgb : IsWritableData rgb = (
      short_small (number run 0),
      (channel_is (number run 2), (channel_is (number run 3), channel_is (number run 4))),
    ) in
    choose (nat_le 4 (separators run)) (if number run 1 == 1 then hsl else rgb) select
    (choose (number run 1 == 1) hsl rgb in_hsl in_rgb) (short_small (number run 0))

item_gives : (i : Item) → IsItem i → AreWritableData (gives i)
item_gives OfReturn h = (tt, tt)
item_gives OfLine h = (tt, tt)
item_gives (OfPixels v) h = (h, tt)
item_gives (OfRepeat r None) h = tt
item_gives (OfRepeat r (Some v)) h = ((omega arith, h), tt)
item_gives (OfColor r) h = (color_is r, tt)
item_gives (OfRaster r) h = tt
item_gives (OfJunk b) h = tt

data_append : (xs ys : List SixelData) → AreWritableData xs → AreWritableData ys
    → AreWritableData (xs ++ ys)
data_append [] ys h k = k
data_append (x ∷ xs) ys h k = (h.0, data_append xs ys h.1 k)

items_give : (is : List Item) → AreItems is → AreWritableData (flat_map gives is)
items_give [] h = tt
items_give (i ∷ is) h =
    data_append (gives i) (flat_map gives is) (item_gives i h.0) (items_give is h.1)

-- the last of them
or_else : {X : Type 0} (P : X → Type 0) (o : Option X) (x : X) → Where P o → P x → P (unwrap_or o x)
or_else P None x h k = k
or_else P (Some y) x h k = h

last_is : {X : Type 0} (P : X → Type 0) (f : Item → Option X) (x : X) (is : List Item) → P x
    → ((i : Item) → Where P (f i)) → P (last_of f x is)
last_is P f x [] k h = k
last_is P f x (i ∷ is) k h = last_is P f (unwrap_or (f i) x) is (or_else P (f i) x (h i) k) h

held_or : (o : Option ℕ) (d : ℕ) → d < 10 → unwrap_or (option_map capped_at_i64 o) d < 2 ^ 63
held_or None d h = omega arith
held_or (Some n) d h = omega arith

pan_is : (i : Item) → Where IsNatural (raster_pan i)
pan_is (OfRaster run) = held_or (get_or (numbers_after None run) 0 None) 2 (omega arith)
pan_is OfReturn = tt
pan_is OfLine = tt
pan_is (OfPixels v) = tt
pan_is (OfRepeat r o) = tt
pan_is (OfColor r) = tt
pan_is (OfJunk b) = tt

pad_is : (i : Item) → Where IsNatural (raster_pad i)
pad_is (OfRaster run) = held_or (get_or (numbers_after None run) 1 None) 1 (omega arith)
pad_is OfReturn = tt
pad_is OfLine = tt
pad_is (OfPixels v) = tt
pad_is (OfRepeat r o) = tt
pad_is (OfColor r) = tt
pad_is (OfJunk b) = tt

pan_small : (n : ℕ) → pan_number n < 2 ^ 63
pan_small n = grind (arith, nat_tests)

header_is : (ps : List ℤ) → IsNatural (header_pan ps)
header_is [] = omega arith
header_is (pos n ∷ ps) = pan_small n
header_is (negsuc n ∷ ps) = omega arith

-- the sizes
abbrev PairFits : Option (ℕ × ℕ) → Type 0
PairFits o = AreSizes (option_map (λ (s : ℕ × ℕ). s.0) o) (option_map (λ (s : ℕ × ℕ). s.1) o)

small_when : (n : ℕ) → Where (λ m. m < 2 ^ 32) (some_if (nat_lt n (2 ^ 32)) n)
small_when n = elim (cases_Bool (nat_lt n (2 ^ 32))) [
  | inl e ↦ rw e (ltb-true n (2 ^ 32) e)
  | inr e ↦ rw e tt
]

size_small : (o : Option ℕ) → Where (λ m. m < 2 ^ 32)
    (and_then o (λ n. some_if (nat_lt n (2 ^ 32)) n))
size_small None = tt
size_small (Some n) = small_when n

pair_by : (w h : ℕ) (b : Bool) → nat_le (w * h) 100000000 ≡ b → w < 2 ^ 32 → h < 2 ^ 32
    → PairFits (some_if b (w, h))
pair_by w h true e x y = (x, (y, leb-true (w * h) 100000000 e))
pair_by w h false e x y = tt

pair_fits : (a b : Option ℕ) → Where (λ m. m < 2 ^ 32) a → Where (λ m. m < 2 ^ 32) b
    → PairFits (and_then a (λ w. and_then b (λ h. some_if (nat_le (w * h) 100000000) (w, h))))
pair_fits None b x y = tt
pair_fits (Some w) None x y = tt
pair_fits (Some w) (Some h) x y = pair_by w h (nat_le (w * h) 100000000) refl x y

sizes_fit : (i : Item) → Where PairFits (raster_sizes i)
sizes_fit (OfRaster run) =
    where_if PairFits (nat_le 3 (separators run)) (Some (sizes_of run)) None
    (pair_fits (size_of run 2) (size_of run 3) (size_small (param run 2))
    (size_small (param run 3))) tt
sizes_fit OfReturn = tt
sizes_fit OfLine = tt
sizes_fit (OfPixels v) = tt
sizes_fit (OfRepeat r o) = tt
sizes_fit (OfColor r) = tt
sizes_fit (OfJunk b) = tt

grid_is : (ps : List ℤ) → AreNatural ps → IsGrid (slice_get ps 2)
grid_is [] h = tt
grid_is (a ∷ []) h = tt
grid_is (a ∷ b ∷ []) h = tt
grid_is (a ∷ b ∷ z ∷ ps) h = h.1.1.0

pub data_is_writable : (ps : List ℤ) (bs : List ℕ) → AreNatural ps
    → IsWritable (sixel_of {A = ℕ} ps (items bs))
data_is_writable ps bs h = (
  last_is IsNatural raster_pan (header_pan ps) (items bs) (header_is ps) pan_is,
  (
    last_is IsNatural raster_pad (pos 1) (items bs) (omega arith) pad_is,
    (
      last_is PairFits raster_sizes None (items bs) tt sizes_fit,
      (
        grid_is ps h,
        items_give (after_last is_oversize (items bs))
            (items_after is_oversize (items bs) (are_items Outside bs)),
      ),
    ),
  ),
)
