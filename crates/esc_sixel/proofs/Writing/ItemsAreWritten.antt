-- The items of data that is written, and the data that they give.
use Rattle.std.proofs.Common.{◌≡◌, ℕ, ◌+◌, ◌-◌, ◌^◌, ◌<◌, min, Bool, true, false, ◌&&◌, ◌||◌, List, [], ◌∷◌, ◌++◌, map, codes}
use Rattle.std.proofs.Common.{Option, Some, None, refl, ap, ◌∙◌, append_assoc, append-nil, arith, lt-ltb, inl, inr}
use Rattle.std.specs.List.{flat_map, list_all, list_any}
use Rattle.std.specs.Option.{unwrap_or}
use Rattle.std.specs.Fmt.{decimal}
use Rattle.std.proofs.lemmas.Bool.{eqb-true, cases_Bool, and_parts}
use Rattle.std.proofs.lemmas.Bool.Decides.{nat_tests}
use Rattle.std.proofs.lemmas.List.Folds.{list_all-append}
use Rattle.esc_values.specs.Clear.{semicolon_list}
use Rattle.esc_values.specs.Params.{capped_at_i64, is_digit}
use Rattle.esc_sixel.proofs.Runs.RunsAreNumbers.{are_digits, AreSlices, IsSlice, decimal_slice, slice_last, run_numbers, run_separators, run_bytes, digit_bytes, data_bytes}
use Rattle.esc_sixel.specs.Classes.{class_of}
use Rattle.esc_sixel.specs.Items.{Item, OfReturn, OfLine, OfPixels, OfRepeat, OfColor, OfRaster, Outside, InRepeat, InRun, in_run, run_of, after_run, items_at}
use Rattle.esc_sixel.specs.Meaning.{gives, color_of, repeat_of, percent, raster_pan, raster_pad, raster_sizes, is_oversize, last_of, after_last}
use Rattle.esc_sixel.specs.Texts.{data_text, content_text, pixels_text, least_percent, is_sixel}
use Rattle.esc_sixel.specs.Writable.{IsChannel, IsWritableData, AreWritableData, is_parameter_byte, is_data_byte}
use Rattle.esc_sixel.specs.declared.class.Class.TheVariants.{Return, Line, Pixels, Introduces, Digit, Separator}
use Rattle.esc_sixel.specs.declared.introducer.Introducer.TheVariants as introducer
use Rattle.esc_sixel.specs.declared.sixel_data.SixelData.{SixelData}
use Rattle.esc_sixel.specs.declared.sixel_data.SixelData.TheVariants.{Data, Repeat, DefineColorMapRGB, DefineColorMapHSL, SelectColorMapEntry, CarriageReturn}
use Rattle.esc_sixel.specs.declared.sixel_data.SixelData.TheVariants.{NewLine}

-- classes
pixels_class : (v : ℕ) → v < 64 → class_of (v + 0x3f) ≡ Pixels v
unfolding class_of
pixels_class v small = grind (arith, nat_tests)

digit_class : (b : ℕ) → is_digit b ≡ true → class_of b ≡ Digit (b - 0x30)
unfolding class_of
digit_class b d = grind (arith, nat_tests)

separator_class : class_of 0x3b ≡ Separator
unfolding class_of
separator_class = refl

repeat_class : class_of 0x21 ≡ Introduces introducer.Repeat
unfolding class_of
repeat_class = refl

color_class : class_of 0x23 ≡ Introduces introducer.Color
unfolding class_of
color_class = refl

raster_class : class_of 0x22 ≡ Introduces introducer.Raster
unfolding class_of
raster_class = refl

return_class : class_of 0x24 ≡ Return
unfolding class_of
return_class = refl

line_class : class_of 0x2d ≡ Line
unfolding class_of
line_class = refl

or_second : (a b : Bool) → a ≡ false → (a || b) ≡ true → b ≡ true
or_second false b e h = h
or_second true b e h = absurd cc

run_class : (b : ℕ) → is_parameter_byte b ≡ true → in_run (class_of b) ≡ true
run_class b h = elim (cases_Bool (is_digit b)) [
  | inl d ↦ ap in_run (digit_class b d)
  | inr n ↦ ap (λ c. in_run (class_of c)) (eqb-true b 0x3b (or_second (is_digit b) _ n h))
      ∙ ap in_run separator_class
]

-- bytes that do not go on a run
abbrev pub Stops : List ℕ → Type 0
Stops [] = Unit {0}
Stops (b ∷ bs) = in_run (class_of b) ≡ false

run_ends : (rest : List ℕ) → Stops rest → run_of rest ≡ []
run_ends [] s = refl
run_ends (b ∷ bs) s = rw s refl

run_is : (run rest : List ℕ) → list_all is_parameter_byte run ≡ true → Stops rest
    → run_of (run ++ rest) ≡ run
run_is [] rest h s = run_ends rest s
run_is (b ∷ run) rest h s =
    let q = and_parts (is_parameter_byte b) (list_all is_parameter_byte run) h in
    rw (run_class b q.0) (ap (λ r. b ∷ r) (run_is run rest q.1 s))

rest_is : (run rest : List ℕ) → list_all is_parameter_byte run ≡ true → Stops rest
    → after_run (run ++ rest) ≡ rest
rest_is [] [] h s = refl
rest_is [] (b ∷ bs) h s = rw s refl
rest_is (b ∷ run) rest h s =
    let q = and_parts (is_parameter_byte b) (list_all is_parameter_byte run) h in
    rw (run_class b q.0) (rest_is run rest q.1 s)

passes : (run rest : List ℕ) → list_all is_parameter_byte run ≡ true
    → items_at InRun (run ++ rest) ≡ items_at InRun rest
passes [] rest h = refl
passes (b ∷ run) rest h =
    let q = and_parts (is_parameter_byte b) (list_all is_parameter_byte run) h in
    rw (run_class b q.0) (passes run rest q.1)

passes_count : (ds rest : List ℕ) → are_digits ds ≡ true
    → items_at InRepeat (ds ++ rest) ≡ items_at InRepeat rest
passes_count [] rest h = refl
passes_count (d ∷ ds) rest h =
    let q = and_parts (is_digit d) (are_digits ds) h in
    rw (digit_class d q.0) (passes_count ds rest q.1)

outside_again : (rest : List ℕ) → Stops rest → items_at InRun rest ≡ items_at Outside rest
outside_again [] s = refl
outside_again (b ∷ rest) s = rw s refl

-- the item of each text
pixels_item : (v : ℕ) (rest : List ℕ) → v < 64
    → items_at Outside ((v + 0x3f) ∷ rest) ≡ OfPixels v ∷ items_at Outside rest
pixels_item v rest small = rw (pixels_class v small) refl

pixels_stop : (v : ℕ) (rest : List ℕ) → v < 64 → Stops ((v + 0x3f) ∷ rest)
pixels_stop v rest small = rw (pixels_class v small) refl

repeat_item : (ds : List ℕ) (v : ℕ) (rest : List ℕ) → are_digits ds ≡ true → v < 64
    → items_at Outside (0x21 ∷ (ds ++ (v + 0x3f) ∷ rest)) ≡ OfRepeat ds (Some v)
    ∷ items_at Outside rest
repeat_item ds v rest h small =
    let bytes = digit_bytes ds h in
    let stops = pixels_stop v rest small in
    rw (
      repeat_class,
      run_is ds ((v + 0x3f) ∷ rest) bytes stops,
      rest_is ds ((v + 0x3f) ∷ rest) bytes stops,
      passes_count ds ((v + 0x3f) ∷ rest) h,
      pixels_class v small,
    ) refl

color_item : (run rest : List ℕ) → list_all is_parameter_byte run ≡ true → Stops rest
    → items_at Outside (0x23 ∷ (run ++ rest)) ≡ OfColor run ∷ items_at Outside rest
color_item run rest h s = rw (
  color_class,
  run_is run rest h s,
  passes run rest h,
) (ap (λ r. OfColor run ∷ r) (outside_again rest s))

pub raster_item : (run rest : List ℕ) → list_all is_parameter_byte run ≡ true → Stops rest
    → items_at Outside (0x22 ∷ (run ++ rest)) ≡ OfRaster run ∷ items_at Outside rest
raster_item run rest h s = rw (
  raster_class,
  run_is run rest h s,
  passes run rest h,
) (ap (λ r. OfRaster run ∷ r) (outside_again rest s))

-- the runs of colours
abbrev rgb_texts : ℕ × ℕ × ℕ → List (List ℕ)
rgb_texts c = codes "2" ∷ decimal (least_percent c.0) ∷ decimal (least_percent c.1)
    ∷ decimal (least_percent c.2) ∷ []

abbrev rgb_numbers : ℕ × ℕ × ℕ → List ℕ
rgb_numbers c = 2 ∷ least_percent c.0 ∷ least_percent c.1 ∷ least_percent c.2 ∷ []

abbrev rgb_run : ℕ → ℕ × ℕ × ℕ → List ℕ
rgb_run n c = semicolon_list (decimal n ∷ rgb_texts c)

abbrev hsl_texts : ℕ → ℕ → ℕ → List (List ℕ)
hsl_texts h l s = codes "1" ∷ decimal h ∷ decimal l ∷ decimal s ∷ []

abbrev hsl_numbers : ℕ → ℕ → ℕ → List ℕ
hsl_numbers h l s = 1 ∷ h ∷ l ∷ s ∷ []

abbrev hsl_run : ℕ → ℕ → ℕ → ℕ → List ℕ
hsl_run n h l s = semicolon_list (decimal n ∷ hsl_texts h l s)

rgb_text : (n : ℕ) (c : ℕ × ℕ × ℕ) → data_text (DefineColorMapRGB n c) ≡ 0x23 ∷ rgb_run n c
rgb_text n c = simp (append_assoc, append-nil) refl

hsl_text : (n h l s : ℕ) → data_text (DefineColorMapHSL n h l s) ≡ 0x23 ∷ hsl_run n h l s
hsl_text n h l s = simp (append_assoc, append-nil) refl

one : IsSlice (codes "1") 1
one = record { digits = refl; some = omega arith; value = refl }

two : IsSlice (codes "2") 2
two = record { digits = refl; some = omega arith; value = refl }

least_small : (c : ℕ) → IsChannel c → least_percent c < 2 ^ 64
least_small c h = let is = h.2 in omega (arith, is)

rgb_slices : (n : ℕ) (c : ℕ × ℕ × ℕ) → IsWritableData (DefineColorMapRGB n c)
    → AreSlices (decimal n ∷ rgb_texts c) (n ∷ rgb_numbers c)
rgb_slices n c h =
    let small = h.0 in (
      decimal_slice n (omega (arith, small)),
      (
        two,
        (
          decimal_slice _ (least_small c.0 h.1.0),
          (
            decimal_slice _ (least_small c.1 h.1.1.0),
            (decimal_slice _ (least_small c.2 h.1.1.1), tt),
          ),
        ),
      ),
    )

hsl_slices : (n h l s : ℕ) → IsWritableData (DefineColorMapHSL n h l s)
    → AreSlices (decimal n ∷ hsl_texts h l s) (n ∷ hsl_numbers h l s)
hsl_slices n h l s w =
    let n_small = w.0 in
    let h_small = w.1.0 in
    let l_small = w.1.1.0 in
    let s_small = w.1.1.1 in (
      decimal_slice n (omega (arith, n_small)),
      (
        one,
        (
          decimal_slice h (omega (arith, h_small)),
          (
            decimal_slice l (omega (arith, l_small)),
            (decimal_slice s (omega (arith, s_small)), tt),
          ),
        ),
      ),
    )

-- the data that the items give
channel_back : (c : ℕ) → IsChannel c → percent (capped_at_i64 (least_percent c)) ≡ c
channel_back c h = let low = h.1 in let is = h.2 in omega (arith, low, is)

rgb_same : (a n r g b : ℕ) (c : ℕ × ℕ × ℕ) → a ≡ n → r ≡ c.0 → g ≡ c.1 → b ≡ c.2
    → DefineColorMapRGB a (r, g, b) ≡ DefineColorMapRGB n c
rgb_same a n r g b c e x y z = λ i. DefineColorMapRGB (e i) (x i, y i, z i)

hsl_same : (a n b h c l d s : ℕ) → a ≡ n → b ≡ h → c ≡ l → d ≡ s
    → DefineColorMapHSL a b c d ≡ DefineColorMapHSL n h l s
hsl_same a n b h c l d s e x y z = λ i. DefineColorMapHSL (e i) (x i) (y i) (z i)

held_short : (n : ℕ) → n < 2 ^ 16 → min (capped_at_i64 n) 65535 ≡ n
held_short n small = omega arith

held_byte : (n : ℕ) → n < 2 ^ 8 → min (capped_at_i64 n) 255 ≡ n
held_byte n small = omega arith

held_count : (n : ℕ) → n < 2 ^ 32 → min (capped_at_i64 n) 4294967295 ≡ n
held_count n small = omega arith

rgb_back : (n : ℕ) (c : ℕ × ℕ × ℕ) → IsWritableData (DefineColorMapRGB n c)
    → color_of (rgb_run n c) ≡ DefineColorMapRGB n c
rgb_back n c h =
    let slices = rgb_slices n c h in
    rw (
      run_separators (decimal n) (rgb_texts c) n (rgb_numbers c) slices,
      run_numbers (decimal n) (rgb_texts c) n (rgb_numbers c) slices,
    )
    (rgb_same _ n _ _ _ c (held_short n h.0) (channel_back c.0 h.1.0) (channel_back c.1 h.1.1.0)
    (channel_back c.2 h.1.1.1))

hsl_back : (n h l s : ℕ) → IsWritableData (DefineColorMapHSL n h l s)
    → color_of (hsl_run n h l s) ≡ DefineColorMapHSL n h l s
hsl_back n h l s w =
    let slices = hsl_slices n h l s w in
    rw (
      run_separators (decimal n) (hsl_texts h l s) n (hsl_numbers h l s) slices,
      run_numbers (decimal n) (hsl_texts h l s) n (hsl_numbers h l s) slices,
    )
    (hsl_same _ n _ h _ l _ s (held_short n w.0) (held_short h w.1.0) (held_byte l w.1.1.0)
    (held_byte s w.1.1.1))

select_back : (n : ℕ) → n < 2 ^ 16 → color_of (semicolon_list (decimal n ∷ []))
    ≡ SelectColorMapEntry n
select_back n small =
    let slices : AreSlices (decimal n ∷ []) (n ∷ []) = (decimal_slice n (omega arith), tt) in
    rw (run_separators (decimal n) [] n [] slices, run_numbers (decimal n) [] n [] slices)
    (ap SelectColorMapEntry (held_short n small))

repeat_back : (n v : ℕ) → n < 2 ^ 32 → repeat_of (decimal n) v ≡ Repeat v n
repeat_back n v small = rw (slice_last (decimal n) n (decimal_slice n (omega arith)))
    (ap (λ m. Repeat v m) (held_count n small))

-- the item of a slice of data
abbrev pub item_for : SixelData → Item
item_for (Data v) = OfPixels v
item_for (Repeat v n) = OfRepeat (decimal n) (Some v)
item_for (DefineColorMapRGB n c) = OfColor (rgb_run n c)
item_for (DefineColorMapHSL n h l s) = OfColor (hsl_run n h l s)
item_for (SelectColorMapEntry n) = OfColor (semicolon_list (decimal n ∷ []))
item_for CarriageReturn = OfReturn
item_for NewLine = OfLine

pub content_stops : (ds : List SixelData) → AreWritableData ds → Stops (content_text ds)
content_stops [] h = tt
content_stops (Data v ∷ ds) h = pixels_stop v (content_text ds) h.0
content_stops (Repeat v n ∷ ds) h = rw repeat_class refl
content_stops (DefineColorMapRGB n c ∷ ds) h = rw color_class refl
content_stops (DefineColorMapHSL n a l s ∷ ds) h = rw color_class refl
content_stops (SelectColorMapEntry n ∷ ds) h = rw color_class refl
content_stops (CarriageReturn ∷ ds) h = rw return_class refl
content_stops (NewLine ∷ ds) h = rw line_class refl

select_text : (n : ℕ) → data_text (SelectColorMapEntry n) ≡ 0x23 ∷ semicolon_list (decimal n ∷ [])
select_text n = simp append-nil refl

pub content_items : (ds : List SixelData) → AreWritableData ds
    → items_at Outside (content_text ds) ≡ map item_for ds
content_items [] h = refl
content_items (Data v ∷ ds) h =
    pixels_item v (content_text ds) h.0 ∙ ap (λ r. OfPixels v ∷ r) (content_items ds h.1)
content_items (Repeat v n ∷ ds) h =
    let small = h.0.0 in
    let slice = decimal_slice n (omega (arith, small)) in
    ap (λ t. items_at Outside (0x21 ∷ t))
    (append_assoc (decimal n) (pixels_text v) (content_text ds))
    ∙ repeat_item (decimal n) v (content_text ds) slice.digits h.0.1
    ∙ ap (λ r. OfRepeat (decimal n) (Some v) ∷ r) (content_items ds h.1)
content_items (DefineColorMapRGB n c ∷ ds) h =
    ap (λ t. items_at Outside (t ++ content_text ds)) (rgb_text n c)
    ∙ color_item (rgb_run n c) (content_text ds)
    (run_bytes (decimal n) (rgb_texts c) n (rgb_numbers c) (rgb_slices n c h.0))
    (content_stops ds h.1)
    ∙ ap (λ r. OfColor (rgb_run n c) ∷ r) (content_items ds h.1)
content_items (DefineColorMapHSL n a l s ∷ ds) h =
    ap (λ t. items_at Outside (t ++ content_text ds)) (hsl_text n a l s)
    ∙ color_item (hsl_run n a l s) (content_text ds)
    (run_bytes (decimal n) (hsl_texts a l s) n (hsl_numbers a l s) (hsl_slices n a l s h.0))
    (content_stops ds h.1)
    ∙ ap (λ r. OfColor (hsl_run n a l s) ∷ r) (content_items ds h.1)
content_items (SelectColorMapEntry n ∷ ds) h =
    let small = h.0 in
    let slices : AreSlices (decimal n ∷ []) (n ∷ []) =
    (decimal_slice n (omega (arith, small)), tt) in
    ap (λ t. items_at Outside (t ++ content_text ds)) (select_text n)
    ∙ color_item (semicolon_list (decimal n ∷ [])) (content_text ds)
    (run_bytes (decimal n) [] n [] slices)
    (content_stops ds h.1)
    ∙ ap (λ r. OfColor (semicolon_list (decimal n ∷ [])) ∷ r) (content_items ds h.1)
content_items (CarriageReturn ∷ ds) h =
    rw return_class (ap (λ r. OfReturn ∷ r) (content_items ds h.1))
content_items (NewLine ∷ ds) h = rw line_class (ap (λ r. OfLine ∷ r) (content_items ds h.1))

item_gives : (d : SixelData) → IsWritableData d → gives (item_for d) ≡ d ∷ []
item_gives (Data v) h = refl
item_gives (Repeat v n) h = ap (λ x. x ∷ []) (repeat_back n v h.0)
item_gives (DefineColorMapRGB n c) h = ap (λ x. x ∷ []) (rgb_back n c h)
item_gives (DefineColorMapHSL n a l s) h = ap (λ x. x ∷ []) (hsl_back n a l s h)
item_gives (SelectColorMapEntry n) h = ap (λ x. x ∷ []) (select_back n h)
item_gives CarriageReturn h = refl
item_gives NewLine h = refl

pub content_back : (ds : List SixelData) → AreWritableData ds
    → flat_map gives (map item_for ds) ≡ ds
content_back [] h = refl
content_back (d ∷ ds) h = ap (λ x. x ++ flat_map gives (map item_for ds)) (item_gives d h.0)
    ∙ ap (λ r. d ∷ r) (content_back ds h.1)

-- none of them is raster attributes
pub no_pan : (d : SixelData) → raster_pan (item_for d) ≡ None
no_pan (Data v) = refl
no_pan (Repeat v n) = refl
no_pan (DefineColorMapRGB n c) = refl
no_pan (DefineColorMapHSL n a l s) = refl
no_pan (SelectColorMapEntry n) = refl
no_pan CarriageReturn = refl
no_pan NewLine = refl

pub no_pad : (d : SixelData) → raster_pad (item_for d) ≡ None
no_pad (Data v) = refl
no_pad (Repeat v n) = refl
no_pad (DefineColorMapRGB n c) = refl
no_pad (DefineColorMapHSL n a l s) = refl
no_pad (SelectColorMapEntry n) = refl
no_pad CarriageReturn = refl
no_pad NewLine = refl

pub no_sizes : (d : SixelData) → raster_sizes (item_for d) ≡ None
no_sizes (Data v) = refl
no_sizes (Repeat v n) = refl
no_sizes (DefineColorMapRGB n c) = refl
no_sizes (DefineColorMapHSL n a l s) = refl
no_sizes (SelectColorMapEntry n) = refl
no_sizes CarriageReturn = refl
no_sizes NewLine = refl

not_oversize : (d : SixelData) → is_oversize (item_for d) ≡ false
not_oversize (Data v) = refl
not_oversize (Repeat v n) = refl
not_oversize (DefineColorMapRGB n c) = refl
not_oversize (DefineColorMapHSL n a l s) = refl
not_oversize (SelectColorMapEntry n) = refl
not_oversize CarriageReturn = refl
not_oversize NewLine = refl

pub last_none : {X : Type 0} (f : Item → Option X) (x : X) (ds : List SixelData)
    → ((d : SixelData) → f (item_for d) ≡ None) → last_of f x (map item_for ds) ≡ x
last_none f x [] h = refl
last_none f x (d ∷ ds) h =
    ap (λ o. last_of f (unwrap_or o x) (map item_for ds)) (h d) ∙ last_none f x ds h

none_oversize : (ds : List SixelData) → list_any is_oversize (map item_for ds) ≡ false
none_oversize [] = refl
none_oversize (d ∷ ds) = ap (λ t. t || list_any is_oversize (map item_for ds)) (not_oversize d)
    ∙ none_oversize ds

all_after : (t : Item → Bool) (is : List Item) → list_any t is ≡ false → after_last t is ≡ is
all_after t [] h = refl
all_after t (i ∷ is) h = rw h refl

pub content_after : (ds : List SixelData)
    → after_last is_oversize (map item_for ds) ≡ map item_for ds
content_after ds = all_after is_oversize (map item_for ds) (none_oversize ds)

pub raster_after : (run : List ℕ) (ds : List SixelData) → is_oversize (OfRaster run) ≡ false
    → after_last is_oversize (OfRaster run ∷ map item_for ds) ≡ OfRaster run ∷ map item_for ds
raster_after run ds h =
    all_after is_oversize (OfRaster run ∷ map item_for ds)
    (ap (λ t. t || list_any is_oversize (map item_for ds)) h ∙ none_oversize ds)

-- the bytes of the text
pixels_byte : (v : ℕ) → v < 64 → is_data_byte (v + 0x3f) ≡ true
pixels_byte v small = grind (arith, nat_tests)

text_bytes : (d : SixelData) → IsWritableData d → list_all is_data_byte (data_text d) ≡ true
text_bytes (Data v) h = rw (pixels_byte v h) refl
text_bytes (Repeat v n) h =
    let small = h.0 in
    let slice = decimal_slice n (omega (arith, small)) in
    list_all-append is_data_byte (decimal n) (pixels_text v)
    ∙ rw (data_bytes (decimal n) (digit_bytes (decimal n) slice.digits), pixels_byte v h.1) refl
text_bytes (DefineColorMapRGB n c) h =
    ap (list_all is_data_byte) (rgb_text n c)
    ∙ data_bytes (rgb_run n c) (run_bytes (decimal n) (rgb_texts c) n (rgb_numbers c)
    (rgb_slices n c h))
text_bytes (DefineColorMapHSL n a l s) h =
    ap (list_all is_data_byte) (hsl_text n a l s)
    ∙ data_bytes (hsl_run n a l s) (run_bytes (decimal n) (hsl_texts a l s) n (hsl_numbers a l s)
    (hsl_slices n a l s h))
text_bytes (SelectColorMapEntry n) h =
    let slice = decimal_slice n (omega (arith, h)) in
    data_bytes (decimal n) (digit_bytes (decimal n) slice.digits)
text_bytes CarriageReturn h = refl
text_bytes NewLine h = refl

pub content_bytes : (ds : List SixelData) → AreWritableData ds
    → list_all is_data_byte (content_text ds) ≡ true
content_bytes [] h = refl
content_bytes (d ∷ ds) h =
    list_all-append is_data_byte (data_text d) (content_text ds)
    ∙ rw (text_bytes d h.0) (content_bytes ds h.1)

-- all values are six pixels
data_fits : (d : SixelData) → IsWritableData d → is_sixel d ≡ true
data_fits (Data v) h = lt-ltb v 64 h
data_fits (Repeat v n) h = lt-ltb v 64 h.1
data_fits (DefineColorMapRGB n c) h = refl
data_fits (DefineColorMapHSL n a l s) h = refl
data_fits (SelectColorMapEntry n) h = refl
data_fits CarriageReturn h = refl
data_fits NewLine h = refl

pub content_fits : (ds : List SixelData) → AreWritableData ds → list_all is_sixel ds ≡ true
content_fits [] h = refl
content_fits (d ∷ ds) h =
    ap (λ t. t && list_all is_sixel ds) (data_fits d h.0) ∙ content_fits ds h.1
