-- A writable image is written as parameters and data that mean it.
use Rattle.std.proofs.Common.{◌≡◌, ℕ, ℤ, pos, negsuc, ◌*◌, ◌^◌, ◌<◌, ◌≤◌, nat_lt, nat_le, true, false, not, ◌&&◌, if◌then◌else◌, List, [], ◌∷◌}
use Rattle.std.proofs.Common.{◌++◌, get_or, map}
use Rattle.std.proofs.Common.{Option, Some, None, refl, sym, ap, ◌∙◌, append_assoc, append-nil, arith, lt-ltb}
use Rattle.std.specs.List.{flat_map, list_all, slice_get}
use Rattle.std.specs.Option.{option_map, unwrap_or, is_some}
use Rattle.std.specs.Fmt.{decimal, signed_decimal}
use Rattle.std.proofs.lemmas.Bool.{le-leb}
use Rattle.std.proofs.lemmas.List.Folds.{list_all-append}
use Rattle.esc_values.specs.Clear.{semicolon_list}
use Rattle.esc_values.specs.Params.{capped_at_i64}
use Rattle.esc_values.specs.Scalars.{and_then, some_if}
use Rattle.esc_sixel.proofs.Runs.RunsAreNumbers.{IsSlice, AreSlices, decimal_slice, run_numbers, run_separators, run_bytes, data_bytes}
use Rattle.esc_sixel.proofs.Writing.HeaderIsWritten.{Means, MeansIn, means, flag_number, grid_list, params_plain, params_first, flag_back, grid_back, background_bytes}
use Rattle.esc_sixel.proofs.Writing.ItemsAreWritten.{item_for, raster_item, content_items, content_stops, content_back, content_after, raster_after, last_none}
use Rattle.esc_sixel.proofs.Writing.ItemsAreWritten.{no_pan, no_pad, no_sizes, content_bytes, content_fits}
use Rattle.esc_sixel.specs.Items.{Item, OfRaster, items}
use Rattle.esc_sixel.specs.Meaning.{sixel_of, header_pan, is_one, size_of, sizes_of, raster_pan, raster_pad, raster_sizes, is_oversize, gives}
use Rattle.esc_sixel.specs.Meaning.{last_of, after_last}
use Rattle.esc_sixel.specs.Runs.{numbers_after, param, separators}
use Rattle.esc_sixel.specs.Texts.{content_text, background_text, short_form, header_by, sixel_text, sixel_output}
use Rattle.esc_sixel.specs.Writable.{IsNatural, AreSizes, AreWritableData, IsWritable, is_parameter_byte, is_data_byte, WritesBack}
use Rattle.esc_sixel.specs.declared.sixel.Sixel.{Sixel}

-- an image, field by field
same_image : {A : Type 0} (s : Sixel A) (ps : List ℤ) (is : List Item)
    → last_of raster_pan (header_pan ps) is ≡ s.pan
    → last_of raster_pad (pos 1) is ≡ s.pad
    → option_map (λ (x : ℕ × ℕ). x.0) (last_of raster_sizes None is) ≡ s.pixel_width
    → option_map (λ (x : ℕ × ℕ). x.1) (last_of raster_sizes None is) ≡ s.pixel_height
    → is_one (slice_get ps 1) ≡ s.background_is_transparent
    → slice_get ps 2 ≡ s.horizontal_grid_size
    → flat_map gives (after_last is_oversize is) ≡ s.content
    → sixel_of {A = A} ps is ≡ s
same_image {A = A} s ps is a b w h t g c = λ i. record {
  pan = a i;
  pad = b i;
  pixel_width = w i;
  pixel_height = h i;
  background_is_transparent = t i;
  horizontal_grid_size = g i;
  content = c i;
}

-- the parameters of a run of numbers
held_small : (n : ℕ) → n < 2 ^ 63 → capped_at_i64 n ≡ n
held_small n small = omega arith

param_at : (run : List ℕ) (ns : List (Option ℕ)) (k n : ℕ) → numbers_after None run ≡ ns
    → get_or ns k None ≡ Some n → n < 2 ^ 63 → param run k ≡ Some n
param_at run ns k n e f small =
    ap (λ xs. option_map capped_at_i64 (get_or xs k None)) e ∙ ap (option_map capped_at_i64) f
    ∙ ap Some (held_small n small)

size_at : (run : List ℕ) (k n : ℕ) → param run k ≡ Some n → n < 2 ^ 32 → size_of run k ≡ Some n
size_at run k n e small = ap (λ o. and_then o (λ m. some_if (nat_lt m (2 ^ 32)) m)) e
    ∙ ap (λ b. some_if b n) (lt-ltb n (2 ^ 32) small)

sizes_at : (run : List ℕ) (w h : ℕ) → size_of run 2 ≡ Some w → size_of run 3 ≡ Some h
    → w * h ≤ 100000000 → sizes_of run ≡ Some (w, h)
sizes_at run w h e f room =
    ap (λ o. and_then o (λ x.
    and_then (size_of run 3) (λ y. some_if (nat_le (x * y) 100000000) (x, y)))) e
    ∙ ap (λ o. and_then o (λ y. some_if (nat_le (w * y) 100000000) (w, y))) f
    ∙ ap (λ b. some_if b (w, h)) (le-leb (w * h) 100000000 room)

-- data without raster attributes
short_image : {A : Type 0} (s : Sixel A) (ps : List ℤ) → AreWritableData s.content
    → s.pixel_width ≡ None → s.pixel_height ≡ None
    → header_pan ps ≡ s.pan → pos 1 ≡ s.pad → is_one (slice_get ps 1) ≡ s.background_is_transparent
    → slice_get ps 2 ≡ s.horizontal_grid_size
    → sixel_of {A = A} ps (items (content_text s.content)) ≡ s
short_image {A = A} s ps data_ok w h pan pad t g =
    ap (sixel_of {A = A} ps) (content_items s.content data_ok)
    ∙ same_image s ps (map item_for s.content)
    (last_none raster_pan (header_pan ps) s.content no_pan ∙ pan)
    (last_none raster_pad (pos 1) s.content no_pad ∙ pad)
    (ap (option_map (λ (x : ℕ × ℕ). x.0)) (last_none raster_sizes None s.content no_sizes) ∙ sym w)
    (ap (option_map (λ (x : ℕ × ℕ). x.1)) (last_none raster_sizes None s.content no_sizes) ∙ sym h)
    t g
    (ap (flat_map gives) (content_after s.content) ∙ content_back s.content data_ok)

-- data after raster attributes
raster_image : {A : Type 0} (s : Sixel A) (ps : List ℤ) (run : List ℕ) → AreWritableData s.content
    → list_all is_parameter_byte run ≡ true
    → pos (unwrap_or (param run 0) 2) ≡ s.pan → pos (unwrap_or (param run 1) 1) ≡ s.pad
    → is_oversize (OfRaster run) ≡ false
    → option_map (λ (x : ℕ × ℕ). x.0) (unwrap_or (raster_sizes (OfRaster run)) None) ≡ s.pixel_width
    → option_map (λ (x : ℕ × ℕ). x.1) (unwrap_or (raster_sizes (OfRaster run)) None)
    ≡ s.pixel_height
    → is_one (slice_get ps 1) ≡ s.background_is_transparent
    → slice_get ps 2 ≡ s.horizontal_grid_size
    → sixel_of {A = A} ps (items (0x22 ∷ (run ++ content_text s.content))) ≡ s
raster_image {A = A} s ps run data_ok bytes pan pad fits w h t g =
    ap (sixel_of {A = A} ps)
    (raster_item run (content_text s.content) bytes (content_stops s.content data_ok)
    ∙ ap (λ r. OfRaster run ∷ r) (content_items s.content data_ok))
    ∙ same_image s ps (OfRaster run ∷ map item_for s.content)
    (last_none raster_pan (pos (unwrap_or (param run 0) 2)) s.content no_pan ∙ pan)
    (last_none raster_pad (pos (unwrap_or (param run 1) 1)) s.content no_pad ∙ pad)
    (ap (option_map (λ (x : ℕ × ℕ). x.0))
    (last_none raster_sizes (unwrap_or (raster_sizes (OfRaster run)) None) s.content no_sizes)
    ∙ w)
    (ap (option_map (λ (x : ℕ × ℕ). x.1))
    (last_none raster_sizes (unwrap_or (raster_sizes (OfRaster run)) None) s.content no_sizes)
    ∙ h)
    t g
    (ap (flat_map gives) (raster_after run s.content fits) ∙ content_back s.content data_ok)

-- numbers that are not negative
abbrev natural : ℤ → ℕ
natural (pos n) = n
natural (negsuc n) = 0

natural_back : (z : ℤ) → IsNatural z → pos (natural z) ≡ z
natural_back (pos n) h = refl
natural_back (negsuc n) h = absurd h

natural_small : (z : ℤ) → IsNatural z → natural z < 2 ^ 63
natural_small (pos n) h = h
natural_small (negsuc n) h = absurd h

natural_slice : (z : ℤ) → IsNatural z → IsSlice (signed_decimal z) (natural z)
natural_slice (pos n) h = decimal_slice n (omega (arith, h))
natural_slice (negsuc n) h = absurd h

number_is : (run : List ℕ) (ns : List (Option ℕ)) (k d : ℕ) (z : ℤ) → numbers_after None run ≡ ns
    → get_or ns k None ≡ Some (natural z) → IsNatural z
    → pos (unwrap_or (param run k) d) ≡ z
number_is run ns k d z e f h =
    ap (λ o. pos (unwrap_or o d)) (param_at run ns k (natural z) e f (natural_small z h))
    ∙ natural_back z h

-- the texts
text_first : {A : Type 0} (s : Sixel A) (d : ℕ)
    → header_by None (Some (d ∷ [])) s ++ content_text s.content
    ≡ 0x1b ∷ 0x50 ∷ ((d ∷ 0x3b ∷ background_text s.background_is_transparent s.horizontal_grid_size)
    ++ 0x71 ∷ content_text s.content)
text_first s d = simp (append_assoc, append-nil) refl

text_ratio : {A : Type 0} (s : Sixel A)
    → header_by None None s ++ content_text s.content
    ≡ 0x1b ∷ 0x50 ∷ ((0x3b ∷ background_text s.background_is_transparent s.horizontal_grid_size)
    ++ 0x71 ∷ 0x22 ∷ (semicolon_list (signed_decimal s.pan ∷ signed_decimal s.pad ∷ [])
    ++ content_text s.content))
text_ratio s = simp (append_assoc, append-nil) refl

abbrev semi : List ℕ
semi = 0x3b ∷ []

abbrev opening : List ℕ
opening = 0x71 ∷ 0x22 ∷ []

pair_then : (p q r : List ℕ) → ((p ++ semi) ++ q) ++ r ≡ p ++ 0x3b ∷ (q ++ r)
pair_then p q r = append_assoc (p ++ semi) q r ∙ append_assoc p semi (q ++ r)

joined_then : (p q w h c : List ℕ)
    → semicolon_list (p ∷ q ∷ w ∷ h ∷ []) ++ c ≡ p ++ 0x3b ∷ (q ++ 0x3b ∷ (w ++ 0x3b ∷ (h ++ c)))
joined_then p q w h c =
    append_assoc p (0x3b ∷ semicolon_list (q ∷ w ∷ h ∷ [])) c
    ∙ ap (λ r. p ++ 0x3b ∷ r) (append_assoc q (0x3b ∷ semicolon_list (w ∷ h ∷ [])) c
    ∙ ap (λ r. q ++ 0x3b ∷ r) (append_assoc w (0x3b ∷ semicolon_list (h ∷ [])) c
    ∙ ap (λ r. w ++ 0x3b ∷ (r ++ c)) (append-nil h)))

regroup : (b p q w h c : List ℕ)
    → ((((b ++ opening) ++ ((p ++ semi) ++ q)) ++ semi) ++ ((w ++ semi) ++ h)) ++ c
    ≡ b ++ 0x71 ∷ 0x22 ∷ (semicolon_list (p ∷ q ∷ w ∷ h ∷ []) ++ c)
regroup b p q w h c =
    append_assoc (((b ++ opening) ++ ((p ++ semi) ++ q)) ++ semi) ((w ++ semi) ++ h) c
    ∙ append_assoc ((b ++ opening) ++ ((p ++ semi) ++ q)) semi (((w ++ semi) ++ h) ++ c)
    ∙ append_assoc (b ++ opening) ((p ++ semi) ++ q) (0x3b ∷ (((w ++ semi) ++ h) ++ c))
    ∙ append_assoc b opening (((p ++ semi) ++ q) ++ 0x3b ∷ (((w ++ semi) ++ h) ++ c))
    ∙ ap (λ r. b ++ 0x71 ∷ 0x22 ∷ r)
    (pair_then p q (0x3b ∷ (((w ++ semi) ++ h) ++ c)) ∙ ap (λ r. p ++ 0x3b ∷ (q ++ 0x3b ∷ r))
    (pair_then w h c) ∙ sym (joined_then p q w h c))

text_sizes : {A : Type 0} (s : Sixel A) (w h : ℕ) (m : Option (List ℕ)) → s.pixel_height ≡ Some h
    → header_by (Some w) m s ++ content_text s.content
    ≡ 0x1b ∷ 0x50 ∷ ((0x3b ∷ background_text s.background_is_transparent s.horizontal_grid_size)
    ++ 0x71 ∷ 0x22
    ∷ (semicolon_list (signed_decimal s.pan ∷ signed_decimal s.pad ∷ decimal w ∷ decimal h ∷ [])
    ++ content_text s.content))
text_sizes s w h m e =
    let b = background_text s.background_is_transparent s.horizontal_grid_size in
    let p = signed_decimal s.pan in
    let q = signed_decimal s.pad in
    let c = content_text s.content in
    ap (λ o. 0x1b ∷ 0x50 ∷ 0x3b
    ∷ (((((b ++ opening) ++ ((p ++ semi) ++ q)) ++ semi)
    ++ ((decimal w ++ semi) ++ decimal (unwrap_or o 0))) ++ c)) e
    ∙ ap (λ r. 0x1b ∷ 0x50 ∷ 0x3b ∷ r) (regroup b p q (decimal w) (decimal h) c)

output_is : {A : Type 0} (s : Sixel A) (text : List ℕ) → AreWritableData s.content
    → sixel_text s ≡ text → sixel_output s ≡ Some text
output_is s text data_ok e =
    ap (λ b. if b then Some (sixel_text s) else None) (content_fits s.content data_ok) ∙ ap Some e

-- raster attributes and data, as bytes
raster_bytes : (run content : List ℕ) → list_all is_parameter_byte run ≡ true
    → list_all is_data_byte content ≡ true
    → list_all is_data_byte (0x22 ∷ (run ++ content)) ≡ true
raster_bytes run content h k = list_all-append is_data_byte run content ∙ rw (data_bytes run h) k

writes_first : {A : Type 0} (s : Sixel A) (m : List ℕ) → short_form s.pan s.pad ≡ Some m
    → Means s.pan s.pad m
    → s.pixel_width ≡ None → s.pixel_height ≡ None → IsWritable s → WritesBack s
writes_first {A = A} s m form k w h ok =
    let t = s.background_is_transparent in
    let g = s.horizontal_grid_size in
    let text = content_text s.content in
    let data_ok = ok.1.1.1.1 in
    let grid_ok = ok.1.1.1.0 in
    let ps = pos k.number ∷ flag_number t ∷ grid_list g in (
      k.digit ∷ 0x3b ∷ background_text t g,
      text,
      output_is s _ data_ok
          (ap (λ o. header_by o (short_form s.pan s.pad) s ++ text) w
          ∙ ap (λ o. header_by None o s ++ text) (form ∙ ap Some k.is) ∙ text_first s k.digit),
      ap (λ b. b && list_all is_parameter_byte (0x3b ∷ background_text t g)) k.byte
          ∙ background_bytes t g grid_ok,
      content_bytes s.content data_ok,
      ap (λ x. sixel_of {A = A} x (items text)) (params_first k.digit k.number t g k.other k.value
          grid_ok)
          ∙ short_image s ps data_ok w h k.pan_is k.pad_is (flag_back k.number t g)
          (grid_back k.number t g),
    )

writes_ratio : {A : Type 0} (s : Sixel A) → short_form s.pan s.pad ≡ None → s.pixel_width ≡ None
    → s.pixel_height ≡ None → IsWritable s → WritesBack s
writes_ratio {A = A} s form w h ok =
    let t = s.background_is_transparent in
    let g = s.horizontal_grid_size in
    let text = content_text s.content in
    let data_ok = ok.1.1.1.1 in
    let grid_ok = ok.1.1.1.0 in
    let ps = pos 0 ∷ flag_number t ∷ grid_list g in
    let run = semicolon_list (signed_decimal s.pan ∷ signed_decimal s.pad ∷ []) in
    let slices : AreSlices (signed_decimal s.pan ∷ signed_decimal s.pad ∷ []) (natural s.pan
    ∷ natural s.pad ∷ []) =
    (natural_slice s.pan ok.0, (natural_slice s.pad ok.1.0, tt)) in
    let numbers : numbers_after None run ≡ Some (natural s.pan) ∷ Some (natural s.pad) ∷ [] =
    run_numbers (signed_decimal s.pan) (signed_decimal s.pad ∷ []) (natural s.pan) (natural s.pad
    ∷ []) slices in
    let count : separators run ≡ 1 =
    run_separators (signed_decimal s.pan) (signed_decimal s.pad ∷ []) (natural s.pan)
    (natural s.pad ∷ []) slices in
    let bytes : list_all is_parameter_byte run ≡ true =
    run_bytes (signed_decimal s.pan) (signed_decimal s.pad ∷ []) (natural s.pan) (natural s.pad
    ∷ []) slices in
    let sizes : raster_sizes (OfRaster run) ≡ None =
    ap (λ n. some_if (nat_le 3 n) (sizes_of run)) count in
    let fits : is_oversize (OfRaster run) ≡ false =
    ap (λ n. nat_le 3 n && not (is_some (sizes_of run))) count in (
      0x3b ∷ background_text t g,
      0x22 ∷ (run ++ text),
      output_is s _ data_ok
          (ap (λ o. header_by o (short_form s.pan s.pad) s ++ text) w
          ∙ ap (λ o. header_by None o s ++ text) form ∙ text_ratio s),
      background_bytes t g grid_ok,
      raster_bytes run text bytes (content_bytes s.content data_ok),
      ap (λ x. sixel_of {A = A} x (items (0x22 ∷ (run ++ text)))) (params_plain t g grid_ok)
          ∙ raster_image s ps run data_ok bytes
          (number_is run _ 0 2 s.pan numbers refl ok.0)
          (number_is run _ 1 1 s.pad numbers refl ok.1.0) fits
          (ap (λ o. option_map (λ (x : ℕ × ℕ). x.0) (unwrap_or o None)) sizes ∙ sym w)
          (ap (λ o. option_map (λ (x : ℕ × ℕ). x.1) (unwrap_or o None)) sizes ∙ sym h)
          (flag_back 0 t g) (grid_back 0 t g),
    )

writes_sizes : {A : Type 0} (s : Sixel A) (x y : ℕ) → s.pixel_width ≡ Some x
    → s.pixel_height ≡ Some y → AreSizes (Some x) (Some y) → IsWritable s
    → WritesBack s
writes_sizes {A = A} s x y w h small ok =
    let t = s.background_is_transparent in
    let g = s.horizontal_grid_size in
    let text = content_text s.content in
    let data_ok = ok.1.1.1.1 in
    let grid_ok = ok.1.1.1.0 in
    let ps = pos 0 ∷ flag_number t ∷ grid_list g in
    let x_small = small.0 in
    let y_small = small.1.0 in
    let texts = signed_decimal s.pad ∷ decimal x ∷ decimal y ∷ [] in
    let ns = natural s.pad ∷ x ∷ y ∷ [] in
    let run = semicolon_list (signed_decimal s.pan ∷ texts) in
    let slices : AreSlices (signed_decimal s.pan ∷ texts) (natural s.pan ∷ ns) = (
      natural_slice s.pan ok.0,
      (
        natural_slice s.pad ok.1.0,
        (
          decimal_slice x (omega (arith, x_small)),
          (decimal_slice y (omega (arith, y_small)), tt),
        ),
      ),
    ) in
    let numbers : numbers_after None run ≡ Some (natural s.pan) ∷ Some (natural s.pad) ∷ Some x
    ∷ Some y ∷ [] =
    run_numbers (signed_decimal s.pan) texts (natural s.pan) ns slices in
    let count : separators run ≡ 3 =
    run_separators (signed_decimal s.pan) texts (natural s.pan) ns slices in
    let bytes : list_all is_parameter_byte run ≡ true =
    run_bytes (signed_decimal s.pan) texts (natural s.pan) ns slices in
    let width : size_of run 2 ≡ Some x =
    size_at run 2 x (param_at run _ 2 x numbers refl (omega (arith, x_small))) x_small in
    let height : size_of run 3 ≡ Some y =
    size_at run 3 y (param_at run _ 3 y numbers refl (omega (arith, y_small))) y_small in
    let both : sizes_of run ≡ Some (x, y) = sizes_at run x y width height small.1.1 in
    let sizes : raster_sizes (OfRaster run) ≡ Some (Some (x, y)) =
    ap (λ n. some_if (nat_le 3 n) (sizes_of run)) count ∙ ap Some both in
    let fits : is_oversize (OfRaster run) ≡ false =
    ap (λ n. nat_le 3 n && not (is_some (sizes_of run))) count ∙ ap (λ o. not (is_some o)) both in (
      0x3b ∷ background_text t g,
      0x22 ∷ (run ++ text),
      output_is s _ data_ok (ap (λ o. header_by o (short_form s.pan s.pad) s ++ text) w
          ∙ text_sizes s x y (short_form s.pan s.pad) h),
      background_bytes t g grid_ok,
      raster_bytes run text bytes (content_bytes s.content data_ok),
      ap (λ k. sixel_of {A = A} k (items (0x22 ∷ (run ++ text)))) (params_plain t g grid_ok)
          ∙ raster_image s ps run data_ok bytes
          (number_is run _ 0 2 s.pan numbers refl ok.0)
          (number_is run _ 1 1 s.pad numbers refl ok.1.0) fits
          (ap (λ o. option_map (λ (k : ℕ × ℕ). k.0) (unwrap_or o None)) sizes ∙ sym w)
          (ap (λ o. option_map (λ (k : ℕ × ℕ). k.1) (unwrap_or o None)) sizes ∙ sym h)
          (flag_back 0 t g) (grid_back 0 t g),
    )

by_form : {A : Type 0} (s : Sixel A) (m : Option (List ℕ)) → short_form s.pan s.pad ≡ m
    → MeansIn s.pan s.pad m
    → s.pixel_width ≡ None → s.pixel_height ≡ None → IsWritable s → WritesBack s
by_form s None e k w h ok = writes_ratio s e w h ok
by_form s (Some m) e k w h ok = writes_first s m e k w h ok

by_sizes : {A : Type 0} (s : Sixel A) (w h : Option ℕ) → s.pixel_width ≡ w → s.pixel_height ≡ h
    → AreSizes w h → IsWritable s → WritesBack s
by_sizes s None None e f k ok = by_form s (short_form s.pan s.pad) refl (means s.pan s.pad) e f ok
by_sizes s (Some x) (Some y) e f k ok = writes_sizes s x y e f k ok
by_sizes s None (Some y) e f k ok = absurd k
by_sizes s (Some x) None e f k ok = absurd k

pub writes_back : {A : Type 0} (s : Sixel A) → IsWritable s → WritesBack s
writes_back s ok = by_sizes s s.pixel_width s.pixel_height refl refl ok.1.1.0 ok
