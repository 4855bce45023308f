-- The parts of kitty's images are read from their numbers, by a reading that gives parts within
-- bounds as they are.
use Rattle.std.proofs.Common.{ℕ, ℤ, zero, suc, pos, ◌≡◌, ◌==◌, ◌^◌, Bool, true, false, if◌then◌else◌, List, [], ◌∷◌, ◌++◌, get_or, Option, Some, None, option_map, map, refl, ap, ◌∙◌}
use Rattle.esc_kitty.specs.Texts.{offset_in, size_in}
use Rattle.esc_kitty.specs.declared.compose.KittyImageFrameCompose.{KittyImageFrameCompose}
use Rattle.esc_kitty.specs.declared.composition.KittyFrameCompositionMode.{KittyFrameCompositionMode}
use Rattle.esc_kitty.specs.declared.composition.KittyFrameCompositionMode.TheVariants.{AlphaBlending, Overwrite}
use Rattle.esc_kitty.specs.declared.compression.KittyImageCompression.{KittyImageCompression}
use Rattle.esc_kitty.specs.declared.compression.KittyImageCompression.TheVariants as compression
use Rattle.esc_kitty.specs.declared.content.KittyImageData.{KittyImageData}
use Rattle.esc_kitty.specs.declared.content.KittyImageData.TheVariants.{Direct, DirectBin, File, TemporaryFile, SharedMem}
use Rattle.esc_kitty.specs.declared.format.KittyImageFormat.{KittyImageFormat}
use Rattle.esc_kitty.specs.declared.format.KittyImageFormat.TheVariants.{Rgb, Rgba, Png}
use Rattle.esc_kitty.specs.declared.frame.KittyImageFrame.{KittyImageFrame}
use Rattle.esc_kitty.specs.declared.placement.KittyImagePlacement.{KittyImagePlacement}
use Rattle.esc_kitty.specs.declared.transmit.KittyImageTransmit.{KittyImageTransmit}
use Rattle.esc_kitty.specs.declared.verbosity.KittyImageVerbosity.{KittyImageVerbosity}
use Rattle.esc_kitty.specs.declared.verbosity.KittyImageVerbosity.TheVariants.{Verbose, OnlyErrors, Quiet}
use Rattle.flat_values.proofs.ValuesBack.{Fits}
use Rattle.flat_values.specs.Fields.{Field, name_number, named_values}
use Rattle.flat_values.specs.Fields.Value.{Text}
use Rattle.flat_values.specs.Found.{Reading}
use Rattle.flat_values.specs.FoundImages.{compose_in, composition_of, compression_of, content_of, count, flag, format_in, frame_in, count_or_zero, look, order, placement_in, transmit_in, verbosity_in, verbosity_of}
use Rattle.flat_values.specs.Held.{AreWithin, Bounds}
use Rattle.flat_values.specs.HeldImages.{AreCounts, IsCount, IsOrder, IsPlacement, IsTransmit, compose_counts, content_parts, frame_counts, placement_counts, transmit_counts}
use Rattle.flat_values.specs.Images.{Numbers, bytes_of, compose_numbers, composition_number, compression_number, counted_field, flag_field, format_number, frame_numbers, medium_number, number_fields, optional_field, placement_numbers, transmit_numbers, verbosity_number, verbosity_numbers}
use Rattle.flat_values.specs.declared.field_name.FieldName.{FieldName}

-- whether it is this name
abbrev is : FieldName → FieldName → Bool
is n m = name_number m == name_number n

-- the number found among numbers: the first, by those after it
abbrev earlier : Option ℤ → Option ℤ → Option ℤ
earlier None o = o
earlier (Some z) None = Some z
earlier (Some z) (Some y) = Some y

abbrev pub seek : Numbers → FieldName → Option ℤ
seek [] n = None
seek (s ∷ ss) n = if is n s.0 then earlier (seek ss n) s.1 else seek ss n

none_earlier : (b : Bool) (o : Option ℤ) → o ≡ if b then earlier o None else o
none_earlier false o = refl
none_earlier true None = refl
none_earlier true (Some z) = refl

one_earlier : (b : Bool) (z : ℤ) (o : Option ℤ)
    → (if b then Some z else o) ≡ if b then earlier o (Some z) else o
one_earlier false z o = refl
one_earlier true z None = refl
one_earlier true z (Some y) = refl

first_seen : (n m : FieldName) (o : Option ℤ) (fs : List Field)
    → look (map named_values (optional_field m o ++ fs)) n
    ≡ if is n m then earlier (look (map named_values fs) n) o else look (map named_values fs) n
first_seen n m None fs = none_earlier (is n m) (look (map named_values fs) n)
first_seen n m (Some z) fs = one_earlier (is n m) z (look (map named_values fs) n)

seen_at : (ss : Numbers) (n : FieldName) → look (map named_values (number_fields ss)) n ≡ seek ss n
seen_at [] n = refl
seen_at (s ∷ ss) n = first_seen n s.0 s.1 (number_fields ss)
    ∙ ap (λ o. if is n s.0 then earlier o s.1 else o) (seen_at ss n)

pub seen : (ss : Numbers) → look (map named_values (number_fields ss)) ≡ seek ss
seen ss = λ k n. seen_at ss n k

-- words by their numbers
verbosity_is : (v : KittyImageVerbosity) → verbosity_of (verbosity_number v) ≡ v
verbosity_is Verbose = refl
verbosity_is OnlyErrors = refl
verbosity_is Quiet = refl

format_is : (o : Option KittyImageFormat)
    → format_in (counted_field (option_map format_number o)) ≡ o
format_is None = refl
format_is (Some Rgb) = refl
format_is (Some Rgba) = refl
format_is (Some Png) = refl

compression_is : (c : KittyImageCompression) → compression_of (compression_number c) ≡ c
compression_is compression.None = refl
compression_is compression.Deflate = refl

composition_is : (m : KittyFrameCompositionMode) → composition_of (composition_number m) ≡ m
composition_is AlphaBlending = refl
composition_is Overwrite = refl

-- flags and verbosities read back
pub flag_back : (b : Bool) → flag (flag_field b) ≡ b
flag_back false = refl
flag_back true = refl

pub verbosity_back : (v : KittyImageVerbosity) → verbosity_in (seek (verbosity_numbers v)) ≡ v
verbosity_back v = verbosity_is v

module _ (r : Reading) (b : Bounds) (f : Fits r b) where
  -- numbers within bounds
  pub known_back : (n : ℕ) → b.Number (2 ^ 32) n → count_or_zero r (Some (pos n)) ≡ n
  known_back n h = f.number (2 ^ 32) n h

  pub count_back : (o : Option ℕ) → IsCount b o → count r (counted_field o) ≡ o
  count_back None h = refl
  count_back (Some n) h = ap Some (f.number (2 ^ 32) n h)

  pub order_back : (o : Option ℤ) → IsOrder b o → order r o ≡ o
  order_back None h = refl
  order_back (Some z) h = ap Some (f.signed z h)

  -- the number at a place among those within bounds
  pub at : (i : ℕ) (os : List (Option ℕ)) → AreCounts b os
      → count r (counted_field (get_or os i None)) ≡ get_or os i None
  at i [] h = refl
  at zero (o ∷ os) h = count_back o h.0
  at (suc i) (o ∷ os) h = at i os h.1

  -- how an image is shown
  pub placement_back : (p : KittyImagePlacement) → IsPlacement b p
      → placement_in r (seek (placement_numbers p)) ≡ p
  placement_back p h = let ns = placement_counts p in λ k. record {
    x = at 0 ns h.0 k;
    y = at 1 ns h.0 k;
    w = at 2 ns h.0 k;
    h = at 3 ns h.0 k;
    x_offset = at 4 ns h.0 k;
    y_offset = at 5 ns h.0 k;
    columns = at 6 ns h.0 k;
    rows = at 7 ns h.0 k;
    placement_id = at 8 ns h.0 k;
    do_not_move_cursor = flag_back p.do_not_move_cursor k;
    z_index = order_back p.z_index h.1 k;
    unicode_placeholder = flag_back p.unicode_placeholder k;
  }

  -- frames
  pub frame_back : (x : KittyImageFrame) → AreCounts b (frame_counts x)
      → frame_in r (seek (frame_numbers x)) ≡ x
  frame_back x h = let ns = frame_counts x in λ k. record {
    x = at 0 ns h k;
    y = at 1 ns h k;
    base_frame = at 2 ns h k;
    frame_number = at 3 ns h k;
    duration_ms = at 4 ns h k;
    composition_mode = composition_is x.composition_mode k;
    background_pixel = at 5 ns h k;
  }

  pub compose_back : (x : KittyImageFrameCompose) → AreCounts b (compose_counts x)
      → compose_in r (seek (compose_numbers x)) ≡ x
  compose_back x h = let ns = compose_counts x in λ k. record {
    image_id = at 0 ns h k;
    image_number = at 1 ns h k;
    target_frame = at 2 ns h k;
    source_frame = at 3 ns h k;
    x = at 4 ns h k;
    y = at 5 ns h k;
    w = at 6 ns h k;
    h = at 7 ns h k;
    src_x = at 8 ns h k;
    src_y = at 9 ns h k;
    composition_mode = composition_is x.composition_mode k;
  }

  -- the content of an image reads back
  content_is : {A : Type 0} (c : KittyImageData A) → AreWithin b (content_parts c)
      → IsCount b (size_in c) → IsCount b (offset_in c)
      → content_of r (medium_number c) (Text (bytes_of c)) (count r (counted_field (size_in c)))
      (count r (counted_field (offset_in c))) ≡ c
  content_is (Direct t) h u v = ap Direct (f.text t h.0)
  content_is (DirectBin t) h u v = refl
  content_is (File t s o) h u v =
      λ k. File (f.text t h.0 k) (count_back s u k) (count_back o v k)
  content_is (TemporaryFile t s o) h u v =
      λ k. TemporaryFile (f.text t h.0 k) (count_back s u k) (count_back o v k)
  content_is (SharedMem t s o) h u v =
      λ k. SharedMem (f.text t h.0 k) (count_back s u k) (count_back o v k)

  -- an image on its way
  pub transmit_back : {A : Type 0} (t : KittyImageTransmit A) → IsTransmit b t
      → transmit_in r (Text (bytes_of t.content)) (seek (transmit_numbers t)) ≡ t
  transmit_back t h =
      let ns = transmit_counts t in
      let content = content_is t.content h.1 h.0.1.1.1.1.0 h.0.1.1.1.1.1.0 in
      λ k. record {
        format = format_is t.format k;
        content = content k;
        width = at 0 ns h.0 k;
        height = at 1 ns h.0 k;
        image_id = at 2 ns h.0 k;
        image_number = at 3 ns h.0 k;
        compression = compression_is t.compression k;
        more_data_follows = flag_back t.more_data_follows k;
      }
