-- The image of kitty's that a kind and rows say.
use Rattle.std.specs.Prelude.{ℕ, ℤ, pos, ◌==◌, ◌^◌, Bool, true, false, if◌then◌else◌, List, [], ◌∷◌, Option, Some, None, Result, Ok, Err, get_or}
use Rattle.std.specs.Option.{option_map}
use Rattle.esc_kitty.specs.declared.compose.KittyImageFrameCompose.{KittyImageFrameCompose}
use Rattle.esc_kitty.specs.declared.composition.KittyFrameCompositionMode.{KittyFrameCompositionMode}
use Rattle.esc_kitty.specs.declared.composition.KittyFrameCompositionMode.TheVariants.{AlphaBlending, Overwrite}
use Rattle.esc_kitty.specs.declared.compression.KittyImageCompression.{KittyImageCompression}
use Rattle.esc_kitty.specs.declared.compression.KittyImageCompression.TheVariants as compression
use Rattle.esc_kitty.specs.declared.content.KittyImageData.{KittyImageData}
use Rattle.esc_kitty.specs.declared.content.KittyImageData.TheVariants.{Direct, DirectBin, File, TemporaryFile, SharedMem}
use Rattle.esc_kitty.specs.declared.delete.KittyImageDelete.{KittyImageDelete}
use Rattle.esc_kitty.specs.declared.delete.KittyImageDelete.TheVariants as delete
use Rattle.esc_kitty.specs.declared.format.KittyImageFormat.{KittyImageFormat}
use Rattle.esc_kitty.specs.declared.format.KittyImageFormat.TheVariants.{Rgb, Rgba, Png}
use Rattle.esc_kitty.specs.declared.frame.KittyImageFrame.{KittyImageFrame}
use Rattle.esc_kitty.specs.declared.image.KittyImage.{KittyImage}
use Rattle.esc_kitty.specs.declared.image.KittyImage.TheVariants as image
use Rattle.esc_kitty.specs.declared.placement.KittyImagePlacement.{KittyImagePlacement}
use Rattle.esc_kitty.specs.declared.transmit.KittyImageTransmit.{KittyImageTransmit}
use Rattle.esc_kitty.specs.declared.verbosity.KittyImageVerbosity.{KittyImageVerbosity}
use Rattle.esc_kitty.specs.declared.verbosity.KittyImageVerbosity.TheVariants.{Verbose, OnlyErrors, Quiet}
use Rattle.flat_values.specs.Fields.{Value, text_of}
use Rattle.flat_values.specs.Found.{NamedValue, Reading, after, first, is_named, magnitude, number_of, string_of}
use Rattle.flat_values.specs.declared.field_name.FieldName.{FieldName}
use Rattle.flat_values.specs.declared.field_name.FieldName.TheVariants as name
use Rattle.flat_values.specs.declared.image_forms.Deletion.{Deletion}
use Rattle.flat_values.specs.declared.image_forms.Deletion.TheVariants as deletion
use Rattle.flat_values.specs.declared.image_forms.ImageForm.{ImageForm}
use Rattle.flat_values.specs.declared.image_forms.ImageForm.TheVariants as form
use Rattle.flat_values.specs.declared.image_forms.Sending.{Sending}
use Rattle.flat_values.specs.declared.image_forms.Sending.TheVariants as sending
use Rattle.flat_values.specs.declared.image_forms.TheConstants.{IMAGE_FORMS}

-- how the image of the kind of this number is read
abbrev pub image_form_at : ℕ → ImageForm
image_form_at n = get_or IMAGE_FORMS n form.Nothing

-- the number of the first row of a name, where there is one
abbrev pub look : List NamedValue → FieldName → Option ℤ
look [] n = None
look (s ∷ ss) n = if is_named n s then Some (number_of s.1) else look ss n

-- the number that was found for each name
abbrev pub Numbered : Type 0
Numbered = FieldName → Option ℤ

-- a number from 0 up, 0 where there is none, and whether it is 1
abbrev pub natural : Option ℤ → ℕ
natural None = 0
natural (Some z) = magnitude z

abbrev pub flag : Option ℤ → Bool
flag o = natural o == 1

-- numbers by a reading: one that may be absent, one that is always there, and the same where it may
-- be negative
abbrev pub count : Reading → Option ℤ → Option ℕ
count r o = option_map (λ z. r.number (2 ^ 32) (magnitude z)) o

abbrev pub count_or_zero : Reading → Option ℤ → ℕ
count_or_zero r o = r.number (2 ^ 32) (natural o)

abbrev pub order : Reading → Option ℤ → Option ℤ
order r o = option_map r.signed o

abbrev pub known_order : Reading → Option ℤ → ℤ
known_order r None = pos 0
known_order r (Some z) = r.signed z

-- the values of the protocol's words by their numbers
abbrev pub verbosity_of : ℕ → KittyImageVerbosity
verbosity_of n = if n == 0 then Verbose else if n == 1 then OnlyErrors else Quiet

abbrev pub format_of : ℕ → KittyImageFormat
format_of n = if n == 24 then Rgb else if n == 32 then Rgba else Png

abbrev pub compression_of : ℕ → KittyImageCompression
compression_of n = if n == 0 then compression.None else compression.Deflate

abbrev pub composition_of : ℕ → KittyFrameCompositionMode
composition_of n = if n == 0 then AlphaBlending else Overwrite

-- the verbosity; then the format of pixels
abbrev pub verbosity_in : Numbered → KittyImageVerbosity
verbosity_in l = verbosity_of (natural (l name.Verbosity))

abbrev pub format_in : Option ℤ → Option KittyImageFormat
format_in o = option_map (λ z. format_of (magnitude z)) o

module _ {A : Type 0} where
  -- the content of an image: by its medium, which is one of five, its text, its size and its
  -- offset
  abbrev pub content_of : Reading → ℕ → Value → Option ℕ → Option ℕ → KittyImageData A
  content_of r n v s o = if n == 0 then Direct (string_of r v)
      else if n == 1 then DirectBin (text_of v)
      else if n == 2 then File (string_of r v) s o
      else if n == 3 then TemporaryFile (string_of r v) s o else SharedMem (string_of r v) s o

  -- an image on its way
  abbrev pub transmit_in : Reading → Value → Numbered → KittyImageTransmit A
  transmit_in r v l = record {
    format = format_in (l name.Format);
    content = content_of r (natural (l name.Medium)) v (count r (l name.DataSize))
        (count r (l name.DataOffset));
    width = count r (l name.PixelWidth);
    height = count r (l name.PixelHeight);
    image_id = count r (l name.ImageId);
    image_number = count r (l name.ImageNumber);
    compression = compression_of (natural (l name.Compression));
    more_data_follows = flag (l name.MoreDataFollows);
  }

-- how an image is shown
abbrev pub placement_in : Reading → Numbered → KittyImagePlacement
placement_in r l = record {
  x = count r (l name.X);
  y = count r (l name.Y);
  w = count r (l name.Width);
  h = count r (l name.Height);
  x_offset = count r (l name.XOffset);
  y_offset = count r (l name.YOffset);
  columns = count r (l name.Columns);
  rows = count r (l name.Rows);
  placement_id = count r (l name.PlacementId);
  do_not_move_cursor = flag (l name.DoNotMoveCursor);
  z_index = order r (l name.ZIndex);
  unicode_placeholder = flag (l name.UnicodePlaceholder);
}

-- frames
abbrev pub frame_in : Reading → Numbered → KittyImageFrame
frame_in r l = record {
  x = count r (l name.X);
  y = count r (l name.Y);
  base_frame = count r (l name.BaseFrame);
  frame_number = count r (l name.FrameNumber);
  duration_ms = count r (l name.Duration);
  composition_mode = composition_of (natural (l name.CompositionMode));
  background_pixel = count r (l name.BackgroundPixel);
}

abbrev pub compose_in : Reading → Numbered → KittyImageFrameCompose
compose_in r l = record {
  image_id = count r (l name.ImageId);
  image_number = count r (l name.ImageNumber);
  target_frame = count r (l name.TargetFrame);
  source_frame = count r (l name.SourceFrame);
  x = count r (l name.X);
  y = count r (l name.Y);
  w = count r (l name.Width);
  h = count r (l name.Height);
  src_x = count r (l name.SourceX);
  src_y = count r (l name.SourceY);
  composition_mode = composition_of (natural (l name.CompositionMode));
}

-- a deletion
abbrev pub deleted_in : Reading → Deletion → Numbered → KittyImageDelete
deleted_in r deletion.All l = delete.All (flag (l name.DeletesData))
deleted_in r deletion.ImageId l = delete.ByImageId (count_or_zero r (l name.ImageId))
    (count r (l name.PlacementId)) (flag (l name.DeletesData))
deleted_in r deletion.ImageNumber l = delete.ByImageNumber (count_or_zero r (l name.ImageNumber))
    (count r (l name.PlacementId)) (flag (l name.DeletesData))
deleted_in r deletion.AtCursor l = delete.AtCursorPosition (flag (l name.DeletesData))
deleted_in r deletion.Frames l = delete.AnimationFrames (flag (l name.DeletesData))
deleted_in r deletion.At l =
    delete.DeleteAt (count_or_zero r (l name.X)) (count_or_zero r (l name.Y))
    (flag (l name.DeletesData))
deleted_in r deletion.AtZ l =
    delete.DeleteAtZ (count_or_zero r (l name.X)) (count_or_zero r (l name.Y))
    (known_order r (l name.ZIndex)) (flag (l name.DeletesData))
deleted_in r deletion.Column l = delete.DeleteColumn (count_or_zero r (l name.X))
    (flag (l name.DeletesData))
deleted_in r deletion.Row l =
    delete.DeleteRow (count_or_zero r (l name.Y)) (flag (l name.DeletesData))
deleted_in r deletion.Z l = delete.DeleteZ (known_order r (l name.ZIndex))
    (flag (l name.DeletesData))
deleted_in r deletion.Range l = delete.ByImageIdRange (count_or_zero r (l name.FirstImageId))
    (count_or_zero r (l name.LastImageId)) (flag (l name.DeletesData))

module _ {A : Type 0} where
  -- an image that has a text, by its sending
  abbrev pub sent_in : Reading → Sending → KittyImageTransmit A → Numbered → KittyImage A
  sent_in r sending.Kept t l = image.TransmitData t (verbosity_in l)
  sent_in r sending.Shown t l =
      image.TransmitDataAndDisplay t (placement_in r l) (verbosity_in l)
  sent_in r sending.Asked t l = image.Query t
  sent_in r sending.Frame t l = image.TransmitFrame t (frame_in r l) (verbosity_in l)

  -- the image of a form: of those that have a text it is the first row
  abbrev pub image_in : Reading → ImageForm → List NamedValue → Option (KittyImage A)
  image_in r form.Nothing ss = None
  image_in r (form.Sent s) ss = Some (sent_in r s (transmit_in r (first ss) (look (after ss)))
      (look (after ss)))
  image_in r form.Displayed ss = Some (image.Display (count r (look ss name.ImageId))
      (count r (look ss name.ImageNumber)) (placement_in r (look ss)) (verbosity_in (look ss)))
  image_in r form.Composed ss = Some (image.ComposeFrame (compose_in r (look ss))
      (verbosity_in (look ss)))
  image_in r (form.Deleted d) ss = Some (image.Delete (deleted_in r d (look ss))
      (verbosity_in (look ss)))

-- a value, where there is one and it is kept
abbrev pub kept_some : {T E : Type 0} → Option T → Result Bool E → Result (Option T) E
kept_some o (Ok true) = Ok o
kept_some o (Ok false) = Ok None
kept_some o (Err e) = Err e
