-- The fields of kitty's images.
use Rattle.std.specs.Prelude.{ℕ, ℤ, pos, Bool, List, [], ◌∷◌, ◌++◌, Option, Some, None}
use Rattle.std.specs.List.{flat_map}
use Rattle.std.specs.Option.{option_map}
use Rattle.esc_kitty.specs.Texts.{offset_in, size_in}
use Rattle.esc_kitty.specs.declared.compose.KittyImageFrameCompose.{KittyImageFrameCompose}
use Rattle.esc_kitty.specs.declared.composition.KittyFrameCompositionMode.{KittyFrameCompositionMode}
use Rattle.esc_kitty.specs.declared.composition.KittyFrameCompositionMode.TheVariants.{AlphaBlending, Overwrite}
use Rattle.esc_kitty.specs.declared.compression.KittyImageCompression.{KittyImageCompression}
use Rattle.esc_kitty.specs.declared.compression.KittyImageCompression.TheVariants as compression
use Rattle.esc_kitty.specs.declared.content.KittyImageData.{KittyImageData}
use Rattle.esc_kitty.specs.declared.content.KittyImageData.TheVariants.{Direct, DirectBin, File, TemporaryFile, SharedMem}
use Rattle.esc_kitty.specs.declared.delete.KittyImageDelete.{KittyImageDelete}
use Rattle.esc_kitty.specs.declared.delete.KittyImageDelete.TheVariants as delete
use Rattle.esc_kitty.specs.declared.format.KittyImageFormat.{KittyImageFormat}
use Rattle.esc_kitty.specs.declared.format.KittyImageFormat.TheVariants.{Rgb, Rgba, Png}
use Rattle.esc_kitty.specs.declared.frame.KittyImageFrame.{KittyImageFrame}
use Rattle.esc_kitty.specs.declared.image.KittyImage.{KittyImage}
use Rattle.esc_kitty.specs.declared.image.KittyImage.TheVariants as image
use Rattle.esc_kitty.specs.declared.placement.KittyImagePlacement.{KittyImagePlacement}
use Rattle.esc_kitty.specs.declared.transmit.KittyImageTransmit.{KittyImageTransmit}
use Rattle.esc_kitty.specs.declared.verbosity.KittyImageVerbosity.{KittyImageVerbosity}
use Rattle.esc_kitty.specs.declared.verbosity.KittyImageVerbosity.TheVariants.{Verbose, OnlyErrors, Quiet}
use Rattle.flat_values.specs.Fields.{Field, flag_number, signed_field, text_field}
use Rattle.flat_values.specs.declared.field_name.FieldName.{FieldName}
use Rattle.flat_values.specs.declared.field_name.FieldName.TheVariants as name

-- names, each with its number where it has one
abbrev pub Numbers : Type 0
Numbers = List (FieldName × Option ℤ)

-- a field, where there is a number, and those of several
abbrev pub optional_field : FieldName → Option ℤ → List Field
optional_field n None = []
optional_field n (Some z) = signed_field n z ∷ []

abbrev pub given_fields : FieldName × Option ℤ → List Field
given_fields s = optional_field s.0 s.1

abbrev pub number_fields : Numbers → List Field
number_fields ns = flat_map given_fields ns

-- a number from 0 up where there is one, one that is always there, and a flag, which is always
-- there
abbrev pub counted_field : Option ℕ → Option ℤ
counted_field o = option_map pos o

abbrev pub known_field : ℕ → Option ℤ
known_field n = Some (pos n)

abbrev pub flag_field : Bool → Option ℤ
flag_field b = Some (flag_number b)

-- the number of a verbosity; then those of the protocol's other words: formats and verbosities
-- have the numbers of the protocol
abbrev pub verbosity_number : KittyImageVerbosity → ℕ
verbosity_number Verbose = 0
verbosity_number OnlyErrors = 1
verbosity_number Quiet = 2

abbrev pub format_number : KittyImageFormat → ℕ
format_number Rgb = 24
format_number Rgba = 32
format_number Png = 100

abbrev pub compression_number : KittyImageCompression → ℕ
compression_number compression.None = 0
compression_number compression.Deflate = 1

abbrev pub composition_number : KittyFrameCompositionMode → ℕ
composition_number AlphaBlending = 0
composition_number Overwrite = 1

module _ {A : Type 0} where
  -- the medium of an image, which is one of five; then its text
  abbrev pub medium_number : KittyImageData A → ℕ
  medium_number (Direct t) = 0
  medium_number (DirectBin t) = 1
  medium_number (File t s o) = 2
  medium_number (TemporaryFile t s o) = 3
  medium_number (SharedMem t s o) = 4

  abbrev pub bytes_of : KittyImageData A → List ℕ
  bytes_of (Direct t) = t
  bytes_of (DirectBin t) = t
  bytes_of (File t s o) = t
  bytes_of (TemporaryFile t s o) = t
  bytes_of (SharedMem t s o) = t

  -- an image on its way: its text, and its numbers
  abbrev pub content_field : KittyImageTransmit A → Field
  content_field t = text_field name.Content (bytes_of t.content)

  abbrev pub transmit_numbers : KittyImageTransmit A → Numbers
  transmit_numbers t =
      (name.Medium, known_field (medium_number t.content))
      ∷ (name.DataSize, counted_field (size_in t.content))
      ∷ (name.DataOffset, counted_field (offset_in t.content))
      ∷ (name.Format, counted_field (option_map format_number t.format))
      ∷ (name.PixelWidth, counted_field t.width)
      ∷ (name.PixelHeight, counted_field t.height)
      ∷ (name.ImageId, counted_field t.image_id)
      ∷ (name.ImageNumber, counted_field t.image_number)
      ∷ (name.Compression, known_field (compression_number t.compression))
      ∷ (name.MoreDataFollows, flag_field t.more_data_follows) ∷ []

-- how an image is shown
abbrev pub placement_sizes : KittyImagePlacement → Numbers
placement_sizes p =
    (name.X, counted_field p.x)
    ∷ (name.Y, counted_field p.y)
    ∷ (name.Width, counted_field p.w)
    ∷ (name.Height, counted_field p.h)
    ∷ (name.XOffset, counted_field p.x_offset)
    ∷ (name.YOffset, counted_field p.y_offset)
    ∷ (name.Columns, counted_field p.columns)
    ∷ (name.Rows, counted_field p.rows)
    ∷ (name.PlacementId, counted_field p.placement_id)
    ∷ (name.DoNotMoveCursor, flag_field p.do_not_move_cursor) ∷ []

abbrev pub placement_numbers : KittyImagePlacement → Numbers
placement_numbers p = placement_sizes p
    ++ (name.ZIndex, p.z_index) ∷ (name.UnicodePlaceholder, flag_field p.unicode_placeholder) ∷ []

-- a frame that is sent, and frames that are put over others
abbrev pub frame_numbers : KittyImageFrame → Numbers
frame_numbers f =
    (name.X, counted_field f.x)
    ∷ (name.Y, counted_field f.y)
    ∷ (name.BaseFrame, counted_field f.base_frame)
    ∷ (name.FrameNumber, counted_field f.frame_number)
    ∷ (name.Duration, counted_field f.duration_ms)
    ∷ (name.CompositionMode, known_field (composition_number f.composition_mode))
    ∷ (name.BackgroundPixel, counted_field f.background_pixel) ∷ []

abbrev pub compose_numbers : KittyImageFrameCompose → Numbers
compose_numbers c =
    (name.ImageId, counted_field c.image_id)
    ∷ (name.ImageNumber, counted_field c.image_number)
    ∷ (name.TargetFrame, counted_field c.target_frame)
    ∷ (name.SourceFrame, counted_field c.source_frame)
    ∷ (name.X, counted_field c.x)
    ∷ (name.Y, counted_field c.y)
    ∷ (name.Width, counted_field c.w)
    ∷ (name.Height, counted_field c.h)
    ∷ (name.SourceX, counted_field c.src_x)
    ∷ (name.SourceY, counted_field c.src_y)
    ∷ (name.CompositionMode, known_field (composition_number c.composition_mode)) ∷ []

-- the images, columns or rows of a deletion; then its order
abbrev pub delete_places : KittyImageDelete → Numbers
delete_places (delete.ByImageId i p d) =
    (name.ImageId, known_field i) ∷ (name.PlacementId, counted_field p) ∷ []
delete_places (delete.ByImageNumber n p d) =
    (name.ImageNumber, known_field n) ∷ (name.PlacementId, counted_field p) ∷ []
delete_places (delete.DeleteAt x y d) = (name.X, known_field x) ∷ (name.Y, known_field y) ∷ []
delete_places (delete.DeleteAtZ x y z d) = (name.X, known_field x) ∷ (name.Y, known_field y) ∷ []
delete_places (delete.DeleteColumn x d) = (name.X, known_field x) ∷ []
delete_places (delete.DeleteRow y d) = (name.Y, known_field y) ∷ []
delete_places (delete.ByImageIdRange f l d) =
    (name.FirstImageId, known_field f) ∷ (name.LastImageId, known_field l) ∷ []
delete_places w = []

abbrev pub delete_order : KittyImageDelete → Option ℤ
delete_order (delete.DeleteAtZ x y z d) = Some z
delete_order (delete.DeleteZ z d) = Some z
delete_order w = None

-- whether the data too
abbrev pub deletes_data : KittyImageDelete → Bool
deletes_data (delete.All d) = d
deletes_data (delete.ByImageId i p d) = d
deletes_data (delete.ByImageNumber n p d) = d
deletes_data (delete.AtCursorPosition d) = d
deletes_data (delete.AnimationFrames d) = d
deletes_data (delete.DeleteAt x y d) = d
deletes_data (delete.DeleteAtZ x y z d) = d
deletes_data (delete.DeleteColumn x d) = d
deletes_data (delete.DeleteRow y d) = d
deletes_data (delete.DeleteZ z d) = d
deletes_data (delete.ByImageIdRange f l d) = d

abbrev pub delete_numbers : KittyImageDelete → Numbers
delete_numbers w = delete_places w
    ++ (name.ZIndex, delete_order w) ∷ (name.DeletesData, flag_field (deletes_data w)) ∷ []

-- the id and the number of an image that is kept
abbrev pub id_numbers : Option ℕ → Option ℕ → Numbers
id_numbers i n = (name.ImageId, counted_field i) ∷ (name.ImageNumber, counted_field n) ∷ []

-- the number of the verbosity
abbrev pub verbosity_numbers : KittyImageVerbosity → Numbers
verbosity_numbers v = (name.Verbosity, known_field (verbosity_number v)) ∷ []

module _ {A : Type 0} where
  -- These are the fields of an image: the text of a transmission, and numbers by name; those that
  -- are not given are absent. With its kind they are the whole of it, as the law `images_are_whole`
  -- says.
  abbrev pub image_fields : KittyImage A → List Field
  image_fields (image.TransmitData t v) =
      content_field t ∷ number_fields (transmit_numbers t ++ verbosity_numbers v)
  image_fields (image.TransmitDataAndDisplay t p v) = content_field t
      ∷ number_fields (transmit_numbers t ++ (placement_numbers p ++ verbosity_numbers v))
  image_fields (image.Display i n p v) =
      number_fields (id_numbers i n ++ (placement_numbers p ++ verbosity_numbers v))
  image_fields (image.Delete w v) = number_fields (delete_numbers w ++ verbosity_numbers v)
  image_fields (image.Query t) = content_field t ∷ number_fields (transmit_numbers t)
  image_fields (image.TransmitFrame t f v) = content_field t
      ∷ number_fields (transmit_numbers t ++ (frame_numbers f ++ verbosity_numbers v))
  image_fields (image.ComposeFrame f v) =
      number_fields (compose_numbers f ++ verbosity_numbers v)

  -- and of none
  abbrev pub fields_of_image : Option (KittyImage A) → List Field
  fields_of_image None = []
  fields_of_image (Some i) = image_fields i
