-- Which images read back from their text.
use Rattle.std.specs.Prelude.{ℕ, ◌≡◌, ◌<◌, ◌^◌, Bool, true, nat_le, ◌&&◌, Some}
use Rattle.std.specs.List.{list_all}
use Rattle.std.specs.Str.{IsUtf8}
use Rattle.esc_values.specs.Scalars.{IsSigned}
use Rattle.esc_values.specs.Fields.{FitAll}
use Rattle.esc_kitty.specs.Formats.{compose_fields, frame_fields, placement_fields, transmit_fields}
use Rattle.esc_kitty.specs.Images.{image_of}
use Rattle.esc_kitty.specs.Kinds.{IsNumber}
use Rattle.esc_kitty.specs.Texts.{image_body}
use Rattle.esc_kitty.specs.declared.content.KittyImageData.{KittyImageData}
use Rattle.esc_kitty.specs.declared.content.KittyImageData.TheVariants.{Direct, DirectBin, File, TemporaryFile, SharedMem}
use Rattle.esc_kitty.specs.declared.transmit.KittyImageTransmit.{KittyImageTransmit}
use Rattle.esc_kitty.specs.declared.placement.KittyImagePlacement.{KittyImagePlacement}
use Rattle.esc_kitty.specs.declared.delete.KittyImageDelete.{KittyImageDelete}
use Rattle.esc_kitty.specs.declared.delete.KittyImageDelete.TheVariants.{All, ByImageId, ByImageNumber, AtCursorPosition, AnimationFrames, DeleteAt}
use Rattle.esc_kitty.specs.declared.delete.KittyImageDelete.TheVariants.{DeleteAtZ, DeleteColumn, DeleteRow, DeleteZ, ByImageIdRange}
use Rattle.esc_kitty.specs.declared.frame.KittyImageFrame.{KittyImageFrame}
use Rattle.esc_kitty.specs.declared.compose.KittyImageFrameCompose.{KittyImageFrameCompose}
use Rattle.esc_kitty.specs.declared.image.KittyImage.{KittyImage}
use Rattle.esc_kitty.specs.declared.image.KittyImage.TheVariants as image

-- a byte that an application program command keeps: none of these ends or breaks it
abbrev pub is_kept : ℕ → Bool
is_kept c = nat_le 0x20 c && nat_le c 0x7f

-- the payload itself is of kept bytes; a path or a name is any text
abbrev pub IsWritableContent : {A : Type 0} → KittyImageData A → Type 0
IsWritableContent (Direct t) = list_all is_kept t ≡ true
IsWritableContent (DirectBin b) = ⊥
IsWritableContent (File t s o) = IsUtf8 t × IsNumber s × IsNumber o
IsWritableContent (TemporaryFile t s o) = IsUtf8 t × IsNumber s × IsNumber o
IsWritableContent (SharedMem t s o) = IsUtf8 t × IsNumber s × IsNumber o

-- and each field of a struct fits the kind of its key
abbrev pub IsWritableTransmit : {A : Type 0} → KittyImageTransmit A → Type 0
IsWritableTransmit t = IsWritableContent t.content × FitAll transmit_fields t

abbrev pub IsWritablePlacement : KittyImagePlacement → Type 0
IsWritablePlacement p = FitAll placement_fields p

abbrev pub IsWritableFrame : KittyImageFrame → Type 0
IsWritableFrame f = FitAll frame_fields f

abbrev pub IsWritableCompose : KittyImageFrameCompose → Type 0
IsWritableCompose f = FitAll compose_fields f

abbrev pub IsWritableDelete : KittyImageDelete → Type 0
IsWritableDelete (All d) = Unit {0}
IsWritableDelete (ByImageId i p d) = (i < 2 ^ 32) × IsNumber p
IsWritableDelete (ByImageNumber n p d) = (n < 2 ^ 32) × IsNumber p
IsWritableDelete (AtCursorPosition d) = Unit {0}
IsWritableDelete (AnimationFrames d) = Unit {0}
IsWritableDelete (DeleteAt x y d) = (x < 2 ^ 32) × (y < 2 ^ 32)
IsWritableDelete (DeleteAtZ x y z d) = (x < 2 ^ 32) × (y < 2 ^ 32) × IsSigned 32 z
IsWritableDelete (DeleteColumn x d) = x < 2 ^ 32
IsWritableDelete (DeleteRow y d) = y < 2 ^ 32
IsWritableDelete (DeleteZ z d) = IsSigned 32 z
IsWritableDelete (ByImageIdRange x y d) = (x < 2 ^ 32) × (y < 2 ^ 32)

abbrev pub IsWritableImage : {A : Type 0} → KittyImage A → Type 0
IsWritableImage (image.TransmitData t q) = IsWritableTransmit t
IsWritableImage (image.TransmitDataAndDisplay t p q) = IsWritableTransmit t × IsWritablePlacement p
IsWritableImage (image.Display i n p q) = IsNumber i × IsNumber n × IsWritablePlacement p
IsWritableImage (image.Delete w q) = IsWritableDelete w
IsWritableImage (image.Query t) = IsWritableTransmit t
IsWritableImage (image.TransmitFrame t f q) = IsWritableTransmit t × IsWritableFrame f
IsWritableImage (image.ComposeFrame f q) = IsWritableCompose f

-- the text of the image has kept bytes alone after `ESC _`, and these mean the image
abbrev pub ReadsBack : {A : Type 0} → KittyImage A → Type 0
ReadsBack {A = A} i = (list_all is_kept (image_body i) ≡ true)
    × (image_of {A = A} (image_body i) ≡ Some i)
