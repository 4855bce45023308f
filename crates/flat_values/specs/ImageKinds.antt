-- Kitty's images have a kind for each action, and one for each deletion.
use Rattle.std.specs.Prelude.{ℕ, Option, Some, None}
use Rattle.esc_kitty.specs.declared.delete.KittyImageDelete.{KittyImageDelete}
use Rattle.esc_kitty.specs.declared.delete.KittyImageDelete.TheVariants as delete
use Rattle.esc_kitty.specs.declared.image.KittyImage.{KittyImage}
use Rattle.esc_kitty.specs.declared.image.KittyImage.TheVariants as image
use Rattle.flat_values.specs.contracts.image_kind.ImageKind.{the_type}
use Rattle.flat_values.specs.declared.image_kind.ImageKind.{ImageKind}
use Rattle.flat_values.specs.declared.image_kind.ImageKind.TheVariants as kind
use denote.Enum.Declared.{tag_of}

-- the kinds are numbered in the order of their enum, from 0
abbrev pub image_number : ImageKind → ℕ
image_number k = tag_of the_type k

abbrev pub delete_kind : KittyImageDelete → ImageKind
delete_kind (delete.All d) = kind.DeleteAll
delete_kind (delete.ByImageId i p d) = kind.DeleteByImageId
delete_kind (delete.ByImageNumber n p d) = kind.DeleteByImageNumber
delete_kind (delete.AtCursorPosition d) = kind.DeleteAtCursorPosition
delete_kind (delete.AnimationFrames d) = kind.DeleteAnimationFrames
delete_kind (delete.DeleteAt x y d) = kind.DeleteAt
delete_kind (delete.DeleteAtZ x y z d) = kind.DeleteAtZ
delete_kind (delete.DeleteColumn x d) = kind.DeleteColumn
delete_kind (delete.DeleteRow y d) = kind.DeleteRow
delete_kind (delete.DeleteZ z d) = kind.DeleteZ
delete_kind (delete.ByImageIdRange f l d) = kind.DeleteByImageIdRange

module _ {A : Type 0} where
  -- the kind of an image, or of none
  abbrev pub image_kind : Option (KittyImage A) → ImageKind
  image_kind None = kind.NoImage
  image_kind (Some (image.TransmitData t v)) = kind.TransmitData
  image_kind (Some (image.TransmitDataAndDisplay t p v)) = kind.TransmitDataAndDisplay
  image_kind (Some (image.Display i n p v)) = kind.Display
  image_kind (Some (image.Delete w v)) = delete_kind w
  image_kind (Some (image.Query t)) = kind.Query
  image_kind (Some (image.TransmitFrame t f v)) = kind.TransmitFrame
  image_kind (Some (image.ComposeFrame f v)) = kind.ComposeFrame
