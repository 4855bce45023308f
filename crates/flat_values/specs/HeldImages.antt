-- The parts of a kitty image lie within bounds, as in a program: texts are UTF-8, and numbers have
-- 32 bits.
use Rattle.std.specs.Prelude.{ℕ, ℤ, ◌≡◌, ◌^◌, List, [], ◌∷◌, Option, Some, None}
use Rattle.esc_kitty.specs.Texts.{offset_in, size_in}
use Rattle.esc_kitty.specs.declared.compose.KittyImageFrameCompose.{KittyImageFrameCompose}
use Rattle.esc_kitty.specs.declared.content.KittyImageData.{KittyImageData}
use Rattle.esc_kitty.specs.declared.content.KittyImageData.TheVariants.{DirectBin}
use Rattle.esc_kitty.specs.declared.delete.KittyImageDelete.{KittyImageDelete}
use Rattle.esc_kitty.specs.declared.delete.KittyImageDelete.TheVariants as delete
use Rattle.esc_kitty.specs.declared.frame.KittyImageFrame.{KittyImageFrame}
use Rattle.esc_kitty.specs.declared.image.KittyImage.{KittyImage}
use Rattle.esc_kitty.specs.declared.image.KittyImage.TheVariants as image
use Rattle.esc_kitty.specs.declared.placement.KittyImagePlacement.{KittyImagePlacement}
use Rattle.esc_kitty.specs.declared.transmit.KittyImageTransmit.{KittyImageTransmit}
use Rattle.flat_values.specs.Fields.{Table, table_of}
use Rattle.flat_values.specs.Held.{AreWithin, Bounds, Part, types}
use Rattle.flat_values.specs.Held.Part.{Text}
use Rattle.flat_values.specs.ImageKinds.{image_kind, image_number}
use Rattle.flat_values.specs.Images.{bytes_of, delete_order, fields_of_image}

-- numbers that may be absent
abbrev pub IsCount : Bounds → Option ℕ → Type 0
IsCount b None = Unit {0}
IsCount b (Some n) = b.Number (2 ^ 32) n

abbrev pub IsOrder : Bounds → Option ℤ → Type 0
IsOrder b None = Unit {0}
IsOrder b (Some z) = b.Signed z

abbrev pub AreCounts : Bounds → List (Option ℕ) → Type 0
AreCounts b [] = Unit {0}
AreCounts b (o ∷ os) = IsCount b o × AreCounts b os

-- those of how an image is shown, and of frames
abbrev pub placement_counts : KittyImagePlacement → List (Option ℕ)
placement_counts p = p.x ∷ p.y ∷ p.w ∷ p.h ∷ p.x_offset ∷ p.y_offset ∷ p.columns ∷ p.rows
    ∷ p.placement_id ∷ []

abbrev pub frame_counts : KittyImageFrame → List (Option ℕ)
frame_counts f = f.x ∷ f.y ∷ f.base_frame ∷ f.frame_number ∷ f.duration_ms
    ∷ f.background_pixel ∷ []

abbrev pub compose_counts : KittyImageFrameCompose → List (Option ℕ)
compose_counts f = f.image_id ∷ f.image_number ∷ f.target_frame ∷ f.source_frame ∷ f.x ∷ f.y
    ∷ f.w ∷ f.h ∷ f.src_x ∷ f.src_y ∷ []

abbrev pub IsPlacement : Bounds → KittyImagePlacement → Type 0
IsPlacement b p = AreCounts b (placement_counts p) × IsOrder b p.z_index

-- the numbers of a deletion
abbrev pub delete_counts : KittyImageDelete → List (Option ℕ)
delete_counts (delete.ByImageId i p d) = Some i ∷ p ∷ []
delete_counts (delete.ByImageNumber n p d) = Some n ∷ p ∷ []
delete_counts (delete.DeleteAt x y d) = Some x ∷ Some y ∷ []
delete_counts (delete.DeleteAtZ x y z d) = Some x ∷ Some y ∷ []
delete_counts (delete.DeleteColumn x d) = Some x ∷ []
delete_counts (delete.DeleteRow y d) = Some y ∷ []
delete_counts (delete.ByImageIdRange f l d) = Some f ∷ Some l ∷ []
delete_counts w = []

abbrev pub IsDelete : Bounds → KittyImageDelete → Type 0
IsDelete b w = AreCounts b (delete_counts w) × IsOrder b (delete_order w)

module _ {A : Type 0} where
  -- the parts of the content of an image; then those of an image that is sent
  abbrev pub content_parts : KittyImageData A → List Part
  content_parts (DirectBin t) = []
  content_parts c = Text (bytes_of c) ∷ []

  abbrev pub transmit_counts : KittyImageTransmit A → List (Option ℕ)
  transmit_counts t = t.width ∷ t.height ∷ t.image_id ∷ t.image_number
      ∷ size_in t.content ∷ offset_in t.content ∷ []

  abbrev pub IsTransmit : Bounds → KittyImageTransmit A → Type 0
  IsTransmit b t = AreCounts b (transmit_counts t) × AreWithin b (content_parts t.content)

  -- an image whose parts are within bounds
  abbrev pub IsImageWithin : Bounds → KittyImage A → Type 0
  IsImageWithin b (image.TransmitData t v) = IsTransmit b t
  IsImageWithin b (image.TransmitDataAndDisplay t p v) = IsTransmit b t × IsPlacement b p
  IsImageWithin b (image.Display i n p v) = AreCounts b (i ∷ n ∷ []) × IsPlacement b p
  IsImageWithin b (image.Delete w v) = IsDelete b w
  IsImageWithin b (image.Query t) = IsTransmit b t
  IsImageWithin b (image.TransmitFrame t f v) = IsTransmit b t × AreCounts b (frame_counts f)
  IsImageWithin b (image.ComposeFrame f v) = AreCounts b (compose_counts f)

  -- one whose parts are as the types of a program hold them
  abbrev pub IsHeldImage : KittyImage A → Type 0
  IsHeldImage i = IsImageWithin types i

  -- the number of a kind, rows and the texts of their fields are those of an image, or of none
  abbrev pub HasImage : ℕ → Table → Option (KittyImage A) → Type 0
  HasImage k t o = (image_number (image_kind o) ≡ k) × (table_of (fields_of_image o) ≡ t)
