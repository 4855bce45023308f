-- The output for the image of kitty's that the text of an APC is.
use Rattle.std.specs.Prelude.{ℕ, ◌≡◌, List, Option, length}
use Rattle.std.specs.Global.{Global}
use Rattle.esc_kitty.specs.Images.{image_of}
use Rattle.esc_kitty.specs.declared.image.KittyImage.{KittyImage}
use Rattle.flat_values.specs.Fields.{Table, table_of}
use Rattle.flat_values.specs.ImageKinds.{image_kind, image_number}
use Rattle.flat_values.specs.Images.{fields_of_image}
use Rattle.esc_calls.specs.declared.image_value.ImageValue.{ImageValue}

-- the image that a text is, if it is one
abbrev pub image_read : List ℕ → Option (KittyImage Global)
image_read t = image_of {A = Global} t

-- the rows of its fields, and the texts of these one after another
abbrev pub image_table : List ℕ → Table
image_table t = table_of (fields_of_image (image_read t))

-- the value is that of an image, or of none: its kind, the number of its fields, and the number of
-- bytes of their texts
pub record IsImageOf (i : Option (KittyImage Global)) (v : ImageValue) : Type 0 where
  pub kind : v.kind ≡ image_number (image_kind i)
  pub count : v.field_count ≡ length (table_of (fields_of_image i)).0
  pub length : v.text_length ≡ length (table_of (fields_of_image i)).1

-- it is that of the image that the text is
abbrev pub IsImage : List ℕ → ImageValue → Type 0
IsImage t = IsImageOf (image_read t)
