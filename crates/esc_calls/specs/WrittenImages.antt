-- The text of the kitty image of a kind and fields.
use Rattle.std.specs.Prelude.{ℕ, ◌≡◌, true, List, ◌++◌, Some}
use Rattle.std.specs.Global.{Global}
use Rattle.std.specs.List.{list_all}
use Rattle.flat_values.specs.Fields.{Table}
use Rattle.flat_values.specs.HeldImages.{HasImage, IsHeldImage}
use Rattle.esc_kitty.specs.Texts.{image_body, image_text}
use Rattle.esc_kitty.specs.Writable.{IsWritableImage, is_kept}
use Rattle.esc_kitty.specs.declared.image.KittyImage.{KittyImage}
use Rattle.esc_calls.specs.ImageValues.{image_read}
use Rattle.esc_calls.specs.Written.{RefusedFor}
use Rattle.esc_values.specs.Clear.{string_terminator}

-- the number of a kind and the fields are those of the image; the text between `ESC _` and `ESC \`
-- is of bytes from space to DEL, and is the same image
pub record IsWrittenAs (k : ℕ) (t : Table) (i : KittyImage Global) : Type 0 where
  pub has : HasImage k t (Some i)
  pub clear : list_all is_kept (image_body i) ≡ true
  pub back : image_read (image_body i) ≡ Some i

-- the whole text of such an image
abbrev pub IsText : ℕ → Table → List ℕ → Type 0
IsText k t s = (i : KittyImage Global) × IsWrittenAs k t i × (s ≡ image_text i ++ string_terminator)

-- why none was written
abbrev pub IsRefusal : ℕ → Table → ℕ → Type 0
IsRefusal k t = RefusedFor (λ i. HasImage {A = Global} k t (Some i)) IsHeldImage IsWritableImage
