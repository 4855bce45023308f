-- A writable kitty image is written as a text that is the image.
use Rattle.std.proofs.Common.{ℕ, ◌≡◌, true, Option, Some, sym, subst, ap, unwrap_or, ◌∙◌}
use Rattle.std.specs.Global.{Global}
use Rattle.std.specs.List.{list_all}
use Rattle.flat_values.proofs.ImagesWhole.{images_whole}
use Rattle.flat_values.specs.Fields.{Table}
use Rattle.flat_values.specs.HeldImages.{HasImage}
use Rattle.esc_kitty.proofs.ImagesBack.{reads_back}
use Rattle.esc_kitty.specs.Texts.{image_body}
use Rattle.esc_kitty.specs.Writable.{IsWritableImage, is_kept}
use Rattle.esc_kitty.specs.declared.image.KittyImage.{KittyImage}
use Rattle.esc_calls.specs.ImageValues.{image_read}
use Rattle.esc_calls.specs.WrittenImages.{IsWrittenAs}

same_image : (k : ℕ) (t : Table) (i j : Option (KittyImage Global)) → HasImage k t i
    → HasImage k t j → i ≡ j
same_image k t i j of_i of_j =
    images_whole i j (of_i.0 ∙ sym of_j.0) (of_i.1 ∙ sym of_j.1)

-- an image whose text is one that has the same kind and fields
pub image_written : (k : ℕ) (t : Table) (i : KittyImage Global) → HasImage k t (Some i)
    → list_all is_kept (image_body i) ≡ true → HasImage k t (image_read (image_body i))
    → IsWrittenAs k t i
image_written k t i has clear back = record {
  has = has;
  clear = clear;
  back = same_image k t (image_read (image_body i)) (Some i) back has;
}

-- if the text of the image that has a kind and fields is not it, no writable image has them
pub none_writable : (k : ℕ) (t : Table) (i : KittyImage Global) → HasImage k t (Some i)
    → ((list_all is_kept (image_body i) ≡ true) × HasImage k t (image_read (image_body i)) → ⊥)
    → (j : KittyImage Global) → IsWritableImage j → HasImage k t (Some j) → ⊥
none_writable k t i of_i differs j writable of_j =
    let same = ap (λ o. unwrap_or o j) (same_image k t (Some j) (Some i) of_j of_i) in
    let back = reads_back j writable in
    differs (subst (λ x. (list_all is_kept (image_body x) ≡ true)
    × HasImage k t (image_read (image_body x))) same
    (back.0, subst (λ o. HasImage k t o) (sym back.1) of_j))
