-- Kitty images are read back from their rows, so a kind and fields are the whole of an image, or of
-- none.
use Rattle.std.proofs.Common.{ℕ, ℤ, ◌≡◌, ◌↔◌, Bool, true, false, IsTrue, List, [], ◌∷◌, ◌++◌, Option, Some, None, Result, Ok, Err, IfOk, map, refl, sym, subst, ap, ◌∙◌}
use Rattle.std.proofs.lemmas.Bool.{true≢false}
use Rattle.std.proofs.lemmas.Option.{none-some}
use Rattle.esc_kitty.specs.declared.delete.KittyImageDelete.{KittyImageDelete}
use Rattle.esc_kitty.specs.declared.delete.KittyImageDelete.TheVariants as delete
use Rattle.esc_kitty.specs.declared.image.KittyImage.{KittyImage}
use Rattle.esc_kitty.specs.declared.image.KittyImage.TheVariants as image
use Rattle.esc_kitty.specs.declared.placement.KittyImagePlacement.{KittyImagePlacement}
use Rattle.esc_kitty.specs.declared.transmit.KittyImageTransmit.{KittyImageTransmit}
use Rattle.esc_kitty.specs.declared.verbosity.KittyImageVerbosity.{KittyImageVerbosity}
use Rattle.flat_values.proofs.ImagesFound.{compose_back, count_back, flag_back, frame_back, known_back, placement_back, seek, seen, transmit_back, verbosity_back}
use Rattle.flat_values.proofs.Tables.{rows_say}
use Rattle.flat_values.proofs.ValuesBack.{Fits, any_bounds, any_fits, any_reading, any_within, held_fits}
use Rattle.flat_values.specs.Fields.{Table, named_values, table_values, table_of}
use Rattle.flat_values.specs.Fields.Value.{Text}
use Rattle.flat_values.specs.Found.{Reading, held_form as held_reading}
use Rattle.flat_values.specs.FoundImages.{Numbered, compose_in, count, deleted_in, frame_in, image_form_at, image_in, kept_some, placement_in, transmit_in, verbosity_in}
use Rattle.flat_values.specs.Held.{Bounds, types}
use Rattle.flat_values.specs.HeldImages.{AreCounts, HasImage, IsDelete, IsHeldImage, IsImageWithin, IsOrder, IsPlacement, IsTransmit, compose_counts, content_parts, delete_counts, frame_counts, placement_counts, transmit_counts}
use Rattle.flat_values.specs.ImageKinds.{image_kind, image_number}
use Rattle.flat_values.specs.Images.{bytes_of, compose_numbers, delete_numbers, delete_order, fields_of_image, frame_numbers, id_numbers, number_fields, placement_numbers, transmit_numbers, verbosity_numbers}
use Rattle.flat_values.specs.declared.field_name.FieldName.TheVariants as name
use Rattle.flat_values.specs.declared.image_forms.Deletion.{Deletion}
use Rattle.flat_values.specs.declared.image_forms.Deletion.TheVariants as deletion
use Rattle.flat_values.specs.declared.image_forms.ImageForm.{ImageForm}
use Rattle.flat_values.specs.declared.image_forms.ImageForm.TheVariants as form

module _ (r : Reading) (b : Bounds) (f : Fits r b) {A : Type 0} where
  -- the images of each form, by the numbers that were found
  abbrev kept : List ℕ → Numbered → Option (KittyImage A)
  kept t l = Some (image.TransmitData (transmit_in r (Text t) l) (verbosity_in l))

  abbrev shown : List ℕ → Numbered → Option (KittyImage A)
  shown t l = Some (image.TransmitDataAndDisplay (transmit_in r (Text t) l) (placement_in r l)
      (verbosity_in l))

  abbrev displayed : Numbered → Option (KittyImage A)
  displayed l = Some (image.Display (count r (l name.ImageId)) (count r (l name.ImageNumber))
      (placement_in r l) (verbosity_in l))

  abbrev asked : List ℕ → Numbered → Option (KittyImage A)
  asked t l = Some (image.Query (transmit_in r (Text t) l))

  abbrev sent : List ℕ → Numbered → Option (KittyImage A)
  sent t l = Some (image.TransmitFrame (transmit_in r (Text t) l) (frame_in r l) (verbosity_in l))

  abbrev composed : Numbered → Option (KittyImage A)
  composed l = Some (image.ComposeFrame (compose_in r l) (verbosity_in l))

  abbrev deleted : Deletion → Numbered → Option (KittyImage A)
  deleted d l = Some (image.Delete (deleted_in r d l) (verbosity_in l))

  -- how the image of a kind is read
  abbrev form_of : Option (KittyImage A) → ImageForm
  form_of o = image_form_at (image_number (image_kind o))

  -- a deletion reads back from its numbers
  removed : (d : Deletion) (w : KittyImageDelete) (v : KittyImageVerbosity)
      → deleted_in r d (seek (delete_numbers w ++ verbosity_numbers v)) ≡ w
      → verbosity_in (seek (delete_numbers w ++ verbosity_numbers v)) ≡ v
      → image_in {A = A} r (form.Deleted d)
      (map named_values (number_fields (delete_numbers w ++ verbosity_numbers v)))
      ≡ Some (image.Delete w v)
  removed d w v is also = ap (deleted d) (seen (delete_numbers w ++ verbosity_numbers v))
      ∙ (λ j. Some (image.Delete (is j) (also j)))

  deletion_back : (w : KittyImageDelete) (v : KittyImageVerbosity) → IsDelete b w
      → image_in {A = A} r (form_of (Some (image.Delete w v)))
      (map named_values (number_fields (delete_numbers w ++ verbosity_numbers v)))
      ≡ Some (image.Delete w v)
  deletion_back (delete.All d) v h = removed deletion.All (delete.All d) v
      (λ k. delete.All (flag_back d k)) (verbosity_back v)
  deletion_back (delete.ByImageId i p d) v h =
      let id_is = known_back r b f i h.0.0 in
      let placement_is = count_back r b f p h.0.1.0 in
      removed deletion.ImageId (delete.ByImageId i p d) v
      (λ k. delete.ByImageId (id_is k) (placement_is k) (flag_back d k)) (verbosity_back v)
  deletion_back (delete.ByImageNumber n p d) v h =
      let number_is = known_back r b f n h.0.0 in
      let placement_is = count_back r b f p h.0.1.0 in
      removed deletion.ImageNumber (delete.ByImageNumber n p d) v
      (λ k. delete.ByImageNumber (number_is k) (placement_is k) (flag_back d k))
      (verbosity_back v)
  deletion_back (delete.AtCursorPosition d) v h =
      removed deletion.AtCursor (delete.AtCursorPosition d) v
      (λ k. delete.AtCursorPosition (flag_back d k)) (verbosity_back v)
  deletion_back (delete.AnimationFrames d) v h =
      removed deletion.Frames (delete.AnimationFrames d) v
      (λ k. delete.AnimationFrames (flag_back d k)) (verbosity_back v)
  deletion_back (delete.DeleteAt x y d) v h =
      let x_is = known_back r b f x h.0.0 in
      let y_is = known_back r b f y h.0.1.0 in
      removed deletion.At (delete.DeleteAt x y d) v
      (λ k. delete.DeleteAt (x_is k) (y_is k) (flag_back d k)) (verbosity_back v)
  deletion_back (delete.DeleteAtZ x y z d) v h =
      let x_is = known_back r b f x h.0.0 in
      let y_is = known_back r b f y h.0.1.0 in
      let z_is = f.signed z h.1 in
      removed deletion.AtZ (delete.DeleteAtZ x y z d) v
      (λ k. delete.DeleteAtZ (x_is k) (y_is k) (z_is k) (flag_back d k)) (verbosity_back v)
  deletion_back (delete.DeleteColumn x d) v h =
      let x_is = known_back r b f x h.0.0 in
      removed deletion.Column (delete.DeleteColumn x d) v
      (λ k. delete.DeleteColumn (x_is k) (flag_back d k)) (verbosity_back v)
  deletion_back (delete.DeleteRow y d) v h =
      let y_is = known_back r b f y h.0.0 in
      removed deletion.Row (delete.DeleteRow y d) v
      (λ k. delete.DeleteRow (y_is k) (flag_back d k)) (verbosity_back v)
  deletion_back (delete.DeleteZ z d) v h =
      let z_is = f.signed z h.1 in
      removed deletion.Z (delete.DeleteZ z d) v
      (λ k. delete.DeleteZ (z_is k) (flag_back d k)) (verbosity_back v)
  deletion_back (delete.ByImageIdRange x y d) v h =
      let first_is = known_back r b f x h.0.0 in
      let last_is = known_back r b f y h.0.1.0 in
      removed deletion.Range (delete.ByImageIdRange x y d) v
      (λ k. delete.ByImageIdRange (first_is k) (last_is k) (flag_back d k)) (verbosity_back v)

  pub image_back : (i : KittyImage A) → IsImageWithin b i
      → image_in r (form_of (Some i)) (map named_values (fields_of_image (Some i))) ≡ Some i
  image_back (image.TransmitData t v) h =
      let transmit_is = transmit_back r b f t h in
      ap (kept (bytes_of t.content)) (seen (transmit_numbers t ++ verbosity_numbers v))
      ∙ (λ k. Some (image.TransmitData (transmit_is k) (verbosity_back v k)))
  image_back (image.TransmitDataAndDisplay t p v) h =
      let transmit_is = transmit_back r b f t h.0 in
      let placement_is = placement_back r b f p h.1 in
      ap (shown (bytes_of t.content))
      (seen (transmit_numbers t ++ (placement_numbers p ++ verbosity_numbers v)))
      ∙ (λ k. Some (image.TransmitDataAndDisplay (transmit_is k) (placement_is k)
      (verbosity_back v k)))
  image_back (image.Display i n p v) h =
      let id_is = count_back r b f i h.0.0 in
      let number_is = count_back r b f n h.0.1.0 in
      let placement_is = placement_back r b f p h.1 in
      ap displayed (seen (id_numbers i n ++ (placement_numbers p ++ verbosity_numbers v)))
      ∙ (λ k. Some (image.Display (id_is k) (number_is k) (placement_is k) (verbosity_back v k)))
  image_back (image.Delete w v) h = deletion_back w v h
  image_back (image.Query t) h =
      let transmit_is = transmit_back r b f t h in
      ap (asked (bytes_of t.content)) (seen (transmit_numbers t))
      ∙ (λ k. Some (image.Query (transmit_is k)))
  image_back (image.TransmitFrame t x v) h =
      let transmit_is = transmit_back r b f t h.0 in
      let frame_is = frame_back r b f x h.1 in
      ap (sent (bytes_of t.content))
      (seen (transmit_numbers t ++ (frame_numbers x ++ verbosity_numbers v)))
      ∙ (λ k. Some (image.TransmitFrame (transmit_is k) (frame_is k) (verbosity_back v k)))
  image_back (image.ComposeFrame x v) h =
      let frame_is = compose_back r b f x h in
      ap composed (seen (compose_numbers x ++ verbosity_numbers v))
      ∙ (λ k. Some (image.ComposeFrame (frame_is k) (verbosity_back v k)))

-- every part is within no bounds
any_counts : (os : List (Option ℕ)) → AreCounts any_bounds os
any_counts [] = tt
any_counts (None ∷ os) = (tt, any_counts os)
any_counts (Some n ∷ os) = (tt, any_counts os)

any_order : (o : Option ℤ) → IsOrder any_bounds o
any_order None = tt
any_order (Some z) = tt

any_placement : (p : KittyImagePlacement) → IsPlacement any_bounds p
any_placement p = (any_counts (placement_counts p), any_order p.z_index)

module _ {A : Type 0} where
  any_transmit : (t : KittyImageTransmit A) → IsTransmit any_bounds t
  any_transmit t = (any_counts (transmit_counts t), any_within (content_parts t.content))

  any_image : (i : KittyImage A) → IsImageWithin any_bounds i
  any_image (image.TransmitData t v) = any_transmit t
  any_image (image.TransmitDataAndDisplay t p v) = (any_transmit t, any_placement p)
  any_image (image.Display i n p v) = (any_counts (i ∷ n ∷ []), any_placement p)
  any_image (image.Delete w v) = (any_counts (delete_counts w), any_order (delete_order w))
  any_image (image.Query t) = any_transmit t
  any_image (image.TransmitFrame t f v) = (any_transmit t, any_counts (frame_counts f))
  any_image (image.ComposeFrame f v) = any_counts (compose_counts f)

  -- a kind and fields say an image, or none
  any_back : (o : Option (KittyImage A))
      → image_in any_reading (image_form_at (image_number (image_kind o)))
      (map named_values (fields_of_image o)) ≡ o
  any_back None = refl
  any_back (Some i) = image_back any_reading any_bounds any_fits i (any_image i)

  -- images whose kinds have one number, and whose fields have one table, are the same image
  pub images_whole : (i j : Option (KittyImage A))
      → image_number (image_kind i) ≡ image_number (image_kind j)
      → table_of (fields_of_image i) ≡ table_of (fields_of_image j) → i ≡ j
  images_whole i j number table =
      let rows = sym (rows_say (fields_of_image i)) ∙ ap table_values table
      ∙ rows_say (fields_of_image j) in
      sym (any_back i) ∙ (λ k. image_in any_reading (image_form_at (number k)) (rows k))
      ∙ any_back j

  -- a kind and rows say the image that has them
  found : (k : ℕ) (t : Table) (i : KittyImage A) → IsHeldImage i → HasImage k t (Some i)
      → image_in held_reading (image_form_at k) (table_values t) ≡ Some i
  found k t i is_held has =
      let form_is = ap image_form_at (sym has.0) in
      let rows_are = ap table_values (sym has.1) ∙ rows_say (fields_of_image (Some i)) in
      (λ j. image_in held_reading (form_is j) (rows_are j))
      ∙ image_back held_reading types held_fits i is_held

  -- where none is kept, none has them
  none_kept : {E : Type 0} (k : ℕ) (t : Table) (o : Option (KittyImage A)) (has : Result Bool E)
      → o ≡ image_in held_reading (image_form_at k) (table_values t)
      → IfOk has (λ b. IsTrue b ↔ HasImage k t o)
      → IfOk (kept_some o has) (λ x. x ≡ None → (i : KittyImage A) → IsHeldImage i
      → HasImage k t (Some i) → ⊥)
  none_kept k t o (Err e) is told = tt
  none_kept k t o (Ok true) is told = λ none i is_held it.
      none-some i (sym none ∙ is ∙ found k t i is_held it)
  none_kept k t o (Ok false) is told = λ none i is_held it.
      let same : o ≡ Some i = is ∙ found k t i is_held it in
      true≢false (sym (told.1 (subst (λ x. HasImage k t x) (sym same) it)))

  pub no_image : {E : Type 0} (k : ℕ) (t : Table) (o : Option (KittyImage A))
      (has : Result Bool E) (result : Result (Option (KittyImage A)) E)
      → o ≡ image_in held_reading (image_form_at k) (table_values t)
      → IfOk has (λ b. IsTrue b ↔ HasImage k t o) → result ≡ kept_some o has
      → IfOk result (λ x. x ≡ None → (i : KittyImage A) → IsHeldImage i → HasImage k t (Some i)
      → ⊥)
  no_image k t o has result is told result_is =
      subst (λ r. IfOk r (λ x. x ≡ None → (i : KittyImage A) → IsHeldImage i
      → HasImage k t (Some i) → ⊥)) (sym result_is) (none_kept k t o has is told)
