-- The keys of an image stand in the order of their bytes.
use Rattle.std.proofs.Common.{◌≡◌, true, [], ◌∷◌, refl}
use Rattle.esc_values.specs.Cuts.{Pairs}
use Rattle.esc_values.specs.Fields.{ascends, present_pairs}
use Rattle.esc_values.proofs.Codecs.FieldsReadBack.{written_ascends}
use Rattle.esc_kitty.specs.Texts.{compose_keys, delete_keys, display_keys, frame_keys, image_keys, or_action, query_keys, shown_keys, transmit_keys}
use Rattle.esc_kitty.specs.declared.verbosity.KittyImageVerbosity.{KittyImageVerbosity}
use Rattle.esc_kitty.specs.declared.delete.KittyImageDelete.{KittyImageDelete}
use Rattle.esc_kitty.specs.declared.delete.KittyImageDelete.TheVariants.{All, ByImageId, ByImageNumber, AtCursorPosition, AnimationFrames, DeleteAt}
use Rattle.esc_kitty.specs.declared.delete.KittyImageDelete.TheVariants.{DeleteAtZ, DeleteColumn, DeleteRow, DeleteZ, ByImageIdRange}
use Rattle.esc_kitty.specs.declared.image.KittyImage.{KittyImage}
use Rattle.esc_kitty.specs.declared.image.KittyImage.TheVariants as image

or_ascends : (es : Pairs) → ascends es ≡ true → ascends (or_action es) ≡ true
or_ascends [] h = refl
or_ascends (e ∷ es) h = h

delete_ascends : (w : KittyImageDelete) (q : KittyImageVerbosity)
    → ascends (present_pairs (delete_keys w q)) ≡ true
delete_ascends (All d) q = written_ascends (delete_keys (All d) q) refl
delete_ascends (ByImageId i p d) q = written_ascends (delete_keys (ByImageId i p d) q) refl
delete_ascends (ByImageNumber n p d) q = written_ascends (delete_keys (ByImageNumber n p d) q) refl
delete_ascends (AtCursorPosition d) q = written_ascends (delete_keys (AtCursorPosition d) q) refl
delete_ascends (AnimationFrames d) q = written_ascends (delete_keys (AnimationFrames d) q) refl
delete_ascends (DeleteAt x y d) q = written_ascends (delete_keys (DeleteAt x y d) q) refl
delete_ascends (DeleteAtZ x y z d) q = written_ascends (delete_keys (DeleteAtZ x y z d) q) refl
delete_ascends (DeleteColumn x d) q = written_ascends (delete_keys (DeleteColumn x d) q) refl
delete_ascends (DeleteRow y d) q = written_ascends (delete_keys (DeleteRow y d) q) refl
delete_ascends (DeleteZ z d) q = written_ascends (delete_keys (DeleteZ z d) q) refl
delete_ascends (ByImageIdRange x y d) q =
    written_ascends (delete_keys (ByImageIdRange x y d) q) refl

pub keys_ascend : {A : Type 0} (i : KittyImage A) → ascends (image_keys i) ≡ true
keys_ascend (image.TransmitData t q) =
    or_ascends (present_pairs (transmit_keys t q)) (written_ascends (transmit_keys t q) refl)
keys_ascend (image.TransmitDataAndDisplay t p q) = written_ascends (shown_keys t p q) refl
keys_ascend (image.Display i n p q) = written_ascends (display_keys i n p q) refl
keys_ascend (image.Delete w q) = delete_ascends w q
keys_ascend (image.Query t) = written_ascends (query_keys t) refl
keys_ascend (image.TransmitFrame t f q) = written_ascends (frame_keys t f q) refl
keys_ascend (image.ComposeFrame f q) = written_ascends (compose_keys f q) refl
