-- Every deletion reads back.
use Rattle.std.proofs.Common.{ℕ, ℤ, ◌≡◌, Bool, true, false, List, [], codes, Option, Some, None, refl, ap, ◌∙◌}
use Rattle.std.specs.List.{list_all}
use Rattle.std.specs.Option.{unwrap_or}
use Rattle.esc_values.proofs.Numbers.SignedReadsBack.{signed_back_32}
use Rattle.esc_kitty.specs.Images.{delete_of, image_by}
use Rattle.esc_values.specs.Fields.{Values, is_bare, present_pairs}
use Rattle.esc_values.proofs.Codecs.FieldsReadBack.{find}
use Rattle.esc_kitty.specs.Kinds.{IsNumber, IsOrder}
use Rattle.esc_kitty.specs.Texts.{delete_keys, letter, named_keys, placed_keys}
use Rattle.esc_kitty.specs.Words.{verbosity_word}
use Rattle.esc_kitty.specs.Writable.{IsWritableDelete, ReadsBack}
use Rattle.esc_kitty.specs.declared.verbosity.KittyImageVerbosity.{KittyImageVerbosity}
use Rattle.esc_kitty.specs.declared.delete.KittyImageDelete.{KittyImageDelete}
use Rattle.esc_kitty.specs.declared.delete.KittyImageDelete.TheVariants.{All, ByImageId, ByImageNumber, AtCursorPosition, AnimationFrames, DeleteAt}
use Rattle.esc_kitty.specs.declared.delete.KittyImageDelete.TheVariants.{DeleteAtZ, DeleteColumn, DeleteRow, DeleteZ, ByImageIdRange}
use Rattle.esc_kitty.specs.declared.image.KittyImage.TheVariants as image
use Rattle.esc_kitty.proofs.FieldsBack.{number_is, one_back}
use Rattle.esc_kitty.proofs.KeysRead.{is_entry, is_value, entries_image, written_pairs}
use Rattle.esc_kitty.proofs.ValuesWritten.{number_value, order_value, verbosity_value}
use Rattle.esc_kitty.proofs.Sending.{emits, acts}

letter_value : (d : Bool) (small capital : List ℕ) → is_value (Some small) ≡ true
    → is_value (Some capital) ≡ true
    → is_value (Some (letter d small capital)) ≡ true
letter_value true small capital h k = k
letter_value false small capital h k = h

named_entries : (d : List ℕ) (n i p : Option ℕ) (q : KittyImageVerbosity) → is_value (Some d) ≡ true
    → IsNumber n → IsNumber i → IsNumber p
    → list_all is_entry (named_keys d n i p q) ≡ true
named_entries d n i p q h hn hi hp =
    rw (h, number_value n hn, number_value i hi, number_value p hp, verbosity_value q) refl

placed_entries : (d : List ℕ) (x y : Option ℕ) (z : Option ℤ) (q : KittyImageVerbosity)
    → is_value (Some d) ≡ true → IsNumber x → IsNumber y → IsOrder z
    → list_all is_entry (placed_keys d x y z q) ≡ true
placed_entries d x y z q h hx hy hz =
    rw (h, verbosity_value q, number_value x hx, number_value y hy, order_value z hz) refl

delete_entries : (w : KittyImageDelete) (q : KittyImageVerbosity) → IsWritableDelete w
    → list_all is_entry (delete_keys w q) ≡ true
delete_entries (All d) q h =
    placed_entries (letter d (codes "a") (codes "A")) None None None q
    (letter_value d (codes "a") (codes "A") refl refl) tt tt tt
delete_entries (ByImageId i p d) q h =
    named_entries (letter d (codes "i") (codes "I")) None (Some i) p q
    (letter_value d (codes "i") (codes "I") refl refl) tt h.0 h.1
delete_entries (ByImageNumber n p d) q h =
    named_entries (letter d (codes "n") (codes "N")) (Some n) None p q
    (letter_value d (codes "n") (codes "N") refl refl) h.0 tt h.1
delete_entries (AtCursorPosition d) q h =
    placed_entries (letter d (codes "c") (codes "C")) None None None q
    (letter_value d (codes "c") (codes "C") refl refl) tt tt tt
delete_entries (AnimationFrames d) q h =
    placed_entries (letter d (codes "f") (codes "F")) None None None q
    (letter_value d (codes "f") (codes "F") refl refl) tt tt tt
delete_entries (DeleteAt x y d) q h =
    placed_entries (letter d (codes "p") (codes "P")) (Some x) (Some y) None q
    (letter_value d (codes "p") (codes "P") refl refl) h.0 h.1 tt
delete_entries (DeleteAtZ x y z d) q h =
    placed_entries (letter d (codes "q") (codes "Q")) (Some x) (Some y) (Some z) q
    (letter_value d (codes "q") (codes "Q") refl refl) h.0 h.1 h.2
delete_entries (DeleteColumn x d) q h =
    placed_entries (letter d (codes "x") (codes "X")) (Some x) None None q
    (letter_value d (codes "x") (codes "X") refl refl) h tt tt
delete_entries (DeleteRow y d) q h =
    placed_entries (letter d (codes "y") (codes "Y")) None (Some y) None q
    (letter_value d (codes "y") (codes "Y") refl refl) tt h tt
delete_entries (DeleteZ z d) q h =
    placed_entries (letter d (codes "z") (codes "Z")) None None (Some z) q
    (letter_value d (codes "z") (codes "Z") refl refl) tt tt h
delete_entries (ByImageIdRange x y d) q h =
    placed_entries (letter d (codes "r") (codes "R")) (Some x) (Some y) None q
    (letter_value d (codes "r") (codes "R") refl refl) h.0 h.1 tt

delete_some : (w : KittyImageDelete) (q : KittyImageVerbosity)
    → is_bare (present_pairs (delete_keys w q)) ≡ false
delete_some (All d) q = refl
delete_some (ByImageId i p d) q = refl
delete_some (ByImageNumber n p d) q = refl
delete_some (AtCursorPosition d) q = refl
delete_some (AnimationFrames d) q = refl
delete_some (DeleteAt x y d) q = refl
delete_some (DeleteAtZ x y z d) q = refl
delete_some (DeleteColumn x d) q = refl
delete_some (DeleteRow y d) q = refl
delete_some (DeleteZ z d) q = refl
delete_some (ByImageIdRange x y d) q = refl

delete_said : (w : KittyImageDelete) (q : KittyImageVerbosity)
    → find (codes "q") (delete_keys w q) ≡ verbosity_word q
delete_said (All d) q = refl
delete_said (ByImageId i p d) q = refl
delete_said (ByImageNumber n p d) q = refl
delete_said (AtCursorPosition d) q = refl
delete_said (AnimationFrames d) q = refl
delete_said (DeleteAt x y d) q = refl
delete_said (DeleteAtZ x y z d) q = refl
delete_said (DeleteColumn x d) q = refl
delete_said (DeleteRow y d) q = refl
delete_said (DeleteZ z d) q = refl
delete_said (ByImageIdRange x y d) q = refl

delete_action : (w : KittyImageDelete) (q : KittyImageVerbosity)
    → find (codes "a") (delete_keys w q) ≡ Some (codes "d")
delete_action (All d) q = refl
delete_action (ByImageId i p d) q = refl
delete_action (ByImageNumber n p d) q = refl
delete_action (AtCursorPosition d) q = refl
delete_action (AnimationFrames d) q = refl
delete_action (DeleteAt x y d) q = refl
delete_action (DeleteAtZ x y z d) q = refl
delete_action (DeleteColumn x d) q = refl
delete_action (DeleteRow y d) q = refl
delete_action (DeleteZ z d) q = refl
delete_action (ByImageIdRange x y d) q = refl

delete_back : (w : KittyImageDelete) (q : KittyImageVerbosity) → IsWritableDelete w
    → delete_of (λ k. find k (delete_keys w q)) ≡ Some w
delete_back (All true) q h = refl
delete_back (All false) q h = refl
delete_back (ByImageId i p true) q h = rw (one_back i h.0, number_is p h.1) refl
delete_back (ByImageId i p false) q h = rw (one_back i h.0, number_is p h.1) refl
delete_back (ByImageNumber n p true) q h = rw (one_back n h.0, number_is p h.1) refl
delete_back (ByImageNumber n p false) q h = rw (one_back n h.0, number_is p h.1) refl
delete_back (AtCursorPosition true) q h = refl
delete_back (AtCursorPosition false) q h = refl
delete_back (AnimationFrames true) q h = refl
delete_back (AnimationFrames false) q h = refl
delete_back (DeleteAt x y true) q h = rw (one_back x h.0, one_back y h.1) refl
delete_back (DeleteAt x y false) q h = rw (one_back x h.0, one_back y h.1) refl
delete_back (DeleteAtZ x y z true) q h =
    rw (one_back x h.0, one_back y h.1, signed_back_32 z h.2) refl
delete_back (DeleteAtZ x y z false) q h =
    rw (one_back x h.0, one_back y h.1, signed_back_32 z h.2) refl
delete_back (DeleteColumn x true) q h = rw (one_back x h) refl
delete_back (DeleteColumn x false) q h = rw (one_back x h) refl
delete_back (DeleteRow y true) q h = rw (one_back y h) refl
delete_back (DeleteRow y false) q h = rw (one_back y h) refl
delete_back (DeleteZ z true) q h = rw (signed_back_32 z h) refl
delete_back (DeleteZ z false) q h = rw (signed_back_32 z h) refl
delete_back (ByImageIdRange x y true) q h = rw (one_back x h.0, one_back y h.1) refl
delete_back (ByImageIdRange x y false) q h = rw (one_back x h.0, one_back y h.1) refl

deleted_is : {A : Type 0} (v : Values) (w : KittyImageDelete) (q : KittyImageVerbosity)
    → delete_of v ≡ Some w
    → image_by {A = A} (codes "d") q v [] ≡ Some (image.Delete w q)
deleted_is v w q is = rw is refl

pub deleted_back : {A : Type 0} (w : KittyImageDelete) (q : KittyImageVerbosity)
    → IsWritableDelete w → ReadsBack {A = A} (image.Delete w q)
deleted_back w q h =
    let keys = delete_keys w q in
    let v : Values = λ k. find k keys in
    emits (image.Delete w q) (present_pairs keys) (delete_some w q)
    (written_pairs keys (delete_entries w q h))
    (entries_image keys [] ∙ acts v [] q (codes "d") (delete_said w q)
    (ap (λ o. unwrap_or o (codes "t")) (delete_action w q))
    ∙ deleted_is v w q (delete_back w q h))
