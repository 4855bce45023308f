-- How keys that are written, with and without a payload, are read.
use Rattle.std.proofs.Common.{ℕ, ◌≡◌, true, false, List, [], ◌∷◌, ◌++◌, codes, Some, refl, ◌∙◌}
use Rattle.std.specs.List.{list_all}
use Rattle.std.specs.Option.{unwrap_or}
use Rattle.esc_values.specs.Cuts.{Pairs}
use Rattle.esc_values.specs.Fields.{Values, is_bare, values_of}
use Rattle.esc_values.proofs.Clear.PlainPartsAreClear.{all_append}
use Rattle.esc_kitty.specs.Images.{image_by, image_in, image_of}
use Rattle.esc_kitty.specs.Texts.{keys_text}
use Rattle.esc_kitty.specs.Words.{verbosity_word}
use Rattle.esc_kitty.specs.Writable.{is_kept}
use Rattle.esc_kitty.specs.declared.verbosity.KittyImageVerbosity.{KittyImageVerbosity}
use Rattle.esc_kitty.specs.declared.image.KittyImage.{KittyImage}
use Rattle.esc_kitty.proofs.FieldsBack.{verbosity_back}
use Rattle.esc_kitty.proofs.KeysRead.{ArePairs, keys_pass, with_payload, without_payload}
use Rattle.esc_kitty.proofs.ValuesWritten.{word_kept}

-- with a payload, and without
pub sends : {A : Type 0} (i : KittyImage A) (es : Pairs) (payload : List ℕ) → is_bare es ≡ false
    → ArePairs es → list_all is_kept payload ≡ true
    → image_in {A = A} (values_of es) payload ≡ Some i
    → (list_all is_kept (0x47 ∷ (keys_text es ++ 0x3b ∷ payload)) ≡ true)
    × (image_of {A = A} (0x47 ∷ (keys_text es ++ 0x3b ∷ payload)) ≡ Some i)
sends i es payload some pairs kept is = (
  all_append is_kept (keys_text es) (0x3b ∷ payload) (keys_pass is_kept word_kept refl es pairs)
      kept,
  with_payload es payload some pairs ∙ is,
)

pub emits : {A : Type 0} (i : KittyImage A) (es : Pairs) → is_bare es ≡ false → ArePairs es
    → image_in {A = A} (values_of es) [] ≡ Some i
    → (list_all is_kept (0x47 ∷ (keys_text es ++ [])) ≡ true)
    × (image_of {A = A} (0x47 ∷ (keys_text es ++ [])) ≡ Some i)
emits i es some pairs is = (
  all_append is_kept (keys_text es) [] (keys_pass is_kept word_kept refl es pairs) refl,
  without_payload es some pairs ∙ is,
)

-- the action of keys
pub acts : {A : Type 0} (v : Values) (payload : List ℕ) (q : KittyImageVerbosity) (a : List ℕ)
    → v (codes "q") ≡ verbosity_word q
    → unwrap_or (v (codes "a")) (codes "t") ≡ a
    → image_in {A = A} v payload ≡ image_by a q v payload
acts v payload q a said action = rw (said, verbosity_back q, action) refl
