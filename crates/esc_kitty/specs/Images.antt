-- The data of an application program command means an image.
use Rattle.std.specs.Prelude.{ℕ, ◌+◌, ◌==◌, nat_le, ◌&&◌, Bool, true, false, if◌then◌else◌, List, [], ◌∷◌, codes, Option, Some, None}
use Rattle.std.specs.Option.{option_map, unwrap_or}
use Rattle.esc_values.specs.Base64.{base64_text_of}
use Rattle.esc_values.specs.Cuts.{cut_at}
use Rattle.esc_values.specs.Scalars.{and_then, utf8_of}
use Rattle.esc_values.specs.Fields.{Values, values_of}
use Rattle.esc_kitty.specs.Formats.{compose_of, frame_of, placement_of, transmit_with}
use Rattle.esc_kitty.specs.Keys.{keys_of, number, signed_number}
use Rattle.esc_kitty.specs.Words.{is, verbosity_of}
use Rattle.esc_kitty.specs.declared.verbosity.KittyImageVerbosity.{KittyImageVerbosity}
use Rattle.esc_kitty.specs.declared.verbosity.KittyImageVerbosity.TheVariants.{Verbose}
use Rattle.esc_kitty.specs.declared.content.KittyImageData.{KittyImageData}
use Rattle.esc_kitty.specs.declared.content.KittyImageData.TheVariants.{Direct, File, TemporaryFile, SharedMem}
use Rattle.esc_kitty.specs.declared.transmit.KittyImageTransmit.{KittyImageTransmit}
use Rattle.esc_kitty.specs.declared.delete.KittyImageDelete.{KittyImageDelete}
use Rattle.esc_kitty.specs.declared.delete.KittyImageDelete.TheVariants.{All, ByImageId, ByImageNumber, AtCursorPosition, AnimationFrames, DeleteAt}
use Rattle.esc_kitty.specs.declared.delete.KittyImageDelete.TheVariants.{DeleteAtZ, DeleteColumn, DeleteRow, DeleteZ, ByImageIdRange}
use Rattle.esc_kitty.specs.declared.image.KittyImage.{KittyImage}
use Rattle.esc_kitty.specs.declared.image.KittyImage.TheVariants as image

-- the content of an image, by the value of `t`; the size is that of `S`, the offset that of `O`
abbrev pub content_by : {A : Type 0} → List ℕ → Option ℕ → Option ℕ → List ℕ
    → Option (KittyImageData A)
content_by w size offset payload =
    if is w (codes "d") then option_map Direct (utf8_of payload)
    else if is w (codes "f") then option_map (λ t. File t size offset) (base64_text_of payload)
    else if is w (codes "t") then option_map (λ t. TemporaryFile t size offset)
    (base64_text_of payload)
    else if is w (codes "s") then option_map (λ t. SharedMem t size offset) (base64_text_of payload)
    else None

abbrev pub content_of : {A : Type 0} → Values → List ℕ → Option (KittyImageData A)
content_of v payload = content_by (unwrap_or (v (codes "t")) (codes "d")) (number v (codes "S"))
    (number v (codes "O")) payload

-- an image on its way to the terminal
abbrev pub transmit_of : {A : Type 0} → Values → List ℕ → Option (KittyImageTransmit A)
transmit_of {A = A} v payload =
    and_then (transmit_with {A = A} v) (λ make. option_map make (content_of v payload))

-- the deletion of a small letter, one line a letter; d says whether the data is deleted too
abbrev pub delete_by : ℕ → Bool → Values → Option KittyImageDelete
delete_by c d v =
    -- a
    if c == 0x61 then Some (All d)
    -- i
    else if c == 0x69 then option_map (λ i. ByImageId i (number v (codes "p")) d)
    (number v (codes "i"))
    -- n
    else if c == 0x6e then option_map (λ n. ByImageNumber n (number v (codes "p")) d)
    (number v (codes "I"))
    -- c
    else if c == 0x63 then Some (AtCursorPosition d)
    -- f
    else if c == 0x66 then Some (AnimationFrames d)
    -- p
    else if c == 0x70 then and_then (number v (codes "x")) (λ x.
    option_map (λ y. DeleteAt x y d) (number v (codes "y")))
    -- q
    else if c == 0x71 then and_then (number v (codes "x")) (λ x. and_then (number v (codes "y"))
    (λ y. option_map (λ z. DeleteAtZ x y z d) (signed_number v (codes "z"))))
    -- x
    else if c == 0x78 then option_map (λ x. DeleteColumn x d) (number v (codes "x"))
    -- y
    else if c == 0x79 then option_map (λ y. DeleteRow y d) (number v (codes "y"))
    -- z
    else if c == 0x7a then option_map (λ z. DeleteZ z d) (signed_number v (codes "z"))
    -- r
    else if c == 0x72 then and_then (number v (codes "x")) (λ x.
    option_map (λ y. ByImageIdRange x y d) (number v (codes "y")))
    else None

-- the value of `d` is one letter; a capital one deletes the data too
abbrev pub is_capital : ℕ → Bool
is_capital c = nat_le 0x41 c && nat_le c 0x5a

abbrev pub delete_in : List ℕ → Values → Option KittyImageDelete
delete_in (c ∷ []) v = if is_capital c then delete_by (c + 0x20) true v else delete_by c false v
delete_in w v = None

abbrev pub delete_of : Values → Option KittyImageDelete
delete_of v = delete_in (unwrap_or (v (codes "d")) (codes "a")) v

-- an image that is kept and shown, and a frame that is kept
abbrev pub image_shown : {A : Type 0} → KittyImageVerbosity → Values → List ℕ
    → Option (KittyImage A)
image_shown q v payload = and_then (placement_of v) (λ p.
    option_map (λ t. image.TransmitDataAndDisplay t p q) (transmit_of v payload))

abbrev pub image_frame : {A : Type 0} → KittyImageVerbosity → Values → List ℕ
    → Option (KittyImage A)
image_frame q v payload =
    and_then (frame_of v) (λ f. option_map (λ t. image.TransmitFrame t f q) (transmit_of v payload))

-- a kept image that is shown
abbrev pub image_display : {A : Type 0} → KittyImageVerbosity → Values → Option (KittyImage A)
image_display q v =
    option_map (λ p. image.Display (number v (codes "i")) (number v (codes "I")) p q)
    (placement_of v)

-- the image of keys and a payload, one line a value of `a`
abbrev pub image_by : {A : Type 0} → List ℕ → KittyImageVerbosity → Values → List ℕ
    → Option (KittyImage A)
image_by a q v payload =
    if is a (codes "t") then option_map (λ t. image.TransmitData t q) (transmit_of v payload)
    else if is a (codes "q") then option_map image.Query (transmit_of v payload)
    else if is a (codes "T") then image_shown q v payload
    else if is a (codes "p") then image_display q v
    else if is a (codes "d") then option_map (λ w. image.Delete w q) (delete_of v)
    else if is a (codes "f") then image_frame q v payload
    else if is a (codes "c") then option_map (λ f. image.ComposeFrame f q) (compose_of v)
    else None

abbrev pub image_in : {A : Type 0} → Values → List ℕ → Option (KittyImage A)
image_in v payload = and_then (verbosity_of (v (codes "q"))) (λ q.
    image_by (unwrap_or (v (codes "a")) (codes "t")) q v payload)

-- the image of the text of keys and a payload
abbrev pub image_with : {A : Type 0} → List ℕ → List ℕ → Option (KittyImage A)
image_with keys payload = and_then (keys_of keys) (λ es. image_in (values_of es) payload)

-- the keys up to the first `;`, and the payload after it; without `;` all is keys, and the payload
-- is empty
abbrev pub keys_and_payload : List ℕ → List ℕ × List ℕ
keys_and_payload bs = unwrap_or (cut_at 0x3b bs) (bs, [])

-- the image of the data of an application program command: a `G`, keys and a payload
abbrev pub image_of : {A : Type 0} → List ℕ → Option (KittyImage A)
image_of [] = None
image_of (b ∷ bs) =
    if b == 0x47 then image_with (keys_and_payload bs).0 (keys_and_payload bs).1 else None

-- the verbosity of a command
abbrev pub verbosity_in : {A : Type 0} → KittyImage A → KittyImageVerbosity
verbosity_in (image.TransmitData t q) = q
verbosity_in (image.TransmitDataAndDisplay t p q) = q
verbosity_in (image.Display i n p q) = q
verbosity_in (image.Delete w q) = q
verbosity_in (image.Query t) = Verbose
verbosity_in (image.TransmitFrame t f q) = q
verbosity_in (image.ComposeFrame f q) = q
