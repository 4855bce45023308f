-- The texts of images.
use Rattle.std.specs.Prelude.{ℕ, ℤ, Bool, if◌then◌else◌, List, [], ◌∷◌, ◌++◌, codes, Option, Some, None}
use Rattle.std.specs.Char.{encode_utf8}
use Rattle.std.specs.Fmt.{decimal, signed_decimal}
use Rattle.std.specs.List.{flat_map}
use Rattle.std.specs.Option.{option_map}
use Rattle.esc_values.specs.Base64.{base64_text}
use Rattle.esc_values.specs.Cuts.{Pairs, pair_text}
use Rattle.esc_values.specs.Fields.{Entry, entries, in_order, present_pairs}
use Rattle.esc_kitty.specs.Formats.{compose_fields, frame_fields, placement_fields, transmit_fields}
use Rattle.esc_kitty.specs.Kinds.{number_text, signed_text}
use Rattle.esc_kitty.specs.Words.{verbosity_word}
use Rattle.esc_kitty.specs.declared.write_keys.Value.{Value}
use Rattle.esc_kitty.specs.declared.write_keys.Value.TheVariants as value
use Rattle.esc_kitty.specs.declared.write_keys.Key.{Key}
use Rattle.esc_kitty.specs.declared.verbosity.KittyImageVerbosity.{KittyImageVerbosity}
use Rattle.esc_kitty.specs.declared.content.KittyImageData.{KittyImageData}
use Rattle.esc_kitty.specs.declared.content.KittyImageData.TheVariants.{Direct, DirectBin, File, TemporaryFile, SharedMem}
use Rattle.esc_kitty.specs.declared.transmit.KittyImageTransmit.{KittyImageTransmit}
use Rattle.esc_kitty.specs.declared.placement.KittyImagePlacement.{KittyImagePlacement}
use Rattle.esc_kitty.specs.declared.delete.KittyImageDelete.{KittyImageDelete}
use Rattle.esc_kitty.specs.declared.delete.KittyImageDelete.TheVariants.{All, ByImageId, ByImageNumber, AtCursorPosition, AnimationFrames, DeleteAt}
use Rattle.esc_kitty.specs.declared.delete.KittyImageDelete.TheVariants.{DeleteAtZ, DeleteColumn, DeleteRow, DeleteZ, ByImageIdRange}
use Rattle.esc_kitty.specs.declared.frame.KittyImageFrame.{KittyImageFrame}
use Rattle.esc_kitty.specs.declared.compose.KittyImageFrameCompose.{KittyImageFrameCompose}
use Rattle.esc_kitty.specs.declared.image.KittyImage.{KittyImage}
use Rattle.esc_kitty.specs.declared.image.KittyImage.TheVariants as image

-- a key and its value as the program holds them
abbrev pub value_text : Value → Option (List ℕ)
value_text (value.Number n) = option_map decimal n
value_text (value.Signed z) = option_map signed_decimal z
value_text (value.Letter c) = Some (encode_utf8 c)
value_text (value.Word w) = option_map (λ t. t.now) w

abbrev pub entry : Key → Entry
entry k = (encode_utf8 k.0, value_text k.1)

-- keys with their values, and `,` between them
abbrev pub keys_text : Pairs → List ℕ
keys_text [] = []
keys_text (e ∷ es) = pair_text e ++ flat_map (λ d. 0x2c ∷ pair_text d) es

-- the text before a key: `,`, unless it is the first
abbrev pub separator : Bool → List ℕ
separator first = if first then [] else 0x2c ∷ []

abbrev pub entry_by : Bool → List ℕ → Option (List ℕ) → List ℕ
entry_by first n None = []
entry_by first n (Some v) = separator first ++ pair_text (n, v)

abbrev pub entry_text : Bool → Entry → List ℕ
entry_text first e = entry_by first e.0 e.1

-- is `t` of the content of an image; then `S`, `O` and the payload
abbrev pub medium_word : {A : Type 0} → KittyImageData A → Option (List ℕ)
medium_word (Direct t) = None
medium_word (DirectBin b) = None
medium_word (File t s o) = Some (codes "f")
medium_word (TemporaryFile t s o) = Some (codes "t")
medium_word (SharedMem t s o) = Some (codes "s")

abbrev pub size_in : {A : Type 0} → KittyImageData A → Option ℕ
size_in (Direct t) = None
size_in (DirectBin b) = None
size_in (File t s o) = s
size_in (TemporaryFile t s o) = s
size_in (SharedMem t s o) = s

abbrev pub offset_in : {A : Type 0} → KittyImageData A → Option ℕ
offset_in (Direct t) = None
offset_in (DirectBin b) = None
offset_in (File t s o) = o
offset_in (TemporaryFile t s o) = o
offset_in (SharedMem t s o) = o

abbrev pub content_text : {A : Type 0} → KittyImageData A → List ℕ
content_text (Direct t) = t
content_text (DirectBin b) = base64_text b
content_text (File t s o) = base64_text t
content_text (TemporaryFile t s o) = base64_text t
content_text (SharedMem t s o) = base64_text t

-- the keys of the content
abbrev pub content_keys : {A : Type 0} → KittyImageData A → List Entry
content_keys c =
    (codes "t", medium_word c)
    ∷ (codes "S", number_text (size_in c))
    ∷ (codes "O", number_text (offset_in c))
    ∷ []

abbrev pub sent_keys : {A : Type 0} → KittyImageTransmit A → List Entry
sent_keys t = entries transmit_fields t ++ content_keys t.content

-- These are the keys of each action, in the order of their bytes, each with its value if that
-- differs from the one that is read without the key.
abbrev pub transmit_keys : {A : Type 0} → KittyImageTransmit A → KittyImageVerbosity → List Entry
transmit_keys t q = in_order ((codes "q", verbosity_word q) ∷ sent_keys t)

-- the keys of an action that `a` names; then the same with the verbosity
abbrev pub asked_keys : List ℕ → List Entry → List Entry
asked_keys a es = in_order ((codes "a", Some a) ∷ es)

abbrev pub action_keys : List ℕ → KittyImageVerbosity → List Entry → List Entry
action_keys a q es = asked_keys a ((codes "q", verbosity_word q) ∷ es)

abbrev pub query_keys : {A : Type 0} → KittyImageTransmit A → List Entry
query_keys t = asked_keys (codes "q") (sent_keys t)

abbrev pub shown_keys : {A : Type 0} → KittyImageTransmit A → KittyImagePlacement
    → KittyImageVerbosity → List Entry
shown_keys t p q = action_keys (codes "T") q (entries placement_fields p ++ sent_keys t)

abbrev pub display_keys : Option ℕ → Option ℕ → KittyImagePlacement → KittyImageVerbosity
    → List Entry
display_keys i n p q =
    action_keys (codes "p") q
    ((codes "i", number_text i) ∷ (codes "I", number_text n) ∷ entries placement_fields p)

abbrev pub frame_keys : {A : Type 0} → KittyImageTransmit A → KittyImageFrame → KittyImageVerbosity
    → List Entry
frame_keys t f q = action_keys (codes "f") q (entries frame_fields f ++ sent_keys t)

abbrev pub compose_keys : KittyImageFrameCompose → KittyImageVerbosity → List Entry
compose_keys f q = action_keys (codes "c") q (entries compose_fields f)

-- the keys of a deletion by id or number, and of any other
abbrev pub named_keys : List ℕ → Option ℕ → Option ℕ → Option ℕ → KittyImageVerbosity → List Entry
named_keys d n i p q =
    (codes "I", number_text n)
    ∷ (codes "a", Some (codes "d"))
    ∷ (codes "d", Some d)
    ∷ (codes "i", number_text i)
    ∷ (codes "p", number_text p)
    ∷ (codes "q", verbosity_word q)
    ∷ []

abbrev pub placed_keys : List ℕ → Option ℕ → Option ℕ → Option ℤ → KittyImageVerbosity → List Entry
placed_keys d x y z q =
    (codes "a", Some (codes "d"))
    ∷ (codes "d", Some d)
    ∷ (codes "q", verbosity_word q)
    ∷ (codes "x", number_text x)
    ∷ (codes "y", number_text y)
    ∷ (codes "z", signed_text z)
    ∷ []

-- the letter, a capital where the data too is deleted
abbrev pub letter : Bool → List ℕ → List ℕ → List ℕ
letter d small capital = if d then capital else small

abbrev pub delete_keys : KittyImageDelete → KittyImageVerbosity → List Entry
delete_keys (All d) q = placed_keys (letter d (codes "a") (codes "A")) None None None q
delete_keys (ByImageId i p d) q = named_keys (letter d (codes "i") (codes "I")) None (Some i) p q
delete_keys (ByImageNumber n p d) q =
    named_keys (letter d (codes "n") (codes "N")) (Some n) None p q
delete_keys (AtCursorPosition d) q = placed_keys (letter d (codes "c") (codes "C")) None None None q
delete_keys (AnimationFrames d) q = placed_keys (letter d (codes "f") (codes "F")) None None None q
delete_keys (DeleteAt x y d) q =
    placed_keys (letter d (codes "p") (codes "P")) (Some x) (Some y) None q
delete_keys (DeleteAtZ x y z d) q =
    placed_keys (letter d (codes "q") (codes "Q")) (Some x) (Some y) (Some z) q
delete_keys (DeleteColumn x d) q =
    placed_keys (letter d (codes "x") (codes "X")) (Some x) None None q
delete_keys (DeleteRow y d) q = placed_keys (letter d (codes "y") (codes "Y")) None (Some y) None q
delete_keys (DeleteZ z d) q = placed_keys (letter d (codes "z") (codes "Z")) None None (Some z) q
delete_keys (ByImageIdRange x y d) q =
    placed_keys (letter d (codes "r") (codes "R")) (Some x) (Some y) None q

-- `a=t`, where no other key is written
abbrev pub or_action : Pairs → Pairs
or_action [] = (codes "a", codes "t") ∷ []
or_action (e ∷ es) = e ∷ es

-- the keys of an image
abbrev pub image_keys : {A : Type 0} → KittyImage A → Pairs
image_keys (image.TransmitData t q) = or_action (present_pairs (transmit_keys t q))
image_keys (image.TransmitDataAndDisplay t p q) = present_pairs (shown_keys t p q)
image_keys (image.Display i n p q) = present_pairs (display_keys i n p q)
image_keys (image.Delete w q) = present_pairs (delete_keys w q)
image_keys (image.Query t) = present_pairs (query_keys t)
image_keys (image.TransmitFrame t f q) = present_pairs (frame_keys t f q)
image_keys (image.ComposeFrame f q) = present_pairs (compose_keys f q)

-- `;` and the payload, wherever something is transmitted
abbrev pub payload_text : {A : Type 0} → KittyImage A → List ℕ
payload_text (image.TransmitData t q) = 0x3b ∷ content_text t.content
payload_text (image.TransmitDataAndDisplay t p q) = 0x3b ∷ content_text t.content
payload_text (image.Display i n p q) = []
payload_text (image.Delete w q) = []
payload_text (image.Query t) = 0x3b ∷ content_text t.content
payload_text (image.TransmitFrame t f q) = 0x3b ∷ content_text t.content
payload_text (image.ComposeFrame f q) = []

-- the data of the application program command
abbrev pub image_body : {A : Type 0} → KittyImage A → List ℕ
image_body i = 0x47 ∷ (keys_text (image_keys i) ++ payload_text i)

-- is `ESC _` and the data, without the string terminator
abbrev pub image_text : {A : Type 0} → KittyImage A → List ℕ
image_text i = 0x1b ∷ 0x5f ∷ image_body i
