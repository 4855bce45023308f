-- An image that kept bytes are read as is writable.
use Rattle.std.proofs.Common.{ℕ, ◌≡◌, ◌<◌, ◌^◌, ◌==◌, ◌+◌, Bool, true, false, List, [], ◌∷◌, codes, Option, Some, None, refl, subst}
use Rattle.std.specs.List.{list_all}
use Rattle.std.specs.Option.{option_map, unwrap_or}
use Rattle.std.specs.Str.{IsUtf8}
use Rattle.std.proofs.lemmas.Bool.{and_parts}
use Rattle.esc_values.specs.Base64.{base64_text_of}
use Rattle.esc_values.specs.Cuts.{Pairs, cut_at}
use Rattle.esc_values.specs.Fields.{Values, values_of}
use Rattle.esc_values.specs.Scalars.{IsSigned, and_then, utf8_of}
use Rattle.esc_values.proofs.Codecs.FieldsReadBack.{read_fits}
use Rattle.esc_values.proofs.Numbers.FactsIfSome.{Where, where_if, where_map, where_then, utf8_keeps, Anything, anything, content_where}
use Rattle.esc_kitty.specs.Formats.{compose_fields, compose_made, compose_of, frame_fields, frame_made, frame_of, placement_fields, placement_made}
use Rattle.esc_kitty.specs.Formats.{placement_of, transmit_fields, transmit_made, transmit_with}
use Rattle.esc_kitty.specs.Images.{content_by, content_of, delete_by, delete_in, delete_of, image_by, image_frame, image_in, image_of, image_shown}
use Rattle.esc_kitty.specs.Images.{image_with, is_capital, keys_and_payload, transmit_of}
use Rattle.esc_kitty.specs.Keys.{keys_of, number, signed_number}
use Rattle.esc_kitty.specs.Kinds.{IsNumber, IsOrder}
use Rattle.esc_kitty.specs.Words.{is, verbosity_of}
use Rattle.esc_kitty.specs.Writable.{IsWritableCompose, IsWritableContent, IsWritableDelete, IsWritableFrame, IsWritableImage, IsWritablePlacement}
use Rattle.esc_kitty.specs.Writable.{IsWritableTransmit, is_kept}
use Rattle.esc_kitty.specs.declared.verbosity.KittyImageVerbosity.{KittyImageVerbosity}
use Rattle.esc_kitty.specs.declared.content.KittyImageData.{KittyImageData}
use Rattle.esc_kitty.specs.declared.content.KittyImageData.TheVariants.{Direct, File, TemporaryFile, SharedMem}
use Rattle.esc_kitty.specs.declared.transmit.KittyImageTransmit.{KittyImageTransmit}
use Rattle.esc_kitty.specs.declared.delete.KittyImageDelete.{KittyImageDelete}
use Rattle.esc_kitty.specs.declared.delete.KittyImageDelete.TheVariants.{ByImageId, ByImageNumber, DeleteAt, DeleteAtZ, DeleteColumn, DeleteRow}
use Rattle.esc_kitty.specs.declared.delete.KittyImageDelete.TheVariants.{DeleteZ, ByImageIdRange}
use Rattle.esc_kitty.specs.declared.image.KittyImage.{KittyImage}
use Rattle.esc_kitty.specs.declared.image.KittyImage.TheVariants as image
use Rattle.esc_kitty.proofs.KindsLawful.{laws, number_fits, order_fits}

-- numbers
read_number : (v : Values) (k : List ℕ) → IsNumber (number v k)
read_number v k = number_fits (v k)

read_signed : (v : Values) (k : List ℕ) → IsOrder (signed_number v k)
read_signed v k = order_fits (v k)

-- says that the content of an image is writable
abbrev GoodContent : (A : Type 0) → KittyImageData A → Type 0
GoodContent A c = IsWritableContent c

content_good : (A : Type 0) (w : List ℕ) (s o : Option ℕ) (payload : List ℕ) → IsNumber s
    → IsNumber o → list_all is_kept payload ≡ true
    → Where (GoodContent A) (content_by {A = A} w s o payload)
content_good A w s o payload hs ho kept =
    where_if (GoodContent A) (is w (codes "d")) _ _
    (where_map (λ t. list_all is_kept t ≡ true) (GoodContent A) Direct (λ t h.
    h) (utf8_of payload)
    (utf8_keeps (λ t. list_all is_kept t ≡ true) payload kept))
    (where_if (GoodContent A) (is w (codes "f")) _ _
    (where_map (λ t. IsUtf8 t) (GoodContent A) (λ t. File t s o) (λ t h. (h, hs, ho))
    (base64_text_of payload) (content_where payload))
    (where_if (GoodContent A) (is w (codes "t")) _ _
    (where_map (λ t. IsUtf8 t) (GoodContent A) (λ t. TemporaryFile t s o) (λ t h. (h, hs, ho))
    (base64_text_of payload) (content_where payload))
    (where_if (GoodContent A) (is w (codes "s")) _ None
    (where_map (λ t. IsUtf8 t) (GoodContent A) (λ t. SharedMem t s o) (λ t h. (h, hs, ho))
    (base64_text_of payload) (content_where payload)) tt)))

abbrev GoodTransmit : (A : Type 0) → KittyImageTransmit A → Type 0
GoodTransmit A t = IsWritableTransmit t

transmit_good : (A : Type 0) (v : Values) (payload : List ℕ) → list_all is_kept payload ≡ true
    → Where (GoodTransmit A) (transmit_of {A = A} v payload)
transmit_good A v payload kept =
    let content = content_good A (unwrap_or (v (codes "t")) (codes "d")) (number v (codes "S"))
    (number v (codes "O")) payload
    (read_number v (codes "S")) (read_number v (codes "O")) kept in
    let MakesGood : (KittyImageData A → KittyImageTransmit A) → Type 0 =
    λ make. (c : KittyImageData A) → GoodContent A c → GoodTransmit A (make c) in
    where_then MakesGood (GoodTransmit A) (λ make. option_map make (content_of v payload))
    (λ make good. where_map (GoodContent A) (GoodTransmit A) make good (content_of v payload)
    content)
    (transmit_with v)
    (read_fits laws (transmit_fields {A = A}) (transmit_made {A = A}) v MakesGood (λ xs h c k.
    (k, h)))

-- placements and frames
placement_good : (v : Values) → Where (λ p. IsWritablePlacement p) (placement_of v)
placement_good v =
    read_fits laws placement_fields placement_made v (λ p. IsWritablePlacement p) (λ xs h. h)

frame_good : (v : Values) → Where (λ f. IsWritableFrame f) (frame_of v)
frame_good v = read_fits laws frame_fields frame_made v (λ f. IsWritableFrame f) (λ xs h. h)

compose_good : (v : Values) → Where (λ f. IsWritableCompose f) (compose_of v)
compose_good v = read_fits laws compose_fields compose_made v (λ f. IsWritableCompose f) (λ xs h. h)

-- deletions
abbrev GoodDelete : KittyImageDelete → Type 0
GoodDelete w = IsWritableDelete w

abbrev Small : ℕ → Type 0
Small n = n < 2 ^ 32

two_good : (f : ℕ → ℕ → KittyImageDelete) → ((x y : ℕ) → Small x → Small y → GoodDelete (f x y))
    → (v : Values)
    → Where GoodDelete (and_then (number v (codes "x")) (λ x.
    option_map (λ y. f x y) (number v (codes "y"))))
two_good f good v =
    where_then Small GoodDelete (λ x. option_map (λ y. f x y) (number v (codes "y")))
    (λ x hx. where_map Small GoodDelete (λ y. f x y) (λ y hy. good x y hx hy) (number v (codes "y"))
    (read_number v (codes "y")))
    (number v (codes "x")) (read_number v (codes "x"))

three_good : (d : Bool) (v : Values)
    → Where GoodDelete (and_then (number v (codes "x")) (λ x. and_then (number v (codes "y"))
    (λ y. option_map (λ z. DeleteAtZ x y z d) (signed_number v (codes "z")))))
three_good d v =
    where_then Small GoodDelete (λ x.
    and_then (number v (codes "y")) (λ y.
    option_map (λ z. DeleteAtZ x y z d) (signed_number v (codes "z"))))
    (λ x hx. where_then Small GoodDelete (λ y.
    option_map (λ z. DeleteAtZ x y z d) (signed_number v (codes "z")))
    (λ y hy. where_map (λ z. IsSigned 32 z) GoodDelete (λ z. DeleteAtZ x y z d) (λ z hz.
    (hx, hy, hz)) (signed_number v (codes "z")) (read_signed v (codes "z")))
    (number v (codes "y")) (read_number v (codes "y")))
    (number v (codes "x")) (read_number v (codes "x"))

delete_by_good : (c : ℕ) (d : Bool) (v : Values) → Where GoodDelete (delete_by c d v)
delete_by_good c d v =
    where_if GoodDelete (c == 0x61) _ _ tt
    (where_if GoodDelete (c == 0x69) _ _ (where_map Small GoodDelete (λ i.
    ByImageId i (number v (codes "p")) d)
    (λ i h. (h, read_number v (codes "p"))) (number v (codes "i")) (read_number v (codes "i")))
    (where_if GoodDelete (c == 0x6e) _ _ (where_map Small GoodDelete (λ n.
    ByImageNumber n (number v (codes "p")) d)
    (λ n h. (h, read_number v (codes "p"))) (number v (codes "I")) (read_number v (codes "I")))
    (where_if GoodDelete (c == 0x63) _ _ tt
    (where_if GoodDelete (c == 0x66) _ _ tt
    (where_if GoodDelete (c == 0x70) _ _ (two_good (λ x y. DeleteAt x y d) (λ x y hx hy.
    (hx, hy)) v)
    (where_if GoodDelete (c == 0x71) _ _ (three_good d v)
    (where_if GoodDelete (c == 0x78) _ _ (where_map Small GoodDelete (λ x. DeleteColumn x d) (λ x h.
    h) (number v (codes "x")) (read_number v (codes "x")))
    (where_if GoodDelete (c == 0x79) _ _ (where_map Small GoodDelete (λ y. DeleteRow y d) (λ y h.
    h) (number v (codes "y")) (read_number v (codes "y")))
    (where_if GoodDelete (c == 0x7a) _ _ (where_map (λ z. IsSigned 32 z) GoodDelete (λ z.
    DeleteZ z d) (λ z h. h) (signed_number v (codes "z"))
    (read_signed v (codes "z")))
    (where_if GoodDelete (c == 0x72) _ None (two_good (λ x y. ByImageIdRange x y d) (λ x y hx hy.
    (hx, hy)) v) tt))))))))))

delete_in_good : (w : List ℕ) (v : Values) → Where GoodDelete (delete_in w v)
delete_in_good [] v = tt
delete_in_good (c ∷ []) v =
    where_if GoodDelete (is_capital c) _ _ (delete_by_good (c + 0x20) true v)
    (delete_by_good c false v)
delete_in_good (c ∷ b ∷ w) v = tt

-- images
abbrev Good : (A : Type 0) → KittyImage A → Type 0
Good A i = IsWritableImage i

shown_good : (A : Type 0) (q : KittyImageVerbosity) (v : Values) (payload : List ℕ)
    → list_all is_kept payload ≡ true
    → Where (Good A) (image_shown {A = A} q v payload)
shown_good A q v payload kept =
    where_then (λ p. IsWritablePlacement p) (Good A) (λ p.
    option_map (λ t. image.TransmitDataAndDisplay t p q) (transmit_of v payload))
    (λ p hp. where_map (GoodTransmit A) (Good A) (λ t. image.TransmitDataAndDisplay t p q) (λ t ht.
    (ht, hp)) (transmit_of v payload)
    (transmit_good A v payload kept))
    (placement_of v) (placement_good v)

framed_good : (A : Type 0) (q : KittyImageVerbosity) (v : Values) (payload : List ℕ)
    → list_all is_kept payload ≡ true
    → Where (Good A) (image_frame {A = A} q v payload)
framed_good A q v payload kept =
    where_then (λ f. IsWritableFrame f) (Good A) (λ f.
    option_map (λ t. image.TransmitFrame t f q) (transmit_of v payload))
    (λ f hf. where_map (GoodTransmit A) (Good A) (λ t. image.TransmitFrame t f q) (λ t ht.
    (ht, hf)) (transmit_of v payload) (transmit_good A v payload kept))
    (frame_of v) (frame_good v)

by_good : (A : Type 0) (a : List ℕ) (q : KittyImageVerbosity) (v : Values) (payload : List ℕ)
    → list_all is_kept payload ≡ true
    → Where (Good A) (image_by {A = A} a q v payload)
by_good A a q v payload kept =
    where_if (Good A) (is a (codes "t")) _ _ (where_map (GoodTransmit A) (Good A) (λ t.
    image.TransmitData t q) (λ t h. h) (transmit_of v payload)
    (transmit_good A v payload kept))
    (where_if (Good A) (is a (codes "q")) _ _ (where_map (GoodTransmit A) (Good A) image.Query
    (λ t h. h) (transmit_of v payload)
    (transmit_good A v payload kept))
    (where_if (Good A) (is a (codes "T")) _ _ (shown_good A q v payload kept)
    (where_if (Good A) (is a (codes "p")) _ _ (where_map (λ p. IsWritablePlacement p) (Good A)
    (λ p. image.Display (number v (codes "i")) (number v (codes "I")) p q) (λ p h.
    (read_number v (codes "i"), read_number v (codes "I"), h))
    (placement_of v) (placement_good v))
    (where_if (Good A) (is a (codes "d")) _ _ (where_map GoodDelete (Good A) (λ w.
    image.Delete w q) (λ w h. h) (delete_of v)
    (delete_in_good (unwrap_or (v (codes "d")) (codes "a")) v))
    (where_if (Good A) (is a (codes "f")) _ _ (framed_good A q v payload kept)
    (where_if (Good A) (is a (codes "c")) _ None
    (where_map (λ f. IsWritableCompose f) (Good A) (λ f. image.ComposeFrame f q) (λ f h.
    h) (compose_of v)
    (compose_good v)) tt))))))

in_good : (A : Type 0) (v : Values) (payload : List ℕ) → list_all is_kept payload ≡ true
    → Where (Good A) (image_in {A = A} v payload)
in_good A v payload kept =
    where_then (λ (q : KittyImageVerbosity). Anything q) (Good A) (λ q.
    image_by (unwrap_or (v (codes "a")) (codes "t")) q v payload)
    (λ q u. by_good A (unwrap_or (v (codes "a")) (codes "t")) q v payload kept)
    (verbosity_of (v (codes "q"))) (anything (verbosity_of (v (codes "q"))))

with_good : (A : Type 0) (keys payload : List ℕ) → list_all is_kept payload ≡ true
    → Where (Good A) (image_with {A = A} keys payload)
with_good A keys payload kept =
    where_then (λ (es : Pairs). Anything es) (Good A) (λ es. image_in (values_of es) payload)
    (λ es u. in_good A (values_of es) payload kept)
    (keys_of keys) (anything (keys_of keys))

-- a payload is a part of the data
abbrev Rest : List ℕ × List ℕ → Type 0
Rest p = list_all is_kept p.1 ≡ true

cut_kept : (c : ℕ) (bs : List ℕ) → list_all is_kept bs ≡ true → Where Rest (cut_at c bs)
cut_kept c [] h = tt
cut_kept c (b ∷ bs) h =
    let k = and_parts (is_kept b) (list_all is_kept bs) h in
    where_if Rest (b == c) (Some ([], bs)) (option_map (λ (p : List ℕ × List ℕ). (b ∷ p.0, p.1))
    (cut_at c bs)) k.1
    (where_map Rest Rest (λ (p : List ℕ × List ℕ). (b ∷ p.0, p.1)) (λ p h.
    h) (cut_at c bs) (cut_kept c bs k.1))

or_empty : (bs : List ℕ) (o : Option (List ℕ × List ℕ)) → Where Rest o → Rest (unwrap_or o (bs, []))
or_empty bs None h = refl
or_empty bs (Some p) h = h

payload_kept : (bs : List ℕ) → list_all is_kept bs ≡ true
    → list_all is_kept (keys_and_payload bs).1 ≡ true
payload_kept bs h = or_empty bs (cut_at 0x3b bs) (cut_kept 0x3b bs h)

image_good : (A : Type 0) (bs : List ℕ) → list_all is_kept bs ≡ true
    → Where (Good A) (image_of {A = A} bs)
image_good A [] h = tt
image_good A (b ∷ bs) h =
    let k = and_parts (is_kept b) (list_all is_kept bs) h in
    where_if (Good A) (b == 0x47) _ None
    (with_good A (keys_and_payload bs).0 (keys_and_payload bs).1 (payload_kept bs k.1)) tt

pub kept_is_writable : {A : Type 0} (bs : List ℕ) → list_all is_kept bs ≡ true → (i : KittyImage A)
    → image_of bs ≡ Some i → IsWritableImage i
kept_is_writable {A = A} bs h i e = let P : Option (KittyImage A) → Type 0 =
    λ o. Where (Good A) o in subst P e (image_good A bs h)
