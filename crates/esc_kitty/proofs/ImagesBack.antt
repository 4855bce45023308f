-- Every writable image reads back.
use Rattle.std.proofs.Common.{ℕ, ◌≡◌, true, false, List, [], ◌∷◌, ◌++◌, codes, Option, Some, refl, ap, ◌∙◌}
use Rattle.std.specs.List.{list_all}
use Rattle.std.specs.Option.{option_map}
use Rattle.std.proofs.lemmas.List.Folds.{list_all-append}
use Rattle.esc_values.specs.Cuts.{Pairs}
use Rattle.esc_values.specs.Fields.{Entry, Field, FitAll, Values, entries, in_order, is_bare, values_of, present_pairs}
use Rattle.esc_values.specs.Scalars.{and_then}
use Rattle.esc_values.proofs.Codecs.FieldsReadBack.{entries_pass, find, names_pass, order_passes, reads_back as fields_back, texts, texts_at, with_some}
use Rattle.esc_kitty.specs.Formats.{compose_fields, compose_made, compose_of, frame_fields, frame_made, frame_of, placement_fields, placement_made}
use Rattle.esc_kitty.specs.Formats.{placement_of, transmit_fields, transmit_made}
use Rattle.esc_kitty.specs.Images.{content_of, image_by, image_frame, image_in, image_shown, transmit_of}
use Rattle.esc_kitty.specs.Kinds.{IsNumber, kinds, number_text}
use Rattle.esc_kitty.specs.Texts.{action_keys, asked_keys, compose_keys, content_keys, content_text, display_keys, frame_keys, medium_word, offset_in}
use Rattle.esc_kitty.specs.Texts.{or_action, query_keys, sent_keys, shown_keys, size_in, transmit_keys}
use Rattle.esc_kitty.specs.Words.{verbosity_word}
use Rattle.esc_kitty.specs.Writable.{IsWritableCompose, IsWritableContent, IsWritableFrame, IsWritableImage, IsWritablePlacement, IsWritableTransmit}
use Rattle.esc_kitty.specs.Writable.{ReadsBack}
use Rattle.esc_kitty.specs.declared.verbosity.KittyImageVerbosity.{KittyImageVerbosity}
use Rattle.esc_kitty.specs.declared.verbosity.KittyImageVerbosity.TheVariants.{Verbose}
use Rattle.esc_kitty.specs.declared.content.KittyImageData.{KittyImageData}
use Rattle.esc_kitty.specs.declared.transmit.KittyImageTransmit.{KittyImageTransmit}
use Rattle.esc_kitty.specs.declared.placement.KittyImagePlacement.{KittyImagePlacement}
use Rattle.esc_kitty.specs.declared.frame.KittyImageFrame.{KittyImageFrame}
use Rattle.esc_kitty.specs.declared.compose.KittyImageFrameCompose.{KittyImageFrameCompose}
use Rattle.esc_kitty.specs.declared.image.KittyImage.{KittyImage}
use Rattle.esc_kitty.specs.declared.image.KittyImage.TheVariants as image
use Rattle.esc_kitty.proofs.FieldsBack.{content_is, number_is}
use Rattle.esc_kitty.proofs.KeysRead.{is_entry, is_name, is_value, ArePairs, entries_image, written_pairs}
use Rattle.esc_kitty.proofs.KindsLawful.{laws}
use Rattle.esc_kitty.proofs.ValuesWritten.{number_value, verbosity_value, medium_value, content_size, content_offset, content_kept}
use Rattle.esc_kitty.proofs.Sending.{sends, emits, acts}
use Rattle.esc_kitty.proofs.DeletesBack.{deleted_back}

-- the keys that are written are entries
fields_entries : {S : Type 0} (fs : List (Field kinds S)) (s : S)
    → names_pass (list_all is_name) fs ≡ true → FitAll fs s
    → list_all is_entry (entries fs s) ≡ true
fields_entries fs s named h = entries_pass laws (list_all is_name) fs s named h

both_entries : (xs ys : List Entry) → list_all is_entry xs ≡ true → list_all is_entry ys ≡ true
    → list_all is_entry (xs ++ ys) ≡ true
both_entries xs ys h k = rw (list_all-append is_entry xs ys, h, k) refl

content_entries : {A : Type 0} (c : KittyImageData A) → IsWritableContent c
    → list_all is_entry (content_keys c) ≡ true
content_entries c h =
    rw (
      medium_value c,
      number_value (size_in c) (content_size c h),
      number_value (offset_in c) (content_offset c h),
    ) refl

sent_entries : {A : Type 0} (t : KittyImageTransmit A) → IsWritableTransmit t
    → list_all is_entry (sent_keys t) ≡ true
sent_entries {A = A} t h =
    both_entries (entries (transmit_fields {A = A}) t) (content_keys t.content)
    (fields_entries (transmit_fields {A = A}) t refl h.1) (content_entries t.content h.0)

with_sent : {A S : Type 0} (fs : List (Field kinds S)) (s : S) (t : KittyImageTransmit A)
    → names_pass (list_all is_name) fs ≡ true → FitAll fs s → IsWritableTransmit t
    → list_all is_entry (entries fs s ++ sent_keys t) ≡ true
with_sent fs s t named k h =
    both_entries (entries fs s) (sent_keys t) (fields_entries fs s named k) (sent_entries t h)

said_entries : (q : KittyImageVerbosity) (es : List Entry) → list_all is_entry es ≡ true
    → list_all is_entry ((codes "q", verbosity_word q) ∷ es) ≡ true
said_entries q es h = rw (verbosity_value q, h) refl

asked_entries : (a : List ℕ) (es : List Entry) → is_value (Some a) ≡ true
    → list_all is_entry es ≡ true
    → list_all is_entry (asked_keys a es) ≡ true
asked_entries a es word h = order_passes is_entry ((codes "a", Some a) ∷ es) (rw (word, h) refl)

action_entries : (a : List ℕ) (q : KittyImageVerbosity) (es : List Entry)
    → is_value (Some a) ≡ true → list_all is_entry es ≡ true
    → list_all is_entry (action_keys a q es) ≡ true
action_entries a q es word h =
    asked_entries a ((codes "q", verbosity_word q) ∷ es) word (said_entries q es h)

asked_some : (a : List ℕ) (es : List Entry) → is_bare (present_pairs (asked_keys a es)) ≡ false
asked_some a es = with_some (codes "a") a (in_order es)

action_some : (a : List ℕ) (q : KittyImageVerbosity) (es : List Entry)
    → is_bare (present_pairs (action_keys a q es)) ≡ false
action_some a q es = asked_some a ((codes "q", verbosity_word q) ∷ es)

-- the structs
transmit_back : {A : Type 0} (v : Values) (t : KittyImageTransmit A) → IsWritableTransmit t
    → texts_at (transmit_fields {A = A}) v ≡ texts (transmit_fields {A = A}) t
    → v (codes "t") ≡ medium_word t.content → v (codes "S") ≡ number_text (size_in t.content)
    → v (codes "O") ≡ number_text (offset_in t.content)
    → transmit_of v (content_text t.content) ≡ Some t
transmit_back {A = A} v t h e et ez eo =
    let content : content_of {A = A} v (content_text t.content) ≡ Some t.content =
    rw (et, ez, eo) (content_is t.content h.0) in
    ap (λ (o : Option (KittyImageData A → KittyImageTransmit A)). and_then o (λ make.
    option_map make (content_of v (content_text t.content))))
    (fields_back laws (transmit_fields {A = A}) (transmit_made {A = A}) t v h.1 e)
    ∙ rw content refl

placement_back : (v : Values) (p : KittyImagePlacement) → IsWritablePlacement p
    → texts_at placement_fields v ≡ texts placement_fields p
    → placement_of v ≡ Some p
placement_back v p h e = fields_back laws placement_fields placement_made p v h e

frame_back : (v : Values) (f : KittyImageFrame) → IsWritableFrame f
    → texts_at frame_fields v ≡ texts frame_fields f
    → frame_of v ≡ Some f
frame_back v f h e = fields_back laws frame_fields frame_made f v h e

compose_back : (v : Values) (f : KittyImageFrameCompose) → IsWritableCompose f
    → texts_at compose_fields v ≡ texts compose_fields f
    → compose_of v ≡ Some f
compose_back v f h e = fields_back laws compose_fields compose_made f v h e

-- TransmitData
or_pairs : (es : Pairs) → ArePairs es → ArePairs (or_action es)
or_pairs [] h = (record { lacks = refl; key = refl; value = refl }, tt)
or_pairs (e ∷ es) h = h

or_some : (es : Pairs) → is_bare (or_action es) ≡ false
or_some [] = refl
or_some (e ∷ es) = refl

or_image : {A : Type 0} (es : Pairs) (payload : List ℕ)
    → image_in {A = A} (values_of (or_action es)) payload ≡ image_in (values_of es) payload
or_image [] payload = refl
or_image (e ∷ es) payload = refl

kept_entries : {A : Type 0} (t : KittyImageTransmit A) (q : KittyImageVerbosity)
    → IsWritableTransmit t → list_all is_entry (transmit_keys t q) ≡ true
kept_entries t q h =
    order_passes is_entry ((codes "q", verbosity_word q) ∷ sent_keys t)
    (said_entries q (sent_keys t) (sent_entries t h))

kept_back : {A : Type 0} (t : KittyImageTransmit A) (q : KittyImageVerbosity) → IsWritableTransmit t
    → ReadsBack (image.TransmitData t q)
kept_back {A = A} t q h =
    let keys = transmit_keys t q in
    let v : Values = λ k. find k keys in
    let sent : transmit_of v (content_text t.content) ≡ Some t =
    transmit_back v t h refl refl refl refl in
    sends (image.TransmitData t q) (or_action (present_pairs keys)) (content_text t.content)
    (or_some (present_pairs keys))
    (or_pairs (present_pairs keys) (written_pairs keys (kept_entries t q h)))
    (content_kept t.content h.0)
    (or_image {A = A} (present_pairs keys) (content_text t.content)
    ∙ entries_image keys (content_text t.content)
    ∙ acts v (content_text t.content) q (codes "t") refl refl
    ∙ rw sent refl)

-- Query
asked_back : {A : Type 0} (t : KittyImageTransmit A) → IsWritableTransmit t
    → ReadsBack (image.Query t)
asked_back t h =
    let keys = query_keys t in
    let v : Values = λ k. find k keys in
    let sent : transmit_of v (content_text t.content) ≡ Some t =
    transmit_back v t h refl refl refl refl in
    sends (image.Query t) (present_pairs keys) (content_text t.content)
    (asked_some (codes "q") (sent_keys t))
    (written_pairs keys (asked_entries (codes "q") (sent_keys t) refl (sent_entries t h)))
    (content_kept t.content h.0)
    (entries_image keys (content_text t.content) ∙ acts v (content_text t.content) Verbose
    (codes "q") refl refl ∙ rw sent refl)

-- TransmitDataAndDisplay
shown_is : {A : Type 0} (v : Values) (payload : List ℕ) (t : KittyImageTransmit A)
    (p : KittyImagePlacement) (q : KittyImageVerbosity)
    → placement_of v ≡ Some p → transmit_of v payload ≡ Some t
    → image_shown q v payload ≡ Some (image.TransmitDataAndDisplay t p q)
shown_is v payload t p q placed sent = rw (placed, sent) refl

shown_back : {A : Type 0} (t : KittyImageTransmit A) (p : KittyImagePlacement)
    (q : KittyImageVerbosity) → IsWritableTransmit t → IsWritablePlacement p
    → ReadsBack (image.TransmitDataAndDisplay t p q)
shown_back t p q h k =
    let keys = shown_keys t p q in
    let v : Values = λ k. find k keys in
    let pass = action_entries (codes "T") q (entries placement_fields p ++ sent_keys t) refl
    (with_sent placement_fields p t refl k h) in
    sends (image.TransmitDataAndDisplay t p q) (present_pairs keys) (content_text t.content)
    (action_some (codes "T") q (entries placement_fields p ++ sent_keys t))
    (written_pairs keys pass) (content_kept t.content h.0)
    (entries_image keys (content_text t.content) ∙ acts v (content_text t.content) q (codes "T")
    refl refl
    ∙ shown_is v (content_text t.content) t p q (placement_back v p k refl)
    (transmit_back v t h refl refl refl refl))

-- TransmitFrame
framed_is : {A : Type 0} (v : Values) (payload : List ℕ) (t : KittyImageTransmit A)
    (f : KittyImageFrame) (q : KittyImageVerbosity)
    → frame_of v ≡ Some f → transmit_of v payload ≡ Some t
    → image_frame q v payload ≡ Some (image.TransmitFrame t f q)
framed_is v payload t f q framed sent = rw (framed, sent) refl

framed_back : {A : Type 0} (t : KittyImageTransmit A) (f : KittyImageFrame)
    (q : KittyImageVerbosity) → IsWritableTransmit t → IsWritableFrame f
    → ReadsBack (image.TransmitFrame t f q)
framed_back t f q h k =
    let keys = frame_keys t f q in
    let v : Values = λ k. find k keys in
    let pass = action_entries (codes "f") q (entries frame_fields f ++ sent_keys t) refl
    (with_sent frame_fields f t refl k h) in
    sends (image.TransmitFrame t f q) (present_pairs keys) (content_text t.content)
    (action_some (codes "f") q (entries frame_fields f ++ sent_keys t))
    (written_pairs keys pass) (content_kept t.content h.0)
    (entries_image keys (content_text t.content) ∙ acts v (content_text t.content) q (codes "f")
    refl refl
    ∙ framed_is v (content_text t.content) t f q (frame_back v f k refl)
    (transmit_back v t h refl refl refl refl))

-- Display
display_entries : (i n : Option ℕ) (p : KittyImagePlacement) (q : KittyImageVerbosity) → IsNumber i
    → IsNumber n → IsWritablePlacement p
    → list_all is_entry (display_keys i n p q) ≡ true
display_entries i n p q hi hn k =
    let placed = fields_entries placement_fields p refl k in
    action_entries (codes "p") q
    ((codes "i", number_text i) ∷ (codes "I", number_text n) ∷ entries placement_fields p) refl
    (rw (number_value i hi, number_value n hn, placed) refl)

displayed_is : {A : Type 0} (v : Values) (i n : Option ℕ) (p : KittyImagePlacement)
    (q : KittyImageVerbosity) → IsNumber i → IsNumber n
    → v (codes "i") ≡ number_text i → v (codes "I") ≡ number_text n → placement_of v ≡ Some p
    → image_by {A = A} (codes "p") q v [] ≡ Some (image.Display i n p q)
displayed_is v i n p q hi hn ei en placed = rw (placed, ei, en, number_is i hi, number_is n hn) refl

displayed_back : {A : Type 0} (i n : Option ℕ) (p : KittyImagePlacement) (q : KittyImageVerbosity)
    → IsNumber i → IsNumber n → IsWritablePlacement p
    → ReadsBack {A = A} (image.Display i n p q)
displayed_back i n p q hi hn k =
    let keys = display_keys i n p q in
    let v : Values = λ k. find k keys in
    emits (image.Display i n p q) (present_pairs keys)
    (action_some (codes "p") q
    ((codes "i", number_text i) ∷ (codes "I", number_text n) ∷ entries placement_fields p))
    (written_pairs keys (display_entries i n p q hi hn k))
    (entries_image keys [] ∙ acts v [] q (codes "p") refl refl
    ∙ displayed_is v i n p q hi hn refl refl (placement_back v p k refl))

-- ComposeFrame
composed_back : {A : Type 0} (f : KittyImageFrameCompose) (q : KittyImageVerbosity)
    → IsWritableCompose f → ReadsBack {A = A} (image.ComposeFrame f q)
composed_back f q h =
    let keys = compose_keys f q in
    let v : Values = λ k. find k keys in
    let composed : compose_of v ≡ Some f = compose_back v f h refl in
    let pass = action_entries (codes "c") q (entries compose_fields f) refl
    (fields_entries compose_fields f refl h) in
    emits (image.ComposeFrame f q) (present_pairs keys)
    (action_some (codes "c") q (entries compose_fields f)) (written_pairs keys pass)
    (entries_image keys [] ∙ acts v [] q (codes "c") refl refl ∙ rw composed refl)

pub reads_back : {A : Type 0} (i : KittyImage A) → IsWritableImage i → ReadsBack i
reads_back (image.TransmitData t q) h = kept_back t q h
reads_back (image.TransmitDataAndDisplay t p q) h = shown_back t p q h.0 h.1
reads_back (image.Display i n p q) h = displayed_back i n p q h.0 h.1 h.2
reads_back (image.Delete w q) h = deleted_back w q h
reads_back (image.Query t) h = asked_back t h
reads_back (image.TransmitFrame t f q) h = framed_back t f q h.0 h.1
reads_back (image.ComposeFrame f q) h = composed_back f q h
