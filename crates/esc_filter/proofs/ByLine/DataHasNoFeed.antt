-- In a line, the data of a short control has no line feed: if one comes, the control is unfinished.
use Rattle.std.proofs.Common.{ℕ, ℤ, ◌≡◌, Bool, true, false, not, ◌&&◌, ◌||◌, if◌then◌else◌, List, [], ◌∷◌, ◌++◌, length, map, Option, Some, None, ◌⊎◌, inl, inr, refl, sym, ap, ◌∙◌, subst}
use Rattle.std.specs.List.{list_all}
use Rattle.std.proofs.lemmas.Bool.{and_parts}
use Rattle.esc_sixel.specs.Items.{items}
use Rattle.esc_sixel.specs.Meaning.{sixel_of}
use Rattle.xtgettcap.specs.Names.{names_of}
use Rattle.esc_values.specs.Clear.{parts_of}
use Rattle.esc_device.specs.Kinds.{kind_of}
use Rattle.esc_device.specs.Values.{short_of}
use Rattle.esc_device.specs.declared.kind.StringKind.{StringKind}
use Rattle.esc_device.specs.declared.kind.StringKind.TheVariants as kind
use Rattle.esc_frame.specs.declared.classes.Kind.{Kind}
use Rattle.esc_frame.specs.declared.classes.Kind.TheVariants as kinds
use Rattle.esc_frame.specs.Bodies.{is_csi_body}
use Rattle.esc_frame.specs.Classes.{class_of, is_c0, is_put, is_text, letter_of, raw_of, without_noise, bytes_of_class}
use Rattle.esc_frame.specs.Events.{Event}
use Rattle.esc_frame.specs.Events.Event.{Print, Execute, EscDispatch, CsiDispatch, OscDispatch, DcsHook, DcsPut, DcsUnhook, ApcDispatch}
use Rattle.esc_frame.specs.Limits.{is_read, is_within}
use Rattle.esc_frame.specs.Segments.{Segment, AreSegments, HasShape, IsCut, Opener, after_c2, bytes_of, csi_event, csi_events, ending_bytes, ends_itself, events_of_within}
use Rattle.esc_frame.specs.Segments.{apc_events, executes, hook_event, joined_bytes, opener, opener_events, osc_events, puts, text_bytes, text_of}
use Rattle.esc_frame.specs.Segments.Opener.{Long, Raw, Pair}
use Rattle.esc_frame.specs.Segments.Segment.{Character, Wide, Broken, Stray, Control, HighControl, Terminator, Escape, Csi, Osc, Dcs, Apc, Ignored, CutEscape}
use Rattle.esc_frame.specs.Segments.Segment.{CutCsi, CutDcs}
use Rattle.esc_frame.specs.Sequences.{is_prefix, is_sequence}
use Rattle.esc_kitty.specs.Images.{image_of}
use Rattle.esc_kitty.specs.declared.image.KittyImage.{KittyImage}
use Rattle.esc_sequences.specs.Csis.{CsiValue, csi_of}
use Rattle.esc_actions.specs.ControlCodes.{code_of}
use Rattle.esc_actions.specs.Meaning.{meaning_within, values_from}
use Rattle.esc_actions.specs.Readings.{MeansItsCut, reading_within, readings_within}
use Rattle.esc_actions.specs.Values.{Mode, Value, plain, in_sixel, in_termcap, in_short, entered, mode_after, unhook_values, csi, control_values, event_values, image_values, mode_at_hook, hook_values, short, sixel, taken_gives, termcap}
use Rattle.esc_actions.specs.declared.control_code.ControlCode.{ControlCode}
use Rattle.esc_filter.specs.Lines.{IsLine, has_line_feed, is_line_feed}
use Rattle.esc_filter.proofs.ByLine.BytesOfLines.{feeds_append}

pub both : {X : Type 0} (p : X → Bool) (xs ys : List X) → list_all p xs ≡ true
    → list_all p ys ≡ true → list_all p (xs ++ ys) ≡ true
both p [] ys h k = k
both p (x ∷ xs) ys h k =
    let q = and_parts (p x) (list_all p xs) h in rw (q.0, both p xs ys q.1 k) refl

-- the first part has no line feed if both together have none
parts : (x y : List ℕ) → has_line_feed (x ++ y) ≡ false
    → (has_line_feed x ≡ false) × (has_line_feed y ≡ false)
parts [] y h = (refl, h)
parts (b ∷ x) y h = by (is_line_feed b) h (parts x y)
  where
    by : (t : Bool) → (t || has_line_feed (x ++ y)) ≡ false
        → (has_line_feed (x ++ y) ≡ false → (has_line_feed x ≡ false) × (has_line_feed y ≡ false))
        → ((t || has_line_feed x) ≡ false) × (has_line_feed y ≡ false)
    by true g rest = absurd cc
    by false g rest = rest g

-- ---- values without a line feed in data

-- it is no short control with a line feed in its data
abbrev pub is_free : {A : Type 0} → Value A → Bool
is_free (short s) = not (has_line_feed s.content)
is_free _ = true

abbrev mode_free : Mode → Bool
mode_free (in_short ps is f d) = not (has_line_feed d)
mode_free _ = true

-- an event that puts no line feed
abbrev puts_other : Event → Bool
puts_other (DcsPut b) = not (is_line_feed b)
puts_other _ = true

-- an event that ends no string of data
abbrev goes_on : Event → Bool
goes_on DcsUnhook = false
goes_on _ = true

executed_free : (A : Type 0) (o : Option ControlCode) → list_all is_free (control_values {A = A} o)
    ≡ true
executed_free A None = refl
executed_free A (Some c) = refl

csi_free : (A : Type 0) (vs : List CsiValue) → list_all (is_free {A = A}) (map csi vs) ≡ true
csi_free A [] = refl
csi_free A (v ∷ vs) = csi_free A vs

opened_free : (A : Type 0) (k : StringKind) (f : ℕ) (ps : List ℤ) (is : List ℕ) (more : Bool)
    → list_all is_free (hook_values {A = A} k f ps is more) ≡ true
opened_free A kind.Sixel f ps is more = refl
opened_free A kind.Termcap f ps is more = refl
opened_free A kind.Short f ps is more = refl
opened_free A kind.Other f ps is more = refl

taken_free : (A : Type 0) (m : Mode) (b : ℕ) → list_all is_free (taken_gives {A = A} m b) ≡ true
taken_free A plain b = refl
taken_free A (in_sixel ps d) b = refl
taken_free A (in_termcap d) b = refl
taken_free A (in_short ps is f d) b = refl
taken_free A entered b = refl

imaged_free : (A : Type 0) (o : Option (KittyImage A)) → list_all is_free (image_values o) ≡ true
imaged_free A None = refl
imaged_free A (Some i) = refl

given_open : (A : Type 0) (limit : Option ℕ) (m : Mode) (e : Event) → goes_on e ≡ true
    → list_all is_free (event_values {A = A} limit m e) ≡ true
given_open A limit m DcsUnhook h = absurd cc
given_open A limit m (Print c) h = refl
given_open A limit m (Execute b) h = executed_free A (code_of b)
given_open A limit m (EscDispatch is more f) h = refl
given_open A limit m (CsiDispatch es more f) h = csi_free A (csi_of es more f)
given_open A limit m (OscDispatch ps) h = refl
given_open A limit m (DcsHook f ps is more) h = opened_free A (kind_of f is more) f ps is more
given_open A limit m (DcsPut b) h = taken_free A m b
given_open A limit m (ApcDispatch t) h = imaged_free A (image_of t)

where_within : {X : Type 0} (p : X → Bool) (t : Bool) (x : X) → p x ≡ true
    → list_all p (if t then x ∷ [] else []) ≡ true
where_within p true x h = rw h refl
where_within p false x h = refl

closed_free : (A : Type 0) (limit : Option ℕ) (m : Mode) → mode_free m ≡ true
    → list_all is_free (unhook_values {A = A} limit m) ≡ true
closed_free A limit plain h = refl
closed_free A limit (in_sixel ps d) h =
    where_within is_free (is_within limit (length d)) (sixel (sixel_of ps (items d))) refl
closed_free A limit (in_termcap d) h =
    where_within is_free (is_within limit (length d)) (termcap (names_of d)) refl
closed_free A limit (in_short ps is f d) h =
    where_within is_free (is_within limit (length d)) (short (short_of ps is f d)) h
closed_free A limit entered h = refl

given_free : (A : Type 0) (limit : Option ℕ) (m : Mode) (e : Event) → mode_free m ≡ true
    → list_all is_free (event_values {A = A} limit m e) ≡ true
given_free A limit m DcsUnhook h = closed_free A limit m h
given_free A limit m (Print c) h = refl
given_free A limit m (Execute b) h = executed_free A (code_of b)
given_free A limit m (EscDispatch is more f) h = refl
given_free A limit m (CsiDispatch es more f) h = csi_free A (csi_of es more f)
given_free A limit m (OscDispatch ps) h = refl
given_free A limit m (DcsHook f ps is more) h = opened_free A (kind_of f is more) f ps is more
given_free A limit m (DcsPut b) h = taken_free A m b
given_free A limit m (ApcDispatch t) h = imaged_free A (image_of t)

-- the same for strings that do not end
values_open : (A : Type 0) (limit : Option ℕ) (m : Mode) (es : List Event)
    → list_all goes_on es ≡ true → list_all is_free (values_from {A = A} limit m es) ≡ true
values_open A limit m [] h = refl
values_open A limit m (e ∷ es) h =
    let q = and_parts (goes_on e) (list_all goes_on es) h in
    both is_free (event_values limit m e) (values_from limit (mode_after m e) es)
    (given_open A limit m e q.0)
    (values_open A limit (mode_after m e) es q.1)

opened_mode : (k : StringKind) (f : ℕ) (ps : List ℤ) (is : List ℕ)
    → mode_free (mode_at_hook k f ps is) ≡ true
opened_mode kind.Sixel f ps is = refl
opened_mode kind.Termcap f ps is = refl
opened_mode kind.Short f ps is = refl
opened_mode kind.Other f ps is = refl

not_false : (t : Bool) → not t ≡ true → t ≡ false
not_false true h = absurd cc
not_false false h = refl

one_free : (b : ℕ) → not (is_line_feed b) ≡ true → has_line_feed (b ∷ []) ≡ false
one_free b h = rw (not_false (is_line_feed b) h) refl

taken_mode : (m : Mode) (b : ℕ) → mode_free m ≡ true → not (is_line_feed b) ≡ true
    → mode_free (mode_after m (DcsPut b)) ≡ true
taken_mode plain b h k = refl
taken_mode (in_sixel ps d) b h k = refl
taken_mode (in_termcap d) b h k = refl
taken_mode (in_short ps is f d) b h k =
    ap not (feeds_append d (b ∷ []) (not_false (has_line_feed d) h) (one_free b k))
taken_mode entered b h k = refl

after_mode : (m : Mode) (e : Event) → mode_free m ≡ true → puts_other e ≡ true
    → mode_free (mode_after m e) ≡ true
after_mode m (DcsHook f ps is more) h k = opened_mode (kind_of f is more) f ps is
after_mode m (DcsPut b) h k = taken_mode m b h k
after_mode m DcsUnhook h k = refl
after_mode m (Print c) h k = h
after_mode m (Execute b) h k = h
after_mode m (EscDispatch is more f) h k = h
after_mode m (CsiDispatch es more f) h k = h
after_mode m (OscDispatch ps) h k = h
after_mode m (ApcDispatch t) h k = h

-- the same for data without a line feed
values_other : (A : Type 0) (limit : Option ℕ) (m : Mode) (es : List Event)
    → mode_free m ≡ true → list_all puts_other es ≡ true
    → list_all is_free (values_from {A = A} limit m es) ≡ true
values_other A limit m [] k h = refl
values_other A limit m (e ∷ es) k h =
    let q = and_parts (puts_other e) (list_all puts_other es) h in
    both is_free (event_values limit m e) (values_from limit (mode_after m e) es)
    (given_free A limit m e k)
    (values_other A limit (mode_after m e) es (after_mode m e k q.0) q.1)

-- ---- segments

executes_go_on : (bs : List ℕ) → list_all goes_on (map Execute bs) ≡ true
executes_go_on [] = refl
executes_go_on (b ∷ bs) = executes_go_on bs

puts_go_on : (bs : List ℕ) → list_all goes_on (map DcsPut bs) ≡ true
puts_go_on [] = refl
puts_go_on (b ∷ bs) = puts_go_on bs

opener_goes_on : (o : Opener) → list_all goes_on (opener_events o) ≡ true
opener_goes_on (Long n) = executes_go_on (bytes_of_class is_c0 n)
opener_goes_on Raw = refl
opener_goes_on Pair = refl

-- an event that is given or not
some_go_on : (t : Bool) (es : List Event) → list_all goes_on es ≡ true
    → list_all goes_on (if t then es else []) ≡ true
some_go_on true es h = h
some_go_on false es h = refl

string_goes_on : (o : Opener) (t : Bool) (es : List Event) → list_all goes_on es ≡ true
    → list_all goes_on (opener_events o ++ (if t then es else [])) ≡ true
string_goes_on o t es h = both goes_on (opener_events o) _ (opener_goes_on o) (some_go_on t es h)

-- a device control string that has not ended
dcs_goes_on : (limit : Option ℕ) (o : Opener) (x : List ℕ) (f : ℕ) (d : List ℕ)
    → list_all goes_on (events_of_within limit (Dcs o x f d) false) ≡ true
dcs_goes_on limit o x f d = string_goes_on o (is_read limit (without_noise x))
    ((hook_event (without_noise x) f ∷ puts d) ++ [])
    (both goes_on (hook_event (without_noise x) f ∷ puts d) []
    (puts_go_on (bytes_of_class is_put d)) refl)

segment_open : (A : Type 0) (limit : Option ℕ) (g : Segment) (b : Bool)
    → list_all goes_on (events_of_within limit g b) ≡ true
    → list_all is_free (reading_within {A = A} limit g b) ≡ true
segment_open A limit g b h = values_open A limit plain (events_of_within limit g b) h

-- any other segment
other_goes_on : (limit : Option ℕ) (g : Segment) (b : Bool)
    → ((o : Opener) (x : List ℕ) (f : ℕ) (d : List ℕ) → g ≡ Dcs o x f d → ⊥)
    → list_all goes_on (events_of_within limit g b) ≡ true
other_goes_on limit (Character c) b n = refl
other_goes_on limit (Wide x) b n = refl
other_goes_on limit (Broken x) b n = some_go_on b (Print 0xfffd ∷ []) refl
other_goes_on limit (Stray c) b n = refl
other_goes_on limit (Control c) b n = refl
other_goes_on limit (HighControl p c) b n = refl
other_goes_on limit (Terminator p c) b n = refl
other_goes_on limit (Escape x f) b n =
    both goes_on (executes x) _ (executes_go_on (bytes_of_class is_c0 x)) refl
other_goes_on limit (Csi o x f) b n =
    both goes_on (opener_events o ++ executes x) (csi_events (without_noise x) f)
    (both goes_on (opener_events o) (executes x) (opener_goes_on o)
    (executes_go_on (bytes_of_class is_c0 x)))
    (some_go_on (is_csi_body (without_noise x)) (csi_event (without_noise x) f ∷ []) refl)
other_goes_on limit (Osc o ps e) b n =
    string_goes_on o b (osc_events limit (text_of ps))
    (some_go_on (is_within limit (length (text_of ps))) (OscDispatch (parts_of (text_of ps)) ∷ [])
    refl)
other_goes_on limit (Dcs o x f d) b n = absurd (n o x f d refl)
other_goes_on limit (Apc o d) b n =
    string_goes_on o b (apc_events limit (bytes_of_class is_text d))
    (some_go_on (is_within limit (length (bytes_of_class is_text d)))
    (ApcDispatch (bytes_of_class is_text d) ∷ [])
    refl)
other_goes_on limit (Ignored k o d) b n = opener_goes_on o
other_goes_on limit (CutEscape x) b n = executes_go_on (bytes_of_class is_c0 x)
other_goes_on limit (CutCsi o x) b n =
    both goes_on (opener_events o) (executes x) (opener_goes_on o)
    (executes_go_on (bytes_of_class is_c0 x))
other_goes_on limit (CutDcs o x) b n = opener_goes_on o

executes_other : (bs : List ℕ) → list_all puts_other (map Execute bs) ≡ true
executes_other [] = refl
executes_other (b ∷ bs) = executes_other bs

opener_other : (o : Opener) → list_all puts_other (opener_events o) ≡ true
opener_other (Long n) = executes_other (bytes_of_class is_c0 n)
opener_other Raw = refl
opener_other Pair = refl

puts_of : (d : List ℕ) → has_line_feed d ≡ false → list_all puts_other (puts d) ≡ true
puts_of [] h = refl
puts_of (b ∷ d) h = by (is_line_feed b) refl (is_put (class_of b)) h (puts_of d)
  where
    by : (t : Bool) → is_line_feed b ≡ t → (s : Bool) → (t || has_line_feed d) ≡ false
        → (has_line_feed d ≡ false → list_all puts_other (puts d) ≡ true)
        → list_all puts_other (map DcsPut
        (if s then b ∷ bytes_of_class is_put d else bytes_of_class is_put d)) ≡ true
    by true e s g rest = absurd cc
    by false e true g rest = rw (e, rest g) refl
    by false e false g rest = rest g

some_other : (t : Bool) (es : List Event) → list_all puts_other es ≡ true
    → list_all puts_other (if t then es else []) ≡ true
some_other true es h = h
some_other false es h = refl

-- a segment whose bytes have no line feed
segment_free : (A : Type 0) (limit : Option ℕ) (g : Segment) (b : Bool)
    → has_line_feed (bytes_of g) ≡ false
    → list_all is_free (reading_within {A = A} limit g b) ≡ true
segment_free A limit (Dcs o x f d) true h =
    let q = parts (opener kinds.Dcs o ++ x ++ f ∷ []) d h in
    values_other A limit plain (events_of_within limit (Dcs o x f d) true) refl
    (both puts_other (opener_events o) _ (opener_other o)
    (some_other (is_read limit (without_noise x)) _
    (both puts_other (hook_event (without_noise x) f ∷ puts d) (DcsUnhook ∷ []) (puts_of d q.1)
    refl)))
segment_free A limit (Dcs o x f d) false h =
    segment_open A limit (Dcs o x f d) false (dcs_goes_on limit o x f d)
segment_free A limit g b h = segment_open A limit g b (other_goes_on limit g b (λ o x f d e. cc))

-- the last segment
last_free : (A : Type 0) (limit : Option ℕ) (g : Segment)
    → list_all is_free (reading_within {A = A} limit g (ends_itself g)) ≡ true
last_free A limit (Dcs o x f d) =
    segment_open A limit (Dcs o x f d) false (dcs_goes_on limit o x f d)
last_free A limit g =
    segment_open A limit g (ends_itself g) (other_goes_on limit g (ends_itself g) (λ o x f d e. cc))

-- ---- lines

-- no line feed, or one at the end
abbrev last_only : List ℕ → Bool
last_only [] = true
last_only (b ∷ []) = true
last_only (b ∷ c ∷ s) = not (is_line_feed b) && last_only (c ∷ s)

split_last : (x : List ℕ) (c : ℕ) (s : List ℕ) → last_only (x ++ c ∷ s) ≡ true
    → (has_line_feed x ≡ false) × (last_only (c ∷ s) ≡ true)
split_last [] c s h = (refl, h)
split_last (b ∷ []) c s h =
    let q = and_parts (not (is_line_feed b)) (last_only (c ∷ s)) h in (one_free b q.0, q.1)
split_last (b ∷ d ∷ x) c s h =
    let q = and_parts (not (is_line_feed b)) (last_only (d ∷ x ++ c ∷ s)) h in
    let r = split_last (d ∷ x) c s q.1 in
    (rw (not_false (is_line_feed b) q.0) r.0, r.1)

open_last : (x : List ℕ) → has_line_feed x ≡ false → last_only x ≡ true
open_last [] h = refl
open_last (b ∷ []) h = refl
open_last (b ∷ c ∷ x) h = by (is_line_feed b) h (open_last (c ∷ x))
  where
    by : (t : Bool) → (t || has_line_feed (c ∷ x)) ≡ false
        → (has_line_feed (c ∷ x) ≡ false → last_only (c ∷ x) ≡ true)
        → (not t && last_only (c ∷ x)) ≡ true
    by true g rest = absurd cc
    by false g rest = rest g

ended_last : (x : List ℕ) (b : ℕ) → has_line_feed x ≡ false → last_only (x ++ b ∷ []) ≡ true
ended_last [] b h = refl
ended_last (a ∷ []) b h = by (is_line_feed a) h
  where
    by : (t : Bool) → (t || false) ≡ false → (not t && true) ≡ true
    by true g = absurd cc
    by false g = refl
ended_last (a ∷ c ∷ x) b h = by (is_line_feed a) h (ended_last (c ∷ x) b)
  where
    by : (t : Bool) → (t || has_line_feed (c ∷ x)) ≡ false
        → (has_line_feed (c ∷ x) ≡ false → last_only ((c ∷ x) ++ b ∷ []) ≡ true)
        → (not t && last_only ((c ∷ x) ++ b ∷ [])) ≡ true
    by true g rest = absurd cc
    by false g rest = rest g

-- a segment has bytes
abbrev HasSome : List ℕ → Type 0
HasSome x = (c : ℕ) × (s : List ℕ) × (x ≡ c ∷ s)

some_more : (x y : List ℕ) → HasSome x → HasSome (x ++ y)
some_more x y (c, s, e) = (c, s ++ y, ap (λ z. z ++ y) e)

some_sequence : (x : List ℕ) → is_sequence x ≡ true → HasSome x
unfolding is_sequence
some_sequence [] h = absurd cc
some_sequence (c ∷ s) h = (c, s, refl)

some_prefix : (x : List ℕ) → is_prefix x ≡ true → HasSome x
unfolding is_prefix
some_prefix [] h = absurd cc
some_prefix (c ∷ s) h = (c, s, refl)

some_pair : (p : Bool) (b : ℕ) → HasSome (after_c2 p b)
some_pair true b = (0xc2, b ∷ [], refl)
some_pair false b = (b, [], refl)

some_opener : (k : Kind) (o : Opener) → HasSome (opener k o)
some_opener k (Long n) = (0x1b, n ++ letter_of k ∷ [], refl)
some_opener k Raw = (raw_of k, [], refl)
some_opener k Pair = (0xc2, raw_of k ∷ [], refl)

some_bytes : (g : Segment) (t : List ℕ) → HasShape g t → HasSome (bytes_of g)
some_bytes (Character b) t h = (b, [], refl)
some_bytes (Wide x) t h = some_sequence x h.0
some_bytes (Broken x) t h = some_prefix x h
some_bytes (Stray b) t h = (b, [], refl)
some_bytes (Control b) t h = (b, [], refl)
some_bytes (HighControl p b) t h = some_pair p b
some_bytes (Terminator p b) t h = some_pair p b
some_bytes (Escape x f) t h = (0x1b, x ++ f ∷ [], refl)
some_bytes (Csi o x f) t h =
    some_more (opener kinds.Csi o ++ x) (f ∷ []) (some_more _ x (some_opener kinds.Csi o))
some_bytes (Osc o ps e) t h =
    some_more (opener kinds.Osc o ++ text_bytes ps) (ending_bytes e)
    (some_more _ (text_bytes ps) (some_opener kinds.Osc o))
some_bytes (CutEscape x) t h = (0x1b, x, refl)
some_bytes (Dcs o x f d) t h =
    some_more (opener kinds.Dcs o ++ x ++ f ∷ []) d
    (some_more (opener kinds.Dcs o ++ x) (f ∷ []) (some_more _ x (some_opener kinds.Dcs o)))
some_bytes (Apc o d) t h = some_more _ d (some_opener kinds.Apc o)
some_bytes (Ignored k o d) t h = some_more _ d (some_opener k o)
some_bytes (CutDcs o x) t h = some_more _ x (some_opener kinds.Dcs o)
some_bytes (CutCsi o x) t h = some_more _ x (some_opener kinds.Csi o)

first_shape : (g : Segment) (gs : List Segment) → AreSegments (g ∷ gs)
    → HasShape g (joined_bytes gs)
first_shape g [] each = each
first_shape g (h ∷ gs) each = each.0

readings_free : (A : Type 0) (limit : Option ℕ) (gs : List Segment) → AreSegments gs
    → last_only (joined_bytes gs) ≡ true → list_all is_free (readings_within {A = A} limit gs)
    ≡ true
readings_free A limit [] each h = refl
readings_free A limit (g ∷ []) each h = last_free A limit g
readings_free A limit (g ∷ h ∷ gs) (shape, finished, each) last =
    let (c, s, e) = some_more (bytes_of h) (joined_bytes gs)
    (some_bytes h (joined_bytes gs) (first_shape h gs each)) in
    let q = split_last (bytes_of g) c s
    (subst (λ y. last_only (bytes_of g ++ y) ≡ true) e last) in
    both is_free (reading_within limit g true) (readings_within limit (h ∷ gs))
    (segment_free A limit g true q.0)
    (readings_free A limit (h ∷ gs) each (ap last_only e ∙ q.1))

-- a line, which has come to its end or not
abbrev pub IsAnyLine : List ℕ → Type 0
IsAnyLine l = IsLine l ⊎ (has_line_feed l ≡ false)

any_last : (l : List ℕ) → IsAnyLine l → last_only l ≡ true
any_last l (inl (x, none, e)) = ap last_only e ∙ ended_last x 0x0a none
any_last l (inr none) = open_last l none

-- by the laws of the cut
pub line_free : {A : Type 0} → MeansItsCut A
    → ((s : List ℕ) → (gs : List Segment) × IsCut s gs) → (limit : Option ℕ) (l : List ℕ)
    → IsAnyLine l → list_all is_free (meaning_within {A = A} limit l) ≡ true
line_free {A} means has limit l line =
    let c = has l in
    ap (list_all is_free) (means limit l c.0 c.1)
    ∙ readings_free A limit c.0 c.1.each (ap last_only (sym c.1.whole) ∙ any_last l line)
