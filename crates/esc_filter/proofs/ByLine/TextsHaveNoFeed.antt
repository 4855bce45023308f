-- Texts of values without a line feed.
use Rattle.std.proofs.Common.{ℕ, ℤ, pos, negsuc, ◌≡◌, ◌≢◌, ◌<◌, ◌^◌, Bool, true, false, not, ◌&&◌, ◌||◌, ◌==◌, if◌then◌else◌, List, [], ◌∷◌, ◌++◌, map, codes, Option, Some, None, refl, sym, ap, ◌∙◌, subst, arith, lit<, append_assoc}
use Rattle.std.specs.Char.{encode_utf8}
use Rattle.std.specs.Fmt.{decimal, signed_decimal}
use Rattle.std.specs.List.{flat_map, list_all, list_any}
use Rattle.std.specs.Option.{option_map}
use Rattle.std.specs.Str.{encode_utf8_all}
use Rattle.std.proofs.lemmas.Bool.{and_parts, eqb-false, true≢false}
use Rattle.std.proofs.lemmas.List.Folds.{list_any-append}
use Rattle.esc_values.specs.Clear.{IsClearText, is_clear}
use Rattle.esc_values.specs.Cuts.{cut_at}
use Rattle.esc_values.proofs.Clear.CutAtCharacter.{Free, encode_free}
use Rattle.esc_values.proofs.Clear.NumbersAreClear.{decimal_passes}
use Rattle.esc_kitty.specs.Texts.{image_body, image_text}
use Rattle.esc_kitty.specs.Writable.{IsWritableImage, ReadsBack as ReadsBackImage, is_kept}
use Rattle.esc_kitty.specs.declared.image.KittyImage.{KittyImage}
use Rattle.esc_osc.specs.Commands.{inner_text}
use Rattle.esc_osc.specs.Writable.{IsWritable as IsWritableCommand}
use Rattle.esc_osc.specs.declared.command.OperatingSystemCommand.{OperatingSystemCommand}
use Rattle.esc_sequences.specs.Csis.{csi_text}
use Rattle.esc_sequences.specs.Escs.{esc_text}
use Rattle.esc_sixel.specs.Texts.{sixel_text}
use Rattle.esc_sixel.specs.Writable.{AreNatural, IsNatural, IsWritable as IsWritableSixel, WritesBack as WritesBackSixel, is_data_byte, is_parameter_byte}
use Rattle.esc_sixel.specs.declared.sixel.Sixel.{Sixel}
use Rattle.xtgettcap.specs.Names.{AreWritable as AreWritableNames, WritesBack as WritesBackNames, is_query_byte, names_text, query_text}
use Rattle.esc_device.specs.Texts.{as_text, params_text, short_text}
use Rattle.esc_device.specs.declared.short.ShortDeviceControl.{ShortDeviceControl}
use Rattle.esc_frame.specs.Classes.{class_of, ends_csi, ends_escape, is_c0, without_noise, bytes_of_class}
use Rattle.esc_frame.specs.Events.{Event}
use Rattle.esc_frame.specs.Events.Event.{Execute}
use Rattle.esc_frame.specs.Fits.{IsOneSegment}
use Rattle.esc_frame.specs.Segments.{Segment, HasShape, Opener, OscUnit, bytes_of, csi_events, ends_itself, escape_event, events_of, executes, opener_events}
use Rattle.esc_frame.specs.Segments.{osc_events, text_of}
use Rattle.esc_frame.specs.Segments.Ending.{Open, Rung, Waits}
use Rattle.esc_frame.specs.Segments.Opener.{Long, Raw, Pair}
use Rattle.esc_frame.specs.Segments.Segment.{Character, Wide, Broken, Stray, Control, HighControl, Terminator, Escape, Csi, Osc, Dcs, Apc, Ignored, CutEscape}
use Rattle.esc_frame.specs.Segments.Segment.{CutCsi, CutDcs}
use Rattle.esc_actions.specs.ControlCodes.{code_number, code_of}
use Rattle.esc_actions.specs.Meaning.{values_from}
use Rattle.esc_actions.specs.Texts.{is_string, is_terminator, text_after, texts_after, whole_text}
use Rattle.esc_actions.specs.Values.{Value, control_values, plain, print, string, control, esc, csi, osc, kitty, sixel, termcap, short, enter, datum, exit}
use Rattle.esc_actions.specs.Writable.{AreWritableFrom, IsWritable, stays_within}
use Rattle.esc_actions.specs.declared.control_code.ControlCode.{ControlCode}
use Rattle.esc_actions.specs.declared.control_code.ControlCode.TheVariants as code
use Rattle.esc_filter.specs.Lines.{has_line_feed, is_line_feed}
use Rattle.esc_filter.specs.Passing.{is_line_feed as is_feed, is_mode_step}
use Rattle.esc_filter.proofs.ByLine.BytesOfLines.{feeds_append, line_feed_is}
use Rattle.esc_filter.proofs.ByLine.DataHasNoFeed.{is_free}

-- ---- texts without a line feed

abbrev pub Feedless : List ℕ → Type 0
Feedless t = has_line_feed t ≡ false

none_before : {X Y : Type 0} (f : X → Y) (o : Option X) → option_map f o ≡ None → o ≡ None
none_before f None h = refl
none_before f (Some x) h = absurd cc

unfree : (t : List ℕ) → Free 0x0a t → Feedless t
unfree [] h = refl
unfree (b ∷ t) h = by (b == 0x0a) h (unfree t)
  where
    here : Option (List ℕ × List ℕ)
    here = Some ([], t)

    by : (s : Bool)
        → (if s then here
        else option_map (λ (p : List ℕ × List ℕ). (b ∷ p.0, p.1)) (cut_at 0x0a t)) ≡ None
        → (Free 0x0a t → Feedless t) → (s || has_line_feed t) ≡ false
    by true g rest = absurd cc
    by false g rest = rest (none_before _ (cut_at 0x0a t) g)

encoded : (c : ℕ) → c ≢ 0x0a → Feedless (encode_utf8 c)
encoded c n = unfree (encode_utf8 c) (encode_free 0x0a c (lit< tt) n)

-- a text that passes a test which a line feed does not pass
passing : (f : ℕ → Bool) → f 0x0a ≡ false → (t : List ℕ) → list_all f t ≡ true → Feedless t
passing f fails [] h = refl
passing f fails (b ∷ t) h =
    let q = and_parts (f b) (list_all f t) h in by (is_line_feed b) refl q.0 (passing f fails t q.1)
  where
    never : (s : Bool) → s ≡ true → s ≡ false → ⊥
    never true p q = cc
    never false p q = cc

    by : (s : Bool) → is_line_feed b ≡ s → f b ≡ true → Feedless t
        → (s || has_line_feed t) ≡ false
    by true e g r = absurd (never (f b) g (ap f (line_feed_is b e) ∙ fails))
    by false e g r = r

clear_char : (c : ℕ) → is_clear c ≡ true → c ≢ 0x0a
clear_char c h e = let bad : is_clear 0x0a ≡ true = subst (λ x. is_clear x ≡ true) e h in cc

clear_chars : (cs : List ℕ) → list_all is_clear cs ≡ true → Feedless (encode_utf8_all cs)
clear_chars [] h = refl
clear_chars (c ∷ cs) h =
    let q = and_parts (is_clear c) (list_all is_clear cs) h in
    feeds_append (encode_utf8 c) (encode_utf8_all cs) (encoded c (clear_char c q.0))
    (clear_chars cs q.1)

clear_text : (t : List ℕ) → IsClearText t → Feedless t
clear_text t (cs, all, e) = subst Feedless e (clear_chars cs all)

-- a byte that stands for itself
abbrev is_other : ℕ → Bool
is_other b = not (b == 0x0a)

number : (n : ℕ) → n < 2 ^ 64 → Feedless (decimal n)
number n h = passing is_other refl (decimal n) (decimal_passes is_other refl n h)

natural : (z : ℤ) → IsNatural z → Feedless (signed_decimal z)
natural (pos n) h = number n (omega (arith, h))
natural (negsuc n) h = absurd h

more_numbers : (zs : List ℤ) → AreNatural zs
    → Feedless (flat_map (λ q. 0x3b ∷ signed_decimal q) zs)
more_numbers [] h = refl
more_numbers (z ∷ zs) (h, k) =
    feeds_append (0x3b ∷ signed_decimal z) (flat_map (λ q. 0x3b ∷ signed_decimal q) zs)
    (natural z h) (more_numbers zs k)

numbers : (zs : List ℤ) → AreNatural zs → Feedless (params_text zs)
numbers [] h = refl
numbers (z ∷ zs) (h, k) =
    feeds_append (signed_decimal z) (flat_map (λ q. 0x3b ∷ signed_decimal q) zs) (natural z h)
    (more_numbers zs k)

encoded_all : (bs : List ℕ) → Feedless bs → Feedless (as_text bs)
encoded_all [] h = refl
encoded_all (b ∷ bs) h = by (is_line_feed b) refl h (encoded_all bs)
  where
    by : (s : Bool) → is_line_feed b ≡ s → (s || has_line_feed bs) ≡ false
        → (Feedless bs → Feedless (as_text bs)) → Feedless (as_text (b ∷ bs))
    by true e g rest = absurd cc
    by false e g rest =
        feeds_append (encode_utf8 b) (as_text bs) (encoded b (eqb-false b 0x0a e)) (rest g)

-- ---- sequences, which are one segment that gives one value

or_parts : (p q : Bool) → (p || q) ≡ false → (p ≡ false) × (q ≡ false)
or_parts true q h = absurd cc
or_parts false q h = (refl, h)

never : (s : Bool) → s ≡ true → s ≡ false → ⊥
never true p q = cc
never false p q = cc

abbrev is_sequence : {A : Type 0} → Value A → Bool
is_sequence (esc e) = true
is_sequence (csi c) = true
is_sequence _ = false

code_feed : (A : Type 0) (b : ℕ) → is_line_feed b ≡ true
    → list_any is_feed (control_values {A = A} (code_of b)) ≡ true
unfolding code_of
code_feed A b e = ap (λ c. list_any is_feed (control_values {A = A} (code_of c))) (line_feed_is b e)

-- controls before other events, none of which is a line feed
module _ (A : Type 0) where
  abbrev Vs : List Event → List (Value A)
  Vs es = values_from {A = A} None plain es

  executed_feedless : (bs : List ℕ) (rest : List Event)
      → list_any is_feed (Vs (map Execute bs ++ rest)) ≡ false
      → Feedless bs × (list_any is_feed (Vs rest) ≡ false)
  executed_feedless [] rest h = (refl, h)
  executed_feedless (b ∷ bs) rest h =
      let more = Vs (map Execute bs ++ rest) in
      let q = or_parts (list_any is_feed (control_values {A = A} (code_of b)))
      (list_any is_feed more)
      (sym (list_any-append is_feed (control_values (code_of b)) more) ∙ h) in
      let r = executed_feedless bs rest q.1 in (by (is_line_feed b) refl q.0 r.0, r.1)
    where
      by : (s : Bool) → is_line_feed b ≡ s
          → list_any is_feed (control_values {A = A} (code_of b)) ≡ false → Feedless bs
          → (s || has_line_feed bs) ≡ false
      by true e g r = absurd (never _ (code_feed A b e) g)
      by false e g r = r

  no_sequence : (o : Option ControlCode) (vs : List (Value A))
      → list_any is_sequence (control_values {A = A} o ++ vs) ≡ list_any is_sequence vs
  no_sequence None vs = refl
  no_sequence (Some c) vs = refl

  executed_only : (bs : List ℕ) (rest : List Event)
      → list_any is_sequence (Vs (map Execute bs ++ rest)) ≡ list_any is_sequence (Vs rest)
  executed_only [] rest = refl
  executed_only (b ∷ bs) rest =
      no_sequence (code_of b) (Vs (map Execute bs ++ rest)) ∙ executed_only bs rest

  opener_only : (o : Opener) (rest : List Event)
      → list_any is_sequence (Vs (opener_events o ++ rest)) ≡ list_any is_sequence (Vs rest)
  opener_only (Long n) rest = executed_only (bytes_of_class is_c0 n) rest
  opener_only Raw rest = refl
  opener_only Pair rest = refl

-- the controls among bytes have each line feed of them
feed_is_c0 : (b : ℕ) → is_line_feed b ≡ true → is_c0 (class_of b) ≡ true
unfolding class_of
feed_is_c0 b e = ap (λ c. is_c0 (class_of c)) (line_feed_is b e)

those_feedless : (x : List ℕ) → Feedless (bytes_of_class is_c0 x) → Feedless x
those_feedless [] h = refl
those_feedless (b ∷ x) h =
    by (is_line_feed b) refl (is_c0 (class_of b)) refl h (those_feedless x)
  where
    by : (s : Bool) → is_line_feed b ≡ s → (t : Bool) → is_c0 (class_of b) ≡ t
        → has_line_feed (if t then b ∷ bytes_of_class is_c0 x else bytes_of_class is_c0 x) ≡ false
        → (Feedless (bytes_of_class is_c0 x) → Feedless x) → (s || has_line_feed x) ≡ false
    by true e true k g rest =
        absurd (never (is_line_feed b) e
        (or_parts (is_line_feed b) (has_line_feed (bytes_of_class is_c0 x)) g).0)
    by true e false k g rest = absurd (never (is_c0 (class_of b)) (feed_is_c0 b e) k)
    by false e true k g rest =
        rest (or_parts (is_line_feed b) (has_line_feed (bytes_of_class is_c0 x)) g).1
    by false e false k g rest = rest g

-- the final byte of a sequence is no line feed
end_of_escape : (f : ℕ) → ends_escape (class_of f) ≡ true → Feedless (f ∷ [])
unfolding class_of
end_of_escape f h = by (is_line_feed f) refl
  where
    by : (s : Bool) → is_line_feed f ≡ s → (s || false) ≡ false
    by true e = absurd (never (ends_escape (class_of f)) h
        (ap (λ c. ends_escape (class_of c)) (line_feed_is f e)))
    by false e = refl

end_of_csi : (f : ℕ) → ends_csi (class_of f) ≡ true → Feedless (f ∷ [])
unfolding class_of
end_of_csi f h = by (is_line_feed f) refl
  where
    by : (s : Bool) → is_line_feed f ≡ s → (s || false) ≡ false
    by true e = absurd (never (ends_csi (class_of f)) h
        (ap (λ c. ends_csi (class_of c)) (line_feed_is f e)))
    by false e = refl

module _ (A : Type 0) where
  abbrev Gives : Segment → List (Value A)
  Gives g = Vs A (events_of g true)

  csi_feedless : (o : Opener) (x : List ℕ) (f : ℕ) → Feedless (f ∷ [])
      → list_any is_feed (Gives (Csi o x f)) ≡ false → Feedless (bytes_of (Csi o x f))
  csi_feedless (Long n) x f e h =
      let rest = csi_events (without_noise x) f in
      let q = executed_feedless A (bytes_of_class is_c0 n) (executes x ++ rest)
      (ap (λ es. list_any is_feed (Vs A es)) (sym (append_assoc (executes n) (executes x) rest))
      ∙ h) in
      let r = executed_feedless A (bytes_of_class is_c0 x) rest q.1 in
      feeds_append (((0x1b ∷ n) ++ 0x5b ∷ []) ++ x) (f ∷ [])
      (feeds_append ((0x1b ∷ n) ++ 0x5b ∷ []) x
      (feeds_append (0x1b ∷ n) (0x5b ∷ []) (those_feedless n q.0) refl)
      (those_feedless x r.0)) e
  csi_feedless Raw x f e h =
      let r = executed_feedless A (bytes_of_class is_c0 x) (csi_events (without_noise x) f) h in
      feeds_append (0x9b ∷ x) (f ∷ []) (those_feedless x r.0) e
  csi_feedless Pair x f e h =
      let r = executed_feedless A (bytes_of_class is_c0 x) (csi_events (without_noise x) f) h in
      feeds_append (0xc2 ∷ 0x9b ∷ x) (f ∷ []) (those_feedless x r.0) e

  osc_none : (o : Opener) (ps : List OscUnit)
      → list_any is_sequence (Gives (Osc o ps Rung)) ≡ false
  osc_none o ps = opener_only A o (osc_events None (text_of ps))

  segment_feedless : (g : Segment) → ends_itself g ≡ true → HasShape g []
      → list_any is_sequence (Gives g) ≡ true → list_any is_feed (Gives g) ≡ false
      → Feedless (bytes_of g)
  segment_feedless (Character b) e s h k = absurd (true≢false (sym h))
  segment_feedless (Wide x) e s h k = absurd (true≢false (sym h))
  segment_feedless (Broken x) e s h k = absurd (true≢false (sym e))
  segment_feedless (Stray b) e s h k = absurd (true≢false (sym h))
  segment_feedless (Control b) e s h k =
      absurd (true≢false (sym h ∙ no_sequence A (code_of b) []))
  segment_feedless (HighControl p b) e s h k =
      absurd (true≢false (sym h ∙ no_sequence A (code_of b) []))
  segment_feedless (Terminator p b) e s h k = absurd (true≢false (sym h))
  segment_feedless (Escape x f) e s h k =
      let q = executed_feedless A (bytes_of_class is_c0 x) (escape_event (without_noise x) f ∷ []) k
      in
      feeds_append (0x1b ∷ x) (f ∷ []) (those_feedless x q.0) (end_of_escape f s.1)
  segment_feedless (Csi o x f) e s h k = csi_feedless o x f (end_of_csi f s.2) k
  segment_feedless (Osc o ps Open) e s h k = absurd (true≢false (sym e))
  segment_feedless (Osc o ps Rung) e s h k = absurd (true≢false (sym h ∙ osc_none o ps))
  segment_feedless (Osc o ps (Waits x)) e s h k = absurd (true≢false (sym e))
  segment_feedless (Dcs o x f d) e s h k = absurd (true≢false (sym e))
  segment_feedless (Apc o d) e s h k = absurd (true≢false (sym e))
  segment_feedless (Ignored j o d) e s h k = absurd (true≢false (sym e))
  segment_feedless (CutEscape x) e s h k = absurd (true≢false (sym e))
  segment_feedless (CutCsi o x) e s h k = absurd (true≢false (sym e))
  segment_feedless (CutDcs o x) e s h k = absurd (true≢false (sym e))

  one_feedless : (t : List ℕ) (es : List Event) (v : Value A) → IsOneSegment t es
      → Vs A es ≡ v ∷ [] → is_sequence v ≡ true → is_feed v ≡ false → Feedless t
  one_feedless t es v (g, bytes, ends, shape, e) gives seq other =
      let same : Gives g ≡ v ∷ [] = ap (Vs A) e ∙ gives in
      subst Feedless bytes
      (segment_feedless g ends shape
      (ap (list_any is_sequence) same ∙ rw seq refl)
      (ap (list_any is_feed) same ∙ rw other refl))

-- ---- each value that is written

-- no line feed, no step of a mode, and no line feed in data
abbrev pub is_fine : {A : Type 0} → Value A → Bool
is_fine v = not (is_feed v) && (not (is_mode_step v) && is_free v)

number_is : (A : Type 0) (c : ControlCode) → (code_number c == 0x0a) ≡ is_feed {A = A} (control c)
number_is A code.LineFeed = refl
number_is A _ = refl

not_true : (s : Bool) → not s ≡ true → s ≡ false
not_true true h = absurd cc
not_true false h = refl

some_same : {X : Type 0} {x y : X} → Some x ≡ Some y → x ≡ y
some_same e = cc

sixel_is : (t : Bool) (x y : List ℕ) → (if t then Some x else None) ≡ Some y → x ≡ y
sixel_is true x y e = some_same e
sixel_is false x y e = absurd cc

short_feedless : {A : Type 0} (s : ShortDeviceControl A) → s.byte ≡ 0x71
    → s.intermediates ≡ 0x24 ∷ [] → AreNatural s.params → Feedless s.content
    → Feedless (short_text s)
short_feedless s byte mark params free =
    let a = 0x1b ∷ codes "P" ++ params_text s.params in
    let b = a ++ as_text (0x24 ∷ []) in
    let c = b ++ encode_utf8 0x71 in
    let d = c ++ as_text s.content in
    rw (byte, mark)
    (feeds_append d (0x1b ∷ codes "\\")
    (feeds_append c (as_text s.content)
    (feeds_append b (encode_utf8 0x71)
    (feeds_append a (as_text (0x24 ∷ [])) (numbers s.params params) (encoded_all (0x24 ∷ []) refl))
    (encoded 0x71 (λ e. cc))) (encoded_all s.content free)) refl)

module _ {A : Type 0}
    (clear : (c : OperatingSystemCommand A) → IsWritableCommand c → IsClearText (inner_text c))
    (image : (i : KittyImage A) → IsWritableImage i → ReadsBackImage i)
    (pixels : (s : Sixel A) → IsWritableSixel s → WritesBackSixel s)
    (query : (ns : List (List ℕ)) → AreWritableNames ns → WritesBackNames ns) where
  value_feedless : (v : Value A) → IsWritable v → is_fine v ≡ true → Feedless (whole_text v)
  value_feedless (print c) h k = encoded c (clear_char c h)
  value_feedless (string t) h k = clear_text t h.0
  value_feedless (control c) h k =
      let q = and_parts (not (is_feed {A = A} (control c))) _ k in
      encoded (code_number c)
      (eqb-false (code_number c) 0x0a (number_is A c ∙ not_true _ q.0))
  value_feedless (esc e) (es, one, gives) k =
      one_feedless A (esc_text e) es (esc e) one gives refl refl
  value_feedless (csi c) (es, one, gives) k =
      one_feedless A (csi_text c) es (csi c) one gives refl refl
  value_feedless (osc c) h k =
      feeds_append (inner_text c) (0x1b ∷ 0x5c ∷ []) (clear_text (inner_text c) (clear c h)) refl
  value_feedless (kitty i) h k =
      feeds_append (image_text i) (0x1b ∷ 0x5c ∷ [])
      (passing is_kept refl (image_body i) (image i h).0) refl
  value_feedless (sixel s) h k =
      let (x, d, out, params, bytes, means) = pixels s h in
      let text : sixel_text s ≡ 0x1b ∷ 0x50 ∷ (x ++ 0x71 ∷ d) = sixel_is _ _ _ out in
      feeds_append (sixel_text s) (0x1b ∷ 0x5c ∷ [])
      (ap has_line_feed text
      ∙ feeds_append x (0x71 ∷ d) (passing is_parameter_byte refl x params)
      (passing is_data_byte refl d bytes)) refl
  value_feedless (termcap ns) h k =
      feeds_append (query_text ns) (0x1b ∷ 0x5c ∷ [])
      (passing is_query_byte refl (names_text ns) (query ns h).0) refl
  value_feedless (short s) (byte, mark, params, content) k =
      short_feedless s byte mark params (not_true (has_line_feed s.content) k)
  value_feedless (enter e) h k = absurd (true≢false (sym k))
  value_feedless (datum b) h k = absurd (true≢false (sym k))
  value_feedless exit h k = absurd (true≢false (sym k))

  after_feedless : (f : Bool) (v : Value A) → Feedless (whole_text v) → Feedless (text_after f v)
  after_feedless f v h = by (is_terminator v && f)
    where
      by : (t : Bool) → Feedless (if t then [] else whole_text v)
      by true = refl
      by false = h

  pub texts_feedless : (within f : Bool) (vs : List (Value A)) → AreWritableFrom within vs
      → list_all is_fine vs ≡ true → Feedless (texts_after f vs)
  texts_feedless within f [] h k = refl
  texts_feedless within f (v ∷ vs) (i, w, h) k =
      let q = and_parts (is_fine v) (list_all is_fine vs) k in
      feeds_append (text_after f v) (texts_after (is_string v) vs)
      (after_feedless f v (value_feedless v w q.0))
      (texts_feedless (stays_within v) (is_string v) vs h q.1)
