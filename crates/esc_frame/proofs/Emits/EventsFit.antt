-- The events of any stream have these forms.
use Rattle.std.proofs.Common.{ℕ, Option, length, ◌≡◌, ◌<◌, Bool, true, false, if◌then◌else◌, ◌&&◌, ◌||◌, List, [], ◌∷◌, ◌++◌, take, refl, sym, ap, ◌∙◌, subst}
use Rattle.std.proofs.Common.{arith}
use Rattle.std.proofs.lemmas.List.{append-nil}
use Rattle.std.proofs.lemmas.Str.{encode_ascii}
use Rattle.std.proofs.lemmas.Bool.Decides.{nat_tests}
use Rattle.std.specs.Char.{encode_utf8}
use Rattle.std.specs.List.{list_all}
use Rattle.esc_values.specs.Clear.{is_clear, IsClearText, parts_of}
use Rattle.esc_values.proofs.Clear.SplitAndJoined.{clear_append, text_parts}
use Rattle.esc_frame.specs.declared.classes.Class.{Class}
use Rattle.esc_frame.specs.declared.classes.Class.TheVariants.{C0, Bell, Intermediate, Parameter}
use Rattle.esc_frame.specs.Classes.{class_of, AllOf, bytes_of_class, without_noise, is_text, is_c0, is_noise, is_intermediate, in_escape, is_control, is_c1, is_put}
use Rattle.esc_frame.specs.Classes.{in_csi, in_body, ends_csi}
use Rattle.esc_frame.specs.Bodies.{is_csi_body, is_dcs_header}
use Rattle.esc_frame.specs.Limits.{is_within, is_read, header_count}
use Rattle.esc_frame.specs.Events.{Event}
use Rattle.esc_frame.specs.Events.Event.{Print, OscDispatch, DcsUnhook, ApcDispatch}
use Rattle.esc_frame.specs.Segments.{Segment, Opener, OscUnit, HasShape, IsOscUnit, AreOscUnits, text_bytes, text_of, kept_of, events_of_within, executes}
use Rattle.esc_frame.specs.Segments.{opener_events}
use Rattle.esc_frame.specs.Segments.{ending_bytes, puts, csi_event, csi_events, hook_event, osc_events, apc_events}
use Rattle.esc_frame.specs.Segments.Segment.{Character, Wide, Broken, Stray, Control, HighControl, Terminator, Csi, Osc, Dcs, Apc, Ignored, CutDcs, CutEscape}
use Rattle.esc_frame.specs.Segments.Segment.{CutCsi}
use Rattle.esc_frame.specs.Segments.Segment.{Escape as EscapeOf}
use Rattle.esc_frame.specs.Segments.Opener.{Long, Raw, Pair}
use Rattle.esc_frame.specs.Segments.OscUnit.{One, Sequence, BrokenOff}
use Rattle.esc_frame.specs.Leads.{Unfinished, AreFinished, OpenShape, finished_events_within, emitted_open}
use Rattle.esc_frame.specs.Leads.Unfinished.{Ground, Pending, InEscape, InCsi, InDcs, InData, InApc, InIgnored, InOsc, InOscPending}
use Rattle.esc_frame.specs.Machine.Moves.{after_all}
use Rattle.esc_frame.specs.Stream.{events_within}
use Rattle.esc_frame.specs.Fits.{IsFit, AreFit}
use Rattle.esc_frame.proofs.Cut.CutExists.{stands}
use Rattle.std.proofs.lemmas.Bool.{and_parts, or_left, or_right}
use Rattle.esc_frame.proofs.Cut.WellFormedIsUtf8.{spelled}

fit_append : (es fs : List Event) → AreFit es → AreFit fs → AreFit (es ++ fs)
fit_append [] fs h k = k
fit_append (e ∷ es) fs h k = (h.0, fit_append es fs h.1 k)

-- controls inside
plain_control : (c : Class) → is_c0 c ≡ true → (is_control c || is_c1 c) ≡ true
plain_control C0 h = refl
plain_control Bell h = refl
plain_control _ h = absurd cc

executes_more : (b : ℕ) (x : List ℕ) (t : Bool) → is_c0 (class_of b) ≡ t → AreFit (executes x)
    → AreFit (executes (b ∷ x))
executes_more b x true e h = rw e (plain_control (class_of b) e, h)
executes_more b x false e h = rw e h

fit_executes : (x : List ℕ) → AreFit (executes x)
fit_executes [] = tt
fit_executes (b ∷ x) = executes_more b x (is_c0 (class_of b)) refl (fit_executes x)

fit_opener : (o : Opener) → AreFit (opener_events o)
fit_opener (Long n) = fit_executes n
fit_opener Raw = tt
fit_opener Pair = tt

-- characters
text_is : (b : ℕ) → is_text (class_of b) ≡ true → (is_clear b ≡ true) × (b < 128)
unfolding class_of
text_is b h = (grind (arith, nat_tests), grind (arith, nat_tests))

one_clear : (b : ℕ) → is_text (class_of b) ≡ true → IsClearText (b ∷ [])
one_clear b h = let q = text_is b h in (b ∷ [], rw q.0 refl, ap (λ x. x ++ []) (encode_ascii b q.1))

kept_one : (b : ℕ) (t : Bool) → is_text (class_of b) ≡ t → IsClearText (kept_of (One b))
kept_one b true e = rw e (one_clear b e)
kept_one b false e = rw e ([], refl, refl)

replacement : encode_utf8 0xfffd ≡ 0xef ∷ 0xbf ∷ 0xbd ∷ []
unfolding encode_utf8
replacement = refl

kept_clear : (p : OscUnit) (r : List ℕ) → IsOscUnit p r → IsClearText (kept_of p)
kept_clear (One b) r h = kept_one b (is_text (class_of b)) refl
kept_clear (Sequence x) r h = let q = spelled x h.0 h.1 in (_ ∷ [], rw q.0 refl, append-nil _ ∙ q.1)
kept_clear (BrokenOff x) r h = (0xfffd ∷ [], refl, ap (λ y. y ++ []) replacement)

text_clear : (ps : List OscUnit) (r : List ℕ) → AreOscUnits ps r → IsClearText (text_of ps)
text_clear [] r h = ([], refl, refl)
text_clear (p ∷ ps) r h =
    clear_append (kept_of p) (text_of ps) (kept_clear p (text_bytes ps ++ r) h.0)
    (text_clear ps r h.1)

fit_osc : (ps : List OscUnit) (r : List ℕ) → AreOscUnits ps r
    → IsFit (OscDispatch (parts_of (text_of ps)))
fit_osc ps r h = text_parts (text_of ps) (text_clear ps r h)

-- intermediates
intermediate_if : (c : Class) → in_escape c ≡ true → is_noise c ≡ false → is_intermediate c ≡ true
intermediate_if Intermediate h k = refl
intermediate_if _ h k = absurd cc

strip_intermediates_more : (b : ℕ) (x : List ℕ) (t : Bool) → is_noise (class_of b) ≡ t
    → in_escape (class_of b) ≡ true → AllOf is_intermediate (without_noise x)
    → AllOf is_intermediate (without_noise (b ∷ x))
strip_intermediates_more b x true e h k = rw e k
strip_intermediates_more b x false e h k = rw (e, intermediate_if (class_of b) h e, k) refl

strip_intermediates : (x : List ℕ) → AllOf in_escape x → AllOf is_intermediate (without_noise x)
strip_intermediates [] h = refl
strip_intermediates (b ∷ x) h =
    let q = and_parts (in_escape (class_of b)) (list_all (λ b. in_escape (class_of b)) x) h in
    strip_intermediates_more b x (is_noise (class_of b)) refl q.0 (strip_intermediates x q.1)

take_intermediates : (x : List ℕ) → AllOf is_intermediate x → AllOf is_intermediate (take 2 x)
take_intermediates [] h = refl
take_intermediates (a ∷ []) h = h
take_intermediates (a ∷ b ∷ x) h =
    let q = and_parts (is_intermediate (class_of a)) (is_intermediate (class_of b) && list_all (λ b.
    is_intermediate (class_of b)) x) h in
    let r = and_parts (is_intermediate (class_of b))
    (list_all (λ b. is_intermediate (class_of b)) x) q.1 in rw (q.0, r.0) refl

-- the events of a segment
maybe : (t : Bool) (es : List Event) → AreFit es → AreFit (if t then es else [])
maybe true es h = h
maybe false es h = tt

-- data
put_more : (b : ℕ) (d : List ℕ) (t : Bool) → is_put (class_of b) ≡ t → AreFit (puts d)
    → AreFit (puts (b ∷ d))
put_more b d true e h = rw e (e, h)
put_more b d false e h = rw e h

fit_puts : (d : List ℕ) → AreFit (puts d)
fit_puts [] = tt
fit_puts (b ∷ d) = put_more b d (is_put (class_of b)) refl (fit_puts d)

text_one : (b : ℕ) (d : List ℕ) (t : Bool) → is_text (class_of b) ≡ t
    → AllOf is_text (bytes_of_class is_text d) → AllOf is_text (bytes_of_class is_text (b ∷ d))
text_one b d true e h = rw (e, e, h) refl
text_one b d false e h = rw e h

those_text : (d : List ℕ) → AllOf is_text (bytes_of_class is_text d)
those_text [] = refl
those_text (b ∷ d) = text_one b d (is_text (class_of b)) refl (those_text d)

-- the body of a CSI, the header of a DCS
body_if : (c : Class) → in_csi c ≡ true → is_noise c ≡ false → in_body c ≡ true
body_if Intermediate h k = refl
body_if Parameter h k = refl
body_if _ h k = absurd cc

strip_body_more : (b : ℕ) (x : List ℕ) (t : Bool) → is_noise (class_of b) ≡ t
    → in_csi (class_of b) ≡ true → AllOf in_body (without_noise x)
    → AllOf in_body (without_noise (b ∷ x))
strip_body_more b x true e h k = rw e k
strip_body_more b x false e h k = rw (e, body_if (class_of b) h e, k) refl

strip_body : (x : List ℕ) → AllOf in_csi x → AllOf in_body (without_noise x)
strip_body [] h = refl
strip_body (b ∷ x) h =
    let q = and_parts (in_csi (class_of b)) (list_all (λ b. in_csi (class_of b)) x) h in
    strip_body_more b x (is_noise (class_of b)) refl q.0 (strip_body x q.1)

fit_csi_if : (x : List ℕ) (f : ℕ) (t : Bool) → is_csi_body x ≡ t → AllOf in_body x
    → ends_csi (class_of f) ≡ true
    → AreFit (if t then csi_event x f ∷ [] else [])
fit_csi_if x f true e h k = ((x, h, e, refl, k), tt)
fit_csi_if x f false e h k = tt

fit_csi : (x : List ℕ) (f : ℕ) → AllOf in_body x → ends_csi (class_of f) ≡ true
    → AreFit (csi_events x f)
fit_csi x f h k = fit_csi_if x f (is_csi_body x) refl h k

module _ (limit : Option ℕ) where
  has_form : (x : List ℕ) → is_read limit x ≡ true → is_dcs_header x ≡ true
  has_form x e = (and_parts (is_within limit (header_count x)) (is_dcs_header x) e).1

  fit_hook : (x d : List ℕ) (f : ℕ) (more : List Event) (t : Bool) → is_read limit x ≡ t
      → AllOf in_body x → ends_csi (class_of f) ≡ true → AreFit more
      → AreFit (if t then (hook_event x f ∷ puts d) ++ more else [])
  fit_hook x d f more true e h k m =
      ((x, h, has_form x e, refl, k), fit_append (puts d) more (fit_puts d) m)
  fit_hook x d f more false e h k m = tt

  fit_segment : (g : Segment) (r : List ℕ) (f : Bool) → HasShape g r
      → AreFit (events_of_within limit g f)
  fit_segment (Character b) r f h = ((text_is b h).0, tt)
  fit_segment (Wide x) r f h = ((spelled x h.0 h.1).0, tt)
  fit_segment (Broken x) r f h = maybe f (Print 0xfffd ∷ []) (refl, tt)
  fit_segment (Stray b) r f h = (refl, tt)
  fit_segment (Control b) r f h =
      (or_left (is_control (class_of b)) (is_c1 (class_of b)) h, tt)
  fit_segment (HighControl p b) r f h =
      (or_right (is_control (class_of b)) (is_c1 (class_of b)) h, tt)
  fit_segment (Terminator p b) r f h = tt
  fit_segment (EscapeOf x b) r f h =
      fit_append (executes x) _ (fit_executes x) (let i = strip_intermediates x h.0 in
      ((take_intermediates (without_noise x) i, h.1, (without_noise x, i, refl, h.2)), tt))
  fit_segment (Csi o x b) r f h =
      fit_append (opener_events o ++ executes x) _
      (fit_append (opener_events o) (executes x) (fit_opener o) (fit_executes x))
      (fit_csi (without_noise x) b (strip_body x h.1) h.2)
  fit_segment (Osc o ps e) r f h =
      fit_append (opener_events o) _ (fit_opener o)
      (maybe f (osc_events limit (text_of ps)) (maybe (is_within limit (length (text_of ps)))
      (OscDispatch (parts_of (text_of ps)) ∷ []) (fit_osc ps (ending_bytes e ++ r) h.1, tt)))
  fit_segment (Dcs o x b d) r f h =
      fit_append (opener_events o) _ (fit_opener o)
      (fit_hook (without_noise x) d b (if f then DcsUnhook ∷ [] else [])
      (is_read limit (without_noise x)) refl
      (strip_body x h.1) h.2 (maybe f (DcsUnhook ∷ []) (tt, tt)))
  fit_segment (Apc o d) r f h =
      fit_append (opener_events o) _ (fit_opener o)
      (maybe f (apc_events limit (bytes_of_class is_text d))
      (maybe (is_within limit (length (bytes_of_class is_text d)))
      (ApcDispatch (bytes_of_class is_text d) ∷ [])
      (those_text d, tt)))
  fit_segment (Ignored k o d) r f h = fit_opener o
  fit_segment (CutDcs o x) r f h = fit_opener o
  fit_segment (CutEscape x) r f h = fit_executes x
  fit_segment (CutCsi o x) r f h =
      fit_append (opener_events o) (executes x) (fit_opener o) (fit_executes x)

  fit_before : (gs : List Segment) (r : List ℕ) → AreFinished gs r
      → AreFit (finished_events_within limit gs)
  fit_before [] r h = tt
  fit_before (g ∷ gs) r h =
      fit_append (events_of_within limit g true) (finished_events_within limit gs)
      (fit_segment g _ true h.0) (fit_before gs r h.2)

  fit_data : (x d : List ℕ) (f : ℕ) (t : Bool) → is_read limit x ≡ t → AllOf in_body x
      → ends_csi (class_of f) ≡ true
      → AreFit (if t then hook_event x f ∷ puts d else [])
  fit_data x d f true e h k = ((x, h, has_form x e, refl, k), fit_puts d)
  fit_data x d f false e h k = tt

  fit_open : (u : Unfinished) → OpenShape u → AreFit (emitted_open limit u)
  fit_open Ground h = tt
  fit_open (Pending f) h = tt
  fit_open (InEscape x) h = fit_executes x
  fit_open (InCsi o x) h = fit_append (opener_events o) (executes x) (fit_opener o) (fit_executes x)
  fit_open (InOsc o ps) h = fit_opener o
  fit_open (InOscPending o ps f) h = fit_opener o
  fit_open (InDcs o x) h = fit_opener o
  fit_open (InData o x f d) h =
      fit_append (opener_events o) _ (fit_opener o)
      (fit_data (without_noise x) d f (is_read limit (without_noise x)) refl (strip_body x h.1) h.2)
  fit_open (InApc o d) h = fit_opener o
  fit_open (InIgnored k o d) h = fit_opener o

pub events_fit : (limit : Option ℕ) (s : List ℕ) → AreFit (events_within limit s)
events_fit limit s =
    let w = stands limit s in
    let u = after_all Ground s in
    subst AreFit (sym w.1.emitted)
    (fit_append (finished_events_within limit w.0) (emitted_open limit u)
    (fit_before limit w.0 _ w.1.finished)
    (fit_open limit u w.1.shape))
