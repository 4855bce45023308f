-- Nothing is unfinished between two segments, so a stream means the readings of its cut.
use Rattle.std.proofs.Common.{ℕ, ◌≡◌, Bool, true, false, if◌then◌else◌, List, [], ◌∷◌, ◌++◌, map, length, Option, None, ◌⊎◌, inl, inr, refl, ap, sym, ◌∙◌, append-nil}
use Rattle.esc_frame.specs.Bodies.{is_csi_body}
use Rattle.esc_frame.specs.Classes.{is_c0, is_text, bytes_of_class, without_noise}
use Rattle.esc_frame.specs.Events.{Event}
use Rattle.esc_frame.specs.Events.Event.{Execute, OscDispatch, DcsUnhook, ApcDispatch}
use Rattle.esc_frame.specs.Segments.{Segment, AreSegments, IsCut, HasEventsWithin, Opener, OscUnit, Ending, events_of_within, events_of_cut_within, ends_itself, is_finished, joined_bytes, opener_events}
use Rattle.esc_frame.specs.Segments.{executes, csi_events, hook_event, puts, text_of}
use Rattle.esc_frame.specs.Segments.Ending.{Open, Rung, Waits}
use Rattle.esc_frame.specs.Counts.{kept_of, kept_of_cut}
use Rattle.esc_frame.specs.Limits.{is_within, is_read}
use Rattle.esc_values.specs.Clear.{parts_of}
use Rattle.esc_frame.specs.Segments.Opener.{Long, Raw, Pair}
use Rattle.esc_frame.specs.Segments.Segment.{Character, Wide, Broken, Stray, Control, HighControl, Terminator, Escape, Csi, Osc, Dcs, Apc, Ignored, CutEscape}
use Rattle.esc_frame.specs.Segments.Segment.{CutCsi, CutDcs}
use Rattle.esc_frame.specs.Fits.{IsOneSegment}
use Rattle.esc_frame.specs.Leads.{AreFinished}
use Rattle.esc_frame.specs.Stream.{events_within, IsAtGround}
use Rattle.esc_frame.proofs.Cut.CutExists.{itself}
use Rattle.esc_actions.proofs.Meaning.MeaningsJoin.{mode_append, values_append}
use Rattle.esc_actions.specs.Meaning.{meaning_within, mode_from, values_from}
use Rattle.esc_actions.specs.Readings.{reading_within, readings_of_each, readings_within, MeansItsCut, MeansItsSegments}
use Rattle.esc_actions.specs.Values.{Mode, plain, mode_after}

pub executes_keep : (m : Mode) (bs : List ℕ) → mode_from m (map Execute bs) ≡ m
executes_keep m [] = refl
executes_keep m (b ∷ bs) = executes_keep m bs

pub opener_keeps : (m : Mode) (o : Opener) → mode_from m (opener_events o) ≡ m
opener_keeps m (Long n) = executes_keep m (bytes_of_class is_c0 n)
opener_keeps m Raw = refl
opener_keeps m Pair = refl

-- events after others that keep the mode
after_kept : (m : Mode) (es fs : List Event) (n : Mode) → mode_from m es ≡ m → mode_from m fs ≡ n
    → mode_from m (es ++ fs) ≡ n
after_kept m es fs n e f = mode_append m es fs ∙ ap (λ x. mode_from x fs) e ∙ f

csi_keeps : (x : List ℕ) (f : ℕ) (t : Bool) → is_csi_body x ≡ t
    → mode_from plain (csi_events x f) ≡ plain
csi_keeps x f true e = rw e refl
csi_keeps x f false e = rw e refl

-- the end of a device control string closes the string that it opened
unhooked : (m : Mode) (es : List Event) → mode_from m (es ++ DcsUnhook ∷ []) ≡ plain
unhooked m es = mode_append m es (DcsUnhook ∷ [])

-- an event of a whole string, if it is within the limit
emitted_keeps : (e : Event) (t : Bool) → mode_after plain e ≡ plain
    → mode_from plain (if t then e ∷ [] else []) ≡ plain
emitted_keeps e true h = h
emitted_keeps e false h = refl

dcs_closes : (x d : List ℕ) (f : ℕ) (t : Bool)
    → mode_from plain (if t then (hook_event x f ∷ puts d) ++ DcsUnhook ∷ [] else []) ≡ plain
dcs_closes x d f true = unhooked plain (hook_event x f ∷ puts d)
dcs_closes x d f false = refl

-- a finished segment leaves nothing unfinished
pub closes : (limit : Option ℕ) (g : Segment)
    → mode_from plain (events_of_within limit g true) ≡ plain
closes limit (Character b) = refl
closes limit (Wide x) = refl
closes limit (Broken x) = refl
closes limit (Stray b) = refl
closes limit (Control b) = refl
closes limit (HighControl p b) = refl
closes limit (Terminator p b) = refl
closes limit (Escape x f) =
    after_kept plain (executes x) _ plain (executes_keep plain (bytes_of_class is_c0 x)) refl
closes limit (Csi o x f) =
    after_kept plain (opener_events o ++ executes x) (csi_events (without_noise x) f) plain
    (after_kept plain (opener_events o) (executes x) plain (opener_keeps plain o)
    (executes_keep plain (bytes_of_class is_c0 x)))
    (csi_keeps (without_noise x) f (is_csi_body (without_noise x)) refl)
closes limit (Osc o ps e) =
    after_kept plain (opener_events o) _ plain (opener_keeps plain o)
    (emitted_keeps (OscDispatch (parts_of (text_of ps)))
    (is_within limit (length (text_of ps))) refl)
closes limit (Dcs o x f d) = after_kept plain (opener_events o) _ plain (opener_keeps plain o)
    (dcs_closes (without_noise x) d f (is_read limit (without_noise x)))
closes limit (Apc o d) =
    after_kept plain (opener_events o) _ plain (opener_keeps plain o)
    (emitted_keeps (ApcDispatch (bytes_of_class is_text d))
    (is_within limit (length (bytes_of_class is_text d))) refl)
closes limit (Ignored k o d) = opener_keeps plain o
closes limit (CutEscape x) = executes_keep plain (bytes_of_class is_c0 x)
closes limit (CutCsi o x) = after_kept plain (opener_events o) (executes x) plain
    (opener_keeps plain o) (executes_keep plain (bytes_of_class is_c0 x))
closes limit (CutDcs o x) = opener_keeps plain o

values_of_cut : {A : Type 0} (limit : Option ℕ) (gs : List Segment)
    → values_from {A = A} limit plain (events_of_cut_within limit gs) ≡ readings_within limit gs
values_of_cut limit [] = refl
values_of_cut limit (g ∷ []) = refl
values_of_cut limit (g ∷ h ∷ gs) =
    values_append limit plain (events_of_within limit g true) (events_of_cut_within limit (h ∷ gs))
    ∙ ap (λ m. reading_within limit g true
    ++ values_from limit m (events_of_cut_within limit (h ∷ gs))) (closes limit g)
    ∙ ap (λ x. reading_within limit g true ++ x) (values_of_cut limit (h ∷ gs))

-- one segment that is finished by itself
pub one_closes : (t : List ℕ) (es : List Event) → IsOneSegment t es → mode_from plain es ≡ plain
one_closes t es (g, bytes, ends, shape, e) = ap (mode_from plain) (sym e) ∙ closes None g

-- if no segment is unfinished, no string is
last_closes : (limit : Option ℕ) (g : Segment) → ends_itself g ≡ true
    → mode_from plain (events_of_within limit g (ends_itself g)) ≡ plain
last_closes limit g e = rw e (closes limit g)

cut_closes : (limit : Option ℕ) (gs : List Segment) → AreFinished gs []
    → mode_from plain (events_of_cut_within limit gs) ≡ plain
cut_closes limit [] h = refl
cut_closes limit (g ∷ []) (shape, finished, rest) = last_closes limit g (itself g finished)
cut_closes limit (g ∷ h ∷ gs) (shape, finished, rest) =
    mode_append plain (events_of_within limit g true) (events_of_cut_within limit (h ∷ gs))
    ∙ ap (λ m. mode_from m (events_of_cut_within limit (h ∷ gs))) (closes limit g)
    ∙ cut_closes limit (h ∷ gs) rest

last_osc : (limit : Option ℕ) (o : Opener) (ps : List OscUnit) (e : Ending)
    → mode_from plain (events_of_within limit (Osc o ps e) (ends_itself (Osc o ps e))) ≡ plain
last_osc limit o ps Rung = closes limit (Osc o ps Rung)
last_osc limit o ps Open = after_kept plain (opener_events o) [] plain (opener_keeps plain o) refl
last_osc limit o ps (Waits f) =
    after_kept plain (opener_events o) [] plain (opener_keeps plain o) refl

-- the unfinished string of a cut is that of its last segment, and then only data of this segment
-- counts
last_opens : (limit : Option ℕ) (g : Segment)
    → (mode_from plain (events_of_within limit g (ends_itself g)) ≡ plain) ⊎ (kept_of limit g ≡ 0)
last_opens limit (Character b) = inl refl
last_opens limit (Wide x) = inl refl
last_opens limit (Broken x) = inl refl
last_opens limit (Stray b) = inl refl
last_opens limit (Control b) = inl refl
last_opens limit (HighControl p b) = inl refl
last_opens limit (Terminator p b) = inl refl
last_opens limit (Escape x f) = inr refl
last_opens limit (Csi o x f) = inr refl
last_opens limit (Osc o ps e) = inl (last_osc limit o ps e)
last_opens limit (Dcs o x f d) = inr refl
last_opens limit (Apc o d) =
    inl (after_kept plain (opener_events o) [] plain (opener_keeps plain o) refl)
last_opens limit (Ignored k o d) = inl (opener_keeps plain o)
last_opens limit (CutEscape x) = inr refl
last_opens limit (CutCsi o x) = inr refl
last_opens limit (CutDcs o x) = inl (opener_keeps plain o)

pub cut_opens : (limit : Option ℕ) (gs : List Segment)
    → (mode_from plain (events_of_cut_within limit gs) ≡ plain) ⊎ (kept_of_cut limit gs ≡ 0)
cut_opens limit [] = inl refl
cut_opens limit (g ∷ []) = last_opens limit g
cut_opens limit (g ∷ h ∷ gs) =
    let same : mode_from plain (events_of_cut_within limit (g ∷ h ∷ gs))
    ≡ mode_from plain (events_of_cut_within limit (h ∷ gs)) =
    mode_append plain (events_of_within limit g true) (events_of_cut_within limit (h ∷ gs))
    ∙ ap (λ m. mode_from m (events_of_cut_within limit (h ∷ gs))) (closes limit g) in
    elim (cut_opens limit (h ∷ gs)) [ inl e ↦ inl (same ∙ e) | inr e ↦ inr e ]

-- by the laws of the framing
module _ (once : (limit : Option ℕ) (stream : List ℕ) (xs ys : List Event)
    → HasEventsWithin limit stream xs → HasEventsWithin limit stream ys → xs ≡ ys)
    (emitted : (limit : Option ℕ) (s : List ℕ)
    → HasEventsWithin limit s (events_within limit s)) where
  pub events_are : (limit : Option ℕ) (s : List ℕ) (gs : List Segment) → IsCut s gs
      → events_within limit s ≡ events_of_cut_within limit gs
  events_are limit s gs cut = once limit s (events_within limit s) (events_of_cut_within limit gs)
      (emitted limit s) (gs, cut, refl)

  pub plain_at_ground : (limit : Option ℕ) (s : List ℕ) → IsAtGround s
      → mode_from plain (events_within limit s) ≡ plain
  plain_at_ground limit s (gs, cut, finished) =
      ap (mode_from plain) (events_are limit s gs cut) ∙ cut_closes limit gs finished

  pub meaning_of_the_cut : (A : Type 0) → MeansItsCut A
  unfolding meaning_within
  meaning_of_the_cut A limit s gs cut =
      ap (values_from limit plain) (events_are limit s gs cut) ∙ values_of_cut limit gs

  -- if a string is unfinished, nothing is kept of the last segment but its data
  pub kept_once : (limit : Option ℕ) (s : List ℕ) (gs : List Segment) → IsCut s gs
      → (mode_from plain (events_within limit s) ≡ plain) ⊎ (kept_of_cut limit gs ≡ 0)
  kept_once limit s gs cut =
      elim (cut_opens limit gs) [
        | inl e ↦ inl (ap (mode_from plain) (events_are limit s gs cut) ∙ e)
        | inr e ↦ inr e
      ]

-- ---- each segment by itself

-- a segment ends by itself exactly if it is finished with nothing after it
same_end : (g : Segment) → ends_itself g ≡ is_finished g []
same_end (Osc o ps Open) = refl
same_end (Osc o ps Rung) = refl
same_end (Osc o ps (Waits x)) = refl
same_end _ = refl

same_readings : {A : Type 0} (limit : Option ℕ) (gs : List Segment) → AreSegments gs
    → readings_within {A = A} limit gs ≡ readings_of_each limit gs
same_readings limit [] each = refl
same_readings limit (g ∷ []) each =
    ap (reading_within limit g) (same_end g) ∙ sym (append-nil (reading_within limit g _))
same_readings limit (g ∷ h ∷ gs) (shape, finished, each) =
    ap (λ b. reading_within limit g b ++ readings_within limit (h ∷ gs)) (sym finished)
    ∙ ap (λ vs. reading_within limit g (is_finished g (joined_bytes (h ∷ gs))) ++ vs)
    (same_readings limit (h ∷ gs) each)

pub meaning_by_segments : (A : Type 0) → MeansItsCut A → MeansItsSegments A
meaning_by_segments A means limit gs cut =
    means limit (joined_bytes gs) gs cut ∙ same_readings limit gs cut.each
