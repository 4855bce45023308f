-- The segments that the machine finds are a cut.
use Rattle.std.proofs.Common.{ℕ, ◌≡◌, Bool, true, false, if◌then◌else◌, List, [], ◌∷◌, ◌++◌, refl, ap, sym, ◌∙◌, subst, append_assoc, Option, None}
use Rattle.std.proofs.lemmas.List.{append-nil}
use Rattle.esc_frame.specs.Classes.{class_of, without_noise}
use Rattle.esc_frame.specs.Events.{Event}
use Rattle.esc_frame.specs.Limits.{is_read}
use Rattle.esc_frame.specs.Segments.{Segment, HasShape, AreSegments, IsCut, HasEventsWithin, AreOscUnits, joined_bytes, bytes_of, events_of_within}
use Rattle.esc_frame.specs.Segments.{events_of_cut_within, ends_itself}
use Rattle.esc_frame.specs.Segments.{is_finished, opener_events, hook_event, puts}
use Rattle.esc_frame.specs.Segments.Segment.{Broken, Osc, CutEscape, CutCsi, CutDcs, Dcs}
use Rattle.esc_frame.specs.Segments.Segment.{Apc, Ignored}
use Rattle.esc_frame.specs.Segments.Ending.{Open, Rung, Waits}
use Rattle.esc_frame.specs.Leads.{Unfinished, OpenShape, AreFinished, open_bytes, osc_bytes, HasCut, finished_events_within, emitted_open}
use Rattle.esc_frame.specs.Leads.Unfinished.{Ground, Pending, InEscape, InCsi, InOsc, InOscPending, InDcs, InData, InApc, InIgnored}
use Rattle.esc_frame.specs.Machine.Moves.{after_by, events_by, after_all, events_all, is_ground}
use Rattle.esc_frame.specs.Stream.{events_within}
use Rattle.esc_frame.proofs.Steps.CutGrows.{joined_end}
use Rattle.esc_frame.proofs.Steps.MovesIgnoreLimit.{after_same}
use Rattle.esc_frame.proofs.Steps.CutSteps.{byte_step}

pub are_push : (gs : List Segment) (g : Segment) → AreFinished gs (bytes_of g) → HasShape g []
    → AreSegments (gs ++ g ∷ [])
are_push [] g f s = s
are_push (h ∷ []) g (sh, fh, r) s = let e = sym (append-nil (bytes_of g)) in
    (subst (λ x. HasShape h x) e sh, subst (λ x. is_finished h x ≡ true) e fh, s)
are_push (h ∷ k ∷ gs) g (sh, fh, r) s =
    let e = sym (joined_end (k ∷ gs) g) in (
      subst (λ x. HasShape h x) e sh,
      subst (λ x. is_finished h x ≡ true) e fh,
      are_push (k ∷ gs) g r s,
    )

pub are_closed : (gs : List Segment) → AreFinished gs [] → AreSegments gs
are_closed [] f = tt
are_closed (h ∷ []) (sh, fh, r) = sh
are_closed (h ∷ k ∷ gs) (sh, fh, r) =
    let e = append-nil (joined_bytes (k ∷ gs)) in (
      subst (λ x. HasShape h x) e sh,
      subst (λ x. is_finished h x ≡ true) e fh,
      are_closed (k ∷ gs) r,
    )

-- a segment that is finished before nothing is finished by itself
pub itself : (h : Segment) → is_finished h [] ≡ true → ends_itself h ≡ true
itself (Osc o ps Open) f = f
itself (Osc o ps Rung) f = refl
itself (Osc o ps (Waits x)) f = f
itself _ f = f

data_emitted : (ds bs : List Event) (w : Bool)
    → ds ++ (if w then bs else []) ≡ ds ++ (if w then bs ++ [] else [])
data_emitted ds bs true = ap (λ y. ds ++ y) (sym (append-nil bs))
data_emitted ds bs false = refl

-- ---- the last segment, where it is unfinished

-- nothing is said of Ground
abbrev pub last_of : Unfinished → Segment
last_of Ground = CutEscape []
last_of (Pending f) = Broken f
last_of (InEscape x) = CutEscape x
last_of (InCsi o x) = CutCsi o x
last_of (InDcs o x) = CutDcs o x
last_of (InData o x f d) = Dcs o x f d
last_of (InApc o d) = Apc o d
last_of (InIgnored k o d) = Ignored k o d
last_of (InOsc o ps) = Osc o ps Open
last_of (InOscPending o ps f) = Osc o ps (Waits f)

pub last_bytes : (u : Unfinished) → is_ground u ≡ false → open_bytes u ≡ bytes_of (last_of u)
last_bytes Ground n = absurd cc
last_bytes (InOsc o ps) n = sym (append-nil (osc_bytes o ps))
last_bytes _ n = refl

pub last_shape : (u : Unfinished) → is_ground u ≡ false → OpenShape u → HasShape (last_of u) []
last_shape Ground n h = absurd cc
last_shape (InOsc o ps) n h = (h.0, h.1, tt)
last_shape (InOscPending o ps f) n h =
    (h.0, subst (λ y. AreOscUnits ps y) (sym (append-nil f)) h.1, h.2)
last_shape _ n h = h

pub last_goes_on : (u : Unfinished) → is_ground u ≡ false → ends_itself (last_of u) ≡ false
last_goes_on Ground n = absurd cc
last_goes_on _ n = refl

module _ (limit : Option ℕ) where
  events_push : (gs : List Segment) (g : Segment)
      → events_of_cut_within limit (gs ++ g ∷ []) ≡ finished_events_within limit gs
      ++ events_of_within limit g
      (ends_itself g)
  events_push [] g = refl
  events_push (h ∷ []) g = ap (λ x. x ++ events_of_within limit g (ends_itself g))
      (sym (append-nil (events_of_within limit h true)))
  events_push (h ∷ k ∷ gs) g =
      ap (λ x. events_of_within limit h true ++ x) (events_push (k ∷ gs) g)
      ∙ sym (append_assoc (events_of_within limit h true) (finished_events_within limit (k ∷ gs))
      (events_of_within limit g (ends_itself g)))

  last_emitted : (h : Segment) → ends_itself h ≡ true
      → events_of_within limit h (ends_itself h) ≡ events_of_within limit h true ++ []
  last_emitted h e = rw e (sym (append-nil (events_of_within limit h true)))

  events_closed : (gs : List Segment) → AreFinished gs []
      → events_of_cut_within limit gs ≡ finished_events_within limit gs
  events_closed [] f = refl
  events_closed (h ∷ []) (sh, fh, r) = last_emitted h (itself h fh)
  events_closed (h ∷ k ∷ gs) (sh, fh, r) =
      ap (λ x. events_of_within limit h true ++ x) (events_closed (k ∷ gs) r)

  last_events : (u : Unfinished) → is_ground u ≡ false
      → emitted_open limit u ≡ events_of_within limit (last_of u) (ends_itself (last_of u))
  last_events Ground n = absurd cc
  last_events (InData o x f d) n =
      data_emitted (opener_events o) (hook_event (without_noise x) f ∷ puts d)
      (is_read limit (without_noise x))
  last_events (InApc o d) n = sym (append-nil (opener_events o))
  last_events (InOsc o ps) n = sym (append-nil (opener_events o))
  last_events (InOscPending o ps f) n = sym (append-nil (opener_events o))
  last_events _ n = refl

module _ {limit : Option ℕ} where
  pub cut_last : (s : List ℕ) (es : List Event) (gs : List Segment) (u : Unfinished)
      → is_ground u ≡ false → HasCut limit s es gs u
      → IsCut s (gs ++ last_of u ∷ [])
  cut_last s es gs u n st =
      let j = last_bytes u n in
      record {
        whole = st.whole ∙ ap (λ y. joined_bytes gs ++ y) j ∙ sym (joined_end gs (last_of u));
        each = are_push gs (last_of u) (subst (λ y. AreFinished gs y) j st.finished)
            (last_shape u n st.shape);
      }

  pub cut_emits : (s : List ℕ) (es : List Event) (gs : List Segment) (u : Unfinished)
      → HasCut limit s es gs u → HasEventsWithin limit s es
  cut_emits s es gs Ground st = (
    gs,
    record { whole = st.whole ∙ append-nil (joined_bytes gs); each = are_closed gs st.finished },
    st.emitted ∙ append-nil (finished_events_within limit gs) ∙ sym
        (events_closed limit gs st.finished),
  )
  cut_emits s es gs u st = (
    gs ++ last_of u ∷ [],
    cut_last s es gs u refl st,
    st.emitted ∙ ap (λ y. finished_events_within limit gs ++ y) (last_events limit u refl)
        ∙ sym (events_push limit gs (last_of u)),
  )

  -- more bytes on a cut take a cut, with the events that the machine emits
  pub run_cut : (bs s : List ℕ) (es : List Event) (gs : List Segment) (u : Unfinished)
      → HasCut limit s es gs u
      → (hs : List Segment)
      × HasCut limit (s ++ bs) (es ++ events_all limit u bs) hs (after_all u bs)
  run_cut [] s es gs u st = (
    gs,
    subst (λ x. HasCut limit x (es ++ []) gs u) (sym (append-nil s))
        (subst (λ x. HasCut limit s x gs u) (sym (append-nil es)) st),
  )
  run_cut (b ∷ bs) s es gs u st =
      let g = byte_step limit s es gs u b st in
      let n = events_by limit u b (class_of b) in
      let v = after_by u b (class_of b) in
      let r = run_cut bs (s ++ b ∷ []) (es ++ n) g.0 v
      (subst (λ w. HasCut limit (s ++ b ∷ []) (es ++ n) g.0 w)
      (after_same limit u b (class_of b)) g.1) in (
        r.0,
        subst (λ x. HasCut limit x (es ++ (n ++ events_all limit v bs)) r.0 (after_all v bs))
            (append_assoc s (b ∷ []) bs)
            (subst (λ x. HasCut limit ((s ++ b ∷ []) ++ bs) x r.0 (after_all v bs))
            (append_assoc es n (events_all limit v bs)) r.1),
      )

  nothing_cut : HasCut limit [] [] [] Ground
  nothing_cut = record { whole = refl; finished = tt; shape = tt; emitted = refl }

-- every stream stands where the machine comes to, emitted its events
pub stands : (limit : Option ℕ) (s : List ℕ) → (gs : List Segment)
    × HasCut limit s (events_within limit s) gs (after_all Ground s)
unfolding events_within
stands limit s = run_cut s [] [] [] Ground nothing_cut

-- every stream has a cut, and its events are those of the cut
pub events_of_the_cut : (limit : Option ℕ) (s : List ℕ)
    → HasEventsWithin limit s (events_within limit s)
events_of_the_cut limit s = let w = stands limit s in
    cut_emits s (events_within limit s) w.0 (after_all Ground s) w.1

pub has_cut : (s : List ℕ) → (gs : List Segment) × IsCut s gs
has_cut s = let t = events_of_the_cut None s in (t.0, t.1)
