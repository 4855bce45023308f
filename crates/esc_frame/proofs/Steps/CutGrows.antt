-- A cut, one byte further.
use Rattle.std.proofs.Common.{ℕ, ◌≡◌, Bool, true, false, ◌||◌, ◌&&◌, List, [], ◌∷◌, ◌++◌, refl, ap, sym, ◌∙◌, subst, append_assoc, ◌==◌, Option}
use Rattle.std.proofs.lemmas.List.{append-nil}
use Rattle.esc_frame.specs.Classes.{class_of, is_breaker}
use Rattle.esc_frame.specs.Sequences.{is_broken_before}
use Rattle.esc_frame.specs.Events.{Event}
use Rattle.esc_frame.specs.Segments.{Segment, OscUnit, HasShape, IsOscUnit, AreOscUnits, joined_bytes, bytes_of, text_bytes, osc_unit_bytes, ending_bytes, events_of_within}
use Rattle.esc_frame.specs.Segments.{is_finished, breaks, breaks_text}
use Rattle.esc_frame.specs.Segments.Segment.{Broken, Osc, CutEscape, CutCsi, CutDcs, Dcs}
use Rattle.esc_frame.specs.Segments.Segment.{Apc, Ignored}
use Rattle.esc_frame.specs.Segments.Ending.{Open, Rung, Waits}
use Rattle.esc_frame.specs.Segments.OscUnit.{One, Sequence, BrokenOff}
use Rattle.esc_frame.specs.Leads.{Unfinished, AreFinished, OpenShape, open_bytes, HasCut, finished_events_within, emitted_open}
use Rattle.esc_frame.specs.Leads.Unfinished.{Ground}

-- ---- the bytes after it may grow

broken_more : (f t : List ℕ) (b : ℕ) → is_broken_before f t ≡ true
    → is_broken_before f (t ++ b ∷ []) ≡ true
broken_more f [] b h = absurd cc
broken_more f (x ∷ t) b h = h

breaks_more : (t : List ℕ) (b : ℕ) → breaks t ≡ true → breaks (t ++ b ∷ []) ≡ true
breaks_more [] b h = absurd cc
breaks_more (x ∷ t) b h = h

or_and : (r s : Bool) → (r || (s && false)) ≡ true → r ≡ true
or_and true s h = refl
or_and false true h = absurd cc
or_and false false h = absurd cc

text_more : (t : List ℕ) (b : ℕ) → breaks_text t ≡ true → breaks_text (t ++ b ∷ []) ≡ true
text_more [] b h = absurd cc
text_more (x ∷ []) b h = rw (or_and (is_breaker (class_of x)) (x == 0xc2) h) refl
text_more (x ∷ y ∷ t) b h = h

osc_unit_more : (p : OscUnit) (t : List ℕ) (b : ℕ) → IsOscUnit p t → IsOscUnit p (t ++ b ∷ [])
osc_unit_more (One c) t b h = h
osc_unit_more (Sequence x) t b h = h
osc_unit_more (BrokenOff x) t b h = (h.0, broken_more x t b h.1)

pub osc_units_more : (ps : List OscUnit) (t : List ℕ) (b : ℕ) → AreOscUnits ps t
    → AreOscUnits ps (t ++ b ∷ [])
osc_units_more [] t b h = tt
osc_units_more (p ∷ ps) t b (h, r) = (
  subst (λ x. IsOscUnit p x) (append_assoc (text_bytes ps) t (b ∷ []))
      (osc_unit_more p (text_bytes ps ++ t) b h),
  osc_units_more ps t b r,
)

shape_more : (g : Segment) (t : List ℕ) (b : ℕ) → HasShape g t → HasShape g (t ++ b ∷ [])
shape_more (Osc o ps e) t b h = (
  h.0,
  subst (λ x. AreOscUnits ps x) (append_assoc (ending_bytes e) t (b ∷ []))
      (osc_units_more ps (ending_bytes e ++ t) b h.1),
  h.2,
)
shape_more _ t b h = h

finished_more : (g : Segment) (t : List ℕ) (b : ℕ) → is_finished g t ≡ true
    → is_finished g (t ++ b ∷ []) ≡ true
finished_more (Osc o ps Open) t b h = text_more t b h
finished_more (Osc o ps Rung) t b h = refl
finished_more (Osc o ps (Waits f)) t b h = h
finished_more (Broken x) t b h = broken_more x t b h
finished_more (CutEscape x) t b h = breaks_more t b h
finished_more (Dcs o x f d) t b h = breaks_more t b h
finished_more (Apc o d) t b h = breaks_more t b h
finished_more (Ignored k o d) t b h = breaks_more t b h
finished_more (CutDcs o x) t b h = breaks_more t b h
finished_more (CutCsi o x) t b h = breaks_more t b h
finished_more _ t b h = h

pub finished_before : (gs : List Segment) (t : List ℕ) (b : ℕ) → AreFinished gs t
    → AreFinished gs (t ++ b ∷ [])
finished_before [] t b h = tt
finished_before (g ∷ gs) t b (s, f, r) =
    let e = append_assoc (joined_bytes gs) t (b ∷ []) in (
      subst (λ x. HasShape g x) e (shape_more g (joined_bytes gs ++ t) b s),
      subst (λ x. is_finished g x ≡ true) e (finished_more g (joined_bytes gs ++ t) b f),
      finished_before gs t b r,
    )

-- ---- one more at the end

pub text_push : (ps : List OscUnit) (p : OscUnit) (t : List ℕ)
    → text_bytes (ps ++ p ∷ []) ++ t ≡ text_bytes ps ++ (osc_unit_bytes p ++ t)
text_push [] p t = ap (λ x. x ++ t) (append-nil (osc_unit_bytes p))
text_push (q ∷ ps) p t =
    append_assoc (osc_unit_bytes q) (text_bytes (ps ++ p ∷ [])) t
    ∙ ap (λ x. osc_unit_bytes q ++ x) (text_push ps p t)
    ∙ sym (append_assoc (osc_unit_bytes q) (text_bytes ps) (osc_unit_bytes p ++ t))

pub text_end : (ps : List OscUnit) (p : OscUnit)
    → text_bytes (ps ++ p ∷ []) ≡ text_bytes ps ++ osc_unit_bytes p
text_end ps p = sym (append-nil (text_bytes (ps ++ p ∷ []))) ∙ text_push ps p []
    ∙ ap (λ x. text_bytes ps ++ x) (append-nil (osc_unit_bytes p))

pub osc_units_push : (ps : List OscUnit) (p : OscUnit) (t : List ℕ)
    → AreOscUnits ps (osc_unit_bytes p ++ t)
    → IsOscUnit p t → AreOscUnits (ps ++ p ∷ []) t
osc_units_push [] p t h i = (i, tt)
osc_units_push (q ∷ ps) p t (h, r) i =
    (subst (λ x. IsOscUnit q x) (sym (text_push ps p t)) h, osc_units_push ps p t r i)

joined_push : (gs : List Segment) (g : Segment) (t : List ℕ)
    → joined_bytes (gs ++ g ∷ []) ++ t ≡ joined_bytes gs ++ (bytes_of g ++ t)
joined_push [] g t = ap (λ x. x ++ t) (append-nil (bytes_of g))
joined_push (h ∷ gs) g t =
    append_assoc (bytes_of h) (joined_bytes (gs ++ g ∷ [])) t
    ∙ ap (λ x. bytes_of h ++ x) (joined_push gs g t)
    ∙ sym (append_assoc (bytes_of h) (joined_bytes gs) (bytes_of g ++ t))

pub joined_end : (gs : List Segment) (g : Segment) → joined_bytes (gs ++ g ∷ []) ≡ joined_bytes gs
    ++ bytes_of g
joined_end gs g = sym (append-nil (joined_bytes (gs ++ g ∷ []))) ∙ joined_push gs g []
    ∙ ap (λ x. joined_bytes gs ++ x) (append-nil (bytes_of g))

finished_push : (gs : List Segment) (g : Segment) (t : List ℕ) → AreFinished gs (bytes_of g ++ t)
    → HasShape g t → is_finished g t ≡ true
    → AreFinished (gs ++ g ∷ []) t
finished_push [] g t h s f = (s, f, tt)
finished_push (h ∷ gs) g t (s, f, r) sg fg = (
  subst (λ x. HasShape h x) (sym (joined_push gs g t)) s,
  subst (λ x. is_finished h x ≡ true) (sym (joined_push gs g t)) f,
  finished_push gs g t r sg fg,
)

-- ---- one byte more

-- The stream is finished segments and then these bytes, which have emitted this.
pub record Base (limit : Option ℕ) (stream : List ℕ) (events : List Event) (gs : List Segment)
    (last : List ℕ) (emitted_last : List Event) : Type 0 where
  pub whole : stream ≡ joined_bytes gs ++ last
  pub finished : AreFinished gs last
  pub emitted : events ≡ finished_events_within limit gs ++ emitted_last

-- The finished segments of a stream are all but these last bytes.
pub record Meets (limit : Option ℕ) (stream : List ℕ) (events : List Event) (gs : List Segment)
    (last : List ℕ) : Type 0 where
  pub whole : stream ≡ joined_bytes gs ++ last
  pub finished : AreFinished gs last
  pub emitted : events ≡ finished_events_within limit gs

emitted_push : (limit : Option ℕ) (gs : List Segment) (g : Segment)
    → finished_events_within limit (gs ++ g ∷ []) ≡ finished_events_within limit gs
    ++ events_of_within limit g true
emitted_push limit [] g = append-nil (events_of_within limit g true)
emitted_push limit (h ∷ gs) g =
    ap (λ x. events_of_within limit h true ++ x) (emitted_push limit gs g)
    ∙ sym (append_assoc (events_of_within limit h true) (finished_events_within limit gs)
    (events_of_within limit g true))

module _ {limit : Option ℕ} where
  pub base : (s : List ℕ) (es : List Event) (gs : List Segment) (u : Unfinished)
      → HasCut limit s es gs u
      → Base limit s es gs (open_bytes u) (emitted_open limit u)
  base s es gs u st = record { whole = st.whole; finished = st.finished; emitted = st.emitted }

  -- the last segment takes the byte
  pub grows : (stream : List ℕ) (events : List Event) (gs : List Segment) (last : List ℕ)
      (ts : List Event) (v : Unfinished) (b : ℕ) (new_events : List Event)
      → Base limit stream events gs last ts
      → open_bytes v ≡ last ++ b ∷ [] → OpenShape v → emitted_open limit v ≡ ts ++ new_events
      → HasCut limit (stream ++ b ∷ []) (events ++ new_events) gs v
  grows stream events gs last ts v b new_events st j s t = record {
    whole = ap (λ x. x ++ b ∷ []) st.whole ∙ append_assoc (joined_bytes gs) last (b ∷ [])
        ∙ ap (λ x. joined_bytes gs ++ x) (sym j);
    finished = subst (λ x. AreFinished gs x) (sym j) (finished_before gs last b st.finished);
    shape = s;
    emitted = ap (λ x. x ++ new_events) st.emitted
        ∙ append_assoc (finished_events_within limit gs) ts new_events
        ∙ ap (λ x. finished_events_within limit gs ++ x) (sym t);
  }

  -- the last segment is finished before these last bytes
  pub leaves : (stream : List ℕ) (events : List Event) (gs : List Segment) (last : List ℕ)
      (ts : List Event) (g : Segment) (b : ℕ) (rest : List ℕ)
      (new_events : List Event)
      → Base limit stream events gs last ts
      → bytes_of g ++ rest ≡ last ++ b ∷ [] → HasShape g rest → is_finished g rest ≡ true
      → events_of_within limit g true ≡ ts ++ new_events
      → Meets limit (stream ++ b ∷ []) (events ++ new_events) (gs ++ g ∷ []) rest
  leaves stream events gs last ts g b rest new_events st j s f t = record {
    whole = ap (λ x. x ++ b ∷ []) st.whole ∙ append_assoc (joined_bytes gs) last (b ∷ [])
        ∙ ap (λ x. joined_bytes gs ++ x) (sym j) ∙ sym (joined_push gs g rest);
    finished = finished_push gs g rest
        (subst (λ x. AreFinished gs x) (sym j) (finished_before gs last b st.finished)) s f;
    emitted = ap (λ x. x ++ new_events) st.emitted
        ∙ append_assoc (finished_events_within limit gs) ts new_events
        ∙ ap (λ x. finished_events_within limit gs ++ x) (sym t)
        ∙ sym (emitted_push limit gs g);
  }

  -- nothing is left over
  pub ends : (stream : List ℕ) (events : List Event) (gs : List Segment)
      → Meets limit stream events gs [] → HasCut limit stream events gs Ground
  ends stream events gs m = record {
    whole = m.whole;
    finished = m.finished;
    shape = tt;
    emitted = m.emitted ∙ sym (append-nil (finished_events_within limit gs));
  }

  -- bytes that emitted nothing may begin a segment
  pub meets : (stream : List ℕ) (events : List Event) (gs : List Segment) (last : List ℕ) (b : ℕ)
      → Base limit stream events gs last []
      → Meets limit (stream ++ b ∷ []) events gs (last ++ b ∷ [])
  meets stream events gs last b st = record {
    whole = ap (λ x. x ++ b ∷ []) st.whole ∙ append_assoc (joined_bytes gs) last (b ∷ []);
    finished = finished_before gs last b st.finished;
    emitted = st.emitted ∙ append-nil (finished_events_within limit gs);
  }

  -- the last bytes are a segment
  pub alone : (stream : List ℕ) (events : List Event) (gs : List Segment) (g : Segment)
      (last : List ℕ) (new_events : List Event) → Meets limit stream events gs last
      → bytes_of g ≡ last → HasShape g [] → is_finished g [] ≡ true
      → events_of_within limit g true ≡ new_events
      → HasCut limit stream (events ++ new_events) (gs ++ g ∷ []) Ground
  alone stream events gs g last new_events m j s f t =
      let e : last ≡ bytes_of g ++ [] = sym j ∙ sym (append-nil (bytes_of g)) in record {
        whole = m.whole ∙ ap (λ x. joined_bytes gs ++ x) e ∙ sym (joined_push gs g []);
        finished = finished_push gs g [] (subst (λ x. AreFinished gs x) e m.finished) s f;
        shape = tt;
        emitted = ap (λ x. x ++ new_events) m.emitted ∙ ap (λ x.
            finished_events_within limit gs ++ x) (sym t)
            ∙ sym (emitted_push limit gs g)
            ∙ sym (append-nil (finished_events_within limit (gs ++ g ∷ [])));
      }

  -- the last bytes begin a segment
  pub begins : (stream : List ℕ) (events : List Event) (gs : List Segment) (u : Unfinished)
      (last : List ℕ) → Meets limit stream events gs last
      → open_bytes u ≡ last → OpenShape u → emitted_open limit u ≡ []
      → HasCut limit stream (events ++ []) gs u
  begins stream events gs u last m j s t = record {
    whole = m.whole ∙ ap (λ x. joined_bytes gs ++ x) (sym j);
    finished = subst (λ x. AreFinished gs x) (sym j) m.finished;
    shape = s;
    emitted = ap (λ x. x ++ []) m.emitted ∙ ap (λ x. finished_events_within limit gs ++ x) (sym t);
  }
