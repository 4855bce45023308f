-- One byte more comes on a cut, by the unfinished segment and by the class of the byte.
use Rattle.std.proofs.Common.{ℕ, ◌≡◌, Bool, true, false, not, if◌then◌else◌, ◌&&◌, List, [], ◌∷◌, ◌++◌, refl, ap, sym, ◌∙◌, subst, append_assoc, Option}
use Rattle.std.proofs.lemmas.List.{append-nil}
use Rattle.esc_frame.specs.declared.classes.Class.{Class}
use Rattle.esc_frame.specs.declared.classes.Class.TheVariants.{C0, Bell, Intermediate, Parameter, Introducer, Final, Delete, High, Lead, Breaks}
use Rattle.esc_frame.specs.declared.classes.Breaker.TheVariants.{Cancel, Escape, C1Introducer, C1Terminator, C1}
use Rattle.esc_frame.specs.declared.classes.Kind.{Kind}
use Rattle.esc_frame.specs.declared.classes.Kind.TheVariants as kind
use Rattle.esc_frame.specs.declared.utf8.sequence.Outcome.{Outcome}
use Rattle.esc_frame.specs.declared.utf8.sequence.Outcome.TheVariants as outcomes
use Rattle.esc_frame.specs.Classes.{class_of, without_noise, is_raw, is_breaker, in_escape, ends_escape, in_csi, ends_csi, in_osc, in_data, is_put}
use Rattle.esc_frame.specs.Classes.{opens}
use Rattle.esc_frame.specs.Limits.{is_read}
use Rattle.esc_frame.specs.Sequences.{is_sequence, is_pair, outcome, number_of}
use Rattle.esc_frame.specs.Events.{Event}
use Rattle.esc_frame.specs.Events.Event.{Print, Execute, DcsPut, DcsUnhook}
use Rattle.esc_frame.specs.Segments.{escape_event, Segment, Opener, OscUnit, HasShape, IsOpener, AreOscUnits, bytes_of, text_bytes, text_of, events_of_within}
use Rattle.esc_frame.specs.Segments.{is_finished}
use Rattle.esc_frame.specs.Segments.{executes, is_empty, opener, opener_events, breaks_text, csi_events, hook_event, puts, osc_events}
use Rattle.esc_frame.specs.Segments.Segment.{Character, Wide, Broken, Stray, Control, HighControl, Terminator, CutEscape, CutCsi, CutDcs, Csi, Osc, Dcs, Apc}
use Rattle.esc_frame.specs.Segments.Segment.{Ignored}
use Rattle.esc_frame.specs.Segments.Segment.{Escape as EscapeOf}
use Rattle.esc_frame.specs.Segments.Opener.{Long, Raw, Pair}
use Rattle.esc_frame.specs.Segments.Ending.{Open, Rung}
use Rattle.esc_frame.specs.Segments.OscUnit.{One, Sequence, BrokenOff}
use Rattle.esc_frame.specs.Leads.{Unfinished, OpenShape, open_bytes, osc_bytes, HasCut, emitted_open}
use Rattle.esc_frame.specs.Leads.Unfinished.{Ground, Pending, InEscape, InCsi, InOsc, InOscPending, InDcs, InData, InApc, InIgnored}
use Rattle.esc_frame.specs.Machine.Moves.{Move, emitting, unfinished_at_opener, ground_move, pair_move, noise, final_escape, hooks, final_osc, leaving, goes_on, pending_move}
use Rattle.esc_frame.specs.Machine.Moves.{osc_pending_move, move}
use Rattle.esc_frame.proofs.Cut.OneByteMore.{all_push, executes_push, puts_push, is_escape, is_bell, is_letter, is_raw_letter, lead_prefix, pair_is, outcome_whole}
use Rattle.esc_frame.proofs.Cut.OneByteMore.{outcome_more, outcome_broken, all_noise}
use Rattle.esc_frame.proofs.Steps.CutGrows.{Base, base, grows, Meets, leaves, ends, meets, alone, begins, osc_units_more, osc_units_push, text_end}

and_no : (t : Bool) → (t && false) ≡ false
and_no true = refl
and_no false = refl

opened_bytes : (k : Kind) (o : Opener) → open_bytes (unfinished_at_opener k o) ≡ opener k o
opened_bytes kind.Csi o = append-nil (opener kind.Csi o)
opened_bytes kind.Osc o = append-nil (opener kind.Osc o)
opened_bytes kind.Dcs o = append-nil (opener kind.Dcs o)
opened_bytes kind.Sos o = append-nil (opener kind.Sos o)
opened_bytes kind.Pm o = append-nil (opener kind.Pm o)
opened_bytes kind.Apc o = append-nil (opener kind.Apc o)

opened_shape : (k : Kind) (o : Opener) → IsOpener o → OpenShape (unfinished_at_opener k o)
opened_shape kind.Csi o h = (h, refl)
opened_shape kind.Osc o h = (h, tt)
opened_shape kind.Dcs o h = (h, refl)
opened_shape kind.Sos o h = (refl, h, refl)
opened_shape kind.Pm o h = (refl, h, refl)
opened_shape kind.Apc o h = (h, refl)

-- a byte that is no breaker and not of a body is a final byte
body_ends : (c : Class) → is_breaker c ≡ false → in_csi c ≡ false → ends_csi c ≡ true
body_ends (Introducer k) h n = refl
body_ends Final h n = refl
body_ends _ h n = absurd cc

lead_code : class_of 0xc2 ≡ Lead
unfolding class_of
lead_code = refl

pair_breaks : (b : ℕ) → is_raw (class_of b) ≡ true → breaks_text (0xc2 ∷ b ∷ []) ≡ true
pair_breaks b h = rw (lead_code, h) refl

-- the data after the header has emitted these events, and emits more
emitted_more : (ds bs cs : List Event) (w : Bool)
    → ds ++ (if w then bs ++ cs else []) ≡ (ds ++ (if w then bs else [])) ++ (if w then cs else [])
emitted_more ds bs cs true = sym (append_assoc ds bs cs)
emitted_more ds bs cs false = sym (append-nil (ds ++ []))

put_by : (w t : Bool) (b : ℕ)
    → (if w then (if t then DcsPut b ∷ [] else []) else []) ≡ (if w && t then DcsPut b ∷ [] else [])
put_by true t b = refl
put_by false t b = refl

not_true : (t : Bool) → t ≡ false → not t ≡ true
not_true t h = rw h refl

module _ (limit : Option ℕ) where
  -- a cut of the longer stream, after a move
  abbrev pub Goes : List ℕ → List Event → Move → Type 0
  Goes stream es m = (hs : List Segment) × HasCut limit stream (es ++ m.1) hs m.0

  -- ---- ground

  opened_emitted : (k : Kind) (o : Opener) → emitted_open limit (unfinished_at_opener k o)
      ≡ opener_events o
  opened_emitted kind.Csi o = append-nil (opener_events o)
  opened_emitted _ o = refl

  ground_step : (w : List ℕ) (es : List Event) (gs : List Segment) (b : ℕ) (c : Class)
      → class_of b ≡ c → Meets limit w es gs (b ∷ [])
      → Goes w es (ground_move b c)
  ground_step w es gs b C0 e m =
      (_, alone w es gs (Control b) (b ∷ []) (Execute b ∷ []) m refl (rw e refl) refl refl)
  ground_step w es gs b Bell e m =
      (_, alone w es gs (Control b) (b ∷ []) (Execute b ∷ []) m refl (rw e refl) refl refl)
  ground_step w es gs b (Breaks Cancel) e m =
      (_, alone w es gs (Control b) (b ∷ []) (Execute b ∷ []) m refl (rw e refl) refl refl)
  ground_step w es gs b (Breaks Escape) e m = (
    gs,
    begins w es gs (InEscape []) (b ∷ []) m (ap (λ x. x ∷ []) (sym (is_escape b e))) refl
        refl,
  )
  ground_step w es gs b Intermediate e m =
      (_, alone w es gs (Character b) (b ∷ []) (Print b ∷ []) m refl (rw e refl) refl refl)
  ground_step w es gs b Parameter e m =
      (_, alone w es gs (Character b) (b ∷ []) (Print b ∷ []) m refl (rw e refl) refl refl)
  ground_step w es gs b (Introducer k) e m =
      (_, alone w es gs (Character b) (b ∷ []) (Print b ∷ []) m refl (rw e refl) refl refl)
  ground_step w es gs b Final e m =
      (_, alone w es gs (Character b) (b ∷ []) (Print b ∷ []) m refl (rw e refl) refl refl)
  ground_step w es gs b Delete e m =
      (_, alone w es gs (Character b) (b ∷ []) (Print b ∷ []) m refl (rw e refl) refl refl)
  ground_step w es gs b (Breaks C1) e m = (
    _,
    alone w es gs (HighControl false b) (b ∷ []) (Execute b ∷ []) m refl (rw e refl) refl
        refl,
  )
  ground_step w es gs b (Breaks (C1Introducer k)) e m = (
    gs,
    begins w es gs (unfinished_at_opener k Raw) (b ∷ []) m (opened_bytes k Raw
        ∙ ap (λ x. x ∷ []) (sym (is_raw_letter b k e))) (opened_shape k Raw tt)
        (opened_emitted k Raw),
  )
  ground_step w es gs b (Breaks C1Terminator) e m =
      (_, alone w es gs (Terminator false b) (b ∷ []) [] m refl (rw e refl) refl refl)
  ground_step w es gs b High e m =
      (_, alone w es gs (Stray b) (b ∷ []) (Print 0xfffd ∷ []) m refl (rw e refl) refl refl)
  ground_step w es gs b Lead e m =
      (gs, begins w es gs (Pending (b ∷ [])) (b ∷ []) m refl (lead_prefix b e) refl)

  -- after C2
  pair_step : (w : List ℕ) (es : List Event) (gs : List Segment) (b : ℕ) (c : Class)
      → class_of b ≡ c → is_raw c ≡ true → Meets limit w es gs (0xc2 ∷ b ∷ [])
      → Goes w es (pair_move b c)
  pair_step w es gs b (Breaks C1) e h m = (
    _,
    alone w es gs (HighControl true b) (0xc2 ∷ b ∷ []) (Execute b ∷ []) m refl (rw e refl)
        refl refl,
  )
  pair_step w es gs b (Breaks (C1Introducer k)) e h m = (
    gs,
    begins w es gs (unfinished_at_opener k Pair) (0xc2 ∷ b ∷ []) m (opened_bytes k Pair
        ∙ ap (λ x. 0xc2 ∷ x ∷ []) (sym (is_raw_letter b k e))) (opened_shape k Pair tt)
        (opened_emitted k Pair),
  )
  pair_step w es gs b (Breaks C1Terminator) e h m =
      (_, alone w es gs (Terminator true b) (0xc2 ∷ b ∷ []) [] m refl (rw e refl) refl refl)
  pair_step w es gs b _ e h m = absurd cc

  -- the events of two steps
  joins : (w : List ℕ) (es first : List Event) (m : Move) → Goes w (es ++ first) m
      → Goes w es (emitting first m)
  joins w es first m h =
      (h.0, subst (λ x. HasCut limit w x h.0 m.0) (append_assoc es first m.1) h.1)

  -- the unfinished segment is left, and the byte stands in ground
  break_step : (s : List ℕ) (es : List Event) (gs : List Segment) (last : List ℕ) (ts : List Event)
      (g : Segment) (first : List Event) (b : ℕ) (c : Class)
      → class_of b ≡ c → Base limit s es gs last ts
      → bytes_of g ≡ last → HasShape g (b ∷ []) → is_finished g (b ∷ []) ≡ true
      → events_of_within limit g true ≡ ts ++ first
      → Goes (s ++ b ∷ []) es (emitting first (ground_move b c))
  break_step s es gs last ts g first b c e st j sh f t =
      joins (s ++ b ∷ []) es first (ground_move b c)
      (ground_step (s ++ b ∷ []) (es ++ first) (gs ++ g ∷ []) b c e
      (leaves s es gs last ts g b (b ∷ []) first st (ap (λ x. x ++ b ∷ []) j) sh f t))

  -- the byte is the last of a segment
  closes : (s : List ℕ) (es : List Event) (gs : List Segment) (last : List ℕ) (ts : List Event)
      (g : Segment) (b : ℕ) (new_events : List Event)
      → Base limit s es gs last ts
      → bytes_of g ≡ last ++ b ∷ [] → HasShape g [] → is_finished g [] ≡ true
      → events_of_within limit g true ≡ ts ++ new_events
      → Goes (s ++ b ∷ []) es (Ground, new_events)
  closes s es gs last ts g b new_events st j sh f t = (
    gs ++ g ∷ [],
    ends (s ++ b ∷ []) (es ++ new_events) (gs ++ g ∷ [])
        (leaves s es gs last ts g b [] new_events st (append-nil (bytes_of g) ∙ j) sh f t),
  )

  -- ---- a prefix of a sequence in ground

  whole_step : (s : List ℕ) (es : List Event) (gs : List Segment) (f : List ℕ) (b : ℕ) (t : Bool)
      → is_pair (f ++ b ∷ []) ≡ t → is_sequence (f ++ b ∷ []) ≡ true
      → HasCut limit s es gs (Pending f)
      → Goes (s ++ b ∷ []) es (if t then pair_move b (class_of b) else (
        Ground,
        Print (number_of (f ++ b ∷ [])) ∷ [],
      ))
  whole_step s es gs f b false p q st =
      closes s es gs f [] (Wide (f ++ b ∷ [])) b (Print (number_of (f ++ b ∷ [])) ∷ [])
      (base s es gs (Pending f) st) refl (q, p) refl refl
  whole_step s es gs f b true p q st =
      let k = pair_is f b p in
      pair_step (s ++ b ∷ []) es gs b (class_of b) refl k.1
      (subst (λ x. Meets limit (s ++ b ∷ []) es gs (x ++ b ∷ [])) k.0
      (meets s es gs f b (base s es gs (Pending f) st)))

  pending_step : (s : List ℕ) (es : List Event) (gs : List Segment) (f : List ℕ) (b : ℕ)
      (t : Outcome) → outcome f b ≡ t → HasCut limit s es gs (Pending f)
      → Goes (s ++ b ∷ []) es (pending_move f b (class_of b) t)
  pending_step s es gs f b outcomes.Whole e st =
      whole_step s es gs f b (is_pair (f ++ b ∷ [])) refl (outcome_whole f b e) st
  pending_step s es gs f b outcomes.More e st = (
    gs,
    grows s es gs f [] (Pending (f ++ b ∷ [])) b [] (base s es gs (Pending f) st) refl
        (outcome_more f b e)
        refl,
  )
  pending_step s es gs f b outcomes.Broken e st =
      break_step s es gs f [] (Broken f) (Print 0xfffd ∷ []) b (class_of b) refl
      (base s es gs (Pending f) st) refl st.shape (outcome_broken f b e) refl

  -- ---- ESC x

  escape_closes : (s : List ℕ) (es : List Event) (gs : List Segment) (x : List ℕ) (b : ℕ)
      (c : Class) → class_of b ≡ c → ends_escape c ≡ true
      → (is_empty (without_noise x) && opens c) ≡ false → HasCut limit s es gs (InEscape x)
      → Goes (s ++ b ∷ []) es (Ground, escape_event (without_noise x) b ∷ [])
  escape_closes s es gs x b c e h k st =
      closes s es gs (0x1b ∷ x) (executes x) (EscapeOf x b) b
      (escape_event (without_noise x) b ∷ [])
      (base s es gs (InEscape x) st) refl
      (st.shape, rw e h, rw e k) refl refl

  opens_step : (s : List ℕ) (es : List Event) (gs : List Segment) (x : List ℕ) (b : ℕ) (k : Kind)
      (t : Bool) → is_empty (without_noise x) ≡ t → class_of b ≡ Introducer k
      → HasCut limit s es gs (InEscape x)
      → Goes (s ++ b ∷ []) es (if t then (unfinished_at_opener k (Long x), []) else (
        Ground,
        escape_event (without_noise x) b ∷ [],
      ))
  opens_step s es gs x b k true h e st = (
    gs,
    grows s es gs (0x1b ∷ x) (executes x) (unfinished_at_opener k (Long x)) b []
        (base s es gs (InEscape x) st)
        (opened_bytes k (Long x) ∙ ap (λ y. (0x1b ∷ x) ++ y ∷ []) (sym (is_letter b k e)))
        (opened_shape k (Long x) (all_noise x h))
        (opened_emitted k (Long x) ∙ sym (append-nil (executes x))),
  )
  opens_step s es gs x b k false h e st =
      escape_closes s es gs x b (Introducer k) e refl (rw h refl) st

  final_step : (s : List ℕ) (es : List Event) (gs : List Segment) (x : List ℕ) (b : ℕ) (c : Class)
      → class_of b ≡ c → is_breaker c ≡ false → in_escape c ≡ false
      → HasCut limit s es gs (InEscape x) → Goes (s ++ b ∷ []) es (final_escape x b c)
  final_step s es gs x b (Introducer k) e h n st =
      opens_step s es gs x b k (is_empty (without_noise x)) refl e st
  final_step s es gs x b Parameter e h n st =
      escape_closes s es gs x b Parameter e refl (and_no (is_empty (without_noise x))) st
  final_step s es gs x b Final e h n st =
      escape_closes s es gs x b Final e refl (and_no (is_empty (without_noise x))) st
  final_step s es gs x b _ e h n st = absurd cc

  escape_step : (s : List ℕ) (es : List Event) (gs : List Segment) (x : List ℕ) (b : ℕ) (c : Class)
      (t w : Bool) → class_of b ≡ c → is_breaker c ≡ t
      → in_escape c ≡ w → HasCut limit s es gs (InEscape x)
      → Goes (s ++ b ∷ []) es (if t then emitting [] (ground_move b c) else if w then
      (InEscape (x ++ b ∷ []), noise b c) else final_escape x b c)
  escape_step s es gs x b c true w e h n st =
      break_step s es gs (0x1b ∷ x) (executes x) (CutEscape x) [] b c e
      (base s es gs (InEscape x) st) refl st.shape (rw (e, h) refl)
      (sym (append-nil (executes x)))
  escape_step s es gs x b c false true e h n st = (
    gs,
    grows s es gs (0x1b ∷ x) (executes x) (InEscape (x ++ b ∷ [])) b (noise b c)
        (base s es gs (InEscape x) st) refl (all_push in_escape x b c e st.shape n)
        (executes_push x b c e),
  )
  escape_step s es gs x b c false false e h n st = final_step s es gs x b c e h n st

  -- ---- a CSI

  csi_step : (s : List ℕ) (es : List Event) (gs : List Segment) (o : Opener) (x : List ℕ) (b : ℕ)
      (c : Class) (t w : Bool) → class_of b ≡ c → is_breaker c ≡ t
      → in_csi c ≡ w → HasCut limit s es gs (InCsi o x)
      → Goes (s ++ b ∷ []) es (if t then emitting [] (ground_move b c) else if w then
      (InCsi o (x ++ b ∷ []), noise b c) else (Ground, csi_events (without_noise x) b))
  csi_step s es gs o x b c true w e h n st =
      break_step s es gs (opener kind.Csi o ++ x) (opener_events o ++ executes x) (CutCsi o x) [] b
      c e (base s es gs (InCsi o x) st) refl st.shape
      (rw (e, h) refl) (sym (append-nil (opener_events o ++ executes x)))
  csi_step s es gs o x b c false true e h n st = (
    gs,
    grows s es gs (opener kind.Csi o ++ x) (opener_events o ++ executes x) (InCsi o (x ++ b ∷ [])) b
        (noise b c)
        (base s es gs (InCsi o x) st) (sym (append_assoc (opener kind.Csi o) x (b ∷ [])))
        (st.shape.0, all_push in_csi x b c e st.shape.1 n)
        (ap (λ y. opener_events o ++ y) (executes_push x b c e)
        ∙ sym (append_assoc (opener_events o) (executes x) (noise b c))),
  )
  csi_step s es gs o x b c false false e h n st =
      closes s es gs (opener kind.Csi o ++ x) (opener_events o ++ executes x) (Csi o x b) b
      (csi_events (without_noise x) b) (base s es gs (InCsi o x) st) refl
      (st.shape.0, st.shape.1, rw e (body_ends c h n)) refl refl

  -- ---- an OSC

  -- an OSC whose units are these, before the byte
  abbrev OscBase : List ℕ → List Event → List Segment → Opener → List OscUnit → ℕ → Type 0
  OscBase s es gs o ps b = Base limit s es gs (osc_bytes o ps) (opener_events o) × IsOpener o
      × AreOscUnits ps (b ∷ [])

  final_osc_step : (s : List ℕ) (es : List Event) (gs : List Segment) (o : Opener)
      (ps : List OscUnit)
      (b : ℕ) (c : Class) → class_of b ≡ c
      → is_breaker c ≡ false → in_osc c ≡ false → OscBase s es gs o ps b
      → Goes (s ++ b ∷ []) es (final_osc limit o ps b c)
  final_osc_step s es gs o ps b Bell e h n st =
      let k = is_bell b e in
      closes s es gs (osc_bytes o ps) (opener_events o) (Osc o ps Rung) b
      (osc_events limit (text_of ps)) st.0 (ap (λ y. osc_bytes o ps ++ y ∷ []) (sym k))
      (st.1, subst (λ x. AreOscUnits ps (x ∷ [])) k st.2, tt) refl refl
  final_osc_step s es gs o ps b Lead e h n st = (
    gs,
    grows s es gs (osc_bytes o ps) (opener_events o) (InOscPending o ps (b ∷ [])) b [] st.0 refl
        (st.1, st.2, lead_prefix b e)
        (sym (append-nil (opener_events o))),
  )
  final_osc_step s es gs o ps b _ e h n st = absurd cc

  osc_step : (s : List ℕ) (es : List Event) (gs : List Segment) (o : Opener) (ps : List OscUnit)
      (b : ℕ) (c : Class) (t w : Bool) → class_of b ≡ c
      → is_breaker c ≡ t → in_osc c ≡ w → OscBase s es gs o ps b
      → Goes (s ++ b ∷ []) es (if t then emitting (osc_events limit (text_of ps)) (ground_move b c)
      else if w then (InOsc o (ps ++ One b ∷ []), []) else
      final_osc limit o ps b c)
  osc_step s es gs o ps b c true w e h n st =
      break_step s es gs (osc_bytes o ps) (opener_events o) (Osc o ps Open)
      (osc_events limit (text_of ps)) b c e st.0 (append-nil (osc_bytes o ps))
      (st.1, st.2, tt)
      (rw (e, h) refl) refl
  osc_step s es gs o ps b c false true e h n st = (
    gs,
    grows s es gs (osc_bytes o ps) (opener_events o) (InOsc o (ps ++ One b ∷ [])) b [] st.0
        (ap (λ x. opener kind.Osc o ++ x) (text_end ps (One b))
        ∙ sym (append_assoc (opener kind.Osc o) (text_bytes ps) (b ∷ [])))
        (st.1, osc_units_push ps (One b) [] st.2 (rw e n)) (sym (append-nil (opener_events o))),
  )
  osc_step s es gs o ps b c false false e h n st = final_osc_step s es gs o ps b c e h n st

  osc_whole_step : (s : List ℕ) (es : List Event) (gs : List Segment) (o : Opener)
      (ps : List OscUnit)
      (f : List ℕ) (b : ℕ) (t : Bool) → is_pair (f ++ b ∷ []) ≡ t
      → is_sequence (f ++ b ∷ []) ≡ true → HasCut limit s es gs (InOscPending o ps f)
      → Goes (s ++ b ∷ []) es (if t then emitting (osc_events limit (text_of ps))
      (pair_move b (class_of b)) else
      (InOsc o (ps ++ Sequence (f ++ b ∷ []) ∷ []), []))
  osc_whole_step s es gs o ps f b false p q st = (
    gs,
    grows s es gs (osc_bytes o ps ++ f) (opener_events o)
        (InOsc o (ps ++ Sequence (f ++ b ∷ []) ∷ [])) b [] (base s es gs (InOscPending o ps f) st)
        (ap (λ x. opener kind.Osc o ++ x) (text_end ps (Sequence (f ++ b ∷ [])))
        ∙ sym (append_assoc (opener kind.Osc o) (text_bytes ps) (f ++ b ∷ [])) ∙ sym
        (append_assoc (osc_bytes o ps) f (b ∷ []))) (
          st.shape.0,
          osc_units_push ps (Sequence (f ++ b ∷ [])) []
              (subst (λ x. AreOscUnits ps x) (sym (append-nil (f ++ b ∷ [])))
              (osc_units_more ps f b st.shape.1))
              (q, p),
        )
        (sym (append-nil (opener_events o))),
  )
  osc_whole_step s es gs o ps f b true p q st =
      let k = pair_is f b p in
      let r : f ++ b ∷ [] ≡ 0xc2 ∷ b ∷ [] = ap (λ x. x ++ b ∷ []) k.0 in
      joins (s ++ b ∷ []) es (osc_events limit (text_of ps)) (pair_move b (class_of b))
      (pair_step (s ++ b ∷ []) (es ++ osc_events limit (text_of ps)) (gs ++ Osc o ps Open ∷ []) b
      (class_of b) refl k.1
      (leaves s es gs (osc_bytes o ps ++ f) (opener_events o) (Osc o ps Open) b (0xc2 ∷ b ∷ [])
      (osc_events limit (text_of ps))
      (base s es gs (InOscPending o ps f) st)
      (ap (λ x. x ++ 0xc2 ∷ b ∷ []) (append-nil (osc_bytes o ps))
      ∙ ap (λ x. osc_bytes o ps ++ x) (sym r) ∙ sym (append_assoc (osc_bytes o ps) f (b ∷ []))) (
        st.shape.0,
        subst (λ x. AreOscUnits ps x) r (osc_units_more ps f b st.shape.1),
        tt,
      ) (pair_breaks b k.1) refl))

  osc_pending_step : (s : List ℕ) (es : List Event) (gs : List Segment) (o : Opener)
      (ps : List OscUnit) (f : List ℕ) (b : ℕ) (t : Outcome) → outcome f b ≡ t
      → HasCut limit s es gs (InOscPending o ps f)
      → Goes (s ++ b ∷ []) es (osc_pending_move limit o ps f b (class_of b) t)
  osc_pending_step s es gs o ps f b outcomes.Whole e st =
      osc_whole_step s es gs o ps f b (is_pair (f ++ b ∷ [])) refl (outcome_whole f b e) st
  osc_pending_step s es gs o ps f b outcomes.More e st = (
    gs,
    grows s es gs (osc_bytes o ps ++ f) (opener_events o) (InOscPending o ps (f ++ b ∷ [])) b []
        (base s es gs (InOscPending o ps f) st)
        (sym (append_assoc (osc_bytes o ps) f (b ∷ []))) (
          st.shape.0,
          osc_units_more ps f b st.shape.1,
          outcome_more f b e,
        ) (sym (append-nil (opener_events o))),
  )
  osc_pending_step s es gs o ps f b outcomes.Broken e st =
      let j : osc_bytes o ps ++ f ≡ osc_bytes o (ps ++ BrokenOff f ∷ []) =
      append_assoc (opener kind.Osc o) (text_bytes ps) f ∙ ap (λ x. opener kind.Osc o ++ x)
      (sym (text_end ps (BrokenOff f))) in
      osc_step s es gs o (ps ++ BrokenOff f ∷ []) b (class_of b) (is_breaker (class_of b))
      (in_osc (class_of b)) refl refl refl (
        subst (λ x. Base limit s es gs x (opener_events o)) j
            (base s es gs (InOscPending o ps f) st),
        st.shape.0,
        osc_units_push ps (BrokenOff f) (b ∷ [])
            (osc_units_more ps f b st.shape.1) (st.shape.2, outcome_broken f b e),
      )

  -- ---- a DCS

  dcs_step : (s : List ℕ) (es : List Event) (gs : List Segment) (o : Opener) (x : List ℕ) (b : ℕ)
      (c : Class) (t w : Bool) → class_of b ≡ c → is_breaker c ≡ t
      → in_csi c ≡ w → HasCut limit s es gs (InDcs o x)
      → Goes (s ++ b ∷ []) es (if t then emitting [] (ground_move b c) else if w then
      (InDcs o (x ++ b ∷ []), []) else (InData o x b [], hooks limit x b))
  dcs_step s es gs o x b c true w e h n st =
      break_step s es gs (opener kind.Dcs o ++ x) (opener_events o) (CutDcs o x) [] b c e
      (base s es gs (InDcs o x) st) refl st.shape (rw (e, h) refl)
      (sym (append-nil (opener_events o)))
  dcs_step s es gs o x b c false false e h n st = (
    gs,
    grows s es gs (opener kind.Dcs o ++ x) (opener_events o) (InData o x b []) b (hooks limit x b)
        (base s es gs (InDcs o x) st) (append-nil _)
        (st.shape.0, st.shape.1, rw e (body_ends c h n), refl) refl,
  )
  dcs_step s es gs o x b c false true e h n st = (
    gs,
    grows s es gs (opener kind.Dcs o ++ x) (opener_events o) (InDcs o (x ++ b ∷ [])) b []
        (base s es gs (InDcs o x) st)
        (sym (append_assoc (opener kind.Dcs o) x (b ∷ []))) (
          st.shape.0,
          all_push in_csi x b c e st.shape.1 n,
        ) (sym (append-nil (opener_events o))),
  )

  data_step : (s : List ℕ) (es : List Event) (gs : List Segment) (o : Opener) (x : List ℕ) (f : ℕ)
      (d : List ℕ) (b : ℕ) (c : Class) (t : Bool) → class_of b ≡ c
      → is_breaker c ≡ t → HasCut limit s es gs (InData o x f d)
      → Goes (s ++ b ∷ []) es (if t then emitting (leaving limit (InData o x f d)) (ground_move b c)
      else goes_on limit (InData o x f d) b c)
  data_step s es gs o x f d b c true e h st =
      break_step s es gs (bytes_of (Dcs o x f d)) (emitted_open limit (InData o x f d))
      (Dcs o x f d)
      (leaving limit (InData o x f d)) b c e
      (base s es gs (InData o x f d) st) refl st.shape (rw (e, h) refl)
      (emitted_more (opener_events o) (hook_event (without_noise x) f ∷ puts d) (DcsUnhook ∷ [])
      (is_read limit (without_noise x)))
  data_step s es gs o x f d b c false e h st = (
    gs,
    grows s es gs (bytes_of (Dcs o x f d)) (emitted_open limit (InData o x f d))
        (InData o x f (d ++ b ∷ [])) b
        (if is_read limit (without_noise x) && is_put c then DcsPut b ∷ [] else [])
        (base s es gs (InData o x f d) st)
        (sym (append_assoc (opener kind.Dcs o ++ x ++ f ∷ []) d (b ∷ []))) (
          st.shape.0,
          st.shape.1,
          st.shape.2,
          all_push in_data d b c e st.shape.3 (not_true (is_breaker c) h),
        )
        (ap (λ y. opener_events o ++ (if is_read limit (without_noise x)
        then hook_event (without_noise x) f
        ∷ y else [])) (puts_push d b c e) ∙ emitted_more (opener_events o)
        (hook_event (without_noise x) f ∷ puts d) (if is_put c then DcsPut b ∷ [] else [])
        (is_read limit (without_noise x))
        ∙ ap (λ y. emitted_open limit (InData o x f d) ++ y)
        (put_by (is_read limit (without_noise x)) (is_put c) b)),
  )

  -- ---- the other strings

  apc_step : (s : List ℕ) (es : List Event) (gs : List Segment) (o : Opener) (d : List ℕ) (b : ℕ)
      (c : Class) (t : Bool) → class_of b ≡ c → is_breaker c ≡ t
      → HasCut limit s es gs (InApc o d)
      → Goes (s ++ b ∷ []) es (if t then emitting (leaving limit (InApc o d)) (ground_move b c) else
      goes_on limit (InApc o d) b c)
  apc_step s es gs o d b c true e h st =
      break_step s es gs (opener kind.Apc o ++ d) (opener_events o) (Apc o d)
      (leaving limit (InApc o d)) b c e
      (base s es gs (InApc o d) st) refl st.shape (rw (e, h) refl) refl
  apc_step s es gs o d b c false e h st = (
    gs,
    grows s es gs (opener kind.Apc o ++ d) (opener_events o) (InApc o (d ++ b ∷ [])) b []
        (base s es gs (InApc o d) st)
        (sym (append_assoc (opener kind.Apc o) d (b ∷ []))) (
          st.shape.0,
          all_push in_data d b c e st.shape.1 (not_true (is_breaker c) h),
        )
        (sym (append-nil (opener_events o))),
  )

  ignored_step : (s : List ℕ) (es : List Event) (gs : List Segment) (k : Kind) (o : Opener)
      (d : List ℕ) (b : ℕ) (c : Class) (t : Bool) → class_of b ≡ c
      → is_breaker c ≡ t → HasCut limit s es gs (InIgnored k o d)
      → Goes (s ++ b ∷ []) es (if t then emitting [] (ground_move b c) else goes_on limit
      (InIgnored k o d) b c)
  ignored_step s es gs k o d b c true e h st =
      break_step s es gs (opener k o ++ d) (opener_events o) (Ignored k o d) [] b c e
      (base s es gs (InIgnored k o d) st) refl st.shape (rw (e, h) refl)
      (sym (append-nil (opener_events o)))
  ignored_step s es gs k o d b c false e h st = (
    gs,
    grows s es gs (opener k o ++ d) (opener_events o) (InIgnored k o (d ++ b ∷ [])) b []
        (base s es gs (InIgnored k o d) st)
        (sym (append_assoc (opener k o) d (b ∷ []))) (
          st.shape.0,
          st.shape.1,
          all_push in_data d b c e st.shape.2 (not_true (is_breaker c) h),
        )
        (sym (append-nil (opener_events o))),
  )

  -- one byte more on a cut takes a cut, with those events more
  pub byte_step : (s : List ℕ) (es : List Event) (gs : List Segment) (u : Unfinished) (b : ℕ)
      → HasCut limit s es gs u
      → Goes (s ++ b ∷ []) es (move limit u b (class_of b))
  byte_step s es gs Ground b st = ground_step (s ++ b ∷ []) es gs b (class_of b) refl
      (meets s es gs [] b (base s es gs Ground st))
  byte_step s es gs (Pending f) b st = pending_step s es gs f b (outcome f b) refl st
  byte_step s es gs (InEscape x) b st =
      escape_step s es gs x b (class_of b) (is_breaker (class_of b)) (in_escape (class_of b)) refl
      refl refl st
  byte_step s es gs (InCsi o x) b st = csi_step s es gs o x b (class_of b) (is_breaker (class_of b))
      (in_csi (class_of b)) refl refl refl st
  byte_step s es gs (InDcs o x) b st = dcs_step s es gs o x b (class_of b) (is_breaker (class_of b))
      (in_csi (class_of b)) refl refl refl st
  byte_step s es gs (InData o x f d) b st =
      data_step s es gs o x f d b (class_of b) (is_breaker (class_of b)) refl refl st
  byte_step s es gs (InApc o d) b st =
      apc_step s es gs o d b (class_of b) (is_breaker (class_of b)) refl refl st
  byte_step s es gs (InIgnored k o d) b st =
      ignored_step s es gs k o d b (class_of b) (is_breaker (class_of b)) refl refl st
  byte_step s es gs (InOsc o ps) b st =
      osc_step s es gs o ps b (class_of b) (is_breaker (class_of b)) (in_osc (class_of b)) refl refl
      refl
      (base s es gs (InOsc o ps) st, st.shape.0, osc_units_more ps [] b st.shape.1)
  byte_step s es gs (InOscPending o ps f) b st =
      osc_pending_step s es gs o ps f b (outcome f b) refl st
