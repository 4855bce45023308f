-- A stream that is within a limit has the same meaning as without one.
use Rattle.std.proofs.Common.{ℕ, ◌≡◌, Bool, true, false, ◌&&◌, if◌then◌else◌, List, [], ◌∷◌, ◌++◌, map, Option, None, refl, ap, sym, ◌∙◌}
use Rattle.std.proofs.lemmas.Bool.{and_parts}
use Rattle.std.proofs.lemmas.List.{append-nil}
use Rattle.std.specs.List.{list_all}
use Rattle.esc_values.specs.Clear.{parts_of}
use Rattle.esc_frame.specs.Bodies.{is_csi_body, is_dcs_header}
use Rattle.esc_frame.specs.Classes.{is_c0, is_put, is_text, bytes_of_class, without_noise}
use Rattle.esc_frame.specs.Counts.{AreWithin}
use Rattle.esc_frame.specs.Events.{Event}
use Rattle.esc_frame.specs.Events.Event.{Print, Execute, EscDispatch, CsiDispatch, OscDispatch, DcsHook, DcsPut, DcsUnhook, ApcDispatch}
use Rattle.esc_frame.specs.Limits.{is_within, kept_within}
use Rattle.esc_frame.specs.Segments.{Segment, IsCut, HasEvents, Opener, events_of, events_of_cut, ends_itself, opener_events, executes, csi_event, csi_events}
use Rattle.esc_frame.specs.Segments.{escape_event, hook_event, puts, text_of}
use Rattle.esc_frame.specs.Segments.Opener.{Long, Raw, Pair}
use Rattle.esc_frame.specs.Segments.Segment.{Character, Wide, Broken, Stray, Control, HighControl, Terminator, Escape, Csi, Osc, Dcs, Apc, Ignored, CutEscape}
use Rattle.esc_frame.specs.Segments.Segment.{CutCsi, CutDcs}
use Rattle.esc_frame.specs.Stream.{events, events_within}
use Rattle.esc_actions.proofs.Meaning.MeaningsJoin.{mode_append, values_append}
use Rattle.esc_actions.proofs.Meaning.StreamMeansReadings.{closes, opener_keeps}
use Rattle.esc_actions.specs.Limited.{IsDataWithin, AreDataWithin, IsWithin}
use Rattle.esc_actions.specs.Meaning.{meaning, meaning_within, mode_from, values_from}
use Rattle.esc_actions.specs.Texts.{list_text, normal}
use Rattle.esc_actions.specs.Values.{Mode, Value, plain, in_sixel, in_termcap, in_short, entered, event_values, mode_after, unhook_values, data_count}
use Rattle.esc_actions.specs.Writable.{AreWritable}

none_kept : (t : Bool) (n : ℕ) → n ≡ 0 → (if t then n else n) ≡ 0
none_kept true n h = h
none_kept false n h = h

pub nothing_kept : (limit : Option ℕ) → kept_within limit 0 ≡ 0
nothing_kept limit = none_kept (is_within limit 0) 0 refl

-- the values of every event but the end of a string
abbrev goes_on : Event → Bool
goes_on DcsUnhook = false
goes_on (Print c) = true
goes_on (Execute b) = true
goes_on (EscDispatch is more f) = true
goes_on (CsiDispatch es more f) = true
goes_on (OscDispatch ps) = true
goes_on (DcsHook f ps is more) = true
goes_on (DcsPut b) = true
goes_on (ApcDispatch t) = true

given_same : {A : Type 0} (limit : Option ℕ) (m : Mode) (e : Event) → goes_on e ≡ true
    → event_values {A = A} limit m e ≡ event_values None m e
given_same limit m DcsUnhook h = absurd cc
given_same limit m (Print c) h = refl
given_same limit m (Execute b) h = refl
given_same limit m (EscDispatch is more f) h = refl
given_same limit m (CsiDispatch es more f) h = refl
given_same limit m (OscDispatch ps) h = refl
given_same limit m (DcsHook f ps is more) h = refl
given_same limit m (DcsPut b) h = refl
given_same limit m (ApcDispatch t) h = refl

all_same : {A : Type 0} (limit : Option ℕ) (m : Mode) (es : List Event) → list_all goes_on es ≡ true
    → values_from {A = A} limit m es ≡ values_from None m es
all_same limit m [] h = refl
all_same limit m (e ∷ es) h =
    let q = and_parts (goes_on e) (list_all goes_on es) h in
    ap (λ x. x ++ values_from limit (mode_after m e) es) (given_same limit m e q.0)
    ∙ ap (λ x. event_values None m e ++ x) (all_same limit (mode_after m e) es q.1)

-- the end of a string whose data is within the limit
closed_same : {A : Type 0} (limit : Option ℕ) (m : Mode) → is_within limit (data_count m) ≡ true
    → unhook_values {A = A} limit m ≡ unhook_values None m
closed_same limit plain h = refl
closed_same limit (in_sixel ps d) h = rw h refl
closed_same limit (in_termcap d) h = rw h refl
closed_same limit (in_short ps is f d) h = rw h refl
closed_same limit entered h = refl

executes_go_on : (bs : List ℕ) → list_all goes_on (map Execute bs) ≡ true
executes_go_on [] = refl
executes_go_on (b ∷ bs) = executes_go_on bs

puts_go_on : (bs : List ℕ) → list_all goes_on (map DcsPut bs) ≡ true
puts_go_on [] = refl
puts_go_on (b ∷ bs) = puts_go_on bs

both_go_on : (es fs : List Event) → list_all goes_on es ≡ true → list_all goes_on fs ≡ true
    → list_all goes_on (es ++ fs) ≡ true
both_go_on [] fs h k = k
both_go_on (e ∷ es) fs h k = let q = and_parts (goes_on e) (list_all goes_on es) h in
    rw (q.0, both_go_on es fs q.1 k) refl

opener_goes_on : (o : Opener) → list_all goes_on (opener_events o) ≡ true
opener_goes_on (Long n) = executes_go_on (bytes_of_class is_c0 n)
opener_goes_on Raw = refl
opener_goes_on Pair = refl

one_goes_on : (e : Event) (t : Bool) → goes_on e ≡ true
    → list_all goes_on (if t then e ∷ [] else []) ≡ true
one_goes_on e true h = rw h refl
one_goes_on e false h = refl

-- a string that ends: its opener, and its header and data if they are read
ended_same : {A : Type 0} (limit : Option ℕ) (es fs : List Event) → list_all goes_on es ≡ true
    → list_all goes_on fs ≡ true → mode_from plain es ≡ plain
    → is_within limit (data_count (mode_from plain fs)) ≡ true
    → values_from {A = A} limit plain (es ++ (fs ++ DcsUnhook ∷ []))
    ≡ values_from None plain (es ++ (fs ++ DcsUnhook ∷ []))
ended_same {A = A} limit es fs h k keeps within =
    let m = mode_from plain fs in
    let tail : values_from {A = A} limit plain (fs ++ DcsUnhook ∷ [])
    ≡ values_from None plain (fs ++ DcsUnhook ∷ []) =
    values_append limit plain fs (DcsUnhook ∷ []) ∙ ap (λ x. x ++ (unhook_values limit m ++ []))
    (all_same limit plain fs k)
    ∙ ap (λ x. values_from None plain fs ++ (x ++ [])) (closed_same limit m within)
    ∙ sym (values_append None plain fs (DcsUnhook ∷ [])) in
    values_append limit plain es (fs ++ DcsUnhook ∷ [])
    ∙ ap (λ x. x ++ values_from limit (mode_from plain es) (fs ++ DcsUnhook ∷ []))
    (all_same limit plain es h)
    ∙ ap (λ n. values_from None plain es ++ values_from limit n (fs ++ DcsUnhook ∷ [])) keeps
    ∙ ap (λ x. values_from None plain es ++ x) tail
    ∙ ap (λ n. values_from None plain es ++ values_from None n (fs ++ DcsUnhook ∷ [])) (sym keeps)
    ∙ sym (values_append None plain es (fs ++ DcsUnhook ∷ []))

dcs_same : {A : Type 0} (limit : Option ℕ) (o : Opener) (fs : List Event) (header finished : Bool)
    → list_all goes_on fs ≡ true
    → is_within limit
    (data_count (mode_from plain (opener_events o ++ (if header then fs ++ [] else [])))) ≡ true
    → values_from {A = A} limit plain (opener_events o
    ++ (if header then fs ++ (if finished then DcsUnhook ∷ [] else []) else []))
    ≡ values_from None plain (opener_events o
    ++ (if header then fs ++ (if finished then DcsUnhook ∷ [] else []) else []))
dcs_same limit o fs true true k h =
    let mode : mode_from plain (opener_events o ++ (fs ++ [])) ≡ mode_from plain fs =
    mode_append plain (opener_events o) (fs ++ [])
    ∙ ap (λ m. mode_from m (fs ++ [])) (opener_keeps plain o)
    ∙ ap (mode_from plain) (append-nil fs) in
    ended_same limit (opener_events o) fs (opener_goes_on o) k (opener_keeps plain o) (rw mode at h)
dcs_same limit o fs true false k h =
    all_same limit plain (opener_events o ++ (fs ++ []))
    (both_go_on (opener_events o) (fs ++ []) (opener_goes_on o) (both_go_on fs [] k refl))
dcs_same limit o fs false finished k h =
    all_same limit plain (opener_events o ++ []) (both_go_on (opener_events o) [] (opener_goes_on o)
    refl)

segment_same : {A : Type 0} (limit : Option ℕ) (g : Segment) (finished : Bool)
    → IsDataWithin limit g
    → values_from {A = A} limit plain (events_of g finished)
    ≡ values_from None plain (events_of g finished)
segment_same limit (Character b) finished h = refl
segment_same limit (Wide x) finished h = refl
segment_same limit (Broken x) finished h =
    all_same limit plain (events_of (Broken x) finished) (one_goes_on (Print 0xfffd) finished refl)
segment_same limit (Stray b) finished h = refl
segment_same limit (Control b) finished h = refl
segment_same limit (HighControl p b) finished h = refl
segment_same limit (Terminator p b) finished h = refl
segment_same limit (Escape x f) finished h =
    all_same limit plain (events_of (Escape x f) finished)
    (both_go_on (executes x) (escape_event (without_noise x) f ∷ [])
    (executes_go_on (bytes_of_class is_c0 x))
    refl)
segment_same limit (Csi o x f) finished h =
    all_same limit plain (events_of (Csi o x f) finished)
    (both_go_on (opener_events o ++ executes x) (csi_events (without_noise x) f)
    (both_go_on (opener_events o) (executes x) (opener_goes_on o)
    (executes_go_on (bytes_of_class is_c0 x)))
    (one_goes_on (csi_event (without_noise x) f) (is_csi_body (without_noise x)) refl))
segment_same limit (Osc o ps e) finished h =
    let emitted = OscDispatch (parts_of (text_of ps)) in
    all_same limit plain (events_of (Osc o ps e) finished)
    (both_go_on (opener_events o) (if finished then emitted ∷ [] else []) (opener_goes_on o)
    (one_goes_on emitted finished refl))
segment_same limit (Dcs o x f d) finished h =
    dcs_same limit o (hook_event (without_noise x) f ∷ puts d) (is_dcs_header (without_noise x))
    finished
    (puts_go_on (bytes_of_class is_put d)) h
segment_same limit (Apc o d) finished h =
    let emitted = ApcDispatch (bytes_of_class is_text d) in
    all_same limit plain (events_of (Apc o d) finished)
    (both_go_on (opener_events o) (if finished then emitted ∷ [] else []) (opener_goes_on o)
    (one_goes_on emitted finished refl))
segment_same limit (Ignored k o d) finished h =
    all_same limit plain (opener_events o) (opener_goes_on o)
segment_same limit (CutEscape x) finished h =
    all_same limit plain (executes x) (executes_go_on (bytes_of_class is_c0 x))
segment_same limit (CutCsi o x) finished h =
    all_same limit plain (opener_events o ++ executes x)
    (both_go_on (opener_events o) (executes x) (opener_goes_on o)
    (executes_go_on (bytes_of_class is_c0 x)))
segment_same limit (CutDcs o x) finished h =
    all_same limit plain (opener_events o) (opener_goes_on o)

cut_same : {A : Type 0} (limit : Option ℕ) (gs : List Segment) → AreDataWithin limit gs
    → values_from {A = A} limit plain (events_of_cut gs) ≡ values_from None plain (events_of_cut gs)
cut_same limit [] h = refl
cut_same limit (g ∷ []) h = segment_same limit g (ends_itself g) h.0
cut_same limit (g ∷ h ∷ gs) k =
    let more = events_of_cut (h ∷ gs) in
    values_append limit plain (events_of g true) more
    ∙ ap (λ x. x ++ values_from limit (mode_from plain (events_of g true)) more)
    (segment_same limit g true k.0)
    ∙ ap (λ m. values_from None plain (events_of g true) ++ values_from limit m more)
    (closes None g)
    ∙ ap (λ x. values_from None plain (events_of g true) ++ x) (cut_same limit (h ∷ gs) k.1)
    ∙ ap (λ m. values_from None plain (events_of g true) ++ values_from None m more)
    (sym (closes None g))
    ∙ sym (values_append None plain (events_of g true) more)

-- by the laws of the framing
module _ (once : (s : List ℕ) (xs ys : List Event) → HasEvents s xs → HasEvents s ys
    → xs ≡ ys) (emitted : (s : List ℕ) → HasEvents s (events s))
    (same : (limit : Option ℕ) (s : List ℕ) (gs : List Segment) → IsCut s gs → AreWithin limit gs
    → events_within limit s ≡ events s) where
  pub same_meaning : (A : Type 0) (limit : Option ℕ) (s : List ℕ) → IsWithin limit s
      → meaning_within {A = A} limit s ≡ meaning s
  unfolding meaning_within
  same_meaning A limit s (gs, cut, counts, data_counts) =
      let are : events s ≡ events_of_cut gs =
      once s (events s) (events_of_cut gs) (emitted s) (gs, cut, refl) in
      ap (values_from limit plain) (same limit s gs cut counts ∙ are)
      ∙ cut_same limit gs data_counts ∙ ap (values_from None plain) (sym are)

  pub reads_back_within : (A : Type 0)
      → ((vs : List (Value A)) → AreWritable vs → meaning (list_text vs) ≡ normal vs)
      → (limit : Option ℕ) (vs : List (Value A)) → AreWritable vs → IsWithin limit (list_text vs)
      → meaning_within limit (list_text vs) ≡ normal vs
  reads_back_within A back limit vs h within =
      same_meaning A limit (list_text vs) within ∙ back vs h
