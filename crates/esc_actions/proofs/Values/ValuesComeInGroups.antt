-- The values of any stream come in groups.
use Rattle.std.proofs.Common.{ℕ, ℤ, ◌≡◌, Bool, true, false, ◌||◌, if◌then◌else◌, List, [], ◌∷◌, ◌++◌, map, Option, Some, None, refl, ap, sym, ◌∙◌, subst}
use Rattle.esc_sequences.specs.Csis.{CsiValue}
use Rattle.esc_frame.specs.Bodies.{is_csi_body, is_dcs_header}
use Rattle.esc_frame.specs.Classes.{is_c0, is_put, is_text, bytes_of_class, without_noise}
use Rattle.esc_frame.specs.Events.{Event}
use Rattle.esc_frame.specs.Events.Event.{Execute, DcsPut, DcsUnhook, ApcDispatch}
use Rattle.esc_frame.specs.Segments.{Segment, HasEvents, Opener, events_of, events_of_cut, ends_itself, opener_events, executes, csi_event, csi_events}
use Rattle.esc_frame.specs.Segments.{hook_event, puts}
use Rattle.esc_frame.specs.Segments.Opener.{Long, Raw, Pair}
use Rattle.esc_frame.specs.Segments.Segment.{Character, Wide, Broken, Stray, Control, HighControl, Terminator, Escape, Csi, Osc, Dcs, Apc, Ignored, CutEscape}
use Rattle.esc_frame.specs.Segments.Segment.{CutCsi, CutDcs}
use Rattle.esc_actions.proofs.Meaning.StreamMeansReadings.{closes, executes_keep, opener_keeps}
use Rattle.esc_actions.proofs.Meaning.MeaningsJoin.{mode_append, values_append}
use Rattle.esc_actions.specs.ControlCodes.{code_of}
use Rattle.esc_actions.specs.Groups.{AreGrouped, MeansGroups, MeansWritable, ends_in_mode, is_entered}
use Rattle.esc_actions.specs.Meaning.{meaning, meaning_within, mode_from, values_from}
use Rattle.esc_actions.specs.Values.{Mode, Value, plain, in_sixel, in_termcap, in_short, entered, event_values, csi, control_values, image_values, mode_at_hook, hook_values}
use Rattle.esc_actions.specs.Writable.{EmittedAreWritable, AreWritableFrom, is_exception, stays_within}
use Rattle.std.specs.List.{list_any}
use Rattle.esc_device.specs.Kinds.{kind_of}
use Rattle.esc_frame.specs.Stream.{events}
use Rattle.esc_kitty.specs.declared.image.KittyImage.{KittyImage}
use Rattle.esc_kitty.specs.Images.{image_of}
use Rattle.esc_actions.specs.declared.control_code.ControlCode.{ControlCode}
use Rattle.esc_device.specs.declared.kind.StringKind.{StringKind}
use Rattle.esc_device.specs.declared.kind.StringKind.TheVariants as kind

grouped_append : {A : Type 0} (p : Bool) (vs : List (Value A)) (q : Bool) (ws : List (Value A))
    (r : Bool) → AreGrouped p vs q → AreGrouped q ws r
    → AreGrouped p (vs ++ ws) r
grouped_append p [] q ws r h k = subst (λ x. AreGrouped x ws r) (sym h) k
grouped_append p (v ∷ vs) q ws r h k = (h.0, grouped_append (stays_within v) vs q ws r h.1 k)

-- events that, from this mode, give values in groups, up to the mode after them
abbrev Groups : Type 0 → Mode → List Event → Type 0
Groups A m es =
    AreGrouped {A = A} (is_entered m) (values_from None m es) (is_entered (mode_from m es))

groups_append : (A : Type 0) (m : Mode) (es fs : List Event) → Groups A m es
    → Groups A (mode_from m es) fs → Groups A m (es ++ fs)
groups_append A m es fs h k =
    let P : List (Value A) → Type 0 =
    λ vs. AreGrouped (is_entered m) vs (is_entered (mode_from m (es ++ fs))) in
    let Q : Mode
    → Type 0 = λ n.
    AreGrouped {A = A} (is_entered m) (values_from None m es
    ++ values_from None (mode_from m es) fs) (is_entered n) in
    subst P (sym (values_append None m es fs))
    (subst Q (sym (mode_append m es fs)) (grouped_append (is_entered m) (values_from None m es)
    (is_entered (mode_from m es))
    (values_from None (mode_from m es) fs) (is_entered (mode_from (mode_from m es) fs)) h k))

-- if the first of them leave nothing unfinished
groups_after : (A : Type 0) (es fs : List Event) → mode_from plain es ≡ plain → Groups A plain es
    → Groups A plain fs → Groups A plain (es ++ fs)
groups_after A es fs e h k = groups_append A plain es fs h (subst (λ m. Groups A m fs) (sym e) k)

executed_grouped : (A : Type 0) (o : Option ControlCode)
    → AreGrouped {A = A} false (control_values o) false
executed_grouped A None = refl
executed_grouped A (Some c) = (refl, refl)

csis_grouped : (A : Type 0) (vs : List CsiValue) → AreGrouped {A = A} false (map csi vs) false
csis_grouped A [] = refl
csis_grouped A (v ∷ vs) = (refl, csis_grouped A vs)

imaged_grouped : (A : Type 0) (o : Option (KittyImage A))
    → AreGrouped {A = A} false (image_values o) false
imaged_grouped A None = refl
imaged_grouped A (Some i) = (refl, refl)

apc_grouped : (A : Type 0) (t : List ℕ) → Groups A plain (ApcDispatch t ∷ [])
apc_grouped A t = grouped_append {A = A} false (image_values (image_of t)) false [] false
    (imaged_grouped A (image_of t)) refl

executes_grouped : (A : Type 0) (bs : List ℕ) → Groups A plain (map Execute bs)
executes_grouped A [] = refl
executes_grouped A (b ∷ bs) =
    grouped_append false (control_values (code_of b)) false
    (values_from None plain (map Execute bs)) _
    (executed_grouped A (code_of b))
    (executes_grouped A bs)

opener_grouped : (A : Type 0) (o : Opener) → Groups A plain (opener_events o)
opener_grouped A (Long n) = executes_grouped A (bytes_of_class is_c0 n)
opener_grouped A Raw = refl
opener_grouped A Pair = refl

csi_grouped : (A : Type 0) (x : List ℕ) (f : ℕ) (t : Bool)
    → Groups A plain (if t then csi_event x f ∷ [] else [])
csi_grouped A x f true = groups_append A plain [] (csi_event x f ∷ []) refl
    (grouped_append false (event_values None plain (csi_event x f)) false [] false
    (csis_grouped A _) refl)
csi_grouped A x f false = refl

opened_grouped : (A : Type 0) (k : StringKind) (f : ℕ) (ns : List ℤ) (is : List ℕ) (more : Bool)
    → AreGrouped {A = A} false (hook_values k f ns is more) (is_entered (mode_at_hook k f ns is))
opened_grouped A kind.Sixel f ns is more = refl
opened_grouped A kind.Termcap f ns is more = refl
opened_grouped A kind.Short f ns is more = refl
opened_grouped A kind.Other f ns is more = (refl, refl)

puts_grouped : (A : Type 0) (m : Mode) (d : List ℕ) → Groups A m (map DcsPut d)
puts_grouped A m [] = refl
puts_grouped A plain (b ∷ d) = puts_grouped A plain d
puts_grouped A (in_sixel ps x) (b ∷ d) = puts_grouped A (in_sixel ps (x ++ b ∷ [])) d
puts_grouped A (in_termcap x) (b ∷ d) = puts_grouped A (in_termcap (x ++ b ∷ [])) d
puts_grouped A (in_short ps is f x) (b ∷ d) = puts_grouped A (in_short ps is f (x ++ b ∷ [])) d
puts_grouped A entered (b ∷ d) = (refl, puts_grouped A entered d)

unhook_grouped : (A : Type 0) (m : Mode) → Groups A m (DcsUnhook ∷ [])
unhook_grouped A plain = refl
unhook_grouped A (in_sixel ps d) = (refl, refl)
unhook_grouped A (in_termcap d) = (refl, refl)
unhook_grouped A (in_short ps is f d) = (refl, refl)
unhook_grouped A entered = (refl, refl)

hook_grouped : (A : Type 0) (x : List ℕ) (f : ℕ) → Groups A plain (hook_event x f ∷ [])
hook_grouped A x f = grouped_append false (event_values None plain (hook_event x f)) _ [] _
    (opened_grouped A _ f _ _ _) refl

data_grouped : (A : Type 0) (x d : List ℕ) (f : ℕ) → Groups A plain (hook_event x f ∷ puts d)
data_grouped A x d f = groups_append A plain (hook_event x f ∷ []) (puts d) (hook_grouped A x f)
    (puts_grouped A (mode_from plain (hook_event x f ∷ [])) (bytes_of_class is_put d))

dcs_grouped : (A : Type 0) (x d : List ℕ) (f : ℕ) (header finished : Bool)
    → Groups A plain (if header then (hook_event x f ∷ puts d)
    ++ (if finished then DcsUnhook ∷ [] else []) else [])
dcs_grouped A x d f true true =
    groups_append A plain (hook_event x f ∷ puts d) (DcsUnhook ∷ []) (data_grouped A x d f)
    (unhook_grouped A (mode_from plain (hook_event x f ∷ puts d)))
dcs_grouped A x d f true false =
    groups_append A plain (hook_event x f ∷ puts d) [] (data_grouped A x d f) refl
dcs_grouped A x d f false finished = refl

emitted_grouped : (A : Type 0) (e : Event) (finished : Bool) → Groups A plain (e ∷ [])
    → Groups A plain (if finished then e ∷ [] else [])
emitted_grouped A e true h = h
emitted_grouped A e false h = refl

segment_grouped : (A : Type 0) (g : Segment) (finished : Bool)
    → Groups A plain (events_of g finished)
segment_grouped A (Character b) finished = (refl, refl)
segment_grouped A (Wide x) finished = (refl, refl)
segment_grouped A (Broken x) finished = emitted_grouped A _ finished (refl, refl)
segment_grouped A (Stray b) finished = (refl, refl)
segment_grouped A (Control b) finished = executes_grouped A (b ∷ [])
segment_grouped A (HighControl p b) finished = executes_grouped A (b ∷ [])
segment_grouped A (Terminator p b) finished = refl
segment_grouped A (Escape x f) finished =
    groups_after A (executes x) _ (executes_keep plain (bytes_of_class is_c0 x))
    (executes_grouped A (bytes_of_class is_c0 x))
    (refl, refl)
segment_grouped A (Csi o x f) finished =
    groups_append A plain (opener_events o ++ executes x) (csi_events (without_noise x) f)
    (groups_after A (opener_events o) (executes x) (opener_keeps plain o) (opener_grouped A o)
    (executes_grouped A (bytes_of_class is_c0 x)))
    (subst (λ m. Groups A m (csi_events (without_noise x) f))
    (sym (mode_append plain (opener_events o) (executes x)
    ∙ ap (λ m. mode_from m (executes x)) (opener_keeps plain o)
    ∙ executes_keep plain (bytes_of_class is_c0 x)))
    (csi_grouped A (without_noise x) f (is_csi_body (without_noise x))))
segment_grouped A (Osc o ps e) finished =
    groups_after A (opener_events o) _ (opener_keeps plain o) (opener_grouped A o)
    (emitted_grouped A _ finished (refl, refl))
segment_grouped A (Dcs o x f d) finished =
    groups_after A (opener_events o) _ (opener_keeps plain o) (opener_grouped A o)
    (dcs_grouped A (without_noise x) d f (is_dcs_header (without_noise x)) finished)
segment_grouped A (Apc o d) finished =
    groups_after A (opener_events o) _ (opener_keeps plain o) (opener_grouped A o)
    (emitted_grouped A _ finished (apc_grouped A (bytes_of_class is_text d)))
segment_grouped A (Ignored k o d) finished = opener_grouped A o
segment_grouped A (CutEscape x) finished = executes_grouped A (bytes_of_class is_c0 x)
segment_grouped A (CutCsi o x) finished =
    groups_after A (opener_events o) (executes x) (opener_keeps plain o) (opener_grouped A o)
    (executes_grouped A (bytes_of_class is_c0 x))
segment_grouped A (CutDcs o x) finished = opener_grouped A o

cut_grouped : (A : Type 0) (gs : List Segment) → Groups A plain (events_of_cut gs)
cut_grouped A [] = refl
cut_grouped A (g ∷ []) = segment_grouped A g (ends_itself g)
cut_grouped A (g ∷ h ∷ gs) = groups_after A (events_of g true) (events_of_cut (h ∷ gs))
    (closes None g) (segment_grouped A g true) (cut_grouped A (h ∷ gs))

-- by the law of the framing
module _ (emitted : (s : List ℕ) → HasEvents s (events s)) where
  pub means_groups : (A : Type 0) → MeansGroups A
  unfolding meaning_within
  means_groups A s = let t = emitted s in
      subst (λ es. Groups A plain es) (sym t.2) (cut_grouped A t.0)

-- values in groups, none of them an exception, are a writable list
or_false : (a b : Bool) → (a || b) ≡ false → (a ≡ false) × (b ≡ false)
or_false true b h = absurd cc
or_false false b h = (refl, h)

writable_from : {A : Type 0} (from : Bool) (vs : List (Value A)) → AreGrouped from vs false
    → EmittedAreWritable vs → list_any is_exception vs ≡ false
    → AreWritableFrom from vs
writable_from from [] h k l = sym h
writable_from {A = A} from (v ∷ vs) h k l = let q =
    or_false (is_exception v) (list_any (is_exception {A = A}) vs) l in
    (h.0, k.0 q.0, writable_from (stays_within v) vs h.1 k.1 q.1)

pub means_writable : (A : Type 0) → MeansGroups A
    → ((s : List ℕ) → EmittedAreWritable {A = A} (meaning s)) → MeansWritable A
means_writable A groups handed s none outside =
    writable_from false (meaning s) (subst (λ b. AreGrouped {A = A} false (meaning s) b) outside
    (groups s)) (handed s) none
