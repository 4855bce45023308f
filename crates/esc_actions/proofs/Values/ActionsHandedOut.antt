-- The actions that may be handed out.
use Rattle.std.proofs.Common.{◌≡◌, ◌≢◌, ◌<◌, ◌≤◌, ◌==◌, if◌then◌else◌, nat_lt, inl, inr, Option, Some, None, ℕ, ℤ, Bool, true, false, not, ◌&&◌, ◌||◌, List}
use Rattle.std.proofs.Common.{[], ◌∷◌, ◌++◌}
use Rattle.std.proofs.Common.{length, map, take_all, refl, ap, sym, ◌∙◌, subst, arith}
use Rattle.std.proofs.lemmas.Bool.{and_parts, cases_lt, eqb-true}
use Rattle.std.proofs.lemmas.Bool.Decides.{nat_tests}
use Rattle.std.proofs.lemmas.Str.{encode_ascii}
use Rattle.esc_sequences.specs.declared.esc.Esc.TheVariants as esc_variant
use Rattle.esc_sequences.specs.Csis.{CsiValue, csi_body, csi_of, ReadBack, ReadsBack}
use Rattle.esc_sequences.specs.Escs.{esc_of, esc_text}
use Rattle.esc_values.specs.Params.{csi_params}
use Rattle.esc_values.specs.declared.csi_param.CsiParam.{CsiParam}
use Rattle.esc_device.specs.Kinds.{kind_of}
use Rattle.esc_device.specs.Values.{short_of}
use Rattle.esc_device.specs.Writable.{is_datum, is_high_byte}
use Rattle.esc_device.specs.declared.kind.StringKind.{StringKind}
use Rattle.esc_device.specs.declared.kind.StringKind.TheVariants as kind
use Rattle.esc_sixel.specs.Items.{items}
use Rattle.esc_sixel.specs.Meaning.{sixel_of}
use Rattle.esc_sixel.specs.Writable.{AreNatural}
use Rattle.xtgettcap.specs.Names.{names_of}
use Rattle.esc_frame.specs.Classes.{class_of, AllOf, is_control, is_c1, is_intermediate, is_put, is_text, ends_csi, ends_escape, opens}
use Rattle.esc_frame.specs.Bodies.{is_csi_body, kept_csi_params, has_more_csi_params}
use Rattle.esc_frame.specs.Events.{Event}
use Rattle.esc_frame.specs.Events.Event.{Print, Execute, EscDispatch, CsiDispatch, OscDispatch, DcsHook, DcsPut, DcsUnhook, ApcDispatch}
use Rattle.esc_frame.specs.Fits.{IsFit, AreFit, IsOneSegment}
use Rattle.esc_frame.specs.Segments.{csi_event}
use Rattle.esc_frame.specs.Segments.Segment.{Escape as EscapeOf}
use Rattle.esc_frame.specs.Limits.{is_within}
use Rattle.esc_frame.specs.Stream.{events_within}
use Rattle.esc_frame.specs.declared.classes.Class.TheVariants.{Intermediate}
use Rattle.esc_actions.proofs.Values.CodesHaveNumbers.{code_number-code_of}
use Rattle.esc_kitty.specs.Images.{image_of}
use Rattle.esc_kitty.specs.Writable.{is_kept}
use Rattle.esc_kitty.specs.declared.image.KittyImage.{KittyImage}
use Rattle.std.specs.List.{list_all}
use Rattle.esc_frame.proofs.Emits.SequencesSay.{body_of, one_csi}
use Rattle.esc_actions.proofs.Meaning.MeaningsJoin.{meaning_more}
use Rattle.esc_actions.specs.ControlCodes.{code_of}
use Rattle.esc_actions.specs.LowerLaws.{LowerLaws}
use Rattle.esc_actions.specs.Meaning.{meaning_within, values_from, yield_within}
use Rattle.esc_actions.specs.Values.{Mode, Value, esc, csi, sixel, termcap, short as short_value, mode_after, control_values, event_values, image_values, only_item, plain, in_sixel}
use Rattle.esc_actions.specs.Values.{in_termcap, in_short, entered}
use Rattle.esc_actions.specs.Values.{mode_at_hook, mode_with_byte, hook_values, taken_gives, unhook_values}
use Rattle.esc_actions.specs.Writable.{IsWritable, EmittedAreWritable, IsHandedOut, is_lone_control, is_opening}
use Rattle.esc_actions.specs.declared.control_code.ControlCode.{ControlCode}

hands_append : {A : Type 0} (vs ws : List (Value A)) → EmittedAreWritable vs → EmittedAreWritable ws
    → EmittedAreWritable (vs ++ ws)
hands_append [] ws h k = k
hands_append (v ∷ vs) ws h k = (h.0, hands_append vs ws h.1 k)

hands_after : {A : Type 0} (vs ws : List (Value A)) → EmittedAreWritable (vs ++ ws)
    → EmittedAreWritable ws
hands_after [] ws h = h
hands_after (v ∷ vs) ws h = hands_after vs ws h.1

-- controls
low_code : (b : ℕ) → b < 128 → (is_control (class_of b) || is_c1 (class_of b)) ≡ true
    → (nat_lt b 0x20 && not (b == 0x1b)) ≡ true
unfolding class_of
low_code b l h = grind (arith, nat_tests)

high_small : (b : ℕ) → 128 ≤ b → (is_control (class_of b) || is_c1 (class_of b)) ≡ true
    → (b ≤ 0x9f) × (b ≢ 0x90) × (b ≢ 0x98)
unfolding class_of
high_small b l h =
    (grind (arith, nat_tests), λ e. grind (arith, nat_tests), λ e. grind (arith, nat_tests))

high_opens : (b : ℕ) → 128 ≤ b → (is_control (class_of b) || is_c1 (class_of b)) ≡ true
    → (b ≢ 0x9b) × (b ≢ 0x9c) × (b ≢ 0x9d) × (b ≢ 0x9e) × (b ≢ 0x9f)
unfolding class_of
high_opens b l h = (
  λ e. grind (arith, nat_tests),
  λ e. grind (arith, nat_tests),
  λ e. grind (arith, nat_tests),
  λ e. grind (arith, nat_tests),
  λ e. grind (arith, nat_tests),
)

no_code : (code_of 0x80 ≡ None) × (code_of 0x81 ≡ None) × (code_of 0x99 ≡ None)
unfolding code_of
no_code = (refl, refl, refl)

not_coded : (b n : ℕ) (c : ControlCode) → code_of b ≡ Some c → code_of n ≡ None → b ≢ n
not_coded b n c h k e = let f = ap code_of e in cc

other_code : (b : ℕ) → 128 ≤ b → b ≤ 0x9f → b ≢ 0x80 → b ≢ 0x81 → b ≢ 0x90 → b ≢ 0x98 → b ≢ 0x99
    → b ≢ 0x9b → b ≢ 0x9c → b ≢ 0x9d → b ≢ 0x9e → b ≢ 0x9f
    → is_lone_control b ≡ true
other_code b l h h0 h1 h2 h3 h4 h5 h6 h7 h8 h9 = grind (arith, nat_tests)

executed_lone : (b : ℕ) (c : ControlCode)
    → (is_control (class_of b) || is_c1 (class_of b)) ≡ true → code_of b ≡ Some c
    → is_lone_control b ≡ true
executed_lone b c h k = elim (cases_lt b 128) [
  | inl l ↦ rw (low_code b l h) refl
  | inr l ↦
      let p = high_small b l h in
      let q = high_opens b l h in
      let n = no_code in
      other_code b l p.0 (not_coded b 0x80 c k n.0) (not_coded b 0x81 c k n.1) p.1 p.2
      (not_coded b 0x99 c k n.2) q.0 q.1 q.2 q.3 q.4
]

control_handed : (A : Type 0) (b : ℕ) (o : Option ControlCode) → code_of b ≡ o → IsFit (Execute b)
    → EmittedAreWritable {A = A} (control_values o)
control_handed A b None e h = tt
control_handed A b (Some c) e h =
    let P : ℕ → Type 0 = λ n. is_lone_control n ≡ true in
    (λ _. subst P (sym (code_number-code_of b c e)) (executed_lone b c h e), tt)

-- escape sequences
intermediate_is : (i : ℕ) → is_intermediate (class_of i) ≡ true → (class_of i ≡ Intermediate)
    × (i < 128)
unfolding class_of
intermediate_is i h = (grind (arith, nat_tests), grind (arith, nat_tests))

final_small : (f : ℕ) → ends_escape (class_of f) ≡ true → f < 128
unfolding class_of
final_small f h = grind (arith, nat_tests)

with_one : {A : Type 0} (i f : ℕ) → class_of i ≡ Intermediate → ends_escape (class_of f) ≡ true
    → i < 128 → f < 128
    → IsWritable {A = A} (esc (esc_variant.Unspecified (Some i) f))
with_one i f b h small low = (
  EscDispatch (i ∷ []) false f ∷ [],
  (
    EscapeOf (i ∷ []) f,
    rw (encode_ascii i small, encode_ascii f low) refl,
    refl,
    (rw b refl, h, rw b refl),
    rw b refl,
  ),
  refl,
)

none_text : (f : ℕ) (t u v : Bool) → (f == 0x5c) ≡ t → (f == 0x48) ≡ u → (f == 0x6b) ≡ v → f < 128
    → 0x1b ∷ f ∷ [] ≡ esc_text (esc_of None f)
none_text f true u v e k j low = rw e (ap (λ x. 0x1b ∷ x ∷ []) (eqb-true f 0x5c e))
none_text f false true v e k j low = rw (e, k) (ap (λ x. 0x1b ∷ x ∷ []) (eqb-true f 0x48 k))
none_text f false false true e k j low = rw (e, k, j) (ap (λ x. 0x1b ∷ x ∷ []) (eqb-true f 0x6b j))
none_text f false false false e k j low = rw (e, k, j, encode_ascii f low) refl

named_opens : (opens (class_of 0x5c) ≡ false) × (opens (class_of 0x48) ≡ false)
    × (opens (class_of 0x6b) ≡ false)
unfolding class_of
named_opens = (refl, refl, refl)

none_opens : (f : ℕ) (t u v : Bool) → (f == 0x5c) ≡ t → (f == 0x48) ≡ u → (f == 0x6b) ≡ v
    → is_opening (esc_of None f) ≡ false → opens (class_of f) ≡ false
none_opens f true u v e k j h = rw (eqb-true f 0x5c e) named_opens.0
none_opens f false true v e k j h = rw (eqb-true f 0x48 k) named_opens.1
none_opens f false false true e k j h = rw (eqb-true f 0x6b j) named_opens.2
none_opens f false false false e k j h = let w : is_opening (esc_of None f) ≡ opens (class_of f) =
    rw (e, k, j) refl in sym w ∙ h

pub with_none : {A : Type 0} (f : ℕ) → ends_escape (class_of f) ≡ true
    → is_opening (esc_of None f) ≡ false → IsWritable {A = A} (esc (esc_of None f))
with_none f h o = (
  EscDispatch [] false f ∷ [],
  (
    EscapeOf [] f,
    none_text f (f == 0x5c) (f == 0x48) (f == 0x6b) refl refl refl (final_small f h),
    refl,
    (refl, h, none_opens f (f == 0x5c) (f == 0x48) (f == 0x6b) refl refl refl o),
    refl,
  ),
  refl,
)

esc_handed : {A : Type 0} (is : List ℕ) (f : ℕ) → AllOf is_intermediate is
    → ends_escape (class_of f) ≡ true → is_opening (esc_of (only_item is) f) ≡ false
    → IsWritable {A = A} (esc (esc_of (only_item is) f))
esc_handed [] f all h o = with_none f h o
esc_handed (i ∷ []) f all h o = let q =
    intermediate_is i (and_parts (is_intermediate (class_of i)) true all).0 in
    with_one i f q.0 h q.1 (final_small f h)
esc_handed (i ∷ j ∷ is) f all h o = with_none f h o

-- control sequences
few_kept : (x : List ℕ) → length (csi_params x) ≤ 256 → (kept_csi_params x ≡ csi_params x)
    × (has_more_csi_params x ≡ false)
unfolding kept_csi_params has_more_csi_params
few_kept x h = (take_all 256 (csi_params x) h, grind (arith, nat_tests))

few_are : (x : List ℕ) → has_more_csi_params x ≡ false → length (csi_params x) ≤ 256
unfolding has_more_csi_params
few_are x h = grind (arith, nat_tests)

csi_small : (f : ℕ) → ends_csi (class_of f) ≡ true → f < 128
unfolding class_of
csi_small f h = grind (arith, nat_tests)

-- a sequence that reads back as one value is writable
csi_writable : (A : Type 0) (f : ℕ) (v : CsiValue) → ends_csi (class_of f) ≡ true → ReadsBack f v
    → IsWritable {A = A} (csi v)
csi_writable A f v ends (text, (bytes, form, few), one) =
    let x = csi_body v in
    let k = few_kept x few in (
      csi_event x f ∷ [],
      subst (λ t. IsOneSegment t (csi_event x f ∷ [])) (sym text)
          (one_csi x f (body_of x bytes) form ends),
      rw (k.0, k.1, one) refl,
    )

all_handed : (A : Type 0) (f : ℕ) (vs : List CsiValue) → ends_csi (class_of f) ≡ true
    → ReadBack f vs → EmittedAreWritable {A = A} (map csi vs)
all_handed A f [] ends h = tt
all_handed A f (v ∷ vs) ends h = (λ whole. csi_writable A f v ends h.0, all_handed A f vs ends h.1)

body_handed : (A : Type 0) (low : LowerLaws A) (x : List ℕ) (f : ℕ) (more : Bool)
    → has_more_csi_params x ≡ more → is_csi_body x ≡ true
    → ends_csi (class_of f) ≡ true
    → EmittedAreWritable {A = A} (map csi (csi_of (kept_csi_params x) more f))
body_handed A low x f true e form ends =
    let P : List CsiValue → Type 0 = λ vs. EmittedAreWritable {A = A} (map csi vs) in
    subst P (sym (low.csi_truncated (kept_csi_params x) f)) (λ whole. absurd cc, tt)
body_handed A low x f false e form ends =
    let few = few_are x e in
    let P : List CsiParam → Type 0 = λ es. EmittedAreWritable {A = A} (map csi (csi_of es false f))
    in
    subst P (sym (few_kept x few).0) (all_handed A f (csi_of (csi_params x) false f) ends
    (low.csi_back x f form few (csi_small f ends)))

csi_handed : (A : Type 0) (low : LowerLaws A) (es : List CsiParam) (more : Bool) (f : ℕ)
    → IsFit (CsiDispatch es more f)
    → EmittedAreWritable {A = A} (event_values None plain (CsiDispatch es more f))
csi_handed A low es more f (x, bytes, form, is, ends) =
    let P : Event → Type 0 = λ e. EmittedAreWritable {A = A} (event_values None plain e) in
    subst P (sym is) (body_handed A low x f (has_more_csi_params x) refl form ends)

-- images
text_byte : (b : ℕ) → is_text (class_of b) ≡ true → is_kept b ≡ true
unfolding class_of
text_byte b h = grind (arith, nat_tests)

text_kept : (t : List ℕ) → AllOf is_text t → list_all is_kept t ≡ true
text_kept [] h = refl
text_kept (b ∷ t) h =
    let k = and_parts (is_text (class_of b)) (list_all (λ c. is_text (class_of c)) t) h in
    let one : is_kept b ≡ true = text_byte b k.0 in rw (one, text_kept t k.1) refl

image_handed : (A : Type 0) (low : LowerLaws A) (t : List ℕ) (o : Option (KittyImage A))
    → image_of t ≡ o → AllOf is_text t → EmittedAreWritable (image_values o)
image_handed A low t None e h = tt
image_handed A low t (Some i) e h = (λ _. low.image_writable t (text_kept t h) i e, tt)

-- device control strings: the header and the bytes of the unfinished string fit
abbrev IsFitMode : Mode → Type 0
IsFitMode (in_sixel ps d) = AreNatural ps
IsFitMode (in_short ps is f d) = (more : Bool) × IsFit (DcsHook f ps is more)
    × (kind_of f is more ≡ kind.Short) × AllOf is_put d
IsFitMode _ = Unit {0}

put_more : (d : List ℕ) (b : ℕ) → AllOf is_put d → is_put (class_of b) ≡ true
    → AllOf is_put (d ++ b ∷ [])
put_more [] b h k = rw k refl
put_more (c ∷ d) b h k =
    let q = and_parts (is_put (class_of c)) (list_all (λ x. is_put (class_of x)) d) h in
    rw (q.0, put_more d b q.1 k) refl

opened_fit : (A : Type 0) (low : LowerLaws A) (f : ℕ) (ps : List ℤ) (is : List ℕ) (more : Bool)
    (k : StringKind) → kind_of f is more ≡ k
    → IsFit (DcsHook f ps is more)
    → IsFitMode (mode_at_hook k f ps is)
opened_fit A low f ps is more kind.Sixel e h = low.header_natural f ps is more h
opened_fit A low f ps is more kind.Termcap e h = tt
opened_fit A low f ps is more kind.Short e h = (more, h, e, refl)
opened_fit A low f ps is more kind.Other e h = tt

taken_fit : (m : Mode) (b : ℕ) → IsFitMode m → is_put (class_of b) ≡ true
    → IsFitMode (mode_with_byte m b)
taken_fit plain b k h = tt
taken_fit (in_sixel ps d) b k h = k
taken_fit (in_termcap d) b k h = tt
taken_fit (in_short ps is f d) b (more, fit, short, put) h = (more, fit, short, put_more d b put h)
taken_fit entered b k h = tt

after_fit : (A : Type 0) (low : LowerLaws A) (m : Mode) (e : Event) → IsFitMode m → IsFit e
    → IsFitMode (mode_after m e)
after_fit A low m (Print c) k h = k
after_fit A low m (Execute b) k h = k
after_fit A low m (EscDispatch is more f) k h = k
after_fit A low m (CsiDispatch es more f) k h = k
after_fit A low m (OscDispatch ps) k h = k
after_fit A low m (DcsHook f ps is more) k h =
    opened_fit A low f ps is more (kind_of f is more) refl h
after_fit A low m (DcsPut b) k h = taken_fit m b k h
after_fit A low m DcsUnhook k h = tt
after_fit A low m (ApcDispatch t) k h = k

opened_handed : (A : Type 0) (low : LowerLaws A) (f : ℕ) (ps : List ℤ) (is : List ℕ) (more : Bool)
    (k : StringKind) → kind_of f is more ≡ k
    → IsFit (DcsHook f ps is more)
    → EmittedAreWritable {A = A} (hook_values k f ps is more)
opened_handed A low f ps is more kind.Sixel e h = tt
opened_handed A low f ps is more kind.Termcap e h = tt
opened_handed A low f ps is more kind.Short e h = tt
opened_handed A low f ps is more kind.Other e h =
    (λ whole. low.header_writable f ps is more h e whole, tt)

put_datum : (b : ℕ) → is_put (class_of b) ≡ true → is_high_byte b ≡ false → is_datum b ≡ true
unfolding class_of
put_datum b h k = grind (arith, nat_tests)

taken_handed : (A : Type 0) (m : Mode) (b : ℕ) → is_put (class_of b) ≡ true
    → EmittedAreWritable {A = A} (taken_gives m b)
taken_handed A plain b h = tt
taken_handed A (in_sixel ps d) b h = tt
taken_handed A (in_termcap d) b h = tt
taken_handed A (in_short ps is f d) b h = tt
taken_handed A entered b h = (λ low. put_datum b h low, tt)

-- the value that the end of a string gives, if it gives one
given_where : {A : Type 0} (v : Value A) (t : Bool) → IsHandedOut v
    → EmittedAreWritable (if t then v ∷ [] else [])
given_where v true h = (h, tt)
given_where v false h = tt

closed_handed : (A : Type 0) (low : LowerLaws A) (limit : Option ℕ) (m : Mode) → IsFitMode m
    → EmittedAreWritable {A = A} (unhook_values limit m)
closed_handed A low limit plain k = tt
closed_handed A low limit (in_sixel ps d) k =
    given_where (sixel (sixel_of ps (items d))) (is_within limit (length d)) (λ _.
    low.sixel_writable ps d k)
closed_handed A low limit (in_termcap d) k =
    given_where (termcap (names_of d)) (is_within limit (length d)) (λ _. low.names_writable d)
closed_handed A low limit (in_short ps is f d) (more, fit, short, put) =
    given_where (short_value (short_of ps is f d)) (is_within limit (length d)) (λ none.
    low.short_writable f ps is more d fit short put none)
closed_handed A low limit entered k = (λ _. tt, tt)

event_handed : (A : Type 0) (low : LowerLaws A) (limit : Option ℕ) (m : Mode) (e : Event)
    → IsFitMode m → IsFit e → EmittedAreWritable {A = A} (event_values limit m e)
event_handed A low limit m (Print c) k h = (λ _. h, tt)
event_handed A low limit m (Execute b) k h = control_handed A b (code_of b) refl h
event_handed A low limit m (EscDispatch is more f) k h = (esc_handed is f h.0 h.1, tt)
event_handed A low limit m (CsiDispatch es more f) k h = csi_handed A low es more f h
event_handed A low limit m (OscDispatch ps) k h = (λ _. low.command_writable ps h, tt)
event_handed A low limit m (DcsHook f ps is more) k h =
    opened_handed A low f ps is more (kind_of f is more) refl h
event_handed A low limit m (DcsPut b) k h = taken_handed A m b h
event_handed A low limit m DcsUnhook k h = closed_handed A low limit m k
event_handed A low limit m (ApcDispatch t) k h = image_handed A low t (image_of t) refl h

events_handed : (A : Type 0) (low : LowerLaws A) (limit : Option ℕ) (m : Mode) (es : List Event)
    → IsFitMode m → AreFit es
    → EmittedAreWritable {A = A} (values_from limit m es)
events_handed A low limit m [] k h = tt
events_handed A low limit m (e ∷ es) k h =
    hands_append (event_values {A = A} limit m e) (values_from limit (mode_after m e) es)
    (event_handed A low limit m e k h.0)
    (events_handed A low limit (mode_after m e) es (after_fit A low m e k h.0) h.1)

pub handed_out : (A : Type 0) → LowerLaws A → (limit : Option ℕ) (s : List ℕ)
    → EmittedAreWritable {A = A} (meaning_within limit s)
unfolding meaning_within
handed_out A low limit s =
    events_handed A low limit plain (events_within limit s) tt (low.events_fit limit s)

pub yield_handed : (A : Type 0)
    → ((limit : Option ℕ) (s : List ℕ) → EmittedAreWritable {A = A} (meaning_within limit s))
    → (limit : Option ℕ) (s b : List ℕ) → EmittedAreWritable {A = A} (yield_within limit s b)
yield_handed A handed limit s b =
    let P : List (Value A) → Type 0 = λ x. EmittedAreWritable x in
    hands_after (meaning_within limit s) (yield_within limit s b)
    (subst P (sym (meaning_more limit s b)) (handed limit (s ++ b)))
