-- An exception is not writable: no text reads back as it.
use Rattle.std.proofs.Common.{ℕ, ◌≡◌, ◌<◌, ◌≤◌, ◌==◌, Bool, true, false, not, if◌then◌else◌, ◌&&◌, List, [], ◌∷◌, ◌++◌, length, map}
use Rattle.std.proofs.Common.{Option, Some, None, refl, ap, sym, ◌∙◌, arith}
use Rattle.std.specs.Char.{encode_utf8}
use Rattle.std.specs.List.{list_all, list_any}
use Rattle.std.specs.Prelude.{unwrap_or}
use Rattle.std.specs.List.{slice_split}
use Rattle.std.proofs.lemmas.Bool.{and_parts, eqb-false}
use Rattle.std.proofs.lemmas.Bool.Decides.{nat_tests}
use Rattle.std.proofs.lemmas.List.{append_cancel_right, length-append}
use Rattle.std.proofs.lemmas.Str.{encode_ascii}
use Rattle.esc_sequences.specs.Csis.{CsiValue, sgr, unspecified, csi_of, is_separator, put_first, rendition, renditions}
use Rattle.esc_values.specs.Params.{csi_params, csi_params_text, is_body_byte, is_csi_body}
use Rattle.esc_values.specs.declared.csi_param.CsiParam.{CsiParam}
use Rattle.esc_sequences.specs.declared.esc.Esc.{Esc}
use Rattle.esc_sequences.specs.declared.esc.Esc.TheVariants as esc_variant
use Rattle.esc_sequences.specs.declared.sgr.Sgr.{Sgr}
use Rattle.esc_sequences.proofs.CsisBack.{truncated}
use Rattle.esc_device.specs.Writable.{is_datum, is_high_byte}
use Rattle.esc_frame.specs.Bodies.{kept_csi_params, has_more_csi_params}
use Rattle.esc_frame.specs.Classes.{class_of, AllOf, without_noise, is_noise, in_csi, in_escape, ends_csi, opens}
use Rattle.esc_frame.specs.Events.{Event}
use Rattle.esc_frame.specs.Events.Event.{Execute}
use Rattle.esc_frame.specs.Segments.{Segment, bytes_of, csi_event, csi_events, ends_itself, events_of, HasShape}
use Rattle.esc_frame.specs.Segments.Opener.{Long, Raw, Pair}
use Rattle.esc_frame.specs.Segments.Ending.{Open, Rung, Waits}
use Rattle.esc_frame.specs.Segments.Segment.{Character, Wide, Broken, Stray, Control, HighControl, Terminator, Escape, Csi, Osc, Dcs, Apc, Ignored}
use Rattle.esc_frame.specs.Segments.Segment.{CutEscape, CutCsi, CutDcs}
use Rattle.esc_frame.specs.Classes.{bytes_of_class, is_c0}
use Rattle.esc_frame.proofs.ByteRuns.CsiRuns.{body_strip}
use Rattle.esc_actions.specs.ControlCodes.{code_of}
use Rattle.esc_actions.specs.Meaning.{values_from}
use Rattle.esc_actions.specs.Values.{Value, print, string, control, esc, csi, osc, kitty, sixel, termcap, short, enter, datum, exit, control_values, plain}
use Rattle.esc_actions.specs.Writable.{IsWritable, is_exception}
use Rattle.esc_actions.specs.declared.control_code.ControlCode.{ControlCode}
use Rattle.escape_stream.proofs.ParamCounts.{AreRead, first_read, take_few, texts_body, texts_few}

false_is_not : false ≡ true → ⊥
false_is_not e = cc

heads : (a b : ℕ) (r s : List ℕ) → a ∷ r ≡ b ∷ s → (a ≡ b) × (r ≡ s)
heads a b r s e = ((let k : a ≡ b = cc in k), (let k : r ≡ s = cc in k))

-- texts that begin with other bytes
differ : (a b : ℕ) (r s : List ℕ) → (a == b) ≡ false → a ∷ r ≡ b ∷ s → ⊥
differ a b r s n e = eqb-false a b n (heads a b r s e).0

-- `[` is a letter that opens: no noise, and no intermediate
bracket : (opens (class_of 0x5b) ≡ true) × (is_noise (class_of 0x5b) ≡ false)
    × (in_escape (class_of 0x5b) ≡ false)
unfolding class_of
bracket = (refl, refl, refl)

no_bracket_noise : (b : ℕ) (n : List ℕ) → b ≡ 0x5b → AllOf is_noise (b ∷ n) → ⊥
no_bracket_noise b n e h =
    let q = and_parts (is_noise (class_of b)) (list_all (λ c. is_noise (class_of c)) n) h in
    false_is_not (sym bracket.1 ∙ ap (λ c. is_noise (class_of c)) (sym e) ∙ q.0)

no_bracket_inside : (b : ℕ) (n : List ℕ) → b ≡ 0x5b → AllOf in_escape (b ∷ n) → ⊥
no_bracket_inside b n e h =
    let q = and_parts (in_escape (class_of b)) (list_all (λ c. in_escape (class_of c)) n) h in
    false_is_not (sym bracket.2 ∙ ap (λ c. in_escape (class_of c)) (sym e) ∙ q.0)

-- lists of one value, and of none
abbrev one_print : (A : Type 0) → ℕ → List (Value A)
one_print A n = print n ∷ []

abbrev one_sequence : (A : Type 0) → CsiValue → List (Value A)
one_sequence A c = csi c ∷ []

abbrev one_escape : (A : Type 0) → Esc → List (Value A)
one_escape A e = esc e ∷ []

abbrev no_values : (A : Type 0) → List (Value A)
no_values A = []

-- the values of controls are no sequence
controls_none : {A : Type 0} (o : Option ControlCode) (vs : List (Value A)) (c : CsiValue)
    → control_values o ++ vs ≡ csi c ∷ [] → vs ≡ csi c ∷ []
controls_none None vs c h = h
controls_none (Some k) vs c h = absurd cc

after_controls : {A : Type 0} (ys : List ℕ) (es : List Event) (c : CsiValue)
    → values_from {A = A} None plain (map Execute ys ++ es) ≡ csi c ∷ []
    → values_from {A = A} None plain es ≡ csi c ∷ []
after_controls [] es c h = h
after_controls (y ∷ ys) es c h =
    after_controls ys es c
    (controls_none (code_of y) (values_from None plain (map Execute ys ++ es)) c h)

no_control : (A : Type 0) (o : Option ControlCode) (c : CsiValue)
    → control_values o ++ [] ≡ one_sequence A c → ⊥
no_control A None c h = cc
no_control A (Some k) c h = cc

no_print : (A : Type 0) (n : ℕ) (c : CsiValue) → one_print A n ≡ one_sequence A c → ⊥
no_print A n c h = cc

no_value : (A : Type 0) (c : CsiValue) → no_values A ≡ one_sequence A c → ⊥
no_value A c h = cc

-- the one value of a list of control sequences
one_csi : (A : Type 0) (vs : List CsiValue) (c : CsiValue) → map csi vs ++ [] ≡ one_sequence A c
    → vs ≡ c ∷ []
one_csi A [] c h = absurd (no_value A c h)
one_csi A (v ∷ []) c h = cc
one_csi A (v ∷ w ∷ vs) c h = absurd cc

dispatched : (A : Type 0) (x : List ℕ) (f : ℕ) (c : CsiValue) (t : Bool)
    → values_from {A = A} None plain (if t then csi_event x f ∷ [] else []) ≡ csi c ∷ []
    → csi_of (kept_csi_params x) (has_more_csi_params x) f ≡ c ∷ []
dispatched A x f c true h = one_csi A (csi_of (kept_csi_params x) (has_more_csi_params x) f) c h
dispatched A x f c false h = absurd (no_value A c h)

-- if no parameter of a body is left out, no value says that one is
abbrev is_whole : List CsiValue → Bool
is_whole [] = true
is_whole (sgr s ∷ vs) = true
is_whole (unspecified es more f ∷ vs) = not more

put_whole : (o : Option Sgr) (more : Option (List CsiValue)) (vs : List CsiValue)
    → put_first o more ≡ Some vs → is_whole vs ≡ true
put_whole None more vs h = absurd cc
put_whole (Some s) None vs h = absurd cc
put_whole (Some s) (Some ws) vs h = let e : sgr s ∷ ws ≡ vs = cc in sym (ap is_whole e)

renditions_whole : (is : List (List CsiParam)) (vs : List CsiValue) → renditions is ≡ Some vs
    → is_whole vs ≡ true
renditions_whole [] vs h = let e : [] ≡ vs = cc in sym (ap is_whole e)
renditions_whole (i ∷ is) vs h = put_whole (rendition i) (renditions is) vs h

unwrapped_whole : (o : Option (List CsiValue)) (es : List CsiParam) (f : ℕ)
    → ((vs : List CsiValue) → o ≡ Some vs → is_whole vs ≡ true)
    → is_whole (unwrap_or o (unspecified es false f ∷ [])) ≡ true
unwrapped_whole None es f h = refl
unwrapped_whole (Some vs) es f h = h vs refl

whole_by : (es : List CsiParam) (f : ℕ) (t : Bool)
    → is_whole
    (if t && not false then unwrap_or (renditions (slice_split is_separator es))
    (unspecified es false f ∷ [])
    else unspecified es false f ∷ []) ≡ true
whole_by es f true =
    unwrapped_whole (renditions (slice_split is_separator es)) es f
    (renditions_whole (slice_split is_separator es))
whole_by es f false = refl

csi_whole : (es : List CsiParam) (f : ℕ) → is_whole (csi_of es false f) ≡ true
csi_whole es f = whole_by es f (f == 0x6d)

-- the parameters that a truncated value was read from
came_of : (ks es : List CsiParam) (g f : ℕ) (more : Bool)
    → csi_of ks more g ≡ unspecified es true f ∷ [] → (more ≡ true) × (ks ≡ es) × (g ≡ f)
came_of ks es g f false h = absurd (false_is_not (sym (ap is_whole h) ∙ csi_whole ks g))
came_of ks es g f true h =
    let e : unspecified ks true g ∷ [] ≡ unspecified es true f ∷ [] = sym (truncated ks g) ∙ h in
    (refl, (let k : ks ≡ es = cc in k), (let k : g ≡ f = cc in k))

-- bytes of a body
csi_final_small : (f : ℕ) → ends_csi (class_of f) ≡ true → f < 128
unfolding class_of
csi_final_small f h = grind (arith, nat_tests)

body_byte : (b : ℕ) → in_csi (class_of b) ≡ true → is_noise (class_of b) ≡ false
    → is_body_byte b ≡ true
unfolding class_of
body_byte b h k = grind (arith, nat_tests)

strip_by : (b : ℕ) (x : List ℕ) (t : Bool) → is_noise (class_of b) ≡ t → in_csi (class_of b) ≡ true
    → list_all is_body_byte (without_noise x) ≡ true
    → list_all is_body_byte (if not t then b ∷ without_noise x else without_noise x) ≡ true
strip_by b x true e i h = h
strip_by b x false e i h = rw (body_byte b i e, h) refl

strip_body : (x : List ℕ) → AllOf in_csi x → list_all is_body_byte (without_noise x) ≡ true
strip_body [] h = refl
strip_body (b ∷ x) h =
    let q = and_parts (in_csi (class_of b))
    (list_all (λ c. in_csi (class_of c)) x) h in strip_by b x (is_noise (class_of b)) refl q.0
    (strip_body x q.1)

-- If parameters of a body are left out, the body is not the text of those that are kept.
few_kept : (x : List ℕ) → length (kept_csi_params x) ≤ 256
unfolding kept_csi_params
few_kept x = take_few 256 (csi_params x)

many_are : (x : List ℕ) → has_more_csi_params x ≡ true → 256 < length (csi_params x)
unfolding has_more_csi_params
many_are x h = grind (arith, nat_tests)

kept_read : (x : List ℕ) → list_all is_body_byte x ≡ true → AreRead (kept_csi_params x)
unfolding kept_csi_params
kept_read x h = first_read 256 x h

not_its_text : (x : List ℕ) → AllOf in_csi x → has_more_csi_params (without_noise x) ≡ true
    → x ≡ csi_params_text (kept_csi_params (without_noise x)) → ⊥
not_its_text x all more e =
    let s = without_noise x in
    let read = kept_read s (strip_body x all) in
    let t = csi_params_text (kept_csi_params s) in
    let same : s ≡ t = ap without_noise e ∙ body_strip [] t (texts_body (kept_csi_params s) read) in
    let few = texts_few (kept_csi_params s) read in
    let most = few_kept s in
    let many = many_are s more in
    let count : length (csi_params s) ≡ length (csi_params t) =
    ap (λ y. length (csi_params y)) same in omega arith

-- so a control sequence that was cut at 256 parameters is not read of its text
not_read : (es : List CsiParam) (f g : ℕ) (x : List ℕ) → AllOf in_csi x
    → ends_csi (class_of g) ≡ true → x ++ g ∷ [] ≡ csi_params_text es ++ encode_utf8 f
    → csi_of (kept_csi_params (without_noise x)) (has_more_csi_params (without_noise x)) g
    ≡ unspecified es true f
    ∷ []
    → ⊥
not_read es f g x all ends e h =
    let (more, kept, final) =
    came_of (kept_csi_params (without_noise x)) es g f (has_more_csi_params (without_noise x)) h in
    let last : encode_utf8 f ≡ g ∷ [] =
    ap encode_utf8 (sym final) ∙ encode_ascii g (csi_final_small g ends) in
    let body : x ≡ csi_params_text es =
    append_cancel_right x (csi_params_text es) (g ∷ [])
    (e ∙ ap (λ y. csi_params_text es ++ y) last) in
    not_its_text x all more (body ∙ ap csi_params_text (sym kept))

-- by cases on the segment that the text would be
truncated_not : (A : Type 0) (es : List CsiParam) (f : ℕ) (g : Segment)
    → bytes_of g ≡ 0x1b ∷ 0x5b ∷ (csi_params_text es ++ encode_utf8 f)
    → ends_itself g ≡ true → HasShape g []
    → values_from {A = A} None plain (events_of g true) ≡ csi (unspecified es true f) ∷ [] → ⊥
truncated_not A es f (Character b) e ends h v = no_print A b _ v
truncated_not A es f (Wide x) e ends h v = no_print A _ _ v
truncated_not A es f (Broken x) e ends h v = false_is_not ends
truncated_not A es f (Stray b) e ends h v = no_print A 0xfffd _ v
truncated_not A es f (Control b) e ends h v = no_control A (code_of b) _ v
truncated_not A es f (HighControl p b) e ends h v = no_control A (code_of b) _ v
truncated_not A es f (Terminator p b) e ends h v = no_value A _ v
truncated_not A es f (Escape [] g) e ends h v =
    let k = (heads g 0x5b [] _ (heads 0x1b 0x1b _ _ e).1).0 in
    false_is_not (sym h.2 ∙ ap (λ c. opens (class_of c)) k ∙ bracket.0)
truncated_not A es f (Escape (b ∷ x) g) e ends h v =
    no_bracket_inside b x ((heads b 0x5b _ _ (heads 0x1b 0x1b _ _ e).1).0) h.0
truncated_not A es f (Csi (Long []) x g) e ends h v =
    not_read es f g x h.1 h.2 ((heads 0x5b 0x5b _ _ (heads 0x1b 0x1b _ _ e).1).1)
    (dispatched A (without_noise x) g _ (is_csi_body (without_noise x))
    (after_controls (bytes_of_class is_c0 x) (csi_events (without_noise x) g) _ v))
truncated_not A es f (Csi (Long (b ∷ n)) x g) e ends h v =
    no_bracket_noise b n ((heads b 0x5b _ _ (heads 0x1b 0x1b _ _ e).1).0) h.0
truncated_not A es f (Csi Raw x g) e ends h v = differ 0x9b 0x1b _ _ refl e
truncated_not A es f (Csi Pair x g) e ends h v = differ 0xc2 0x1b _ _ refl e
truncated_not A es f (Osc (Long []) ps Rung) e ends h v =
    differ 0x5d 0x5b _ _ refl (heads 0x1b 0x1b _ _ e).1
truncated_not A es f (Osc (Long (b ∷ n)) ps Rung) e ends h v =
    no_bracket_noise b n ((heads b 0x5b _ _ (heads 0x1b 0x1b _ _ e).1).0) h.0
truncated_not A es f (Osc Raw ps Rung) e ends h v = differ 0x9d 0x1b _ _ refl e
truncated_not A es f (Osc Pair ps Rung) e ends h v = differ 0xc2 0x1b _ _ refl e
truncated_not A es f (Osc o ps Open) e ends h v = false_is_not ends
truncated_not A es f (Osc o ps (Waits w)) e ends h v = false_is_not ends
truncated_not A es f (Dcs o x g d) e ends h v = false_is_not ends
truncated_not A es f (Apc o d) e ends h v = false_is_not ends
truncated_not A es f (Ignored k o d) e ends h v = false_is_not ends
truncated_not A es f (CutEscape x) e ends h v = false_is_not ends
truncated_not A es f (CutCsi o x) e ends h v = false_is_not ends
truncated_not A es f (CutDcs o x) e ends h v = false_is_not ends

-- an escape sequence whose letter opens something
opener_small : (f : ℕ) → opens (class_of f) ≡ true → f < 128
unfolding class_of
opener_small f h = grind (arith, nat_tests)

no_print_escape : (A : Type 0) (n : ℕ) (c : Esc) → one_print A n ≡ one_escape A c → ⊥
no_print_escape A n c h = cc

no_control_escape : (A : Type 0) (o : Option ControlCode) (c : Esc)
    → control_values o ++ [] ≡ one_escape A c → ⊥
no_control_escape A None c h = cc
no_control_escape A (Some k) c h = cc

no_value_escape : (A : Type 0) (c : Esc) → no_values A ≡ one_escape A c → ⊥
no_value_escape A c h = cc

too_long : (x y z : List ℕ) (a b f : ℕ) → ((x ++ a ∷ []) ++ y) ++ b ∷ [] ≡ f ∷ [] → ⊥
too_long x y z a b f e =
    let n = ap length e in
    let m = length-append ((x ++ a ∷ []) ++ y) (b ∷ []) in
    let k = length-append (x ++ a ∷ []) y in
    let j = length-append x (a ∷ []) in omega arith

opening_not : (A : Type 0) (c : Esc) (f : ℕ) (g : Segment) → opens (class_of f) ≡ true
    → bytes_of g ≡ 0x1b ∷ f ∷ []
    → ends_itself g ≡ true → HasShape g []
    → values_from {A = A} None plain (events_of g true) ≡ esc c ∷ [] → ⊥
opening_not A c f (Character b) o e ends h v = no_print_escape A b _ v
opening_not A c f (Wide x) o e ends h v = no_print_escape A _ _ v
opening_not A c f (Broken x) o e ends h v = false_is_not ends
opening_not A c f (Stray b) o e ends h v = no_print_escape A 0xfffd _ v
opening_not A c f (Control b) o e ends h v = no_control_escape A (code_of b) _ v
opening_not A c f (HighControl p b) o e ends h v = no_control_escape A (code_of b) _ v
opening_not A c f (Terminator p b) o e ends h v = no_value_escape A _ v
opening_not A c f (Escape [] g) o e ends h v =
    let k = (heads g f [] _ (heads 0x1b 0x1b _ _ e).1).0 in
    false_is_not (sym h.2 ∙ ap (λ c. opens (class_of c)) k ∙ o)
opening_not A c f (Escape (b ∷ x) g) o e ends h v =
    let n = ap length (heads 0x1b 0x1b _ _ e).1 in
    let m = length-append (b ∷ x) (g ∷ []) in omega arith
opening_not A c f (Csi (Long n) x g) o e ends h v =
    too_long n x [] 0x5b g f ((heads 0x1b 0x1b _ _ e).1)
opening_not A c f (Csi Raw x g) o e ends h v = differ 0x9b 0x1b _ _ refl e
opening_not A c f (Csi Pair x g) o e ends h v = differ 0xc2 0x1b _ _ refl e
opening_not A c f (Osc (Long n) ps Rung) o e ends h v =
    too_long n _ [] 0x5d 0x07 f ((heads 0x1b 0x1b _ _ e).1)
opening_not A c f (Osc Raw ps Rung) o e ends h v = differ 0x9d 0x1b _ _ refl e
opening_not A c f (Osc Pair ps Rung) o e ends h v = differ 0xc2 0x1b _ _ refl e
opening_not A c f (Osc p ps Open) o e ends h v = false_is_not ends
opening_not A c f (Osc p ps (Waits w)) o e ends h v = false_is_not ends
opening_not A c f (Dcs p x g d) o e ends h v = false_is_not ends
opening_not A c f (Apc p d) o e ends h v = false_is_not ends
opening_not A c f (Ignored k p d) o e ends h v = false_is_not ends
opening_not A c f (CutEscape x) o e ends h v = false_is_not ends
opening_not A c f (CutCsi p x) o e ends h v = false_is_not ends
opening_not A c f (CutDcs p x) o e ends h v = false_is_not ends

esc_by : (A : Type 0) (f : ℕ) (t : Bool) → opens (class_of f) ≡ t
    → IsWritable {A = A} (esc (esc_variant.Unspecified None f)) → opens (class_of f) ≡ false
esc_by A f false o h = o
esc_by A f true o (es, (g, text, ends, shape, gives), values) =
    absurd (opening_not A (esc_variant.Unspecified None f) f g o
    (text ∙ ap (λ t. 0x1b ∷ t) (encode_ascii f (opener_small f o))) ends shape
    (ap (values_from None plain) gives ∙ values))

csi_by : (A : Type 0) (es : List CsiParam) (f : ℕ) (more : Bool)
    → IsWritable {A = A} (csi (unspecified es more f)) → more ≡ false
csi_by A es f false h = refl
csi_by A es f true (vs, (g, text, ends, shape, gives), values) =
    absurd (truncated_not A es f g text ends shape (ap (values_from None plain) gives ∙ values))

-- data
datum_low : (b : ℕ) → is_datum b ≡ true → is_high_byte b ≡ false
datum_low b h = grind (arith, nat_tests)

data_low : (d : List ℕ) → list_all is_datum d ≡ true → list_any is_high_byte d ≡ false
data_low [] h = refl
data_low (b ∷ d) h = let q =
    and_parts (is_datum b) (list_all is_datum d) h in rw (datum_low b q.0, data_low d q.1) refl

pub not_exception : {A : Type 0} (v : Value A) → IsWritable v → is_exception v ≡ false
not_exception (print c) h = refl
not_exception (string t) h = refl
not_exception (control c) h = refl
not_exception (esc (esc_variant.Code c)) h = refl
not_exception {A = A} (esc (esc_variant.Unspecified None f)) h =
    esc_by A f (opens (class_of f)) refl h
not_exception (esc (esc_variant.Unspecified (Some i) f)) h = refl
not_exception (csi (sgr s)) h = refl
not_exception {A = A} (csi (unspecified es more f)) h = csi_by A es f more h
not_exception (osc c) h = refl
not_exception (kitty i) h = refl
not_exception (sixel s) h = refl
not_exception (termcap ns) h = refl
not_exception (short s) (byte, intermediates, natural, content) = data_low s.content content
not_exception (enter e) (final, inner, natural, whole, other) = whole
not_exception (datum b) h = datum_low b h
not_exception exit h = refl
