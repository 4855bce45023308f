-- The numbers in the values of a control sequence have no sign: its parameters are runs of digits.
use Rattle.std.proofs.Common.{ℕ, suc, zero, pos, negsuc, ◌≡◌, ◌<◌, ◌-◌, ◌*◌, ◌+◌, ◌/◌, ◌%◌, Bool, true, false, not, ◌&&◌, ◌||◌, ◌==◌, if◌then◌else◌, List, [], ◌∷◌, ◌++◌, map, take, Option, Some, None, refl, sym, ap, ◌∙◌, arith, lit<}
use Rattle.std.specs.Prelude.{unwrap_or}
use Rattle.std.specs.Char.{encode_utf8}
use Rattle.std.specs.Fmt.{decimal, digit_glyph, digits, digits_onto}
use Rattle.std.specs.List.{list_all, slice_split}
use Rattle.std.proofs.lemmas.Bool.{and_parts, eqb-true, true≢false}
use Rattle.std.proofs.lemmas.Bool.Decides.{nat_tests}
use Rattle.std.proofs.lemmas.Str.{encode_ascii}
use Rattle.esc_values.specs.Params.{csi_params, csi_params_after, csi_params_text, capped_at_i64, is_csi_parameter, is_digit}
use Rattle.esc_values.specs.declared.csi_param.CsiParam.{CsiParam}
use Rattle.esc_values.specs.declared.csi_param.CsiParam.TheVariants.{Integer, P}
use Rattle.esc_sequences.specs.Csis.{CsiValue, csi_of, csi_text, is_separator, put_first, rendition, renditions, sgr, sgr_body, unspecified}
use Rattle.esc_sequences.specs.declared.intensity.Intensity.TheVariants as intensity
use Rattle.esc_sequences.specs.declared.sgr.Sgr.{Sgr}
use Rattle.esc_sequences.specs.declared.sgr.Sgr.TheVariants.{Reset, Intensity, Italic, Underline}
use Rattle.esc_sequences.specs.declared.underline.Underline.TheVariants as underline
use Rattle.esc_frame.specs.Bodies.{is_csi_body, kept_csi_params}
use Rattle.esc_frame.specs.Classes.{is_c0, without_noise, bytes_of_class}
use Rattle.esc_frame.specs.Events.{Event}
use Rattle.esc_frame.specs.Events.Event.{Print, Execute, EscDispatch, CsiDispatch, OscDispatch, DcsHook, DcsPut, DcsUnhook, ApcDispatch}
use Rattle.esc_frame.specs.Fits.{IsOneSegment}
use Rattle.esc_frame.specs.Segments.{Segment, Opener, csi_event, csi_events, ends_itself, events_of, executes, opener_events, osc_events, text_of}
use Rattle.esc_frame.specs.Segments.Ending.{Open, Rung, Waits}
use Rattle.esc_frame.specs.Segments.Opener.{Long, Raw, Pair}
use Rattle.esc_frame.specs.Segments.Segment.{Character, Wide, Broken, Stray, Control, HighControl, Terminator, Escape, Csi, Osc, Dcs, Apc, Ignored, CutEscape}
use Rattle.esc_frame.specs.Segments.Segment.{CutCsi, CutDcs}
use Rattle.esc_actions.specs.ControlCodes.{code_of}
use Rattle.esc_actions.specs.Meaning.{values_from}
use Rattle.esc_actions.specs.Values.{Value, Mode, mode_after, csi, control_values, event_values, plain}
use Rattle.esc_actions.specs.declared.control_code.ControlCode.{ControlCode}
use Rattle.esc_filter.specs.Tokens.{IsRendition}
use Rattle.esc_filter.specs.Rules.{is_plain_param, is_rendition}
use Rattle.esc_filter.proofs.ByLine.DataHasNoFeed.{both}

-- ---- parameters

-- no number below 0
abbrev is_natural : CsiParam → Bool
is_natural (Integer (pos n)) = true
is_natural (Integer (negsuc n)) = false
is_natural (P b) = true

read_natural : (o : Option ℕ) (x : List ℕ) → list_all is_natural (csi_params_after o x) ≡ true
read_natural None [] = refl
read_natural (Some n) [] = refl
read_natural None (b ∷ x) =
    by (is_digit b) (read_natural (Some (b - 0x30)) x) (read_natural None x)
  where
    by : (t : Bool) → list_all is_natural (csi_params_after (Some (b - 0x30)) x) ≡ true
        → list_all is_natural (csi_params_after None x) ≡ true
        → list_all is_natural (if t then csi_params_after (Some (b - 0x30)) x
        else P b ∷ csi_params_after None x) ≡ true
    by true h k = h
    by false h k = k
read_natural (Some n) (b ∷ x) =
    by (is_digit b) (read_natural (Some (10 * n + (b - 0x30))) x) (read_natural None x)
  where
    by : (t : Bool)
        → list_all is_natural (csi_params_after (Some (10 * n + (b - 0x30))) x) ≡ true
        → list_all is_natural (csi_params_after None x) ≡ true
        → list_all is_natural (if t then csi_params_after (Some (10 * n + (b - 0x30))) x
        else Integer (pos (capped_at_i64 n)) ∷ P b ∷ csi_params_after None x) ≡ true
    by true h k = h
    by false h k = k

some_pass : {X : Type 0} (p : X → Bool) (n : ℕ) (xs : List X) → list_all p xs ≡ true
    → list_all p (take n xs) ≡ true
some_pass p zero xs h = refl
some_pass p (suc n) [] h = refl
some_pass p (suc n) (x ∷ xs) h =
    let q = and_parts (p x) (list_all p xs) h in rw (q.0, some_pass p n xs q.1) refl

kept_natural : (x : List ℕ) → list_all is_natural (kept_csi_params x) ≡ true
unfolding kept_csi_params
kept_natural x = some_pass is_natural 256 (csi_params x) (read_natural None x)

-- ---- the value of a control sequence

abbrev has_naturals : CsiValue → Bool
has_naturals (sgr s) = true
has_naturals (unspecified es more f) = list_all is_natural es

-- renditions, or another value if these parameters are none
named_natural : (whole : List CsiValue) → list_all has_naturals whole ≡ true
    → (is : List (List CsiParam))
    → list_all has_naturals (unwrap_or (renditions is) whole) ≡ true
named_natural whole h [] = refl
named_natural whole h (i ∷ is) = by (rendition i) (renditions is) (named_natural whole h is)
  where
    by : (o : Option Sgr) (r : Option (List CsiValue))
        → list_all has_naturals (unwrap_or r whole) ≡ true
        → list_all has_naturals (unwrap_or (put_first o r) whole) ≡ true
    by None r k = h
    by (Some s) None k = h
    by (Some s) (Some vs) k = k

csi_natural : (es : List CsiParam) (more : Bool) (f : ℕ) → list_all is_natural es ≡ true
    → list_all has_naturals (csi_of es more f) ≡ true
csi_natural es more f h =
    by ((f == 0x6d) && not more)
    (named_natural (unspecified es more f ∷ []) whole (slice_split is_separator es))
  where
    whole : list_all has_naturals (unspecified es more f ∷ []) ≡ true
    whole = rw h refl

    by : (t : Bool)
        → list_all has_naturals (unwrap_or (renditions (slice_split is_separator es))
        (unspecified es more f ∷ [])) ≡ true
        → list_all has_naturals (if t
        then unwrap_or (renditions (slice_split is_separator es)) (unspecified es more f ∷ [])
        else unspecified es more f ∷ []) ≡ true
    by true k = k
    by false k = whole

-- ---- the events of one segment that ends by itself

abbrev is_single : Event → Bool
is_single (CsiDispatch es more f) = list_all is_natural es
is_single (DcsHook f ps is more) = false
is_single (DcsPut b) = false
is_single DcsUnhook = false
is_single (ApcDispatch t) = false
is_single _ = true

executes_single : (bs : List ℕ) → list_all is_single (map Execute bs) ≡ true
executes_single [] = refl
executes_single (b ∷ bs) = executes_single bs

opener_single : (o : Opener) → list_all is_single (opener_events o) ≡ true
opener_single (Long n) = executes_single (bytes_of_class is_c0 n)
opener_single Raw = refl
opener_single Pair = refl

some_single : (t : Bool) (e : Event) → is_single e ≡ true
    → list_all is_single (if t then e ∷ [] else []) ≡ true
some_single true e h = rw h refl
some_single false e h = refl

csi_single : (x : List ℕ) (f : ℕ) → list_all is_single (csi_events x f) ≡ true
csi_single x f = some_single (is_csi_body x) (csi_event x f) (kept_natural x)

segment_single : (g : Segment) → ends_itself g ≡ true
    → list_all is_single (events_of g true) ≡ true
segment_single (Character b) e = refl
segment_single (Wide x) e = refl
segment_single (Broken x) e = absurd (true≢false (sym e))
segment_single (Stray b) e = refl
segment_single (Control b) e = refl
segment_single (HighControl p b) e = refl
segment_single (Terminator p b) e = refl
segment_single (Escape x f) e = both is_single (executes x) _
    (executes_single (bytes_of_class is_c0 x)) refl
segment_single (Csi o x f) e =
    both is_single (opener_events o ++ executes x) (csi_events (without_noise x) f)
    (both is_single (opener_events o) (executes x) (opener_single o)
    (executes_single (bytes_of_class is_c0 x)))
    (csi_single (without_noise x) f)
segment_single (Osc o ps Open) e = absurd (true≢false (sym e))
segment_single (Osc o ps Rung) e =
    both is_single (opener_events o) (osc_events None (text_of ps)) (opener_single o) refl
segment_single (Osc o ps (Waits x)) e = absurd (true≢false (sym e))
segment_single (Dcs o x f d) e = absurd (true≢false (sym e))
segment_single (Apc o d) e = absurd (true≢false (sym e))
segment_single (Ignored j o d) e = absurd (true≢false (sym e))
segment_single (CutEscape x) e = absurd (true≢false (sym e))
segment_single (CutCsi o x) e = absurd (true≢false (sym e))
segment_single (CutDcs o x) e = absurd (true≢false (sym e))

-- ---- its values

module _ (A : Type 0) where
  abbrev are_natural : Value A → Bool
  are_natural (csi c) = has_naturals c
  are_natural _ = true

  executed_natural : (o : Option ControlCode) → list_all are_natural (control_values o) ≡ true
  executed_natural None = refl
  executed_natural (Some c) = refl

  all_csi : (cs : List CsiValue) → list_all has_naturals cs ≡ true
      → list_all are_natural (map csi cs) ≡ true
  all_csi [] h = refl
  all_csi (c ∷ cs) h =
      let q = and_parts (has_naturals c) (list_all has_naturals cs) h in
      rw (q.0, all_csi cs q.1) refl

  given_natural : (m : Mode) (e : Event) → is_single e ≡ true
      → list_all are_natural (event_values None m e) ≡ true
  given_natural m (Print c) h = refl
  given_natural m (Execute b) h = executed_natural (code_of b)
  given_natural m (EscDispatch is more f) h = refl
  given_natural m (CsiDispatch es more f) h = all_csi (csi_of es more f) (csi_natural es more f h)
  given_natural m (OscDispatch ps) h = refl
  given_natural m (DcsHook f ps is more) h = absurd (true≢false (sym h))
  given_natural m (DcsPut b) h = absurd (true≢false (sym h))
  given_natural m DcsUnhook h = absurd (true≢false (sym h))
  given_natural m (ApcDispatch t) h = absurd (true≢false (sym h))

  values_natural : (m : Mode) (es : List Event) → list_all is_single es ≡ true
      → list_all are_natural (values_from None m es) ≡ true
  values_natural m [] h = refl
  values_natural m (e ∷ es) h =
      let q = and_parts (is_single e) (list_all is_single es) h in
      both are_natural (event_values None m e) (values_from None (mode_after m e) es)
      (given_natural m e q.0)
      (values_natural (mode_after m e) es q.1)

  -- the value that is read from one segment alone
  pub one_natural : (t : List ℕ) (es : List Event) (c : CsiValue) → IsOneSegment t es
      → values_from {A = A} None plain es ≡ csi c ∷ [] → has_naturals c ≡ true
  one_natural t es c (g, bytes, ends, shape, e) gives =
      let h : list_all are_natural (values_from None plain (events_of g true)) ≡ true =
      values_natural plain (events_of g true) (segment_single g ends) in
      let same : values_from {A = A} None plain (events_of g true) ≡ csi c ∷ [] =
      ap (values_from None plain) e ∙ gives in
      (and_parts (has_naturals c) true (sym (ap (list_all are_natural) same) ∙ h)).0

-- ---- their text

digit_is : (d : ℕ) → d < 10 → is_csi_parameter (digit_glyph false d) ≡ true
digit_is d h = grind (arith, nat_tests)

tenth : (n : ℕ) → n % 10 < 10
tenth n = omega arith

onto : (k n : ℕ) (acc : List ℕ) → list_all is_csi_parameter acc ≡ true
    → list_all is_csi_parameter (digits_onto k 10 false n acc) ≡ true
onto zero n acc h = h
onto (suc k) n acc h =
    let g = digit_glyph false (n % 10) in
    let more : list_all is_csi_parameter (g ∷ acc) ≡ true = rw (digit_is (n % 10) (tenth n), h) refl
    in by (n / 10 == 0) more (onto k (n / 10) (g ∷ acc) more)
  where
    by : (t : Bool) → list_all is_csi_parameter (digit_glyph false (n % 10) ∷ acc) ≡ true
        → list_all is_csi_parameter (digits_onto k 10 false (n / 10)
        (digit_glyph false (n % 10) ∷ acc)) ≡ true
        → list_all is_csi_parameter (if t then digit_glyph false (n % 10) ∷ acc
        else digits_onto k 10 false (n / 10) (digit_glyph false (n % 10) ∷ acc)) ≡ true
    by true a b = a
    by false a b = b

pub decimal_digits : (n : ℕ) → list_all is_csi_parameter (decimal n) ≡ true
unfolding digits
decimal_digits n = onto 64 n [] refl

separator_text : (b : ℕ) → (b == 0x3b) ≡ true → list_all is_csi_parameter (encode_utf8 b) ≡ true
separator_text b h =
    rw (eqb-true b 0x3b h) (ap (list_all is_csi_parameter) (encode_ascii 0x3b (lit< tt)))

colon_text : (b : ℕ) → (b == 0x3a) ≡ true → list_all is_csi_parameter (encode_utf8 b) ≡ true
colon_text b h =
    rw (eqb-true b 0x3a h) (ap (list_all is_csi_parameter) (encode_ascii 0x3a (lit< tt)))

param_digits : (e : CsiParam) (es : List CsiParam) → is_natural e ≡ true → is_plain_param e ≡ true
    → list_all is_csi_parameter (csi_params_text es) ≡ true
    → list_all is_csi_parameter (csi_params_text (e ∷ es)) ≡ true
param_digits (Integer (pos n)) es h k rest =
    both is_csi_parameter (decimal n) (csi_params_text es) (decimal_digits n) rest
param_digits (Integer (negsuc n)) es h k rest = absurd (true≢false (sym h))
param_digits (P b) es h k rest =
    both is_csi_parameter (encode_utf8 b) (csi_params_text es) (by (b == 0x3b) refl k) rest
  where
    by : (t : Bool) → (b == 0x3b) ≡ t → (t || (b == 0x3a)) ≡ true
        → list_all is_csi_parameter (encode_utf8 b) ≡ true
    by true e g = separator_text b e
    by false e g = colon_text b g

params_digits : (es : List CsiParam) → list_all is_natural es ≡ true
    → list_all is_plain_param es ≡ true
    → list_all is_csi_parameter (csi_params_text es) ≡ true
params_digits [] h k = refl
params_digits (e ∷ es) h k =
    let p = and_parts (is_natural e) (list_all is_natural es) h in
    let q = and_parts (is_plain_param e) (list_all is_plain_param es) k in
    param_digits e es p.0 q.0 (params_digits es p.1 q.1)

sgr_digits : (s : Sgr) → list_all is_csi_parameter (sgr_body s) ≡ true
sgr_digits Reset = refl
sgr_digits (Intensity intensity.Bold) = refl
sgr_digits (Intensity intensity.Half) = refl
sgr_digits (Intensity intensity.Normal) = refl
sgr_digits (Italic true) = refl
sgr_digits (Italic false) = refl
sgr_digits (Underline underline.None) = refl
sgr_digits (Underline underline.Single) = refl
sgr_digits (Underline underline.Double) = refl
sgr_digits (Underline underline.Curly) = refl
sgr_digits (Underline underline.Dotted) = refl
sgr_digits (Underline underline.Dashed) = refl

pub rendition_text : (c : CsiValue) → has_naturals c ≡ true → is_rendition c ≡ true
    → IsRendition (csi_text c)
rendition_text (sgr s) h k = (sgr_body s, sgr_digits s, refl)
rendition_text (unspecified es more f) h k =
    let q = and_parts (f == 0x6d) (list_all is_plain_param es) k in
    let last : encode_utf8 f ≡ 0x6d ∷ [] =
    ap encode_utf8 (eqb-true f 0x6d q.0) ∙ encode_ascii 0x6d (lit< tt) in (
      csi_params_text es,
      params_digits es h q.1,
      ap (λ t. 0x1b ∷ 0x5b ∷ (csi_params_text es ++ t)) last,
    )
