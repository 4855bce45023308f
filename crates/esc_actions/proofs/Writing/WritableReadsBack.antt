-- The meaning of the text of a writable list.
use Rattle.std.proofs.Common.{◌≡◌, ℕ, ◌<◌, ◌≤◌, ◌+◌, ◌/◌, ◌%◌, nat_lt, Bool, true, false, not, ◌&&◌, if◌then◌else◌, List, [], ◌∷◌, ◌++◌, map, None, refl, ap}
use Rattle.std.proofs.Common.{sym}
use Rattle.std.proofs.Common.{◌∙◌, append_assoc, arith, inl, inr}
use Rattle.std.proofs.lemmas.List.{append-nil, map-append}
use Rattle.std.proofs.lemmas.Bool.{and_parts, cases_lt}
use Rattle.std.proofs.lemmas.Bool.Decides.{nat_tests}
use Rattle.std.proofs.lemmas.Str.{encode_ascii, chars-encodes}
use Rattle.std.specs.Char.{encode_utf8}
use Rattle.std.specs.List.{list_all}
use Rattle.std.specs.Str.{chars, encode_utf8_all}
use Rattle.esc_values.specs.Clear.{is_clear, IsClearText, parts_of}
use Rattle.esc_sequences.specs.Csis.{csi_text}
use Rattle.esc_sequences.specs.Escs.{esc_text}
use Rattle.esc_sequences.specs.declared.esc.Esc.TheVariants as esc_variant
use Rattle.esc_sequences.specs.declared.esc_code.EscCode.TheVariants as esc_code
use Rattle.esc_device.specs.Kinds.{kind_of}
use Rattle.esc_device.specs.Says.{hook_of, string_events}
use Rattle.esc_device.specs.Texts.{as_text}
use Rattle.esc_device.specs.Writable.{AreData, IsWritableEnter, IsWritableShort, is_datum}
use Rattle.esc_device.specs.declared.enter.EnterDeviceControlMode.{EnterDeviceControlMode}
use Rattle.esc_device.specs.declared.kind.StringKind.TheVariants as kind
use Rattle.esc_device.specs.declared.short.ShortDeviceControl.{ShortDeviceControl}
use Rattle.esc_sixel.specs.Writable.{IsWritable as IsWritableSixel}
use Rattle.esc_sixel.specs.declared.sixel.Sixel.{Sixel}
use Rattle.xtgettcap.specs.Names.{names_text, AreWritable as AreWritableNames}
use Rattle.esc_frame.specs.Classes.{class_of, AllOf, is_control, is_c1, is_text}
use Rattle.esc_frame.specs.Events.{Event}
use Rattle.esc_frame.specs.Events.Event.{Print, Execute, EscDispatch, OscDispatch, DcsHook, ApcDispatch}
use Rattle.esc_frame.specs.Stream.{Says, events}
use Rattle.esc_kitty.specs.Texts.{image_body}
use Rattle.esc_kitty.specs.Writable.{is_kept, IsWritableImage}
use Rattle.esc_kitty.specs.declared.image.KittyImage.{KittyImage}
use Rattle.esc_osc.proofs.ReadsBack.{chars_scalar}
use Rattle.esc_osc.specs.Commands.{inner_text}
use Rattle.esc_osc.specs.Writable.{IsWritable as IsWritableCommand}
use Rattle.esc_osc.specs.declared.command.OperatingSystemCommand.{OperatingSystemCommand}
use Rattle.esc_actions.proofs.Meaning.MeaningsJoin.{meaning_nil, values_append}
use Rattle.esc_actions.proofs.Meaning.StreamMeansReadings.{one_closes}
use Rattle.esc_actions.proofs.Values.CodesHaveNumbers.{code_of-code_number}
use Rattle.esc_actions.proofs.Writing.StringValues.{puts_kept, puts_quiet, puts_entered, puts_given, string_closes, string_gives}
use Rattle.esc_actions.specs.ControlCodes.{code_number}
use Rattle.esc_actions.specs.LowerLaws.{LowerLaws}
use Rattle.esc_actions.specs.Meaning.{meaning, meaning_within, mode_from, values_from, Reads}
use Rattle.esc_actions.specs.Texts.{value_text, whole_text, is_string, is_terminator, terminator, begins_terminator, text_after, texts_after, list_text}
use Rattle.esc_actions.specs.Texts.{spelled_values}
use Rattle.esc_actions.specs.Texts.{normal}
use Rattle.esc_actions.specs.Values.{Value, print, string, control, esc, csi, osc, kitty, sixel, termcap, short, enter, datum, exit, control_values, image_values, plain}
use Rattle.esc_actions.specs.Values.{Mode, in_sixel, in_termcap, in_short, mode_after, event_values, mode_with_byte, taken_gives, unhook_values, mode_at_hook, hook_values}
use Rattle.esc_actions.specs.Writable.{IsWritable, AreWritable, AreWritableFrom, is_lone_control, is_within, stays_within}
use Rattle.esc_actions.specs.declared.control_code.ControlCode.{ControlCode}

-- texts, one after another
reads_by : {A : Type 0} (t u : List ℕ) (vs ws : List (Value A)) → t ≡ u → vs ≡ ws → Reads t vs
    → Reads u ws
reads_by t u vs ws e f h rest =
    ap (λ x. meaning (x ++ rest)) (sym e) ∙ h rest ∙ ap (λ x. x ++ meaning rest) f

-- a text whose events leave nothing open reads by itself
reads_says : {A : Type 0} (t : List ℕ) (es : List Event) → mode_from plain es ≡ plain → Says t es
    → Reads {A = A} t (values_from None plain es)
unfolding meaning_within
reads_says t es closed h rest =
    ap (values_from None plain) (h rest) ∙ values_append None plain es (events rest)
    ∙ ap (λ m. values_from None plain es ++ values_from None m (events rest)) closed

reads_nil : {A : Type 0} → Reads {A = A} [] []
reads_nil rest = refl

reads_append : {A : Type 0} (t u : List ℕ) (vs ws : List (Value A)) → Reads t vs → Reads u ws
    → Reads (t ++ u) (vs ++ ws)
reads_append t u vs ws h k rest = ap meaning (append_assoc t u rest) ∙ h (u ++ rest)
    ∙ ap (λ x. vs ++ x) (k rest) ∙ sym (append_assoc vs ws (meaning rest))

reads_whole : {A : Type 0} (t : List ℕ) (vs : List (Value A)) → Reads t vs → meaning t ≡ vs
reads_whole t vs h = ap meaning (sym (append-nil t)) ∙ h [] ∙ ap (λ x. vs ++ x) (meaning_nil None)
    ∙ append-nil vs

-- characters
reads_print : {A : Type 0} (low : LowerLaws A) (c : ℕ) → is_clear c ≡ true
    → Reads {A = A} (encode_utf8 c) (print c ∷ [])
reads_print low c h = reads_says (encode_utf8 c) (Print c ∷ []) refl (low.prints c h)

reads_chars : {A : Type 0} (low : LowerLaws A) (cs : List ℕ) → list_all is_clear cs ≡ true
    → Reads {A = A} (encode_utf8_all cs) (map print cs)
reads_chars low [] h = reads_nil
reads_chars low (c ∷ cs) h =
    let q = and_parts (is_clear c) (list_all is_clear cs) h in
    reads_append (encode_utf8 c) (encode_utf8_all cs) (print c ∷ []) (map print cs)
    (reads_print low c q.0) (reads_chars low cs q.1)

reads_string : {A : Type 0} (low : LowerLaws A) (t : List ℕ) → IsClearText t
    → Reads {A = A} t (map print (chars t))
reads_string low t (cs, all, e) =
    let same : chars t ≡ cs = ap chars (sym e) ∙ chars-encodes cs (chars_scalar cs all) in
    reads_by (encode_utf8_all cs) t (map print cs) (map print (chars t)) e
    (ap (map print) (sym same)) (reads_chars low cs all)

-- controls
low_control : (b : ℕ) → b < 128 → is_lone_control b ≡ true → is_control (class_of b) ≡ true
unfolding class_of
low_control b l h = grind (arith, nat_tests)

high_control : (b : ℕ) → 128 ≤ b → is_lone_control b ≡ true → is_c1 (class_of b) ≡ true
unfolding class_of
high_control b l h = grind (arith, nat_tests)

code_small : (b : ℕ) → is_lone_control b ≡ true → b < 0xa0
code_small b h = grind (arith, nat_tests)

encode_high : (b : ℕ) → 128 ≤ b → b < 0xa0 → encode_utf8 b ≡ 0xc2 ∷ b ∷ []
unfolding encode_utf8
encode_high b l h =
    let one : nat_lt b 128 ≡ false = grind (arith, nat_tests) in
    let two : nat_lt b 2048 ≡ true = grind (arith, nat_tests) in
    let e : 192 + b / 64 ≡ 0xc2 = omega arith in
    let f : 128 + b % 64 ≡ b = omega arith in rw (one, two, e, f) refl

executes : {A : Type 0} (c : ControlCode)
    → values_from {A = A} None plain (Execute (code_number c) ∷ []) ≡ control c ∷ []
executes c = ap (λ o. control_values o ++ []) (code_of-code_number c)

reads_control : {A : Type 0} (low : LowerLaws A) (c : ControlCode)
    → is_lone_control (code_number c) ≡ true
    → Reads {A = A} (encode_utf8 (code_number c)) (control c ∷ [])
reads_control {A = A} low c h =
    let b = code_number c in elim (cases_lt b 128) [
      | inl l ↦ reads_by (b ∷ []) (encode_utf8 b) (values_from None plain (Execute b ∷ []))
          (control c ∷ []) (sym (encode_ascii b l)) (executes c)
          (reads_says (b ∷ []) (Execute b ∷ []) refl (low.executes b (low_control b l h)))
      | inr l ↦ reads_by (0xc2 ∷ b ∷ []) (encode_utf8 b) (values_from None plain (Execute b ∷ []))
          (control c ∷ []) (sym (encode_high b l (code_small b h)))
          (executes c)
          (reads_says (0xc2 ∷ b ∷ []) (Execute b ∷ []) refl
          (low.executes_high b (high_control b l h)))
    ]

-- the meaning of the text of one value by itself: its characters, and after a string action the
-- terminator
abbrev pub meant : {A : Type 0} → Value A → List (Value A)
meant v = spelled_values v ++ (if is_string v then terminator ∷ [] else [])

reads_osc : {A : Type 0} (low : LowerLaws A) (c : OperatingSystemCommand A) → IsWritableCommand c
    → Reads (value_text (osc c)) (osc c ∷ terminator ∷ [])
reads_osc low c h =
    let t = inner_text c in
    reads_by ((0x1b ∷ 0x5d ∷ t) ++ 0x1b ∷ 0x5c ∷ []) (value_text (osc c))
    (values_from None plain (OscDispatch (parts_of t) ∷ EscDispatch [] false 0x5c ∷ []))
    (osc c ∷ terminator ∷ [])
    refl (ap (λ d. osc d ∷ terminator ∷ []) (low.command_back c h))
    (reads_says ((0x1b ∷ 0x5d ∷ t) ++ 0x1b ∷ 0x5c ∷ []) (OscDispatch (parts_of t)
    ∷ EscDispatch [] false 0x5c ∷ []) refl
    (low.command t (low.command_clear c h)))

-- images
kept_byte : (b : ℕ) → is_kept b ≡ true → is_text (class_of b) ≡ true
unfolding class_of
kept_byte b h = grind (arith, nat_tests)

kept_text : (t : List ℕ) → list_all is_kept t ≡ true → AllOf is_text t
kept_text [] h = refl
kept_text (b ∷ t) h = let k = and_parts (is_kept b) (list_all is_kept t) h in
    rw (kept_byte b k.0, kept_text t k.1) refl

reads_kitty : {A : Type 0} (low : LowerLaws A) (i : KittyImage A) → IsWritableImage i
    → Reads (whole_text (kitty i)) (kitty i ∷ terminator ∷ [])
reads_kitty low i h =
    let t = image_body i in
    let back = low.image_back i h in
    reads_by ((0x1b ∷ 0x5f ∷ t) ++ 0x1b ∷ 0x5c ∷ []) (whole_text (kitty i))
    (values_from None plain (ApcDispatch t ∷ EscDispatch [] false 0x5c ∷ []))
    (kitty i ∷ terminator ∷ [])
    refl (ap (λ o. image_values o ++ terminator ∷ []) back.1)
    (reads_says ((0x1b ∷ 0x5f ∷ t) ++ 0x1b ∷ 0x5c ∷ []) (ApcDispatch t ∷ EscDispatch [] false 0x5c
    ∷ []) refl
    (low.application t (kept_text t back.0)))

-- strings that are given at their end: the data that is kept gives this one value
module _ (kept : List ℕ → Mode) (keeps : (d : List ℕ) (b : ℕ)
    → mode_with_byte (kept d) b ≡ kept (d ++ b ∷ [])) where
  kept_gives : {A : Type 0} (hook : Event) (d : List ℕ) (v : Value A)
      → event_values {A = A} None plain hook ≡ [] → mode_after plain hook ≡ kept []
      → ((y : List ℕ) (b : ℕ) → taken_gives {A = A} (kept y) b ≡ [])
      → unhook_values None (kept d) ≡ v ∷ []
      → values_from None plain (string_events hook d) ≡ v ∷ terminator ∷ []
  kept_gives hook d v none opens quiet closed =
      string_gives hook d
      ∙ rw (none, opens, puts_quiet kept keeps quiet d [], puts_kept kept keeps d [], closed) refl

  reads_kept : {A : Type 0} (t d : List ℕ) (v : Value A) (hook : Event)
      → Says t (string_events hook d) → event_values {A = A} None plain hook ≡ []
      → mode_after plain hook ≡ kept []
      → ((y : List ℕ) (b : ℕ) → taken_gives {A = A} (kept y) b ≡ [])
      → unhook_values None (kept d) ≡ v ∷ []
      → Reads t (v ∷ terminator ∷ [])
  reads_kept t d v hook says none opens quiet closed =
      reads_by t t (values_from None plain (string_events hook d)) (v ∷ terminator ∷ []) refl
      (kept_gives hook d v none opens quiet closed)
      (reads_says t (string_events hook d) (string_closes hook d) says)

reads_sixel : {A : Type 0} (low : LowerLaws A) (s : Sixel A) → IsWritableSixel s
    → Reads (whole_text (sixel s)) (sixel s ∷ terminator ∷ [])
reads_sixel low s h =
    let (ps, d, says, means) = low.sixel_says s h in
    reads_kept (in_sixel ps) (λ x b. refl) (whole_text (sixel s)) d (sixel s)
    (DcsHook 0x71 ps [] false) says refl refl (λ x b. refl)
    (ap (λ x. sixel x ∷ []) means)

reads_termcap : {A : Type 0} (low : LowerLaws A) (ns : List (List ℕ)) → AreWritableNames ns
    → Reads {A = A} (whole_text {A = A} (termcap ns)) (termcap ns ∷ terminator ∷ [])
reads_termcap {A = A} low ns h =
    let (says, means) = low.query_says ns h in
    reads_kept in_termcap (λ x b. refl) (whole_text {A = A} (termcap ns)) (names_text ns)
    (termcap ns) (DcsHook 0x71 [] (0x2b ∷ []) false) says refl refl
    (λ x b. refl) (ap (λ x. termcap x ∷ []) means)

short_kind : {A : Type 0} (s : ShortDeviceControl A) → IsWritableShort s
    → kind_of s.byte s.intermediates false ≡ kind.Short
short_kind s (byte, intermediates, natural, content) =
    ap (λ f. kind_of f s.intermediates false) byte ∙ ap (λ is. kind_of 0x71 is false) intermediates

reads_short : {A : Type 0} (low : LowerLaws A) (s : ShortDeviceControl A) → IsWritableShort s
    → Reads (value_text (short s)) (short s ∷ terminator ∷ [])
reads_short {A = A} low s h =
    let k = short_kind s h in
    reads_kept (in_short s.params s.intermediates s.byte) (λ x b. refl) (value_text (short s))
    s.content (short s)
    (DcsHook s.byte s.params s.intermediates false) (low.short_says s h)
    (ap (λ x. hook_values {A = A} x s.byte s.params s.intermediates false) k)
    (ap (λ x. mode_at_hook x s.byte s.params s.intermediates) k) (λ x b. refl) refl

-- a mode, its bytes and its end
group_gives : {A : Type 0} (e : EnterDeviceControlMode A) (d : List ℕ)
    → kind_of e.byte e.intermediates e.ignored_extra_intermediates ≡ kind.Other
    → values_from {A = A} None plain (string_events (hook_of e) d) ≡ (enter e ∷ map datum d) ++ exit
    ∷ terminator ∷ []
group_gives {A = A} e d other =
    string_gives (hook_of e) d
    ∙ rw (
      other,
      puts_given {A = A} d,
      puts_entered d,
    ) (append_assoc (enter e ∷ map datum d) (exit ∷ []) (terminator ∷ []))

enter_kind : {A : Type 0} (e : EnterDeviceControlMode A) → IsWritableEnter e
    → kind_of e.byte e.intermediates e.ignored_extra_intermediates ≡ kind.Other
enter_kind e (final, inner, natural, whole, other) =
    ap (kind_of e.byte e.intermediates) whole ∙ other

reads_group : {A : Type 0} (low : LowerLaws A) (e : EnterDeviceControlMode A) (d : List ℕ)
    → IsWritableEnter e → AreData d
    → Reads ((value_text (enter e) ++ as_text d) ++ 0x1b ∷ 0x5c ∷ []) ((enter e ∷ map datum d)
    ++ exit ∷ terminator ∷ [])
reads_group low e d h hd =
    let t = (value_text (enter e) ++ as_text d) ++ 0x1b ∷ 0x5c ∷ [] in
    reads_by t t (values_from None plain (string_events (hook_of e) d)) ((enter e ∷ map datum d)
    ++ exit ∷ terminator ∷ []) refl
    (group_gives e d (enter_kind e h))
    (reads_says t (string_events (hook_of e) d) (string_closes (hook_of e) d)
    (low.mode_says e d h hd))

-- a value that belongs to no group
reads_value : {A : Type 0} (low : LowerLaws A) (v : Value A) → IsWritable v → is_within v ≡ false
    → stays_within v ≡ false → Reads (whole_text v) (meant v)
reads_value low (print c) h o p = reads_print low c h
reads_value low (string t) h o p =
    reads_by t t (map print (chars t)) (map print (chars t) ++ []) refl
    (sym (append-nil (map print (chars t)))) (reads_string low t h.0)
reads_value low (control c) h o p = reads_control low c h
reads_value low (esc e) (es, one, is) o p =
    reads_by (esc_text e) (esc_text e) (values_from None plain es) (esc e ∷ []) refl is
    (reads_says (esc_text e) es (one_closes (esc_text e) es one)
    (low.one_segment (esc_text e) es one))
reads_value low (csi c) (es, one, is) o p =
    reads_by (csi_text c) (csi_text c) (values_from None plain es) (csi c ∷ []) refl is
    (reads_says (csi_text c) es (one_closes (csi_text c) es one)
    (low.one_segment (csi_text c) es one))
reads_value low (osc c) h o p = reads_osc low c h
reads_value low (kitty i) h o p = reads_kitty low i h
reads_value low (sixel s) h o p = reads_sixel low s h
reads_value low (termcap ns) h o p = reads_termcap low ns h
reads_value low (short s) h o p = reads_short low s h
reads_value low (enter e) h o p = absurd cc
reads_value low (datum b) h o p = absurd cc
reads_value low exit h o p = absurd cc

-- a list
abbrev pub meant_after : {A : Type 0} → Bool → List (Value A) → List (Value A)
meant_after b [] = []
meant_after b (v ∷ vs) =
    (if is_terminator v && b then [] else meant v) ++ meant_after (is_string v) vs

reads_one : {A : Type 0} (low : LowerLaws A) (b : Bool) (v : Value A) → IsWritable v
    → is_within v ≡ false → stays_within v ≡ false
    → Reads (if b then [] else whole_text v) (if b then [] else meant v)
reads_one low true v h o p = reads_nil
reads_one low false v h o p = reads_value low v h o p

step : {A : Type 0} (low : LowerLaws A) (b : Bool) (v : Value A) (vs : List (Value A))
    → IsWritable v → is_within v ≡ false → stays_within v ≡ false
    → Reads (texts_after (is_string v) vs) (meant_after (is_string v) vs)
    → Reads (texts_after b (v ∷ vs)) (meant_after b (v ∷ vs))
step low b v vs h o p rest =
    reads_append (text_after b v) (texts_after (is_string v) vs) (if is_terminator v
    && b then [] else meant v) (meant_after (is_string v) vs)
    (reads_one low (is_terminator v && b) v h o p) rest

within_not : false ≡ true → ⊥
within_not e = cc

outside_not : true ≡ false → ⊥
outside_not e = cc

data_more : (d : List ℕ) (b : ℕ) → AreData d → is_datum b ≡ true → AreData (d ++ b ∷ [])
data_more [] b h k = rw k refl
data_more (c ∷ d) b h k = let q = and_parts (is_datum c) (list_all is_datum d) h in
    rw (q.0, data_more d b q.1 k) refl

text_more : (d : List ℕ) (b : ℕ) → as_text (d ++ b ∷ []) ≡ as_text d ++ encode_utf8 b
text_more [] b = append-nil (encode_utf8 b)
text_more (c ∷ d) b = ap (λ x. encode_utf8 c ++ x) (text_more d b)
    ∙ sym (append_assoc (encode_utf8 c) (as_text d) (encode_utf8 b))

-- outside an entered mode; and inside one, after its header and these bytes
abbrev Both : {A : Type 0} → List (Value A) → Type 0
Both {A = A} vs =
    ((b : Bool) → AreWritableFrom false vs → Reads (texts_after b vs) (meant_after b vs))
    × ((e : EnterDeviceControlMode A) (d : List ℕ) → IsWritableEnter e → AreData d
    → AreWritableFrom true vs
    → Reads ((value_text (enter e) ++ as_text d) ++ texts_after false vs) ((enter e ∷ map datum d)
    ++ meant_after false vs))

datum_step : {A : Type 0} (e : EnterDeviceControlMode A) (d : List ℕ) (b : ℕ) (vs : List (Value A))
    → Reads ((value_text (enter e) ++ as_text (d ++ b ∷ [])) ++ texts_after false vs)
    ((enter e ∷ map datum (d ++ b ∷ [])) ++ meant_after false vs)
    → Reads ((value_text (enter e) ++ as_text d) ++ (encode_utf8 b ++ texts_after false vs))
    ((enter e ∷ map datum d) ++ (datum b ∷ meant_after false vs))
datum_step e d b vs h =
    let x = value_text (enter e) in
    let t = as_text d in
    reads_by _ _ _ _
    (ap (λ y. (x ++ y) ++ texts_after false vs) (text_more d b)
    ∙ ap (λ y. y ++ texts_after false vs) (sym (append_assoc x t (encode_utf8 b)))
    ∙ append_assoc (x ++ t) (encode_utf8 b) (texts_after false vs))
    (ap (λ y. (enter e ∷ y) ++ meant_after false vs) (map-append datum d (b ∷ []))
    ∙ append_assoc (enter e ∷ map datum d) (datum b ∷ []) (meant_after false vs))
    h

exit_step : {A : Type 0} (low : LowerLaws A) (e : EnterDeviceControlMode A) (d : List ℕ)
    (vs : List (Value A)) → IsWritableEnter e → AreData d
    → Reads (texts_after true vs) (meant_after true vs)
    → Reads ((value_text (enter e) ++ as_text d) ++ ((0x1b ∷ 0x5c ∷ []) ++ texts_after true vs))
    ((enter e ∷ map datum d) ++ (exit ∷ terminator ∷ meant_after true vs))
exit_step low e d vs w a rest =
    let x = value_text (enter e) ++ as_text d in
    reads_by _ _ _ _
    (append_assoc x (0x1b ∷ 0x5c ∷ []) (texts_after true vs))
    (append_assoc (enter e ∷ map datum d) (exit ∷ terminator ∷ []) (meant_after true vs))
    (reads_append (x ++ 0x1b ∷ 0x5c ∷ []) (texts_after true vs) ((enter e ∷ map datum d) ++ exit
    ∷ terminator ∷ []) (meant_after true vs)
    (reads_group low e d w a) rest)

enter_step : {A : Type 0} (e : EnterDeviceControlMode A) (vs : List (Value A))
    → Reads ((value_text (enter e) ++ []) ++ texts_after false vs) ((enter e ∷ [])
    ++ meant_after false vs)
    → Reads (value_text (enter e) ++ texts_after false vs) (enter e ∷ meant_after false vs)
enter_step e vs h =
    reads_by ((value_text (enter e) ++ []) ++ texts_after false vs) (value_text (enter e)
    ++ texts_after false vs) (enter e ∷ meant_after false vs)
    (enter e ∷ meant_after false vs)
    (ap (λ x. x ++ texts_after false vs) (append-nil (value_text (enter e)))) refl h

reads_both : {A : Type 0} (low : LowerLaws A) (vs : List (Value A)) → Both vs
reads_both low [] = (λ b h. reads_nil, λ e d w a h. absurd (within_not h))
reads_both low (print c ∷ vs) = (
  λ b h. step low b (print c) vs h.1 refl refl ((reads_both low vs).0 false h.2),
  λ e d w a h.
      absurd (within_not h.0),
)
reads_both low (string t ∷ vs) = (
  λ b h. step low b (string t) vs h.1 refl refl ((reads_both low vs).0 false h.2),
  λ e d w a h.
      absurd (within_not h.0),
)
reads_both low (control c ∷ vs) = (
  λ b h. step low b (control c) vs h.1 refl refl ((reads_both low vs).0 false h.2),
  λ e d w a h.
      absurd (within_not h.0),
)
reads_both low (esc e ∷ vs) = (
  λ b h. step low b (esc e) vs h.1 refl refl ((reads_both low vs).0 false h.2),
  λ e d w a h.
      absurd (within_not h.0),
)
reads_both low (csi c ∷ vs) = (
  λ b h. step low b (csi c) vs h.1 refl refl ((reads_both low vs).0 false h.2),
  λ e d w a h.
      absurd (within_not h.0),
)
reads_both low (osc c ∷ vs) = (
  λ b h. step low b (osc c) vs h.1 refl refl ((reads_both low vs).0 true h.2),
  λ e d w a h.
      absurd (within_not h.0),
)
reads_both low (kitty i ∷ vs) = (
  λ b h. step low b (kitty i) vs h.1 refl refl ((reads_both low vs).0 true h.2),
  λ e d w a h.
      absurd (within_not h.0),
)
reads_both low (sixel s ∷ vs) = (
  λ b h. step low b (sixel s) vs h.1 refl refl ((reads_both low vs).0 true h.2),
  λ e d w a h.
      absurd (within_not h.0),
)
reads_both low (termcap t ∷ vs) = (
  λ b h. step low b (termcap t) vs h.1 refl refl ((reads_both low vs).0 true h.2),
  λ e d w a h.
      absurd (within_not h.0),
)
reads_both low (short s ∷ vs) = (
  λ b h. step low b (short s) vs h.1 refl refl ((reads_both low vs).0 true h.2),
  λ e d w a h.
      absurd (within_not h.0),
)
reads_both low (enter k ∷ vs) = (
  λ b h. enter_step k vs ((reads_both low vs).1 k [] h.1 refl h.2),
  λ e d w a h. absurd (within_not h.0),
)
reads_both low (datum c ∷ vs) = (
  λ b h. absurd (outside_not h.0),
  λ e d w a h. datum_step e d c vs
      ((reads_both low vs).1 e (d ++ c ∷ []) w (data_more d c a h.1) h.2),
)
reads_both low (exit ∷ vs) = (
  λ b h. absurd (outside_not h.0),
  λ e d w a h.
      exit_step low e d vs w a ((reads_both low vs).0 true h.2),
)

reads_after : {A : Type 0} (low : LowerLaws A) (b : Bool) (vs : List (Value A)) → AreWritable vs
    → Reads (texts_after b vs) (meant_after b vs)
reads_after low b vs h = (reads_both low vs).0 b h

-- the same, as the normal list
abbrev after_string : {A : Type 0} → List (Value A) → List (Value A)
after_string vs = (if not (begins_terminator vs) then terminator ∷ [] else []) ++ normal vs

abbrev AsNormal : {A : Type 0} → List (Value A) → Type 0
AsNormal vs = (meant_after false vs ≡ normal vs)
    × (terminator ∷ meant_after true vs ≡ after_string vs)

-- after a string action: a terminator, unless one stands there
string_normal : {A : Type 0} (v : Value A) (vs : List (Value A)) (t : Bool)
    → v ∷ (terminator ∷ meant_after true vs) ≡ v
    ∷ ((if not t then terminator ∷ [] else []) ++ normal vs)
    → v ∷ terminator ∷ meant_after true vs ≡ ((v ∷ []) ++ (if not t then terminator ∷ [] else []))
    ++ normal vs
string_normal v vs true e = e
string_normal v vs false e = e

as_normal : {A : Type 0} (vs : List (Value A)) → AsNormal vs
as_normal [] = (refl, refl)
as_normal (print c ∷ vs) = let e = ap (λ x. print c ∷ x) (as_normal vs).0 in
    (e, ap (λ x. terminator ∷ x) e)
as_normal (string t ∷ vs) = let e = ap (λ x. (map print (chars t) ++ []) ++ x) (as_normal vs).0 in
    (e, ap (λ x. terminator ∷ x) e)
as_normal (control c ∷ vs) = let e = ap (λ x. control c ∷ x) (as_normal vs).0 in
    (e, ap (λ x. terminator ∷ x) e)
as_normal (esc (esc_variant.Code esc_code.StringTerminator) ∷ vs) = let e =
    ap (λ x. terminator ∷ x) (as_normal vs).0 in (e, e)
as_normal (esc (esc_variant.Code esc_code.HorizontalTabSet) ∷ vs) = let e =
    ap (λ x. esc (esc_variant.Code esc_code.HorizontalTabSet) ∷ x) (as_normal vs).0 in
    (e, ap (λ x. terminator ∷ x) e)
as_normal (esc (esc_variant.Code esc_code.TmuxTitle) ∷ vs) = let e =
    ap (λ x. esc (esc_variant.Code esc_code.TmuxTitle) ∷ x) (as_normal vs).0 in
    (e, ap (λ x. terminator ∷ x) e)
as_normal (esc (esc_variant.Unspecified i c) ∷ vs) = let e =
    ap (λ x. esc (esc_variant.Unspecified i c) ∷ x) (as_normal vs).0 in
    (e, ap (λ x. terminator ∷ x) e)
as_normal (csi c ∷ vs) = let e = ap (λ x. csi c ∷ x) (as_normal vs).0 in
    (e, ap (λ x. terminator ∷ x) e)
as_normal (enter k ∷ vs) = let e = ap (λ x. enter k ∷ x) (as_normal vs).0 in
    (e, ap (λ x. terminator ∷ x) e)
as_normal (datum b ∷ vs) = let e = ap (λ x. datum b ∷ x) (as_normal vs).0 in
    (e, ap (λ x. terminator ∷ x) e)
as_normal (osc c ∷ vs) = let e = ap (λ x. osc c ∷ x) (as_normal vs).1 in (
  string_normal (osc c) vs (begins_terminator vs) e,
  ap (λ x. terminator ∷ x) (string_normal (osc c) vs (begins_terminator vs) e),
)
as_normal (kitty i ∷ vs) = let e = ap (λ x. kitty i ∷ x) (as_normal vs).1 in (
  string_normal (kitty i) vs (begins_terminator vs) e,
  ap (λ x. terminator ∷ x) (string_normal (kitty i) vs (begins_terminator vs) e),
)
as_normal (sixel s ∷ vs) = let e = ap (λ x. sixel s ∷ x) (as_normal vs).1 in (
  string_normal (sixel s) vs (begins_terminator vs) e,
  ap (λ x. terminator ∷ x) (string_normal (sixel s) vs (begins_terminator vs) e),
)
as_normal (termcap d ∷ vs) = let e = ap (λ x. termcap d ∷ x) (as_normal vs).1 in (
  string_normal (termcap d) vs (begins_terminator vs) e,
  ap (λ x. terminator ∷ x) (string_normal (termcap d) vs (begins_terminator vs) e),
)
as_normal (short s ∷ vs) = let e = ap (λ x. short s ∷ x) (as_normal vs).1 in (
  string_normal (short s) vs (begins_terminator vs) e,
  ap (λ x. terminator ∷ x) (string_normal (short s) vs (begins_terminator vs) e),
)
as_normal (exit ∷ vs) = let e = ap (λ x. exit ∷ x) (as_normal vs).1 in (
  string_normal exit vs (begins_terminator vs) e,
  ap (λ x. terminator ∷ x) (string_normal exit vs (begins_terminator vs) e),
)

pub meant_normal : {A : Type 0} (vs : List (Value A)) → meant_after false vs ≡ normal vs
meant_normal vs = (as_normal vs).0

pub reads_back : {A : Type 0} → LowerLaws A → (vs : List (Value A)) → AreWritable vs
    → meaning (list_text vs) ≡ normal vs
reads_back low vs h =
    reads_whole (list_text vs) (meant_after false vs) (reads_after low false vs h)
    ∙ meant_normal vs

-- whatever follows
pub reads_by_itself : {A : Type 0} → LowerLaws A → (vs : List (Value A)) → AreWritable vs
    → Reads (list_text vs) (normal vs)
reads_by_itself low vs h =
    reads_by (list_text vs) (list_text vs) (meant_after false vs) (normal vs) refl (meant_normal vs)
    (reads_after low false vs h)
