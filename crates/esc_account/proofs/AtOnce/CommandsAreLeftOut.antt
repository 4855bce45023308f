-- Operating system commands that do not pass, by their text.
use Rattle.std.proofs.Common.{ℕ, ◌≡◌, ◌==◌, ◌+◌, ◌-◌, ◌<◌, ◌≤◌, Bool, true, false, nat_le, ◌&&◌, ◌||◌, if◌then◌else◌, List, [], ◌∷◌, ◌++◌, length, length-append, take, drop, bytes_eq, Option, None, Some, IfSome, refl, sym, ap, ◌∙◌, append-nil, append_assoc, arith}
use Rattle.std.proofs.lemmas.Bool.{and_parts, eqb-true, true≢false}
use Rattle.std.proofs.lemmas.Bool.Decides.{nat_tests}
use Rattle.std.proofs.lemmas.Slice.Eq.{bytes_eq-Decides}
use Rattle.std.proofs.lemmas.Str.{IsUtf8-from_ascii}
use Rattle.std.proofs.lemmas.Str.Ascii.{IsAscii-cons, IsAscii-nil}
use Rattle.std.proofs.Math.Seq.{drop-append_seam, take-append_seam}
use Rattle.std.specs.List.{list_all}
use Rattle.std.specs.Str.{IsAscii, IsUtf8}
use Rattle.esc_values.specs.Clear.{parts_of}
use Rattle.esc_frame.specs.Classes.{AllOf, class_of, is_noise, is_text}
use Rattle.esc_frame.specs.Events.Event.{OscDispatch}
use Rattle.esc_frame.specs.Scans.{is_data_byte}
use Rattle.esc_frame.specs.Segments.{Segment as Shape, AreOscUnits, AreSegments, Ending, HasShape, OscUnit, breaks_text, bytes_of, ending_bytes, events_of_within, is_finished, joined_bytes, osc_events, text_bytes, text_of}
use Rattle.esc_frame.specs.Segments.Ending.{Open, Rung, Waits}
use Rattle.esc_frame.specs.Segments.Opener.{Long, Raw, Pair}
use Rattle.esc_frame.specs.Segments.Segment.{Character, Wide, Broken, Stray, Control, HighControl, Terminator, Escape, Csi, Osc, Dcs, Apc, Ignored}
use Rattle.esc_frame.specs.Segments.Segment.{CutEscape, CutCsi, CutDcs}
use Rattle.esc_frame.proofs.Cut.UnitsAreDetermined.{MayEnd, units_same}
use Rattle.esc_segments.specs.Items.{kind_of}
use Rattle.esc_segments.specs.declared.kind.SegmentKind.TheVariants as kinds
use Rattle.esc_osc.specs.Reading.{meaning as command_meant}
use Rattle.esc_osc.specs.declared.command.OperatingSystemCommand.{OperatingSystemCommand}
use Rattle.esc_actions.specs.Meaning.{values_from}
use Rattle.esc_actions.specs.Readings.{reading_within}
use Rattle.esc_actions.specs.Texts.{list_text}
use Rattle.esc_actions.specs.Values.{Value, esc, osc, plain}
use Rattle.esc_osc.specs.Commands.{command_text}
use Rattle.esc_sequences.specs.declared.esc.Esc.{Esc}
use Rattle.esc_sequences.specs.declared.esc.Esc.TheVariants as esc_variant
use Rattle.esc_sequences.specs.declared.esc_code.EscCode.TheVariants as esc_code
use Rattle.esc_write.specs.Plain.{IsVerbatim}
use Rattle.esc_filter.specs.declared.guard.Guard.{Guard}
use Rattle.esc_account.specs.AtOnce.{IsTextOf, is_text_end}
use Rattle.esc_account.specs.Accounts.{is_end}
use Rattle.esc_account.specs.Passing.{passed_as}
use Rattle.esc_account.specs.Rules.{before_after, fate_of, is_spelled, left_as, rule_of, spelling_of, verdict_on}
use Rattle.esc_account.specs.declared.fate.Fate.TheVariants as fates
use Rattle.esc_account.proofs.AtOnce.SeenIsFirst.{units, units_are, units_text}
use Rattle.esc_account.proofs.Fates.FateByPolicy.{verdict_of}
use Rattle.esc_account.proofs.Segments.EscapeEndsSegment.{first_shape, parts_rung}
use Rattle.esc_account.proofs.Segments.ShortSequenceEvent.{first_of, last_same, rest_of}

-- ---- the text

data_text : (b : ℕ) → is_data_byte b ≡ true → is_text (class_of b) ≡ true
unfolding class_of
data_text b h = grind (arith, nat_tests)

text_kept : (t : List ℕ) → list_all is_data_byte t ≡ true → text_of (units t) ≡ t
text_kept [] h = refl
text_kept (b ∷ t) h =
    let p = and_parts (is_data_byte b) (list_all is_data_byte t) h in
    rw (data_text b p.0) (ap (λ v. b ∷ v) (text_kept t p.1))

no_noise : is_noise (class_of 0x5d) ≡ false
unfolding class_of
no_noise = refl

not_long : (n : ℕ) (ns : List ℕ) → AllOf is_noise (n ∷ ns) → n ≡ 0x5d → ⊥
not_long n ns h e =
    let q = and_parts (is_noise (class_of n)) (list_all (λ b. is_noise (class_of b)) ns) h in
    true≢false (sym q.0 ∙ ap (λ b. is_noise (class_of b)) e ∙ no_noise)

may_open : (after : List ℕ) → breaks_text after ≡ true → MayEnd Open after
may_open [] h = tt
may_open (b ∷ t) h = h

module _ (t : List ℕ) (all : list_all is_data_byte t ≡ true) where
  units_by : (ps : List OscUnit) (x : Ending) (e after : List ℕ)
      → AreOscUnits ps (ending_bytes x ++ after)
      → is_finished (Osc (Long []) ps x) after ≡ true
      → text_bytes ps ++ ending_bytes x ≡ t ++ e → is_text_end e ≡ true → ps ≡ units t
  units_by ps Open [] after are over same end =
      (units_same ps (units t) Open Open after after are (units_are t after all) tt tt
      (may_open after over) (may_open after over)
      (ap (λ v. v ++ after) (sym (append-nil (text_bytes ps)) ∙ same ∙ append-nil t ∙ sym
      (units_text t)))).0
  units_by ps Open (a ∷ []) after are over same end =
      absurd (apart (units_same ps (units t) Open Rung after after are
      (units_are t (0x07 ∷ after) all) tt tt (may_open after over) tt
      (ap (λ v. v ++ after) (sym (append-nil (text_bytes ps)) ∙ same
      ∙ ap (λ b. t ++ b ∷ []) (eqb-true a 0x07 end) ∙ ap (λ v. v ++ 0x07 ∷ []) (sym (units_text t)))
      ∙ append_assoc (text_bytes (units t)) (0x07 ∷ []) after)).1)
    where
      apart : Open ≡ Rung → ⊥
      apart q = cc
  units_by ps Rung [] after are over same end =
      absurd (apart (units_same ps (units t) Rung Open [] [] (parts_rung ps 0x07 after [] are)
      (units_are t [] all) tt tt tt tt
      (same ∙ append-nil t ∙ sym (units_text t) ∙ sym (append-nil (text_bytes (units t))))).1)
    where
      apart : Rung ≡ Open → ⊥
      apart q = cc
  units_by ps Rung (a ∷ []) after are over same end =
      (units_same ps (units t) Rung Rung after after are (units_are t (0x07 ∷ after) all) tt tt
      tt tt
      (sym (append_assoc (text_bytes ps) (0x07 ∷ []) after)
      ∙ ap (λ v. v ++ after) (same ∙ ap (λ b. t ++ b ∷ []) (eqb-true a 0x07 end)
      ∙ ap (λ v. v ++ 0x07 ∷ []) (sym (units_text t)))
      ∙ append_assoc (text_bytes (units t)) (0x07 ∷ []) after)).0
  units_by ps (Waits f) e after are over same end = absurd cc
  units_by ps Open (a ∷ b ∷ e) after are over same end = absurd cc
  units_by ps Rung (a ∷ b ∷ e) after are over same end = absurd cc

  within : (limit : ℕ) → length t ≤ limit
      → osc_events (Some limit) t ≡ OscDispatch (parts_of t) ∷ []
  within limit few =
      let fits : nat_le (length t) limit ≡ true = grind (arith, nat_tests) in
      ap (λ b. if b then OscDispatch (parts_of t) ∷ [] else []) fits

  -- the command is dispatched
  osc_event : (limit : ℕ) (g : Shape) (e after : List ℕ) → HasShape g after
      → kind_of g ≡ kinds.Osc → is_finished g after ≡ true
      → bytes_of g ≡ 0x1b ∷ 0x5d ∷ (t ++ e) → is_text_end e ≡ true → length t ≤ limit
      → events_of_within (Some limit) g true ≡ OscDispatch (parts_of t) ∷ []
  osc_event limit (Osc (Long []) ps x) e after h k over same end few =
      let own = units_by ps x e after h.1 over (ap (λ s. rest_of (rest_of s)) same) end in
      ap (osc_events (Some limit)) (ap text_of own ∙ text_kept t all) ∙ within limit few
  osc_event limit (Osc (Long (n ∷ ns)) ps x) e after h k over same end few =
      absurd (not_long n ns h.0 (ap (λ s. first_of (rest_of s)) same))
  osc_event limit (Osc Raw ps x) e after h k over same end few = absurd (no (ap first_of same))
    where
      no : ◌≡◌ {A = ℕ} 0x9d 0x1b → ⊥
      no q = omega (arith, q)
  osc_event limit (Osc Pair ps x) e after h k over same end few = absurd (no (ap first_of same))
    where
      no : ◌≡◌ {A = ℕ} 0xc2 0x1b → ⊥
      no q = omega (arith, q)
  osc_event limit (Character b) e after h k over same end few = absurd cc
  osc_event limit (Wide x) e after h k over same end few = absurd cc
  osc_event limit (Broken x) e after h k over same end few = absurd cc
  osc_event limit (Stray b) e after h k over same end few = absurd cc
  osc_event limit (Control b) e after h k over same end few = absurd cc
  osc_event limit (HighControl p b) e after h k over same end few = absurd cc
  osc_event limit (Terminator p b) e after h k over same end few = absurd cc
  osc_event limit (Escape x f) e after h k over same end few = absurd cc
  osc_event limit (Csi o x f) e after h k over same end few = absurd cc
  osc_event limit (Dcs o x f d) e after h k over same end few = absurd cc
  osc_event limit (Apc o d) e after h k over same end few = absurd cc
  osc_event limit (Ignored j o d) e after h k over same end few = absurd cc
  osc_event limit (CutEscape x) e after h k over same end few = absurd cc
  osc_event limit (CutCsi o x) e after h k over same end few = absurd cc
  osc_event limit (CutDcs o x) e after h k over same end few = absurd cc

-- ---- as it came

data_utf8-low : (b : ℕ) → is_data_byte b ≡ true → b < 128
data_utf8-low b h = grind (arith, nat_tests)

data_ascii : (t : List ℕ) → list_all is_data_byte t ≡ true → IsAscii t
data_ascii [] h = IsAscii-nil
data_ascii (b ∷ t) h =
    let p = and_parts (is_data_byte b) (list_all is_data_byte t) h in
    IsAscii-cons b t (data_utf8-low b p.0) (data_ascii t p.1)

pub data_utf8 : (t : List ℕ) → list_all is_data_byte t ≡ true → IsUtf8 t
data_utf8 t h = IsUtf8-from_ascii t (data_ascii t h)

no_end : (t e : List ℕ) → length e ≡ 0 → 0x1b ∷ 0x5d ∷ (t ++ e) ≡ 0x1b ∷ 0x5d ∷ t
no_end t [] h = ap (λ v. 0x1b ∷ 0x5d ∷ v) (append-nil t)
no_end t (a ∷ e) h = absurd (omega (arith, h))

or_true : (x : Bool) → (x || true) ≡ true
or_true true = refl
or_true false = refl

spelled_so : (y : List ℕ) → is_spelled y (y ++ 0x1b ∷ 0x5c ∷ []) ≡ true
spelled_so y =
    let text = y ++ 0x1b ∷ 0x5c ∷ [] in
    let n : length text - 2 ≡ length y = omega (arith, length-append y (0x1b ∷ 0x5c ∷ [])) in
    let first : take (length text - 2) text ≡ y =
    ap (λ m. take m text) n ∙ take-append_seam y (0x1b ∷ 0x5c ∷ []) in
    let last : drop (length text - 2) text ≡ 0x1b ∷ 0x5c ∷ [] =
    ap (λ m. drop m text) n ∙ drop-append_seam y (0x1b ∷ 0x5c ∷ []) in
    let second : (is_end (drop (length text - 2) text)
    && bytes_eq (take (length text - 2) text) y) ≡ true =
    ap (λ v. is_end v && bytes_eq (take (length text - 2) text) y) last
    ∙ ap (λ v. bytes_eq v y) first ∙ (bytes_eq-Decides y y).1 refl in
    ap (λ v. bytes_eq text y || v) second ∙ or_true (bytes_eq text y)

pub some_so : {T P : Type 0} (o : Option T) (x y : T) → IfSome o (λ t. (t ≡ x) × P)
    → (P → y ≡ x) → IfSome o (λ t. t ≡ y)
some_so None x y h f = tt
some_so (Some t) x y (e, p) f = e ∙ sym (f p)

pub end_bytes : (s : List ℕ) → is_end s ≡ true → s ≡ 0x1b ∷ 0x5c ∷ []
end_bytes [] h = absurd cc
end_bytes (a ∷ []) h = absurd cc
end_bytes (a ∷ c ∷ []) h =
    let q = and_parts (a == 0x1b) (c == 0x5c) h in
    ap (λ v. v ∷ c ∷ []) (eqb-true a 0x1b q.0) ∙ ap (λ v. 0x1b ∷ v ∷ []) (eqb-true c 0x5c q.1)
end_bytes (a ∷ c ∷ d ∷ s) h = absurd cc

end_shape : (g : Shape) → kind_of g ≡ kinds.Escape → bytes_of g ≡ 0x1b ∷ 0x5c ∷ []
    → g ≡ Escape [] 0x5c
end_shape (Escape x f) k e =
    let q = last_same x [] f 0x5c (ap rest_of e) in
    ap (λ v. Escape v f) q.0 ∙ ap (Escape []) q.1
end_shape (Character b) k e = absurd cc
end_shape (Wide x) k e = absurd cc
end_shape (Broken x) k e = absurd cc
end_shape (Stray b) k e = absurd cc
end_shape (Control b) k e = absurd cc
end_shape (HighControl p b) k e = absurd cc
end_shape (Terminator p b) k e = absurd cc
end_shape (Csi o x f) k e = absurd cc
end_shape (Osc o ps x) k e = absurd cc
end_shape (Dcs o x f d) k e = absurd cc
end_shape (Apc o d) k e = absurd cc
end_shape (Ignored j o d) k e = absurd cc
end_shape (CutEscape x) k e = absurd cc
end_shape (CutCsi o x) k e = absurd cc
end_shape (CutDcs o x) k e = absurd cc

-- ---- its verdict

module _ {A : Type 0} (u : Guard) (limit : ℕ) (admits : Value A → Bool) (b : Option ℕ) where
  left_by : (l : Bool) (bytes : List ℕ) (c : OperatingSystemCommand A) → admits (osc c) ≡ false
      → verdict_on l u admits b kinds.Osc bytes (osc c ∷ []) ≡ left_as b
  left_by true bytes c h = rw h refl
  left_by false bytes c h = rw h refl

  pub command_left : (l : Bool) (g : Shape) (gs : List Shape) (s t : List ℕ)
      → AreSegments (g ∷ gs) → kind_of g ≡ kinds.Osc → s ≡ bytes_of g
      → is_finished g (joined_bytes gs) ≡ true → IsTextOf s t → list_all is_data_byte t ≡ true
      → length t ≤ limit → admits (osc (command_meant (parts_of t))) ≡ false
      → left_as b ≡ rule_of l u limit admits b g (is_finished g (joined_bytes gs))
  command_left l g gs s t each kind same over (e, whole, end) all few stays =
      let after = joined_bytes gs in
      let c = command_meant {A = A} (parts_of t) in
      let reading : reading_within {A = A} (Some limit) g true ≡ osc c ∷ [] =
      ap (values_from (Some limit) plain) (osc_event t all limit g e after
      (first_shape g gs each) kind over (sym same ∙ whole) end few) in
      sym (ap (rule_of l u limit admits b g) over
      ∙ ap (λ k. verdict_on l u admits b k (bytes_of g) (reading_within (Some limit) g true)) kind
      ∙ ap (verdict_on l u admits b kinds.Osc (bytes_of g)) reading
      ∙ left_by l (bytes_of g) c stays)

  spelled_fate : (l : Bool) (bytes : List ℕ) (c : OperatingSystemCommand A)
      → admits (osc c) ≡ true → fate_of l u admits b kinds.Osc bytes (osc c ∷ [])
      ≡ spelling_of bytes (list_text {A = A} (osc c ∷ []))
  spelled_fate true bytes c h = rw h refl
  spelled_fate false bytes c h = rw h refl

  none_before : (c : OperatingSystemCommand A) → admits (osc c) ≡ true
      → before_after u admits b (osc c ∷ []) ≡ None
  none_before c h = rw h refl

  passed_by : (l : Bool) (bytes : List ℕ) (c : OperatingSystemCommand A) → admits (osc c) ≡ true
      → is_spelled bytes (list_text {A = A} (osc c ∷ [])) ≡ true
      → verdict_on l u admits b kinds.Osc bytes (osc c ∷ []) ≡ passed_as None
  passed_by l bytes c h e =
      let fate : fate_of l u admits b kinds.Osc bytes (osc c ∷ []) ≡ fates.Passed =
      spelled_fate l bytes c h ∙ ap (λ t. if t then fates.Passed else fates.Respelled) e in
      ap (λ f. verdict_of f (before_after u admits b (osc c ∷ []))) fate
      ∙ ap (verdict_of fates.Passed) (none_before c h)

  -- it passes, and is written as it came
  pub command_passed : (l : Bool) (g : Shape) (gs : List Shape) (s t : List ℕ)
      → AreSegments (g ∷ gs) → kind_of g ≡ kinds.Osc → s ≡ bytes_of g
      → is_finished g (joined_bytes gs) ≡ true → IsTextOf s t → list_all is_data_byte t ≡ true
      → length t ≤ limit → admits (osc (command_meant (parts_of t))) ≡ true → IsVerbatim A t
      → length s ≡ length t + 2
      → rule_of l u limit admits b g (is_finished g (joined_bytes gs)) ≡ passed_as None
  command_passed l g gs s t each kind same over (e, whole, end) all few passes written long =
      let after = joined_bytes gs in
      let c = command_meant {A = A} (parts_of t) in
      let reading : reading_within {A = A} (Some limit) g true ≡ osc c ∷ [] =
      ap (values_from (Some limit) plain) (osc_event t all limit g e after
      (first_shape g gs each) kind over (sym same ∙ whole) end few) in
      let bytes : bytes_of g ≡ 0x1b ∷ 0x5d ∷ t = sym same ∙ whole ∙ no_end t e
      (omega (arith, long, ap length whole, length-append t e)) in
      let text : list_text {A = A} (osc c ∷ []) ≡ (0x1b ∷ 0x5d ∷ t) ++ 0x1b ∷ 0x5c ∷ [] =
      append-nil (command_text c) ∙ written in
      let spelled : is_spelled (bytes_of g) (list_text {A = A} (osc c ∷ [])) ≡ true =
      ap (λ v. is_spelled v (list_text {A = A} (osc c ∷ []))) bytes
      ∙ ap (is_spelled (0x1b ∷ 0x5d ∷ t)) text ∙ spelled_so (0x1b ∷ 0x5d ∷ t) in
      ap (rule_of l u limit admits b g) over
      ∙ ap (λ k. verdict_on l u admits b k (bytes_of g) (reading_within (Some limit) g true)) kind
      ∙ ap (verdict_on l u admits b kinds.Osc (bytes_of g)) reading
      ∙ passed_by l (bytes_of g) c passes spelled

  -- ---- a string terminator

  end_by : (l finished : Bool) → ((e : Esc) → admits (esc e) ≡ false)
      → rule_of l u limit admits b (Escape [] 0x5c) finished ≡ left_as b
  end_by true finished h = rw (h (esc_variant.Code esc_code.StringTerminator)) refl
  end_by false finished h = rw (h (esc_variant.Code esc_code.StringTerminator)) refl

  pub end_left_out : (l : Bool) → ((e : Esc) → admits (esc e) ≡ false)
      → rule_of l u limit admits b (Escape [] 0x5c) true ≡ left_as b
  end_left_out l stays = end_by l true stays

  pub end_left : (l : Bool) (g : Shape) (gs : List Shape) (s : List ℕ) → AreSegments (g ∷ gs)
      → kind_of g ≡ kinds.Escape → s ≡ bytes_of g → is_end s ≡ true
      → ((e : Esc) → admits (esc e) ≡ false)
      → left_as b ≡ rule_of l u limit admits b g (is_finished g (joined_bytes gs))
  end_left l g gs s each kind same end stays =
      let finished = is_finished g (joined_bytes gs) in
      sym (ap (λ h. rule_of l u limit admits b h finished)
      (end_shape g kind (sym same ∙ end_bytes s end)) ∙ end_by l finished stays)
