-- Renditions of one number, and colours of the palette, pass as they came where renditions do.
use Rattle.std.proofs.Common.{ℕ, pos, ◌≡◌, ◌<◌, ◌≤◌, ◌^◌, length, Bool, true, false, List, [], ◌∷◌, ◌++◌, codes, Some, inl, inr, arith, refl, ap, sym, ◌∙◌, subst, append-nil, lit≤}
use Rattle.std.specs.Prelude.{nat_lt}
use Rattle.std.specs.Char.{encode_utf8}
use Rattle.std.specs.Fmt.{decimal}
use Rattle.std.specs.List.{list_all}
use Rattle.std.proofs.lemmas.Bool.{and_parts}
use Rattle.std.proofs.lemmas.Bool.Decides.{nat_tests}
use Rattle.std.proofs.lemmas.List.{take_all}
use Rattle.std.proofs.lemmas.Str.{encode_ascii}
use Rattle.esc_values.specs.Params.{csi_params, capped_at_i64, is_csi_body, is_csi_parameter, is_digit}
use Rattle.esc_values.specs.declared.csi_param.CsiParam.{CsiParam}
use Rattle.esc_values.specs.declared.csi_param.CsiParam.TheVariants.{Integer, P}
use Rattle.esc_values.proofs.Numbers.AtMostThreeDigits.{decimal_one, decimal_two}
use Rattle.esc_sequences.specs.Csis.{CsiValue, csi_of, csi_text, unspecified}
use Rattle.esc_sequences.proofs.ParamsText.{number_all, number_is}
use Rattle.esc_frame.specs.Bodies.{has_more_csi_params, kept_csi_params}
use Rattle.esc_frame.specs.Events.Event.{CsiDispatch}
use Rattle.esc_frame.specs.Segments.{csi_event, events_of_within}
use Rattle.esc_frame.specs.Segments.Opener.{Long}
use Rattle.esc_frame.specs.Segments.Segment.{Csi}
use Rattle.esc_frame.proofs.Emits.SequencesSay.{body_of, body_strip}
use Rattle.esc_segments.specs.declared.kind.SegmentKind.TheVariants as kinds
use Rattle.esc_actions.specs.Values.{Value, csi}
use Rattle.esc_write.specs.Plain.{IsPlain, last_text}
use Rattle.esc_filter.specs.Lines.{IsShortRendition}
use Rattle.esc_filter.specs.Rules.{is_plain_param, is_rendition}
use Rattle.esc_filter.specs.declared.guard.Guard.{Guard}
use Rattle.esc_filter.proofs.GivingBack.RenditionsAfterSequence.{large_unnamed}
use Rattle.esc_filter.proofs.Renditions.SequencesFromParameters.{renditions_pass}
use Rattle.esc_account.specs.Passing.{IsPassedSequence}
use Rattle.esc_account.specs.Rules.{rule_of, verdict_on}
use Rattle.esc_account.proofs.Fates.FateOfSequence.{one_reading, passed_is}
use Rattle.esc_account.proofs.Segments.SequencesWithoutNoise.{parameters_are, parameters_form}
use Rattle.esc_account.proofs.Segments.ShortSequenceEvent.{no_executes, one_event}

-- ---- numbers

digit_parameter : (b : ℕ) → is_digit b ≡ true → is_csi_parameter b ≡ true
digit_parameter b h = grind (arith, nat_tests)

small : (n : ℕ) → n < 1000 → n < 2 ^ 64
small n h = omega (arith, h)

number_bytes : (n : ℕ) → n < 1000 → list_all is_csi_parameter (decimal n) ≡ true
number_bytes n h = number_all is_csi_parameter digit_parameter n (small n h)

number_params : (n : ℕ) → n < 1000 → csi_params (decimal n) ≡ Integer (pos n) ∷ []
number_params n h =
    let same : capped_at_i64 n ≡ n = omega (arith, h) in
    ap csi_params (sym (append-nil (decimal n)))
    ∙ subst (λ k. csi_params (decimal k ++ []) ≡ Integer (pos k) ∷ []) same (number_is n [] refl)

number_text : (n : ℕ) → csi_text (unspecified (Integer (pos n) ∷ []) false 0x6d)
    ≡ 0x1b ∷ 0x5b ∷ last_text n 0x6d
number_text n =
    ap (λ t. 0x1b ∷ 0x5b ∷ (t ++ encode_utf8 0x6d)) (append-nil (decimal n))
    ∙ ap (λ t. 0x1b ∷ 0x5b ∷ (decimal n ++ t)) (encode_ascii 0x6d (lit≤ tt))

-- ---- a sequence of this body, of these parameters

dispatched : (y : List ℕ) (es : List CsiParam) → csi_params y ≡ es → length es ≤ 256
    → csi_event y 0x6d ≡ CsiDispatch es false 0x6d
unfolding kept_csi_params has_more_csi_params
dispatched y es is few =
    let more : nat_lt 256 (length es) ≡ false = grind (arith, nat_tests) in
    rw (is, take_all 256 es few, more) refl

event_is : (limit : ℕ) (y : List ℕ) (es : List CsiParam)
    → list_all is_csi_parameter y ≡ true → csi_params y ≡ es → length es ≤ 256
    → events_of_within (Some limit) (Csi (Long []) y 0x6d) true ≡ CsiDispatch es false 0x6d ∷ []
event_is limit y es bytes is few =
    let body = parameters_are y bytes in
    let event : events_of_within (Some limit) (Csi (Long []) y 0x6d) true ≡ csi_event y 0x6d ∷ [] =
    rw (no_executes y body, body_strip y (body_of y body))
    (one_event y 0x6d (is_csi_body y) (parameters_form y bytes)) in
    event ∙ ap (λ e. e ∷ []) (dispatched y es is few)

module _ {A : Type 0} (l : Bool) (u : Guard) (limit : ℕ) (admits : Value A → Bool)
    (pass : (c : CsiValue) → is_rendition c ≡ true → admits (csi c) ≡ true) where
  each_passes : (cs : List CsiValue) → list_all is_rendition cs ≡ true
      → list_all (λ c. admits (csi c)) cs ≡ true
  each_passes [] h = refl
  each_passes (c ∷ cs) h =
      let q = and_parts (is_rendition c) (list_all is_rendition cs) h in
      rw (pass c q.0, each_passes cs q.1) refl

  body_passes : (y : List ℕ) (es : List CsiParam) → list_all is_csi_parameter y ≡ true
      → csi_params y ≡ es → length es ≤ 256 → list_all is_plain_param es ≡ true
      → IsPlain es false 0x6d
      → csi_text (unspecified es false 0x6d) ≡ 0x1b ∷ 0x5b ∷ (y ++ 0x6d ∷ [])
      → IsPassedSequence (rule_of l u limit admits) (0x1b ∷ 0x5b ∷ (y ++ 0x6d ∷ []))
  body_passes y es bytes is few plain form text =
      let whole = 0x1b ∷ 0x5b ∷ (y ++ 0x6d ∷ []) in
      let all : list_all (λ c. admits (csi c)) (csi_of es false 0x6d) ≡ true =
      each_passes (csi_of es false 0x6d) (renditions_pass es 0x6d refl plain) in
      record {
        rest = y ++ 0x6d ∷ [];
        final = 0x6d;
        whole = refl;
        sequence = record {
          body = y;
          whole = refl;
          each = parameters_are y bytes;
          form = parameters_form y bytes;
          low = lit≤ tt;
          high = lit≤ tt;
        };
        passes = λ b.
            ap (verdict_on l u admits b kinds.Csi whole)
            (one_reading limit (Csi (Long []) y 0x6d) true es 0x6d
            (event_is limit y es bytes is few))
            ∙ passed_is u admits b whole l es 0x6d form text all;
      }

  -- one of one number
  lone : (n : ℕ) → n < 1000
      → IsPassedSequence (rule_of l u limit admits) (0x1b ∷ 0x5b ∷ last_text n 0x6d)
  lone n h =
      body_passes (decimal n) (Integer (pos n) ∷ []) (number_bytes n h) (number_params n h)
      (omega arith) refl (inl (pos n, refl)) (number_text n)

  -- a colour of the palette
  indexed : (k n : ℕ) (t : List ℕ) → 24 < k → n < 1000 → decimal k ≡ t
      → list_all is_csi_parameter (t ++ 0x3b ∷ 0x35 ∷ 0x3b ∷ decimal n) ≡ true
      → csi_params (t ++ 0x3b ∷ 0x35 ∷ 0x3b ∷ decimal n)
      ≡ Integer (pos k) ∷ P 0x3b ∷ Integer (pos 5) ∷ P 0x3b ∷ Integer (pos n) ∷ []
      → IsPassedSequence (rule_of l u limit admits)
      (0x1b ∷ 0x5b ∷ ((t ++ 0x3b ∷ 0x35 ∷ 0x3b ∷ decimal n) ++ 0x6d ∷ []))
  indexed k n t high h first bytes is =
      let es = P 0x3b ∷ Integer (pos 5) ∷ P 0x3b ∷ Integer (pos n) ∷ [] in
      body_passes (t ++ 0x3b ∷ 0x35 ∷ 0x3b ∷ decimal n) (Integer (pos k) ∷ es) bytes is
      (omega arith) refl (inr (large_unnamed k es high)) text
    where
      text : csi_text (unspecified (Integer (pos k) ∷ P 0x3b ∷ Integer (pos 5) ∷ P 0x3b
          ∷ Integer (pos n) ∷ []) false 0x6d)
          ≡ 0x1b ∷ 0x5b ∷ ((t ++ 0x3b ∷ 0x35 ∷ 0x3b ∷ decimal n) ++ 0x6d ∷ [])
      text =
          rw (
            first,
            decimal_one 5 (lit≤ tt),
            encode_ascii 0x3b (lit≤ tt),
            encode_ascii 0x6d (lit≤ tt),
            append-nil (decimal n),
          ) refl

  colour : (n : ℕ) → n < 1000 → IsPassedSequence (rule_of l u limit admits)
      (0x1b ∷ 0x5b ∷ (codes "38;5;" ++ last_text n 0x6d))
  colour n h =
      indexed 38 n (0x33 ∷ 0x38 ∷ []) (lit≤ tt) h (decimal_two 38 (lit≤ tt) (lit≤ tt))
      (number_bytes n h)
      (ap (λ z. Integer (pos 38) ∷ P 0x3b ∷ Integer (pos 5) ∷ P 0x3b ∷ z) (number_params n h))

  ground : (n : ℕ) → n < 1000 → IsPassedSequence (rule_of l u limit admits)
      (0x1b ∷ 0x5b ∷ (codes "48;5;" ++ last_text n 0x6d))
  ground n h =
      indexed 48 n (0x34 ∷ 0x38 ∷ []) (lit≤ tt) h (decimal_two 48 (lit≤ tt) (lit≤ tt))
      (number_bytes n h)
      (ap (λ z. Integer (pos 48) ∷ P 0x3b ∷ Integer (pos 5) ∷ P 0x3b ∷ z) (number_params n h))

  pub rendition_passes : (x : List ℕ) (b : Bool) → IsShortRendition x b
      → IsPassedSequence (rule_of l u limit admits) x
  rendition_passes x b (y, inl (whole, (n, few, is, on))) =
      subst (IsPassedSequence (rule_of l u limit admits))
      (sym (whole ∙ ap (λ z. 0x1b ∷ 0x5b ∷ z) is)) (lone n few)
  rendition_passes x b (y, inr (inl whole, on, (c, (n, few, is, lit)))) =
      subst (IsPassedSequence (rule_of l u limit admits))
      (sym (whole ∙ ap (λ z. 0x1b ∷ 0x5b ∷ (codes "38;5;" ++ z)) is)) (colour n few)
  rendition_passes x b (y, inr (inr whole, on, (c, (n, few, is, lit)))) =
      subst (IsPassedSequence (rule_of l u limit admits))
      (sym (whole ∙ ap (λ z. 0x1b ∷ 0x5b ∷ (codes "48;5;" ++ z)) is)) (ground n few)
