-- Control sequences without noise after `ESC [`, and what becomes of them.
use Rattle.std.proofs.Common.{ℕ, zero, suc, ◌≡◌, ◌+◌, ◌<◌, ◌≤◌, ◌==◌, Bool, true, false, not, cond, List, [], ◌∷◌, length, take, drop, get_or, Option, Some, refl, sym, ap, ◌∙◌, subst, arith}
use Rattle.std.proofs.lemmas.Bool.{and_parts}
use Rattle.std.proofs.lemmas.Bool.Decides.{nat_tests}
use Rattle.std.proofs.Math.Seq.{take-suc}
use Rattle.std.specs.List.{list_all, prefix_len}
use Rattle.esc_values.specs.Params.{after_private_prefix, drop_while, is_csi_body, is_csi_parameter, is_private_prefix}
use Rattle.esc_values.specs.declared.csi_param.CsiParam.{CsiParam}
use Rattle.esc_sequences.specs.Csis.{CsiValue, unspecified}
use Rattle.esc_frame.specs.Bodies.{has_more_csi_params, kept_csi_params}
use Rattle.esc_frame.specs.Scans.{is_body_byte}
use Rattle.esc_frame.specs.Segments.{Segment as Shape, AreSegments, bytes_of, csi_event, events_of_within, is_finished, joined_bytes}
use Rattle.esc_frame.specs.Segments.Opener.{Long}
use Rattle.esc_frame.specs.Segments.Segment.{Csi}
use Rattle.esc_frame.proofs.Emits.SequencesSay.{body_of, body_strip}
use Rattle.esc_segments.specs.Items.{kind_of}
use Rattle.esc_segments.specs.declared.kind.SegmentKind.TheVariants as kinds
use Rattle.esc_actions.specs.Meaning.{values_from}
use Rattle.esc_actions.specs.Readings.{reading_within}
use Rattle.esc_actions.specs.Values.{Value, csi, plain}
use Rattle.esc_actions.specs.Writable.{is_truncated}
use Rattle.esc_filter.specs.Rules.{is_rendition}
use Rattle.esc_filter.specs.declared.guard.Guard.{Guard}
use Rattle.esc_account.specs.AtOnce.{IsOther, IsSequence}
use Rattle.esc_account.specs.Leaving.{IsLeftOut}
use Rattle.esc_account.specs.Rules.{left_as, rule_of, verdict_on}
use Rattle.esc_account.proofs.Segments.EscapeEndsSegment.{first_shape}
use Rattle.esc_account.proofs.Segments.ShortSequenceEvent.{no_executes, one_event, shape_is}

-- ---- the body of a control sequence

parameter_is : (b : ℕ) → is_csi_parameter b ≡ true
    → (is_body_byte b ≡ true) × (is_private_prefix b ≡ false)
parameter_is b h = (grind (arith, nat_tests), grind (arith, nat_tests))

prefix_is : (b : ℕ) → is_private_prefix b ≡ true → is_body_byte b ≡ true
prefix_is b h = grind (arith, nat_tests)

pub parameters_are : (x : List ℕ) → list_all is_csi_parameter x ≡ true
    → list_all is_body_byte x ≡ true
parameters_are [] h = refl
parameters_are (b ∷ x) h =
    let p = and_parts (is_csi_parameter b) (list_all is_csi_parameter x) h in
    rw ((parameter_is b p.0).0, parameters_are x p.1) refl

none_more : (n : ℕ) → n ≡ 0 + n
none_more n = omega arith

one_more : (n : ℕ) → 1 + n ≡ suc n
one_more n = omega arith

none_left : (x : List ℕ) → list_all is_csi_parameter x ≡ true
    → drop_while is_csi_parameter x ≡ []
none_left [] h = refl
none_left (b ∷ x) h =
    let p = and_parts (is_csi_parameter b) (list_all is_csi_parameter x) h in
    ap (λ t. drop (cond t (1 + prefix_len is_csi_parameter x) 0) (b ∷ x)) p.0
    ∙ ap (λ n. drop n (b ∷ x)) (one_more (prefix_len is_csi_parameter x))
    ∙ none_left x p.1

no_prefix : (x : List ℕ) → list_all is_csi_parameter x ≡ true → after_private_prefix x ≡ x
no_prefix [] h = refl
no_prefix (b ∷ x) h =
    let p = and_parts (is_csi_parameter b) (list_all is_csi_parameter x) h in
    rw (parameter_is b p.0).1 refl

pub parameters_form : (x : List ℕ) → list_all is_csi_parameter x ≡ true → is_csi_body x ≡ true
unfolding is_csi_body
parameters_form x h = rw (no_prefix x h, none_left x h) refl

prefix_form : (b : ℕ) (x : List ℕ) → is_private_prefix b ≡ true
    → list_all is_csi_parameter x ≡ true → is_csi_body (b ∷ x) ≡ true
unfolding is_csi_body
prefix_form b x e h = rw (e, none_left x h) refl

-- a private prefix, or none, and then parameter bytes
pub body_is : (m n : ℕ) (s : List ℕ) → m ≤ 1 → m ≤ length s
    → (0 < m → is_private_prefix (get_or s 0 0) ≡ true)
    → list_all is_csi_parameter (take n (drop m s)) ≡ true
    → (list_all is_body_byte (take (m + n) s) ≡ true) × (is_csi_body (take (m + n) s) ≡ true)
body_is zero n s one few p h =
    subst (λ k. (list_all is_body_byte (take k s) ≡ true) × (is_csi_body (take k s) ≡ true))
    (none_more n) (parameters_are (take n s) h, parameters_form (take n s) h)
body_is (suc zero) n [] one few p h = absurd (omega (arith, few))
body_is (suc zero) n (b ∷ s) one few p h =
    let own : is_private_prefix b ≡ true = p (omega arith) in
    subst (λ k. (list_all is_body_byte (take k (b ∷ s)) ≡ true)
    × (is_csi_body (take k (b ∷ s)) ≡ true)) (sym (one_more n)) (
      rw (prefix_is b own, parameters_are (take n s) h) refl,
      prefix_form b (take n s) own h,
    )
body_is (suc (suc m)) n s one few p h = absurd (omega (arith, one))

-- and a final byte
pub sequence_is : (n : ℕ) (s : List ℕ) → n < length s → list_all is_body_byte (take n s) ≡ true
    → is_csi_body (take n s) ≡ true → 0x40 ≤ get_or s n 0 → get_or s n 0 ≤ 0x7e
    → IsSequence (take (n + 1) s) (get_or s n 0)
sequence_is n s few each form low high = record {
  body = take n s;
  whole = ap (λ k. take k s) (one_last n) ∙ take-suc s n 0 few;
  each = each;
  form = form;
  low = low;
  high = high;
}
  where
    one_last : (n : ℕ) → n + 1 ≡ suc n
    one_last n = omega arith

-- ---- its verdict

module _ {A : Type 0} (u : Guard) (limit : ℕ) (admits : Value A → Bool) (b : Option ℕ) where
  left_by : (l t : Bool) (bytes : List ℕ) (c : CsiValue) → is_truncated c ≡ t
      → admits (csi c) ≡ false
      → verdict_on l u admits b kinds.Csi bytes (csi c ∷ []) ≡ left_as b
  left_by true true bytes c e h = rw e refl
  left_by true false bytes c e h = rw (e, h) refl
  left_by false true bytes c e h = rw e refl
  left_by false false bytes c e h = rw (e, h) refl

  csi_reading : (x : List ℕ) (f : ℕ) (finished : Bool) → list_all is_body_byte x ≡ true
      → is_csi_body x ≡ true → (f == 0x6d) ≡ false
      → reading_within {A = A} (Some limit) (Csi (Long []) x f) finished
      ≡ csi (unspecified (kept_csi_params x) (has_more_csi_params x) f) ∷ []
  csi_reading x f finished body form other =
      let event : events_of_within (Some limit) (Csi (Long []) x f) finished ≡ csi_event x f ∷ [] =
      rw (no_executes x body, body_strip x (body_of x body))
      (one_event x f (is_csi_body x) form) in
      ap (values_from (Some limit) plain) event ∙ rw other refl

  no_rendition : (es : List CsiParam) (more : Bool) (f : ℕ) → (f == 0x6d) ≡ false
      → is_rendition (unspecified es more f) ≡ false
  no_rendition es more f other = rw other refl

  left_one : (l : Bool) (x : List ℕ) (f : ℕ) (finished : Bool) → list_all is_body_byte x ≡ true
      → is_csi_body x ≡ true → (f == 0x6d) ≡ false
      → ((c : CsiValue) → is_rendition c ≡ false → admits (csi c) ≡ false)
      → rule_of l u limit admits b (Csi (Long []) x f) finished ≡ left_as b
  left_one l x f finished body form other stays =
      let c = unspecified (kept_csi_params x) (has_more_csi_params x) f in
      ap (verdict_on l u admits b kinds.Csi (bytes_of (Csi (Long []) x f)))
      (csi_reading x f finished body form other)
      ∙ left_by l (is_truncated c) (bytes_of (Csi (Long []) x f)) c refl
      (stays c (no_rendition (kept_csi_params x) (has_more_csi_params x) f other))

  -- it stays, where nothing passes but renditions
  pub sequence_left : (l : Bool) (g : Shape) (gs : List Shape) (s : List ℕ) → AreSegments (g ∷ gs)
      → kind_of g ≡ kinds.Csi → s ≡ bytes_of g → IsOther s
      → ((c : CsiValue) → is_rendition c ≡ false → admits (csi c) ≡ false)
      → left_as b ≡ rule_of l u limit admits b g (is_finished g (joined_bytes gs))
  sequence_left l g gs s each kind same (y, f, e, q, other) stays =
      let finished = is_finished g (joined_bytes gs) in
      let is : g ≡ Csi (Long []) q.body f =
      shape_is q.body f g (joined_bytes gs) (first_shape g gs each) kind
      (sym same ∙ e ∙ ap (λ v. 0x1b ∷ 0x5b ∷ v) q.whole) in
      sym (ap (λ h. rule_of l u limit admits b h finished) is
      ∙ left_one l q.body f finished q.each q.form other stays)

-- and so do such bytes
pub left_out : {A : Type 0} (l : Bool) (u : Guard) (limit : ℕ) (admits : Value A → Bool)
    (s : List ℕ) → IsOther s
    → ((c : CsiValue) → is_rendition c ≡ false → admits (csi c) ≡ false)
    → IsLeftOut (rule_of l u limit admits) s
left_out l u limit admits s (y, f, e, q, other) stays = record {
  rest = y;
  final = f;
  whole = e;
  sequence = q;
  leaves = λ b. left_one u limit admits b l q.body f true q.each q.form other stays;
}

pub not_false : (b : Bool) → not b ≡ false → b ≡ true
not_false true h = refl
not_false false h = absurd cc
