-- The fate of a control sequence by the values that a policy admits.
use Rattle.std.proofs.Common.{ℕ, ◌≡◌, ◌+◌, ◌/◌, ◌%◌, ◌<◌, ◌≤◌, take, drop, Bool, true, false, not, ◌&&◌, ◌||◌, ◌==◌, List, [], ◌∷◌, ◌++◌, map, bytes_eq, Option, None, Some, IfSome, inl, inr, refl, ap, sym, ◌∙◌, subst, append-nil}
use Rattle.std.specs.List.{list_all, list_any}
use Rattle.std.proofs.lemmas.Slice.Eq.{bytes_eq-Decides}
use Rattle.std.proofs.lemmas.List.{take-append-drop}
use Rattle.esc_values.proofs.Numbers.AtMostThreeDigits.{decimal_one, decimal_two}
use Rattle.esc_values.specs.declared.csi_param.CsiParam.{CsiParam}
use Rattle.esc_sequences.specs.Csis.{CsiValue, csi_of, csi_text, csi_value, unspecified}
use Rattle.esc_sequences.specs.declared.csi.CSI.{CSI}
use Rattle.esc_sequences.specs.declared.csi.CSI.TheVariants as csi_variant
use Rattle.esc_frame.specs.Events.Event.{CsiDispatch}
use Rattle.esc_frame.specs.Segments.{Segment as Shape, AreSegments, bytes_of, events_of, events_of_within, is_finished, joined_bytes}
use Rattle.esc_segments.specs.Items.{kind_of}
use Rattle.esc_segments.specs.declared.kind.SegmentKind.{SegmentKind}
use Rattle.esc_segments.specs.declared.kind.SegmentKind.TheVariants as kinds
use Rattle.esc_actions.specs.Meaning.{values_from}
use Rattle.esc_actions.specs.Readings.{reading_within}
use Rattle.esc_actions.specs.Texts.{list_text}
use Rattle.esc_actions.specs.Values.{Value, csi, plain}
use Rattle.esc_actions.specs.Writable.{is_truncated}
use Rattle.esc_normal.proofs.LoneNumbers.{lone_number}
use Rattle.esc_write.specs.Plain.{IsPlain, indexed_text, last_text}
use Rattle.esc_filter.specs.declared.guard.Guard.{Guard}
use Rattle.esc_filter.proofs.Renditions.SequencesFromParameters.{each_whole, nameless}
use Rattle.esc_account.specs.Passing.{passed_as}
use Rattle.esc_account.specs.Rules.{left_as, rule_of, verdict_on}
use Rattle.esc_account.specs.Short.{IsShort}
use Rattle.esc_account.specs.declared.verdict.Verdict.{Verdict}
use Rattle.esc_account.proofs.Fates.FateByPolicy.{same_verdict}
use Rattle.esc_account.proofs.Segments.EscapeEndsSegment.{first_shape}
use Rattle.esc_account.proofs.Segments.ShortHasNoLimit.{same_events}

-- a control sequence whose text is that of its parameters is one value of this text
plain_value : {A : Type 0} (es : List CsiParam) (f : ℕ) → IsPlain es false f
    → (c : CSI A) × (csi_of es false f ≡ csi_value c ∷ [])
    × (csi_text (csi_value c) ≡ csi_text (unspecified es false f))
plain_value {A} es f (inl (n, is)) =
    let l = lone_number {A = A} n false f in (
      l.0,
      ap (λ ps. csi_of ps false f) is ∙ l.1,
      l.2 ∙ sym (ap (λ ps. csi_text (unspecified ps false f)) is),
    )
plain_value es f (inr one) = (
  csi_variant.Unspecified (record { params = es; parameters_truncated = false; control = f }),
  one,
  refl,
)

first_false : (x : Bool) → (x || false) ≡ false → x ≡ false
first_false true h = h
first_false false h = refl

first_true : (x : Bool) → (x && true) ≡ true → x ≡ true
first_true true h = refl
first_true false h = h

not_true : (x : Bool) → (not x && true) ≡ true → x ≡ false
not_true true h = absurd cc
not_true false h = refl

module _ {A : Type 0} (u : Guard) (admits : Value A → Bool) (b : Option ℕ) (bytes : List ℕ) where
  abbrev On : Bool → List CsiValue → Verdict
  On l cs = verdict_on l u admits b kinds.Csi bytes (map csi cs)

  left_by : (l : Bool) (c : CsiValue) → is_truncated c ≡ false → admits (csi c) ≡ false
      → On l (c ∷ []) ≡ left_as b
  left_by true c e h = rw (e, h) refl
  left_by false c e h = rw (e, h) refl

  passed_by : (l : Bool) (c : CsiValue) → is_truncated c ≡ false → admits (csi c) ≡ true
      → list_text {A = A} (csi c ∷ []) ≡ bytes → bytes_eq bytes bytes ≡ true
      → On l (c ∷ []) ≡ passed_as None
  passed_by true c e h t s = rw (e, h, t, s) refl
  passed_by false c e h t s = rw (e, h, t, s) refl

  -- one that does not pass, and is no rendition
  pub left_is : (l : Bool) (es : List CsiParam) (f : ℕ) → (f == 0x6d) ≡ false
      → list_any (λ c. admits (csi c)) (csi_of es false f) ≡ false
      → On l (csi_of es false f) ≡ left_as b
  left_is l es f other none =
      let one = nameless es f other in
      let v = unspecified es false f in
      let h : admits (csi v) ≡ false = first_false (admits (csi v))
      (subst (λ cs. list_any (λ c. admits (csi c)) cs ≡ false) one none) in
      ap (On l) one ∙ left_by l v refl h

  -- one that passes, and is written as it came
  pub passed_is : (l : Bool) (es : List CsiParam) (f : ℕ) → IsPlain es false f
      → csi_text (unspecified es false f) ≡ bytes
      → list_all (λ c. admits (csi c)) (csi_of es false f) ≡ true
      → On l (csi_of es false f) ≡ passed_as None
  passed_is l es f form text all =
      let p = plain_value {A = A} es f form in
      let v = csi_value p.0 in
      let h : admits (csi v) ≡ true = first_true (admits (csi v))
      (subst (λ cs. list_all (λ c. admits (csi c)) cs ≡ true) p.1 all) in
      let whole : is_truncated v ≡ false = not_true (is_truncated v)
      (subst (λ cs. list_all (λ c. not (is_truncated c)) cs ≡ true) p.1 (each_whole es f)) in
      ap (On l) p.1
      ∙ passed_by l v whole h (append-nil (csi_text v) ∙ p.2 ∙ text)
      ((bytes_eq-Decides bytes bytes).1 refl)

-- ---- the reading of such a sequence

pub one_reading : {A : Type 0} (limit : ℕ) (g : Shape) (finished : Bool) (es : List CsiParam)
    (f : ℕ) → events_of_within (Some limit) g finished ≡ CsiDispatch es false f ∷ []
    → reading_within {A = A} (Some limit) g finished ≡ map csi (csi_of es false f)
one_reading limit g finished es f e =
    ap (values_from (Some limit) plain) e ∙ append-nil (map csi (csi_of es false f))

module _ {A : Type 0} (l : Bool) (u : Guard) (admits : Value A → Bool) (b : Option ℕ) where
  pub rule_is : (limit : ℕ) (k : SegmentKind) (bytes : List ℕ) (finished : Bool) (g : Shape)
      (gs : List Shape) (es items : List CsiParam) (f : ℕ) → AreSegments (g ∷ gs)
      → k ≡ kind_of g → bytes ≡ bytes_of g → finished ≡ is_finished g (joined_bytes gs)
      → k ≡ kinds.Csi → IsShort limit k bytes
      → events_of g finished ≡ CsiDispatch items false f ∷ [] → es ≡ items
      → verdict_on l u admits b kinds.Csi bytes (map csi (csi_of es false f))
      ≡ rule_of l u limit admits b g (is_finished g (joined_bytes gs))
  rule_is limit k bytes finished g gs es items f each kind same end csi_kind short events given =
      let fit : IsShort limit (kind_of g) (bytes_of g) =
      subst (λ x. IsShort limit (kind_of g) x) same
      (subst (λ x. IsShort limit x bytes) kind short) in
      let done = is_finished g (joined_bytes gs) in
      let reading : reading_within {A = A} (Some limit) g done ≡ map csi (csi_of es false f) =
      one_reading limit g done es f
      (sym (same_events limit g (joined_bytes gs) done (first_shape g gs each) fit)
      ∙ ap (λ t. events_of g t) (sym end) ∙ events
      ∙ ap (λ x. CsiDispatch x false f ∷ []) (sym given)) in
      same_verdict l u admits b kinds.Csi (kind_of g) bytes (bytes_of g)
      (map csi (csi_of es false f)) (reading_within (Some limit) g done)
      (sym csi_kind ∙ kind) same (sym reading)

-- a result that is one value is another value that is the same
pub some_by : {T : Type 0} (o : Option T) (x y : T) → IfSome o (λ t. t ≡ x) → x ≡ y
    → IfSome o (λ t. t ≡ y)
some_by None x y h e = tt
some_by (Some t) x y h e = h ∙ e

pub some_so : {T P : Type 0} (o : Option T) (x y : T) → IfSome o (λ t. P × (t ≡ x))
    → (P → y ≡ x) → IfSome o (λ t. t ≡ y)
some_so None x y h f = tt
some_so (Some t) x y (p, e) f = e ∙ sym (f p)

-- ---- the text of a colour of the palette

pub palette_text : (a b c f : ℕ) → 10 ≤ a → a < 100 → b < 10
    → indexed_text a b c f ≡ (0x1b ∷ 0x5b ∷ (48 + a / 10) ∷ (48 + a % 10) ∷ 0x3b ∷ (48 + b)
    ∷ 0x3b ∷ []) ++ last_text c f
palette_text a b c f low high one = rw (decimal_two a low high, decimal_one b one) refl

pub headed : (n : ℕ) (s first rest head text : List ℕ) → first ≡ take n s → rest ≡ drop n s
    → first ≡ head → text ≡ rest → head ++ text ≡ s
headed n s first rest head text e f h t =
    ap (λ x. x ++ text) (sym h ∙ e) ∙ ap (λ x. take n s ++ x) (t ∙ f) ∙ take-append-drop n s
