-- A text is given actions that are not kept.
use Rattle.std.proofs.Common.{◌≡◌, ℕ, Bool, true, false, List, [], ◌∷◌, ◌++◌}
use Rattle.std.proofs.Common.{MatchResult, Result, Ok, Err, refl, ap, sym, ◌∙◌, subst, inl, inr}
use Rattle.std.proofs.Common.{append_assoc}
use Rattle.std.proofs.lemmas.List.{append-nil}
use Rattle.std.specs.List.{FoldsTo}
use Rattle.esc_sequences.specs.Csis.{CsiValue, csi_of, csi_text, csi_value, unspecified}
use Rattle.esc_sequences.specs.declared.csi.CSI.{CSI}
use Rattle.esc_sequences.specs.declared.csi.CSI.TheVariants as csi_variant
use Rattle.esc_values.specs.declared.csi_param.CsiParam.{CsiParam}
use Rattle.esc_osc.specs.Commands.{command_text}
use Rattle.esc_osc.specs.Reading.{meaning as command_meant}
use Rattle.std.specs.List.{list_all}
use Rattle.std.proofs.lemmas.Bool.{and_parts}
use Rattle.esc_actions.specs.Texts.{has_text, is_string, text_after, texts_after}
use Rattle.esc_actions.specs.Values.{Value, csi, osc, value_of}
use Rattle.esc_actions.specs.declared.action.Action.{Action}
use Rattle.esc_actions.specs.declared.action.Action.TheVariants as action
use Rattle.esc_write.specs.Plain.{IsPlain}
use Rattle.esc_parse.specs.Given.{At, By, StopsAt as StopsGiven}
use Rattle.esc_normal.proofs.LoneNumbers.{lone_number}
use Rattle.esc_normal.specs.Spelled.{Adds, Denies}
use Rattle.esc_normal.specs.declared.spell.TextSink.{TextSink}
use Rattle.fallible_alloc.specs.Refusals.{Refused}

-- the statement that a result makes
pub match_both : {E : Type 0} (X Y P Q : Type 0) (r : Result (Unit {0}) E) → (X → Y) → (P → Q)
    → MatchResult r (λ _. X) (λ _. P)
    → MatchResult r (λ _. Y) (λ _. Q)
match_both X Y P Q (Ok t) f k h = f h
match_both X Y P Q (Err e) f k h = k h

-- a control sequence whose text is the text of its parameters is one value of this text
plain_value : {A : Type 0} (es : List CsiParam) (more : Bool) (f : ℕ) → IsPlain es more f
    → (c : CSI A) × (csi_of es more f ≡ csi_value c ∷ [])
    × (csi_text (csi_value c) ≡ csi_text (unspecified es more f))
plain_value {A} es more f (inl (n, is)) =
    let l = lone_number {A = A} n more f in (
      l.0,
      ap (λ ps. csi_of ps more f) is ∙ l.1,
      l.2
          ∙ sym (ap (λ ps. csi_text (unspecified ps more f)) is),
    )
plain_value es more f (inr one) = (
  csi_variant.Unspecified (record { params = es; parameters_truncated = more; control = f }),
  one,
  refl,
)

-- the action is this control sequence
abbrev pub IsSequence : {A : Type 0} → Action A → CsiValue → Type 0
IsSequence a c = value_of a ≡ csi c

pub plain_given : {A : Type 0} (p q : TextSink A) (es : List CsiParam) (more : Bool) (f : ℕ)
    → IsPlain es more f
    → (q.text ≡ p.text ++ csi_text (unspecified es more f)) × (q.follows_string ≡ false)
    → FoldsTo (By IsSequence Adds) p (csi_of es more f) q
plain_given {A} p q es more f plain w =
    let v = plain_value {A = A} es more f plain in
    subst (λ vs. FoldsTo (By IsSequence Adds) p vs q) (sym v.1)
    (q, (action.CSI v.0, refl, (w.0 ∙ ap (λ t. p.text ++ t) (sym v.2), w.1)), refl)

pub plain_refused : {A : Type 0} (own : Type 0) (p q : TextSink A) (es : List CsiParam)
    (more : Bool)
    (f : ℕ) → IsPlain es more f
    → Refused A → StopsGiven own (By IsSequence Adds) (By IsSequence Denies) p (csi_of es more f) q
plain_refused {A} own p q es more f plain r =
    let v = plain_value {A = A} es more f plain in
    subst (λ vs. StopsGiven own (By IsSequence Adds) (By IsSequence Denies) p vs q) (sym v.1)
    (inr (inl (action.CSI v.0, refl, λ _. r)))

-- the action is the command that these parts mean
abbrev pub IsCommand : {A : Type 0} → Action A → List (List ℕ) → Type 0
IsCommand a ps = value_of a ≡ osc (command_meant ps)

pub command_given : {A : Type 0} (p q : TextSink A) (ps : List (List ℕ))
    → (q.text ≡ p.text ++ command_text (command_meant {A = A} ps)) × (q.follows_string ≡ true)
    → FoldsTo (By IsCommand Adds) p (ps ∷ []) q
command_given p q ps w = (q, (action.OperatingSystemCommand (command_meant ps), refl, w), refl)

pub command_refused : {A : Type 0} (own : Type 0) (p q : TextSink A) (ps : List (List ℕ))
    → Refused A
    → StopsGiven own (By IsCommand Adds) (By IsCommand Denies) p (ps ∷ []) q
command_refused {A} own p q ps r =
    inr (inl (action.OperatingSystemCommand (command_meant ps), refl, λ _. r))

-- the values that a text was given
pub spells : {A : Type 0} (p : TextSink A) (vs : List (Value A)) (q : TextSink A)
    → FoldsTo (At value_of (λ p a q. (q.text ≡ p.text ++ text_after p.follows_string (value_of a))
    × (q.follows_string ≡ is_string (value_of a)))) p vs q
    → q.text ≡ p.text ++ texts_after p.follows_string vs
spells p [] q e = ap (λ x. x.text) (sym e) ∙ sym (append-nil p.text)
spells p (v ∷ vs) q (j, (a, is, w), rest) =
    spells j vs q rest
    ∙ ap (λ l. l ++ texts_after j.follows_string vs)
    (w.0 ∙ ap (λ x. p.text ++ text_after p.follows_string x) is)
    ∙ append_assoc p.text (text_after p.follows_string v) (texts_after j.follows_string vs)
    ∙ ap (λ b. p.text ++ (text_after p.follows_string v ++ texts_after b vs))
    (w.1 ∙ ap is_string is)

-- if a sink refuses an action that has a text only for want of memory, it stops for that alone
module _ {S A : Type 0} (R : S → Value A → S → Type 0) (own : Type 0) where
  abbrev DeniesIt : S → Action A → S → Type 0
  DeniesIt p a q = has_text (value_of a) ≡ true → Refused A

  pub stops_denied : (p : S) (vs : List (Value A)) (q : S) → list_all has_text vs ≡ true
      → StopsGiven (own × Refused A) R (At value_of DeniesIt) p vs q → Refused A
  stops_denied p [] q h e = e.0.1
  stops_denied p (v ∷ vs) q h (inl e) = e.0.1
  stops_denied p (v ∷ vs) q h (inr (inl (a, is, denied))) =
      denied (ap has_text is ∙ (and_parts (has_text v) (list_all has_text vs) h).0)
  stops_denied p (v ∷ vs) q h (inr (inr (mid, t, rest))) =
      stops_denied mid vs q (and_parts (has_text v) (list_all has_text vs) h).1 rest
