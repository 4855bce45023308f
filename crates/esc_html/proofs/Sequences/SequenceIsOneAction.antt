-- A control sequence that is taken from its parameters, as one action.
use Rattle.std.proofs.Common.{ℕ, ◌≡◌, Bool, true, false, List, [], ◌∷◌, Result, Ok, Err, OnErr, refl, sym, subst, inl, inr}
use Rattle.std.specs.List.{FoldsTo}
use Rattle.esc_actions.specs.Values.{csi, value_of}
use Rattle.esc_actions.specs.declared.action.Action.{Action}
use Rattle.esc_actions.specs.declared.action.Action.TheVariants as action
use Rattle.esc_html.specs.Fed.{Adds, Takes, state_of}
use Rattle.esc_html.specs.Marks.{Pen, function_step, restyles}
use Rattle.esc_html.specs.Renditions.{rendition_of}
use Rattle.esc_html.specs.declared.page.Page.{Page}
use Rattle.esc_style.specs.Looks.{look_by}
use Rattle.esc_parse.specs.Given.{By, StopsAt}
use Rattle.esc_sequences.specs.Csis.{CsiValue, sgr, unspecified}
use Rattle.esc_sequences.specs.declared.csi.CSI.TheVariants as csi_variant
use Rattle.esc_sequences.specs.declared.intensity.Intensity.TheVariants as intensity
use Rattle.esc_sequences.specs.declared.sgr.Sgr.{Sgr}
use Rattle.esc_sequences.specs.declared.sgr.Sgr.TheVariants as known
use Rattle.esc_sequences.specs.declared.underline.Underline.TheVariants as underline
use Rattle.typed_functions.specs.Functions.{of_csi}
use Rattle.esc_values.specs.declared.csi_param.CsiParam.{CsiParam}
use Rattle.fallible_alloc.specs.Refusals.{Refused}

-- the action is this control sequence
abbrev pub IsSequence : {A : Type 0} → Action A → CsiValue → Type 0
IsSequence a c = value_of a ≡ csi c

-- the effect of such an action
abbrev pub AddsFor : {A : Type 0} → Page A → CsiValue → Page A → Type 0
AddsFor p v q = Adds p (function_step (state_of p).pen (of_csi v)) q

abbrev pub Denies : {A : Type 0} → Page A → Action A → Page A → Type 0
Denies {A} p a q = Refused A

pub rendition_taken : {A : Type 0} (p q : Page A) (vs : List CsiValue) (s : Sgr)
    → vs ≡ sgr s ∷ [] → AddsFor p (sgr s) q → FoldsTo (By IsSequence Takes) p vs q
rendition_taken p q vs s e w =
    subst (λ us. FoldsTo (By IsSequence Takes) p us q) (sym e)
    (q, (action.CSI (csi_variant.Sgr s), refl, w), refl)

pub sequence_taken : {A : Type 0} (p q : Page A) (vs : List CsiValue) (es : List CsiParam)
    (more : Bool) (f : ℕ) → vs ≡ unspecified es more f ∷ [] → AddsFor p (unspecified es more f) q
    → FoldsTo (By IsSequence Takes) p vs q
sequence_taken p q vs es more f e w =
    subst (λ us. FoldsTo (By IsSequence Takes) p us q) (sym e) (
      q,
      (
        action.CSI (csi_variant.Unspecified (record {
          params = es;
          parameters_truncated = more;
          control = f;
        })),
        refl,
        w,
      ),
      refl,
    )

pub rendition_refused : {A : Type 0} (p q : Page A) (vs : List CsiValue) (s : Sgr)
    → vs ≡ sgr s ∷ [] → Refused A → StopsAt ⊥ (By IsSequence Takes) (By IsSequence Denies) p vs q
rendition_refused p q vs s e r =
    subst (λ us. StopsAt ⊥ (By IsSequence Takes) (By IsSequence Denies) p us q) (sym e)
    (inr (inl (action.CSI (csi_variant.Sgr s), refl, r)))

pub sequence_refused : {A : Type 0} (p q : Page A) (vs : List CsiValue) (es : List CsiParam)
    (more : Bool) (f : ℕ) → vs ≡ unspecified es more f ∷ [] → Refused A
    → StopsAt ⊥ (By IsSequence Takes) (By IsSequence Denies) p vs q
sequence_refused p q vs es more f e r =
    subst (λ us. StopsAt ⊥ (By IsSequence Takes) (By IsSequence Denies) p us q) (sym e)
    (inr (inl (
      action.CSI (csi_variant.Unspecified (record {
        params = es;
        parameters_truncated = more;
        control = f;
      })),
      refl,
      r,
    )))

-- a rendition by itself has the effect of a sequence of all
pub same_rendition : (p : Pen) (s : Sgr)
    → restyles (look_by p.look (rendition_of s)) ≡ function_step p (of_csi (sgr s))
same_rendition p known.Reset = refl
same_rendition p (known.Intensity intensity.Bold) = refl
same_rendition p (known.Intensity intensity.Half) = refl
same_rendition p (known.Intensity intensity.Normal) = refl
same_rendition p (known.Italic true) = refl
same_rendition p (known.Italic false) = refl
same_rendition p (known.Underline underline.None) = refl
same_rendition p (known.Underline underline.Single) = refl
same_rendition p (known.Underline underline.Double) = refl
same_rendition p (known.Underline underline.Curly) = refl
same_rendition p (known.Underline underline.Dotted) = refl
same_rendition p (known.Underline underline.Dashed) = refl

pub on_err : {T E : Type 0} (X : Type 0) (r : Result T E) → X → OnErr r X
on_err X (Ok x) h = tt
on_err X (Err e) h = h
