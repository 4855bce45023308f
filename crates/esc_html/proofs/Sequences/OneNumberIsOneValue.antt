-- A control sequence of one number, or of nothing, is one value, which asks for one rendition.
use Rattle.std.specs.Prelude.{ℤ, pos, negsuc}
use Rattle.std.proofs.Common.{ℕ, ◌≡◌, ◌==◌, Bool, true, false, if◌then◌else◌, List, [], ◌∷◌, Option, Some, None, IfSome, unwrap_or, refl, ap, sym, subst, ◌∙◌}
use Rattle.std.proofs.lemmas.Bool.{eqb-true, true≢false}
use Rattle.std.proofs.lemmas.Option.{none-some, same_Some}
use Rattle.std.specs.List.{FoldsTo}
use Rattle.esc_html.proofs.Sequences.OneNumberAsks.{alone, step_is}
use Rattle.esc_html.proofs.Sequences.SequenceIsOneAction.{AddsFor, Denies, IsSequence, rendition_refused, rendition_taken, same_rendition, sequence_refused, sequence_taken}
use Rattle.esc_html.specs.Fed.{Adds, Takes, state_of}
use Rattle.esc_html.specs.Marks.{restyles}
use Rattle.esc_html.specs.Numbers.{is_whole_rendition, lone_byte}
use Rattle.esc_html.specs.Renditions.{AsksFor, rendition_by}
use Rattle.esc_html.specs.declared.renditions.Common.{Common}
use Rattle.esc_html.specs.declared.renditions.Common.TheVariants as common
use Rattle.esc_html.specs.declared.page.Page.{Page}
use Rattle.esc_parse.specs.Given.{By, StopsAt}
use Rattle.esc_sequences.specs.Csis.{CsiValue, csi_of, put_first, sgr, sgr_at, unspecified}
use Rattle.esc_sequences.specs.declared.intensity.Intensity.TheVariants as intensity
use Rattle.esc_sequences.specs.declared.sgr.Sgr.{Sgr}
use Rattle.esc_sequences.specs.declared.sgr.Sgr.TheVariants as known
use Rattle.esc_sequences.specs.declared.underline.Underline.TheVariants as underline
use Rattle.esc_style.specs.Looks.{look_by, look_by_all, look_by_optional}
use Rattle.esc_values.specs.declared.csi_param.CsiParam.{CsiParam}
use Rattle.esc_values.specs.declared.csi_param.CsiParam.TheVariants.{Integer, P}
use Rattle.fallible_alloc.specs.Refusals.{Refused}
use Rattle.typed_functions.specs.Functions.{known_entries}
use Rattle.esc_values.specs.Scalars.{and_then}
use Rattle.typed_functions.specs.Numbers.{number_rendition}
use Rattle.typed_functions.specs.Renditions.{number, rendition_of, with_more}
use Rattle.typed_functions.specs.Selections.{selections}
use Rattle.typed_functions.specs.declared.rendition.Rendition.{Rendition}

-- one number of those that are renditions by themselves, and the others
next : (b : Bool) (k c : ℕ) (x s : Sgr) (more : Option Sgr) → b ≡ (k == c)
    → (if b then Some x else more) ≡ Some s → known_entries x ≡ number c ∷ []
    → (more ≡ Some s → known_entries s ≡ number k ∷ []) → known_entries s ≡ number k ∷ []
next true k c x s more t h i go =
    ap known_entries (sym (same_Some x s h)) ∙ i
    ∙ ap (λ n. number n ∷ []) (sym (eqb-true k c (sym t)))
next false k c x s more t h i go = go h

known_by : (k : ℕ) (s : Sgr) → sgr_at (pos k) ≡ Some s → known_entries s ≡ number k ∷ []
known_by k s h =
    next (k == 0) k 0 known.Reset s _ refl h refl (λ h.
    next (k == 1) k 1 (known.Intensity intensity.Bold) s _ refl h refl (λ h.
    next (k == 2) k 2 (known.Intensity intensity.Half) s _ refl h refl (λ h.
    next (k == 22) k 22 (known.Intensity intensity.Normal) s _ refl h refl (λ h.
    next (k == 3) k 3 (known.Italic true) s _ refl h refl (λ h.
    next (k == 23) k 23 (known.Italic false) s _ refl h refl (λ h.
    next (k == 4) k 4 (known.Underline underline.Single) s _ refl h refl (λ h.
    next (k == 21) k 21 (known.Underline underline.Double) s _ refl h refl (λ h.
    next (k == 24) k 24 (known.Underline underline.None) s _ refl h refl (λ h.
    absurd (none-some s h))))))))))

known_at : (n : ℤ) (s : Sgr) → sgr_at n ≡ Some s → known_entries s ≡ Integer n ∷ []
known_at (pos k) s h = known_by k s h
known_at (negsuc k) s h = absurd (none-some s h)

abbrev whole : ℤ → List CsiValue
whole n = unspecified (Integer n ∷ []) false 0x6d ∷ []

by_sgr : (n : ℤ) (r : Rendition) → rendition_of (Integer n ∷ []) ≡ Some r → (o : Option Sgr)
    → sgr_at n ≡ o → AsksFor (Integer n ∷ []) false 0x6d r
by_sgr n r e None h = (
  unspecified (Integer n ∷ []) false 0x6d,
  ap (λ o. unwrap_or (put_first o (Some [])) (whole n)) h,
  λ p. ap (λ o. restyles (look_by_optional p.look o)) (sym e) ∙ sym (step_is n p),
)
by_sgr n r e (Some s) h = (
  sgr s,
  ap (λ o. unwrap_or (put_first o (Some [])) (whole n)) h,
  λ p. ap (λ o. restyles (look_by_optional p.look o)) (sym e)
      ∙ ap (λ xs. restyles (look_by_all p.look xs)) (sym (alone n))
      ∙ ap (λ es. restyles (look_by_all p.look (selections es))) (sym (known_at n s h)),
)

pub asks_alone : (n : ℤ) (r : Rendition) → rendition_of (Integer n ∷ []) ≡ Some r
    → AsksFor (Integer n ∷ []) false 0x6d r
asks_alone n r e = by_sgr n r e (sgr_at n) refl

pub asks_common : (es : List CsiParam) (o : Option Common) (n : ℕ) → lone_byte es ≡ Some n
    → IfSome o (λ k. number_rendition n ≡ Some (rendition_by k))
    → IfSome o (λ k. AsksFor es false 0x6d (rendition_by k))
asks_common es None n h w = tt
asks_common [] (Some k) n h w = absurd (none-some n h)
asks_common (P b ∷ []) (Some k) n h w = absurd (none-some n h)
asks_common (Integer m ∷ []) (Some k) n h w =
    asks_alone m (rendition_by k) (ap (λ b. and_then b (λ n. with_more n [])) h ∙ w)
asks_common (e ∷ f ∷ es) (Some k) n h w = absurd (none-some n h)

-- no parameter takes all renditions back
asks_nothing : AsksFor [] false 0x6d (rendition_by common.Reset)
asks_nothing = (sgr known.Reset, refl, λ p. same_rendition p known.Reset)

pub asks_reset : (es : List CsiParam) → es ≡ [] → AsksFor es false 0x6d (rendition_by common.Reset)
asks_reset es e =
    subst (λ es. AsksFor es false 0x6d (rendition_by common.Reset)) (sym e) asks_nothing

pub asks_whole : (es : List CsiParam) (t : Bool) (f : ℕ) (o : Option Common)
    → is_whole_rendition t f ≡ true → IfSome o (λ k. AsksFor es false 0x6d (rendition_by k))
    → IfSome o (λ k. AsksFor es t f (rendition_by k))
asks_whole es true f o h w = absurd (true≢false (sym h))
asks_whole es false f o h w =
    subst (λ g. IfSome o (λ k. AsksFor es false g (rendition_by k))) (sym (eqb-true f 0x6d h)) w

taken_by : {A : Type 0} (p q : Page A) (vs : List CsiValue) (v : CsiValue) → vs ≡ v ∷ []
    → AddsFor p v q → FoldsTo (By IsSequence Takes) p vs q
taken_by p q vs (sgr s) e w = rendition_taken p q vs s e w
taken_by p q vs (unspecified es t f) e w = sequence_taken p q vs es t f e w

-- a page that the rendition restyles takes the one value
pub asked_taken : {A : Type 0} (p q : Page A) (es : List CsiParam) (t : Bool) (f : ℕ)
    (r : Rendition) → AsksFor es t f r → Adds p (restyles (look_by (state_of p).pen.look r)) q
    → FoldsTo (By IsSequence Takes) p (csi_of es t f) q
asked_taken p q es t f r a w =
    taken_by p q (csi_of es t f) a.0 a.1
    (subst (λ s. Adds p s q) (a.2 (state_of p).pen) w)

refused_by : {A : Type 0} (p q : Page A) (vs : List CsiValue) (v : CsiValue) → vs ≡ v ∷ []
    → Refused A → StopsAt ⊥ (By IsSequence Takes) (By IsSequence Denies) p vs q
refused_by p q vs (sgr s) e w = rendition_refused p q vs s e w
refused_by p q vs (unspecified es t f) e w = sequence_refused p q vs es t f e w

pub asked_refused : {A : Type 0} (p q : Page A) (es : List CsiParam) (t : Bool) (f : ℕ)
    (r : Rendition) → AsksFor es t f r → Refused A
    → StopsAt ⊥ (By IsSequence Takes) (By IsSequence Denies) p (csi_of es t f) q
asked_refused p q es t f r a w = refused_by p q (csi_of es t f) a.0 a.1 w
