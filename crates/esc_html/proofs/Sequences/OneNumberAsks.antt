-- A control sequence with the final byte `m` and one number asks for the rendition of the number.
use Rattle.std.proofs.Common.{ℕ, ◌≡◌, ◌==◌, Bool, true, false, if◌then◌else◌, List, [], ◌∷◌, map, take, Option, Some, None, IfSome, refl, ap, sym, subst, ◌∙◌}
use Rattle.std.specs.Prelude.{ℤ}
use Rattle.std.proofs.lemmas.Bool.{and_parts, eqb-true, true≢false}
use Rattle.control_functions.specs.Functions.{function_of, rows_of}
use Rattle.control_functions.specs.declared.control_function.ControlFunction.TheVariants as control
use Rattle.esc_values.specs.declared.csi_param.CsiParam.{CsiParam}
use Rattle.esc_values.specs.declared.csi_param.CsiParam.TheVariants.{Integer, P}
use Rattle.esc_html.specs.Marks.{Pen, function_step, restyles}
use Rattle.esc_html.specs.Numbers.{is_lone_number}
use Rattle.esc_html.specs.Renditions.{is_number}
use Rattle.esc_sequences.specs.Csis.{unspecified}
use Rattle.esc_style.specs.Looks.{look_by, look_by_all, look_by_optional}
use Rattle.typed_functions.specs.Functions.{of_csi, of_named}
use Rattle.typed_functions.specs.Renditions.{byte_of, is_target, rendition_of}
use Rattle.typed_functions.specs.Selections.{cut_after, len_before, number_separators, selection_of, selections, separators}
use Rattle.typed_functions.specs.declared.rendition.Rendition.{Rendition}

both : {X : Type 0} (b : Bool) (x : X) → (if b then x else x) ≡ x
both true x = refl
both false x = refl

none_after : (o : Option ℕ) → number_separators o [] ≡ 0
none_after None = refl
none_after (Some n) = both (is_target n) 0

-- it is one rendition
pub alone : (n : ℤ) → selections (Integer n ∷ [])
    ≡ (rendition_of (Integer n ∷ []), Integer n ∷ []) ∷ []
alone n =
    ap (λ k. map selection_of (take (len_before k (Integer n ∷ [])) (Integer n ∷ [])
    ∷ cut_after separators (len_before k (Integer n ∷ [])) [])) (none_after (byte_of (Integer n)))

-- this control function, by its key
named : function_of 365 ≡ Some control.SGR
unfolding function_of rows_of
named = refl

pub step_is : (n : ℤ) (p : Pen)
    → function_step p (of_csi (unspecified (Integer n ∷ []) false 0x6d))
    ≡ restyles (look_by_optional p.look (rendition_of (Integer n ∷ [])))
step_is n p =
    ap (λ f. function_step p (of_named f (Integer n ∷ []))) named
    ∙ ap (λ xs. restyles (look_by_all p.look xs)) (alone n)

number_is : (es : List CsiParam) (o : Option Rendition) → is_number es ≡ true
    → o ≡ rendition_of es
    → IfSome o (λ r. (p : Pen) → restyles (look_by p.look r)
    ≡ function_step p (of_csi (unspecified es false 0x6d)))
number_is [] o h e = absurd (true≢false (sym h))
number_is (P b ∷ es) o h e = absurd (true≢false (sym h))
number_is (Integer n ∷ e ∷ es) o h i = absurd (true≢false (sym h))
number_is (Integer n ∷ []) None h e = tt
number_is (Integer n ∷ []) (Some r) h e = λ p.
    ap (λ o. restyles (look_by_optional p.look o)) e ∙ sym (step_is n p)

pub lone_is : (es : List CsiParam) (t : Bool) (f : ℕ) (o : Option Rendition)
    → is_lone_number es t f ≡ true → o ≡ rendition_of es
    → IfSome o (λ r. (p : Pen) → restyles (look_by p.look r)
    ≡ function_step p (of_csi (unspecified es t f)))
lone_is es true f o h e = absurd (true≢false (sym h))
lone_is es false f o h e =
    let k = and_parts (f == 0x6d) (is_number es) h in
    subst (λ g. IfSome o (λ r. (p : Pen) → restyles (look_by p.look r)
    ≡ function_step p (of_csi (unspecified es false g)))) (sym (eqb-true f 0x6d k.0))
    (number_is es o k.1 e)
