-- Bodies of control sequences that have few parameters.
use Rattle.std.proofs.Common.{ℕ, ◌≡◌, ◌+◌, ◌<◌, ◌≤◌, true, false, List, [], ◌∷◌, ◌++◌, length, take, get_or, Some, None, refl, ap, sym, ◌∙◌, subst, append_assoc, arith}
use Rattle.std.specs.Prelude.{pos}
use Rattle.std.specs.List.{list_all}
use Rattle.std.proofs.lemmas.List.{append-nil, take_all, take_more}
use Rattle.std.proofs.lemmas.List.Folds.{list_all-append}
use Rattle.std.proofs.lemmas.Bool.Decides.{nat_tests}
use Rattle.esc_values.specs.declared.csi_param.CsiParam.{CsiParam}
use Rattle.esc_values.specs.declared.csi_param.CsiParam.TheVariants.{Integer, P}
use Rattle.esc_frame.specs.declared.unfinished.body.Form.{Form}
use Rattle.esc_frame.specs.declared.unfinished.body.Form.TheVariants as form
use Rattle.esc_values.specs.Params.{is_from}
use Rattle.esc_frame.specs.Bodies.{is_digit, is_private_prefix, is_csi_parameter, csi_params, capped_at_i64, value_after, kept_csi_params, has_more_csi_params}
use Rattle.esc_frame.specs.Machine.Keeps.{number_of_run, number_at, closed_of, params_with, form_from, next_form, is_formed}
use Rattle.esc_frame.specs.Scans.{is_body_byte}
use Rattle.esc_frame.specs.Machine.Shorts.{is_early, IsAfter, IsPrefix, IsShort}
use Rattle.esc_frame.proofs.ByteRuns.DigitRuns.{digits_csi_params, digits_value, digits_forms, digits_in_body}
use Rattle.esc_frame.proofs.Steps.ParamsGrow.{halves, closed_other, number_other}
use Rattle.esc_frame.proofs.Steps.FormsGrow.{form_push, formed}

pub nothing : IsPrefix [] []
nothing = record { so = record { all = refl; form = refl; body = refl }; closed = refl }

-- a number
early_digit : (f : Form) → is_early f ≡ true → is_early (next_form f 0x30) ≡ true
early_digit form.Empty h = refl
early_digit form.Parameters h = refl
early_digit form.Intermediates h = absurd cc
early_digit form.Malformed h = absurd cc

number_csi_params : (x ys : List ℕ) → 0 < length ys → list_all is_digit ys ≡ true
    → number_of_run None x ≡ None
    → csi_params (x ++ ys) ≡ csi_params x ++ Integer (pos (capped_at_i64 (value_after 0 ys))) ∷ []
number_csi_params x ys some d none =
    let before : csi_params x ≡ closed_of None x =
    halves None x ∙ ap (λ o. closed_of None x ++ params_with o) none
    ∙ append-nil (closed_of None x) in
    let value : number_of_run None (x ++ ys) ≡ Some (value_after 0 ys) =
    digits_value x ys some d ∙ ap (λ o. Some (value_after (number_at o) ys)) none in
    halves None (x ++ ys) ∙ ap (λ c. c ++ params_with (number_of_run None (x ++ ys)))
    (digits_csi_params x ys some d) ∙ ap (λ o. closed_of None x ++ params_with o) value
    ∙ ap (λ es. es ++ Integer (pos (capped_at_i64 (value_after 0 ys))) ∷ []) (sym before)

pub number_after : (items new : List CsiParam) (x ys : List ℕ) (n : ℕ) → 0 < length ys
    → list_all is_digit ys ≡ true → n ≡ capped_at_i64 (value_after 0 ys)
    → new ≡ items ++ Integer (pos n) ∷ [] → IsPrefix items x → IsAfter new (x ++ ys)
number_after items new x ys n some d v e f = record {
  all =
      e ∙ ap (λ m. items ++ Integer (pos m) ∷ []) v
      ∙ ap (λ es. es ++ Integer (pos (capped_at_i64 (value_after 0 ys))) ∷ []) f.so.all
      ∙ sym (number_csi_params x ys some d f.closed);
  form = ap is_early (digits_forms x ys some d) ∙ early_digit (form_from form.Empty x) f.so.form;
  body = list_all-append is_body_byte x ys ∙ rw (f.so.body, digits_in_body ys d) refl;
}

-- a separator
early_mark : (f : Form) (b : ℕ) → 0x3a ≤ b → b ≤ 0x3b → is_early f ≡ true
    → is_early (next_form f b) ≡ true
early_mark form.Empty b l h e =
    let m : is_private_prefix b ≡ false = grind (arith, nat_tests) in
    let p : is_csi_parameter b ≡ true = grind (arith, nat_tests) in rw (m, p) refl
early_mark form.Parameters b l h e = let p : is_csi_parameter b ≡ true = grind (arith, nat_tests) in
    rw p refl
early_mark form.Intermediates b l h e = absurd cc
early_mark form.Malformed b l h e = absurd cc

other_csi_params : (x : List ℕ) (b : ℕ) → is_digit b ≡ false
    → csi_params (x ++ b ∷ []) ≡ csi_params x ++ P b ∷ []
other_csi_params x b d =
    halves None (x ++ b ∷ []) ∙ ap (λ o. closed_of None (x ++ b ∷ []) ++ params_with o)
    (number_other x b d) ∙ append-nil (closed_of None (x ++ b ∷ []))
    ∙ closed_other x b d ∙ ap (λ es. es ++ P b ∷ []) (sym (halves None x))

body_one : (x : List ℕ) (b : ℕ) → is_body_byte b ≡ true → list_all is_body_byte x ≡ true
    → list_all is_body_byte (x ++ b ∷ []) ≡ true
body_one x b h k = list_all-append is_body_byte x (b ∷ []) ∙ rw (k, h) refl

pub mark_prefix : (items new : List CsiParam) (x : List ℕ) (b : ℕ) → is_from 0x3a 0x3b b ≡ true
    → new ≡ items ++ P b ∷ [] → IsAfter items x
    → IsPrefix new (x ++ b ∷ [])
mark_prefix items new x b m e f =
    let l : 0x3a ≤ b = grind (arith, nat_tests) in
    let h : b ≤ 0x3b = grind (arith, nat_tests) in
    let d : is_digit b ≡ false = grind (arith, nat_tests) in
    let y : is_body_byte b ≡ true = grind (arith, nat_tests) in record {
      so = record {
        all = e ∙ ap (λ es. es ++ P b ∷ []) f.all ∙ sym (other_csi_params x b d);
        form = ap is_early (form_push form.Empty x b) ∙ early_mark (form_from form.Empty x) b l h
            f.form;
        body = body_one x b y f.body;
      };
      closed = number_other x b d;
    }

-- at the end
early_formed : (f : Form) → is_early f ≡ true → is_formed f ≡ true
early_formed form.Empty h = refl
early_formed form.Parameters h = refl
early_formed form.Intermediates h = absurd cc
early_formed form.Malformed h = absurd cc

pub ends_short : (items : List CsiParam) (x : List ℕ) → length items ≤ 256 → IsAfter items x
    → IsShort items x
unfolding kept_csi_params has_more_csi_params
ends_short items x l f =
    let n : length (csi_params x) ≤ 256 = omega (arith, ap length f.all) in record {
      kept = f.all ∙ sym (take_all 256 (csi_params x) n);
      more = grind (arith, nat_tests);
      form = sym (formed x) ∙ early_formed (form_from form.Empty x) f.form;
      body = f.body;
    }

-- ---- a field: digits, if any, and a separator after them

-- the separator after the first n bytes of the rest
pub field_closed : (items : List CsiParam) (x rest : List ℕ) (n : ℕ) → n < length rest
    → IsPrefix items ((x ++ take n rest) ++ get_or rest n 0 ∷ [])
    → IsPrefix items (x ++ take (n + 1) rest)
field_closed items x rest n l f =
    subst (IsPrefix items) (append_assoc x (take n rest) (get_or rest n 0 ∷ [])
    ∙ ap (λ ys. x ++ ys) (sym (take_more rest n 0 l))) f

-- a separator alone
pub mark_closed : (items : List CsiParam) (x rest : List ℕ) → 0 < length rest
    → IsPrefix items (x ++ get_or rest 0 0 ∷ []) → IsPrefix items (x ++ take 1 rest)
mark_closed items x rest l f =
    subst (IsPrefix items) (ap (λ ys. x ++ ys) (sym (take_more rest 0 0 l))) f

-- neither
pub none_after : (items : List CsiParam) (x : List ℕ) → IsPrefix items x → IsAfter items (x ++ [])
none_after items x f = subst (IsAfter items) (sym (append-nil x)) f.so
