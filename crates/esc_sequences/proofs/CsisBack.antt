-- The values that are read from a body read back from their text.
use Rattle.std.proofs.Common.{ℕ, ◌≡◌, ◌<◌, ◌≤◌, Bool, true, false, not, ◌&&◌, ◌==◌, if◌then◌else◌, List, [], ◌∷◌, ◌++◌, length, Option, Some, None}
use Rattle.std.proofs.Common.{lit≤, refl, ap, sym, ◌∙◌, subst, arith}
use Rattle.std.specs.Prelude.{unwrap_or}
use Rattle.std.specs.List.{slice_split}
use Rattle.std.proofs.lemmas.Bool.{eqb-true}
use Rattle.std.proofs.lemmas.Str.{encode_ascii}
use Rattle.esc_values.specs.declared.csi_param.CsiParam.{CsiParam}
use Rattle.esc_sequences.specs.declared.intensity.Intensity.TheVariants as intensity
use Rattle.esc_sequences.specs.declared.sgr.Sgr.{Sgr}
use Rattle.esc_sequences.specs.declared.sgr.Sgr.TheVariants.{Reset, Intensity, Italic, Underline}
use Rattle.esc_sequences.specs.declared.underline.Underline.TheVariants as underline
use Rattle.esc_sequences.specs.Csis.{CsiValue, sgr, unspecified, is_separator, rendition, put_first, renditions, csi_of, ReadsBack, ReadBack}
use Rattle.esc_values.specs.Params.{is_csi_body, csi_params, csi_params_text}
use Rattle.esc_sequences.proofs.Bodies.{same_form, body_bytes}
use Rattle.esc_sequences.proofs.ParamsText.{csi_params_back, text_bytes}

-- a rendition
sgr_back : (s : Sgr) → ReadsBack 0x6d (sgr s)
unfolding is_csi_body
sgr_back Reset = (refl, (refl, refl, lit≤ tt), refl)
sgr_back (Intensity intensity.Bold) = (refl, (refl, refl, lit≤ tt), refl)
sgr_back (Intensity intensity.Half) = (refl, (refl, refl, lit≤ tt), refl)
sgr_back (Intensity intensity.Normal) = (refl, (refl, refl, lit≤ tt), refl)
sgr_back (Italic true) = (refl, (refl, refl, lit≤ tt), refl)
sgr_back (Italic false) = (refl, (refl, refl, lit≤ tt), refl)
sgr_back (Underline underline.None) = (refl, (refl, refl, lit≤ tt), refl)
sgr_back (Underline underline.Single) = (refl, (refl, refl, lit≤ tt), refl)
sgr_back (Underline underline.Double) = (refl, (refl, refl, lit≤ tt), refl)
sgr_back (Underline underline.Curly) = (refl, (refl, refl, lit≤ tt), refl)
sgr_back (Underline underline.Dotted) = (refl, (refl, refl, lit≤ tt), refl)
sgr_back (Underline underline.Dashed) = (refl, (refl, refl, lit≤ tt), refl)

abbrev BackWhere : Option (List CsiValue) → Type 0
BackWhere None = Unit {0}
BackWhere (Some vs) = ReadBack 0x6d vs

put_back : (i : Option Sgr) (more : Option (List CsiValue)) → BackWhere more
    → BackWhere (put_first i more)
put_back None more h = tt
put_back (Some s) None h = tt
put_back (Some s) (Some vs) h = (sgr_back s, h)

renditions_back : (is : List (List CsiParam)) → BackWhere (renditions is)
renditions_back [] = tt
renditions_back (i ∷ is) = put_back (rendition i) (renditions is) (renditions_back is)

-- one sequence as it is
whole_back : (x : List ℕ) (f : ℕ) → is_csi_body x ≡ true → length (csi_params x) ≤ 256 → f < 128
    → csi_of (csi_params x) false f ≡ unspecified (csi_params x) false f ∷ []
    → ReadsBack f (unspecified (csi_params x) false f)
whole_back x f form few small read =
    let same = csi_params_back x (body_bytes x form) in (
      ap (λ t. 0x1b ∷ 0x5b ∷ (csi_params_text (csi_params x) ++ t)) (encode_ascii f small),
      (
        text_bytes x (body_bytes x form),
        same_form x (csi_params_text (csi_params x)) same form,
        omega (arith, ap length same),
      ),
      ap (λ es. csi_of es false f) same ∙ read,
    )

-- which of both it is
read_by : (x : List ℕ) (o : Option (List CsiValue)) → is_csi_body x ≡ true
    → length (csi_params x) ≤ 256 → BackWhere o
    → renditions (slice_split is_separator (csi_params x)) ≡ o
    → ReadBack 0x6d (unwrap_or o (unspecified (csi_params x) false 0x6d ∷ []))
read_by x None form few back is = (
  whole_back x 0x6d form few (omega arith)
      (ap (λ o. unwrap_or o (unspecified (csi_params x) false 0x6d ∷ [])) is),
  tt,
)
read_by x (Some vs) form few back is = back

final_by : (x : List ℕ) (f : ℕ) (t : Bool) → (f == 0x6d) ≡ t → is_csi_body x ≡ true
    → length (csi_params x) ≤ 256 → f < 128
    → ReadBack f
    (if t && not false then unwrap_or (renditions (slice_split is_separator (csi_params x)))
    (unspecified (csi_params x) false f ∷ []) else unspecified
    (csi_params x) false f ∷ [])
final_by x f true e form few small =
    let is : f ≡ 0x6d = eqb-true f 0x6d e in
    let P : ℕ → Type 0 = λ g.
    ReadBack g (unwrap_or (renditions (slice_split is_separator (csi_params x)))
    (unspecified (csi_params x) false g ∷ [])) in
    subst P (sym is) (read_by x (renditions (slice_split is_separator (csi_params x))) form few
    (renditions_back (slice_split is_separator (csi_params x))) refl)
final_by x f false e form few small = (whole_back x f form few small (rw e refl), tt)

pub reads_back : (x : List ℕ) (f : ℕ) → is_csi_body x ≡ true → length (csi_params x) ≤ 256 → f < 128
    → ReadBack f (csi_of (csi_params x) false f)
reads_back x f form few small = final_by x f (f == 0x6d) refl form few small

truncated_by : (es : List CsiParam) (f : ℕ) (t : Bool)
    → (if t && not true then unwrap_or (renditions (slice_split is_separator es))
    (unspecified es true f ∷ []) else unspecified es true f ∷ [])
    ≡ unspecified es true f ∷ []
truncated_by es f true = refl
truncated_by es f false = refl

pub truncated : (es : List CsiParam) (f : ℕ) → csi_of es true f ≡ unspecified es true f ∷ []
truncated es f = truncated_by es f (f == 0x6d)
