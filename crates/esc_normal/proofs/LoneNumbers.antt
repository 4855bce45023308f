-- A control sequence of one number has the text of its parameter, whether it is a rendition or has
-- no name.
use Rattle.std.proofs.Common.{ℕ, ◌≡◌, Bool, true, false, not, ◌&&◌, ◌==◌, if◌then◌else◌, [], ◌∷◌, ◌++◌, Option, Some, None, inl, inr, refl, ap, sym, ◌∙◌, lit≤}
use Rattle.std.specs.Prelude.{ℤ, pos, negsuc, unwrap_or, ◌⊎◌}
use Rattle.std.specs.Fmt.{decimal, signed_decimal}
use Rattle.std.specs.Char.{encode_utf8}
use Rattle.std.proofs.lemmas.Bool.{and_parts, eqb-true}
use Rattle.std.proofs.lemmas.List.{append-nil}
use Rattle.std.proofs.lemmas.Str.{encode_ascii}
use Rattle.esc_sequences.specs.declared.csi.CSI.{CSI}
use Rattle.esc_sequences.specs.declared.csi.CSI.TheVariants as csi_variant
use Rattle.esc_values.specs.declared.csi_param.CsiParam.TheVariants.{Integer}
use Rattle.esc_sequences.specs.declared.intensity.Intensity.TheVariants as intensity
use Rattle.esc_sequences.specs.declared.sgr.Sgr.{Sgr}
use Rattle.esc_sequences.specs.declared.sgr.Sgr.TheVariants.{Reset, Intensity, Italic, Underline}
use Rattle.esc_sequences.specs.declared.underline.Underline.TheVariants as underline
use Rattle.esc_sequences.specs.Csis.{csi_of, csi_text, csi_value, sgr_of_number, sgr_at, sgr_body, unspecified}
use Rattle.esc_values.proofs.Numbers.AtMostThreeDigits.{decimal_one, decimal_two}

-- a test of a chain of tests
tested : (b : Bool) (x s : Sgr) (o : Option Sgr) → (if b then Some x else o) ≡ Some s
    → ((b ≡ true) × (x ≡ s)) ⊎ (o ≡ Some s)
tested true x s o h = inl (refl, ap (λ i. unwrap_or i x) h)
tested false x s o h = inr h

one_by : (n m : ℕ) (x s : Sgr) (o : Option Sgr) → (((n == m) ≡ true) × (x ≡ s)) ⊎ (o ≡ Some s)
    → sgr_body x ≡ decimal m
    → (o ≡ Some s → sgr_body s ≡ decimal n) → sgr_body s ≡ decimal n
one_by n m x s o (inl h) body rest = ap sgr_body (sym h.1) ∙ body
    ∙ ap decimal (sym (eqb-true n m h.0))
one_by n m x s o (inr h) body rest = rest h

one : (n m : ℕ) (x s : Sgr) (o : Option Sgr) → (if n == m then Some x else o) ≡ Some s
    → sgr_body x ≡ decimal m
    → (o ≡ Some s → sgr_body s ≡ decimal n) → sgr_body s ≡ decimal n
one n m x s o h body rest = one_by n m x s o (tested (n == m) x s o h) body rest

none_some : (s : Sgr) → None ≡ Some s → ⊥
none_some s h = absurd cc

-- a rendition of a number is written as the number
named_body : (n : ℕ) (s : Sgr) → sgr_of_number n ≡ Some s → sgr_body s ≡ decimal n
named_body n s h =
    one n 0 Reset s _ h (sym (decimal_one 0 (lit≤ tt))) (λ h1.
    one n 1 (Intensity intensity.Bold) s _ h1 (sym (decimal_one 1 (lit≤ tt))) (λ h2.
    one n 2 (Intensity intensity.Half) s _ h2 (sym (decimal_one 2 (lit≤ tt))) (λ h3.
    one n 22 (Intensity intensity.Normal) s _ h3 (sym (decimal_two 22 (lit≤ tt) (lit≤ tt))) (λ h4.
    one n 3 (Italic true) s _ h4 (sym (decimal_one 3 (lit≤ tt))) (λ h5.
    one n 23 (Italic false) s _ h5 (sym (decimal_two 23 (lit≤ tt) (lit≤ tt))) (λ h6.
    one n 4 (Underline underline.Single) s _ h6 (sym (decimal_one 4 (lit≤ tt))) (λ h7.
    one n 21 (Underline underline.Double) s _ h7 (sym (decimal_two 21 (lit≤ tt) (lit≤ tt))) (λ h8.
    one n 24 (Underline underline.None) s _ h8 (sym (decimal_two 24 (lit≤ tt) (lit≤ tt)))
    (λ h9. absurd (none_some s h9))))))))))

signed_body : (n : ℤ) (s : Sgr) → sgr_at n ≡ Some s → sgr_body s ≡ signed_decimal n
signed_body (pos n) s h = named_body n s h
signed_body (negsuc n) s h = absurd (none_some s h)

-- the control sequence, with the text of its parameter
abbrev IsLone : Type 0 → ℤ → Bool → ℕ → Type 0
IsLone A n more f = (c : CSI A) × (csi_of (Integer n ∷ []) more f ≡ csi_value c ∷ [])
    × (csi_text (csi_value c) ≡ csi_text (unspecified (Integer n ∷ []) more f))

module _ {A : Type 0} (n : ℤ) (more : Bool) (f : ℕ) where
  abbrev nameless : CSI A
  nameless =
      csi_variant.Unspecified
      (record { params = Integer n ∷ []; parameters_truncated = more; control = f })

  by_number : (o : Option Sgr) → sgr_at n ≡ o → ((f == 0x6d) && not more) ≡ true → f ≡ 0x6d
      → IsLone A n more f
  by_number None is e m = (nameless, rw (e, is) refl, refl)
  by_number (Some s) is e m = (
    csi_variant.Sgr s,
    rw (e, is) refl,
    ap (λ t. 0x1b ∷ 0x5b ∷ (t ++ 0x6d ∷ [])) (signed_body n s is
        ∙ sym (append-nil (signed_decimal n)))
        ∙ ap (λ t. 0x1b ∷ 0x5b ∷ ((signed_decimal n ++ []) ++ t))
        (sym (ap encode_utf8 m ∙ encode_ascii 0x6d (lit≤ tt))),
  )

  by_final : (t : Bool) → ((f == 0x6d) && not more) ≡ t → IsLone A n more f
  by_final true e = by_number (sgr_at n) refl e
      (eqb-true f 0x6d (and_parts (f == 0x6d) (not more) e).0)
  by_final false e = (nameless, rw e refl, refl)

  pub lone_number : IsLone A n more f
  lone_number = by_final ((f == 0x6d) && not more) refl
