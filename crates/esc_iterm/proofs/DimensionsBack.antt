-- The text of a dimension reads back; a dimension that was read has a number of 64 bits.
use Rattle.std.proofs.Common.{ℕ, ◌-◌, ◌≡◌, ◌<◌, Bool, true, false, nat_le, nat_eq, ◌&&◌, ◌||◌, ◌==◌, List, [], ◌∷◌, ◌++◌, length, drop}
use Rattle.std.proofs.Common.{codes, Option, Some, None, refl, ap, arith, inl, inr}
use Rattle.std.specs.Cmp.Lexicographic.{pointwise}
use Rattle.std.specs.Fmt.{signed_decimal}
use Rattle.std.specs.List.{list_all}
use Rattle.std.specs.Option.{option_map}
use Rattle.std.proofs.lemmas.Bool.{eqb-true, cases_Bool}
use Rattle.std.proofs.lemmas.List.{length-append, append-nil}
use Rattle.std.proofs.Math.Seq.{drop-append_seam, take-append_seam}
use Rattle.esc_values.proofs.Clear.NumbersAreClear.{signed_passes}
use Rattle.esc_values.specs.Scalars.{signed_of, IsSigned}
use Rattle.esc_values.proofs.Clear.PlainPartsAreClear.{all_append}
use Rattle.esc_values.proofs.Numbers.FactsIfSome.{Where, where_if, where_map}
use Rattle.esc_values.proofs.Numbers.SignedReadsBack.{signed_back_64, signed_where}
use Rattle.esc_iterm.specs.Dimensions.{before_end, measured_dimension, dimension_of, dimension_text, IsDimension}
use Rattle.esc_iterm.specs.declared.dimension.ITermDimension.{ITermDimension}
use Rattle.esc_iterm.specs.declared.dimension.ITermDimension.TheVariants.{Automatic, Cells, Pixels, Percent}
use Rattle.esc_iterm.proofs.KeyTexts.{signed_some, differs, drop_passes}

-- a digit or `-`
abbrev is_number : ℕ → Bool
is_number c = (c == 45) || (nat_le 48 c && nat_le c 57)

-- that, or `%`
abbrev is_percent : ℕ → Bool
is_percent c = (c == 37) || is_number c

-- the text before the end of a text reads back
end_back : (d e : List ℕ) → pointwise nat_eq e e ≡ true → before_end e (d ++ e) ≡ Some d
end_back d e same =
    let len : length (d ++ e) - length e ≡ length d = omega (arith, length-append d e) in
    rw (len, drop-append_seam d e, take-append_seam d e, same) refl

no_end : (f : ℕ → Bool) (t : List ℕ) (c : ℕ) (e : List ℕ) → list_all f t ≡ true → f c ≡ false
    → before_end (c ∷ e) t ≡ None
no_end f t c e h other =
    rw (differs f (drop (length t - length (c ∷ e)) t) c e
    (drop_passes f (length t - length (c ∷ e)) t h) other) refl

-- a text that begins with a number is not `auto`
not_auto : (d u : List ℕ) → list_all is_number d ≡ true → 0 < length d
    → pointwise nat_eq (d ++ u) (codes "auto") ≡ false
not_auto [] u h some = absurd (omega arith)
not_auto (c ∷ d) u h some = elim (cases_Bool (nat_eq c 97)) [
  | inl same ↦ absurd (let k = eqb-true c 97 same in let bad = rw k at h in cc)
  | inr other ↦ rw other refl
]

read_cells : (t : List ℕ) (r : Option ITermDimension) → pointwise nat_eq t (codes "auto") ≡ false
    → before_end (codes "px") t ≡ None
    → before_end (codes "%") t ≡ None
    → option_map Cells (signed_of 64 t) ≡ r → dimension_of t ≡ r
read_cells t r a p q e = rw (a, p, q) e

read_pixels : (t n : List ℕ) (r : Option ITermDimension) → pointwise nat_eq t (codes "auto") ≡ false
    → before_end (codes "px") t ≡ Some n
    → option_map Pixels (signed_of 64 n) ≡ r → dimension_of t ≡ r
read_pixels t n r a p e = rw (a, p) e

read_percent : (t n : List ℕ) (r : Option ITermDimension)
    → pointwise nat_eq t (codes "auto") ≡ false → before_end (codes "px") t ≡ None
    → before_end (codes "%") t ≡ Some n
    → option_map Percent (signed_of 64 n) ≡ r → dimension_of t ≡ r
read_percent t n r a p q e = rw (a, p, q) e

pub dimension_back : (d : ITermDimension) → IsDimension d → dimension_of (dimension_text d) ≡ Some d
dimension_back Automatic h = refl
dimension_back (Cells z) h =
    let t = signed_decimal z in
    let plain : list_all is_number t ≡ true = signed_passes is_number refl refl z h in
    read_cells t (Some (Cells z))
    (rw append-nil at (not_auto t [] plain (signed_some z h)))
    (no_end is_number t 112 (120 ∷ []) plain refl) (no_end is_number t 37 [] plain refl)
    (ap (option_map Cells) (signed_back_64 z h))
dimension_back (Pixels z) h =
    let t = signed_decimal z in
    let plain : list_all is_number t ≡ true = signed_passes is_number refl refl z h in
    read_pixels (t ++ codes "px") t (Some (Pixels z))
    (not_auto t (codes "px") plain (signed_some z h)) (end_back t (codes "px") refl)
    (ap (option_map Pixels) (signed_back_64 z h))
dimension_back (Percent z) h =
    let t = signed_decimal z in
    let plain : list_all is_number t ≡ true = signed_passes is_number refl refl z h in
    let wide : list_all is_percent t ≡ true = signed_passes is_percent refl refl z h in
    read_percent (t ++ codes "%") t (Some (Percent z))
    (not_auto t (codes "%") plain (signed_some z h))
    (no_end is_percent (t ++ codes "%") 112 (120 ∷ [])
    (all_append is_percent t (codes "%") wide refl) refl)
    (end_back t (codes "%") refl)
    (ap (option_map Percent) (signed_back_64 z h))

-- a dimension that was read fits
measured_where : (p q : Option (List ℕ)) (t : List ℕ)
    → Where (λ d. IsDimension d) (measured_dimension p q t)
measured_where (Some n) q t = where_map (λ z. IsSigned 64 z) (λ d. IsDimension d) Pixels (λ z h.
    h) (signed_of 64 n) (signed_where 64 n)
measured_where None (Some n) t = where_map (λ z. IsSigned 64 z) (λ d. IsDimension d) Percent (λ z h.
    h) (signed_of 64 n) (signed_where 64 n)
measured_where None None t = where_map (λ z. IsSigned 64 z) (λ d. IsDimension d) Cells (λ z h.
    h) (signed_of 64 t) (signed_where 64 t)

pub dimension_where : (t : List ℕ) → Where (λ d. IsDimension d) (dimension_of t)
dimension_where t =
    where_if (λ d. IsDimension d) (pointwise nat_eq t (codes "auto")) (Some Automatic) _ tt
    (measured_where (before_end (codes "px") t) (before_end (codes "%") t) t)
