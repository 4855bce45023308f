-- Tables with more numbers.
use Rattle.std.proofs.Common.{◌≡◌, [], ◌∷◌, ◌++◌, refl, ap, ◌∙◌, append_assoc}
use Rattle.flat_values.proofs.Tables.{with_more}
use Rattle.flat_values.specs.Fields.{Field, Table, with_field, with_fields}
use Rattle.flat_values.specs.Images.{Numbers, given_fields, number_fields}

both : (a b : Numbers) → number_fields a ++ number_fields b ≡ number_fields (a ++ b)
both [] b = refl
both (s ∷ a) b =
    append_assoc (given_fields s) (number_fields a) (number_fields b)
    ∙ ap (λ more. given_fields s ++ more) (both a b)

-- more numbers after others
pub more_numbers : (t : Table) (a b : Numbers)
    → with_fields (with_fields t (number_fields a)) (number_fields b)
    ≡ with_fields t (number_fields (a ++ b))
more_numbers t a b =
    with_more t (number_fields a) (number_fields b) ∙ ap (with_fields t) (both a b)

-- twice more
pub two_more : (t u v w : Table) (a b c : Numbers)
    → u ≡ with_fields t (number_fields a) → v ≡ with_fields u (number_fields b)
    → w ≡ with_fields v (number_fields c) → w ≡ with_fields t (number_fields (a ++ (b ++ c)))
two_more t u v w a b c is_u is_v is_w =
    is_w ∙ ap (λ x. with_fields x (number_fields c)) is_v ∙ more_numbers u b c
    ∙ ap (λ x. with_fields x (number_fields (b ++ c))) is_u ∙ more_numbers t a (b ++ c)

pub two_more_after_content : (t u v w : Table) (f : Field) (a b c : Numbers)
    → u ≡ with_fields t (f ∷ number_fields a) → v ≡ with_fields u (number_fields b)
    → w ≡ with_fields v (number_fields c) → w ≡ with_fields t (f ∷ number_fields (a ++ (b ++ c)))
two_more_after_content t u v w f a b c = two_more (with_field t f) u v w a b c

-- once more
pub one_more : (t u w : Table) (a b : Numbers) → u ≡ with_fields t (number_fields a)
    → w ≡ with_fields u (number_fields b) → w ≡ with_fields t (number_fields (a ++ b))
one_more t u w a b is_u is_w =
    is_w ∙ ap (λ x. with_fields x (number_fields b)) is_u ∙ more_numbers t a b

pub one_more_after_content : (t u w : Table) (f : Field) (a b : Numbers)
    → u ≡ with_fields t (f ∷ number_fields a) → w ≡ with_fields u (number_fields b)
    → w ≡ with_fields t (f ∷ number_fields (a ++ b))
one_more_after_content t u w f a b = one_more (with_field t f) u w a b
