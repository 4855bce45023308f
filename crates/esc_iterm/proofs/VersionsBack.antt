-- An operation on the version of Unicode is a clear part that reads back.
use Rattle.std.proofs.Common.{ℕ, ◌≡◌, ◌≢◌, ◌<◌, ◌^◌, nat_eq, false, List, [], ◌∷◌, get_or, codes, Option, Some, None, lit<, refl, ap, arith}
use Rattle.std.specs.Cmp.Lexicographic.{pointwise}
use Rattle.std.specs.Fmt.{decimal}
use Rattle.std.specs.Option.{option_map}
use Rattle.std.proofs.lemmas.Bool.{ne_eqb}
use Rattle.std.proofs.lemmas.Fmt.{decimal_is_IsNumeral}
use Rattle.std.proofs.lemmas.Str.Parse.{digit_at}
use Rattle.esc_values.specs.Clear.{IsClearPart}
use Rattle.esc_values.specs.Cuts.{cut_at}
use Rattle.esc_values.specs.Scalars.{utf8_of, number_of}
use Rattle.esc_values.proofs.Clear.ClearTexts.{part_append, part_utf8_of}
use Rattle.esc_values.proofs.Clear.CutAtCharacter.{BothClear, cut_clear}
use Rattle.esc_values.proofs.Clear.NumbersAreClear.{decimal_part, number_back}
use Rattle.esc_values.proofs.Clear.PlainPartsAreClear.{plain_part}
use Rattle.esc_values.proofs.Numbers.FactsIfSome.{Where, where_if, where_map, utf8_keeps, number_where}
use Rattle.esc_iterm.specs.Versions.{labelled_version, unlabelled_version, version_from, version_of, label_text, version_text}
use Rattle.esc_iterm.specs.WritableITerms.{IsLabel, IsVersion}
use Rattle.esc_iterm.specs.declared.unicode_version.ITermUnicodeVersionOp.{ITermUnicodeVersionOp}
use Rattle.esc_iterm.specs.declared.unicode_version.ITermUnicodeVersionOp.TheVariants as version
use Rattle.esc_iterm.proofs.TenthsBack.{decimal_lacks}

-- a text with another first character is another word
other_word : (t : List ℕ) (b : ℕ) (w : List ℕ) → get_or t 0 0 ≢ b
    → pointwise nat_eq t (b ∷ w) ≡ false
other_word [] b w h = refl
other_word (x ∷ xs) b w h = rw (ne_eqb x b h) refl

first_digit : (n : ℕ) → n < 2 ^ 64 → get_or (decimal n) 0 0 ≢ 0x70
first_digit n fits e =
    let f = decimal_is_IsNumeral n fits in
    let range = digit_at (decimal n) 0 f.0.1 f.0.0 in
    omega (arith, range, e)

number_version : (A : Type 0) (n : ℕ) → n < 2 ^ 8
    → version_of {A = A} (decimal n) ≡ Some (version.Set n)
number_version A n small =
    let push = other_word (decimal n) 0x70 (codes "ush") (first_digit n (omega arith)) in
    let pop = other_word (decimal n) 0x70 (codes "op") (first_digit n (omega arith)) in
    rw (
      decimal_lacks 0x20 n (omega arith) (omega arith),
      push,
      pop,
      number_back 8 n small (omega arith),
    ) refl

pub version_back : (A : Type 0) (v : ITermUnicodeVersionOp A) → IsVersion v
    → version_of {A = A} (version_text v) ≡ Some v
version_back A (version.Set n) h = number_version A n h
version_back A (version.Push None) h = refl
version_back A (version.Push (Some l)) h =
    ap (option_map (λ t. version.Push (Some t))) (part_utf8_of l h)
version_back A (version.Pop None) h = refl
version_back A (version.Pop (Some l)) h =
    ap (option_map (λ t. version.Pop (Some t))) (part_utf8_of l h)

label_part : (l : Option (List ℕ)) → IsLabel l → IsClearPart (label_text l)
label_part None h = plain_part (codes "") refl
label_part (Some l) h = part_append (0x20 ∷ []) l (plain_part (0x20 ∷ []) refl) h

pub version_part : (A : Type 0) (v : ITermUnicodeVersionOp A) → IsVersion v
    → IsClearPart (version_text v)
version_part A (version.Set n) h = decimal_part n (omega (arith, h))
version_part A (version.Push l) h =
    part_append (codes "push") (label_text l) (plain_part (codes "push") refl) (label_part l h)
version_part A (version.Pop l) h =
    part_append (codes "pop") (label_text l) (plain_part (codes "pop") refl) (label_part l h)

-- says that clear parts are read as a writable operation
abbrev Good : (A : Type 0) → ITermUnicodeVersionOp A → Type 0
Good A v = IsVersion {A = A} v

labelled_where : (A : Type 0) (w l : List ℕ) → IsClearPart l → Where (Good A) (labelled_version w l)
labelled_where A w l h =
    where_if (Good A) (pointwise nat_eq w (codes "push")) _ _
    (where_map (λ t. IsClearPart t) (Good A) (λ t. version.Push (Some t)) (λ t q.
    q) (utf8_of l) (utf8_keeps (λ t. IsClearPart t) l h))
    (where_if (Good A) (pointwise nat_eq w (codes "pop")) _ None
    (where_map (λ t. IsClearPart t) (Good A) (λ t. version.Pop (Some t)) (λ t q.
    q) (utf8_of l) (utf8_keeps (λ t. IsClearPart t) l h)) tt)

unlabelled_where : (A : Type 0) (w : List ℕ) → Where (Good A) (unlabelled_version w)
unlabelled_where A w =
    where_if (Good A) (pointwise nat_eq w (codes "push")) (Some (version.Push None)) _ tt
    (where_if (Good A) (pointwise nat_eq w (codes "pop")) (Some (version.Pop None)) _ tt
    (where_map (λ n. n < 256) (Good A) version.Set (λ n q. q) (number_of 8 w) (number_where 8 w)))

from_where : (A : Type 0) (t : List ℕ) (o : Option (List ℕ × List ℕ)) → Where BothClear o
    → Where (Good A) (version_from t o)
from_where A t None h = unlabelled_where A t
from_where A t (Some c) h = labelled_where A c.0 c.1 h.1

pub version_where : (A : Type 0) (t : List ℕ) → IsClearPart t → Where (Good A) (version_of t)
version_where A t h = from_where A t (cut_at 0x20 t) (cut_clear 0x20 t (lit< tt) h)
