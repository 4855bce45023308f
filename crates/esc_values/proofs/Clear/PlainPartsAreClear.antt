-- Texts of plain ASCII characters without `;` are clear parts.
use Rattle.std.proofs.Common.{ℕ, ◌≡◌, Bool, true, not, ◌&&◌, ◌==◌, List, [], ◌∷◌, ◌++◌, refl}
use Rattle.std.specs.List.{list_all}
use Rattle.std.proofs.lemmas.List.Folds.{list_all-append}
use Rattle.std.proofs.lemmas.Bool.{and_parts}
use Rattle.esc_values.specs.Clear.{is_part_char, IsClearPart}
use Rattle.esc_values.proofs.Clear.PlainIsClear.{is_plain, plain_is_clear, plain_encodes}

-- from space to delete, but not `;`
abbrev pub is_part_plain : ℕ → Bool
is_part_plain c = is_plain c && not (c == 0x3b)

part_plain_char : (t : List ℕ) → list_all is_part_plain t ≡ true → list_all is_part_char t ≡ true
part_plain_char [] h = refl
part_plain_char (c ∷ t) h =
    let q = and_parts (is_part_plain c) (list_all is_part_plain t) h in
    let k = and_parts (is_plain c) (not (c == 0x3b)) q.0 in
    rw (plain_is_clear c k.0, k.1, part_plain_char t q.1) refl

part_plain_plain : (t : List ℕ) → list_all is_part_plain t ≡ true → list_all is_plain t ≡ true
part_plain_plain [] h = refl
part_plain_plain (c ∷ t) h =
    let q = and_parts (is_part_plain c) (list_all is_part_plain t) h in
    let k = and_parts (is_plain c) (not (c == 0x3b)) q.0 in
    rw (k.0, part_plain_plain t q.1) refl

-- a literal is a clear part by `plain_part literal refl`
pub plain_part : (t : List ℕ) → list_all is_part_plain t ≡ true → IsClearPart t
plain_part t h = (t, part_plain_char t h, plain_encodes t (part_plain_plain t h))

pub all_append : (f : ℕ → Bool) (x y : List ℕ) → list_all f x ≡ true → list_all f y ≡ true
    → list_all f (x ++ y) ≡ true
all_append f x y h k = rw (list_all-append f x y, h, k) refl
