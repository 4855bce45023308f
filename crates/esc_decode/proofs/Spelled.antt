-- Code points as UTF-8.
use Rattle.std.proofs.Common.{ℕ, ◌≡◌, ◌<◌, true, if◌then◌else◌, List, [], ◌∷◌, ◌++◌, append_assoc, arith, refl, ap, sym, ◌∙◌}
use Rattle.std.proofs.lemmas.Bool.Decides.{nat_tests}
use Rattle.std.proofs.lemmas.Bool.{and_parts}
use Rattle.std.proofs.lemmas.Str.{encode_ascii}
use Rattle.std.specs.Char.{encode_utf8}
use Rattle.std.specs.Str.{encode_utf8_all}
use lib.Utf8.{scalar, scalars}
use Rattle.esc_decode.specs.Spellings.{spell_all, spelling}

pub spell_append : (x y : List ℕ) → spell_all (x ++ y) ≡ spell_all x ++ spell_all y
spell_append [] y = refl
spell_append (n ∷ x) y =
    ap (λ z. spelling n ++ z) (spell_append x y)
    ∙ sym (append_assoc (spelling n) (spell_all x) (spell_all y))

-- ---- characters

pub spells : (n : ℕ) → scalar n ≡ true → spelling n ≡ encode_utf8 n
spells n h = ap (λ t. if t then encode_utf8 n else 0xff ∷ []) h

pub spells_all : (ns : List ℕ) → scalars ns ≡ true → spell_all ns ≡ encode_utf8_all ns
spells_all [] h = refl
spells_all (n ∷ ns) h =
    let k = and_parts (scalar n) (scalars ns) h in
    ap (λ z. z ++ spell_all ns) (spells n k.0) ∙ ap (λ z. encode_utf8 n ++ z) (spells_all ns k.1)

low_scalar : (n : ℕ) → n < 0x80 → scalar n ≡ true
low_scalar n l = grind (arith, nat_tests)

pub spells_ascii : (n : ℕ) → n < 0x80 → spelling n ≡ n ∷ []
spells_ascii n l = spells n (low_scalar n l) ∙ encode_ascii n l
