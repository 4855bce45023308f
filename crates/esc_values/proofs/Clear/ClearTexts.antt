-- Clear texts and parts.
use Rattle.std.proofs.Common.{ℕ, ◌≡◌, ◌<◌, true, List, [], ◌∷◌, ◌++◌, length, map, Some, refl, sym, ap, ◌∙◌}
use Rattle.std.specs.List.{list_all}
use Rattle.std.specs.Char.{encode_utf8}
use Rattle.std.specs.Str.{IsUtf8, encode_utf8_all}
use Rattle.std.specs.Str.Lossy.{utf8_lossy}
use Rattle.std.proofs.lemmas.Str.{utf8_lossy-IsUtf8, is_utf8-from_IsUtf8, encode_ascii, inside_one, encodes-append}
use Rattle.std.proofs.lemmas.List.Folds.{list_all-append}
use Rattle.std.proofs.lemmas.Bool.{and_parts}
use lib.Utf8.{scalar, scalars}
use Rattle.esc_values.specs.Clear.{is_clear, is_part_char, IsClearText, IsClearPart, AreClearParts}
use Rattle.esc_values.specs.Scalars.{utf8_of}
use Rattle.esc_values.proofs.Clear.SplitAndJoined.{part_clear}

-- clear texts are UTF-8
pub chars_scalar : (cs : List ℕ) → list_all is_clear cs ≡ true → scalars cs ≡ true
chars_scalar [] h = refl
chars_scalar (c ∷ cs) h =
    let q = and_parts (is_clear c) (list_all is_clear cs) h in
    let s = and_parts (scalar c) _ q.0 in
    rw (s.0, chars_scalar cs q.1) refl

pub clear_utf8 : (t : List ℕ) → IsClearText t → IsUtf8 t
clear_utf8 t (cs, all, e) = (cs, (chars_scalar cs all, e))

pub part_utf8 : (p : List ℕ) → IsClearPart p → IsUtf8 p
part_utf8 p h = clear_utf8 p (part_clear p h)

pub part_utf8_of : (p : List ℕ) → IsClearPart p → utf8_of p ≡ Some p
part_utf8_of p h = rw (is_utf8-from_IsUtf8 p (part_utf8 p h)) refl

-- the lossy text of clear parts is the parts
pub part_lossy : (p : List ℕ) → IsClearPart p → utf8_lossy p ≡ p
part_lossy p h = utf8_lossy-IsUtf8 p (part_utf8 p h)

pub parts_lossy : (ps : List (List ℕ)) → AreClearParts ps → map utf8_lossy ps ≡ ps
parts_lossy [] h = refl
parts_lossy (p ∷ ps) h = rw (part_lossy p h.0, parts_lossy ps h.1) refl

-- one part after another is a part
pub part_append : (x y : List ℕ) → IsClearPart x → IsClearPart y → IsClearPart (x ++ y)
part_append x y (cs, all, e) (ds, more, f) = (
  cs ++ ds,
  rw (list_all-append is_part_char cs ds, all, more) refl,
  encodes-append cs ds ∙ ap (λ t. t ++ encode_utf8_all ds) e ∙ ap (λ t. x ++ t) f,
)

-- the text after the first character, if that is ASCII
after_first : (c b : ℕ) (ds r : List ℕ) → b < 128 → c ≡ b
    → encode_utf8 c ++ encode_utf8_all ds ≡ b ∷ r → encode_utf8_all ds ≡ r
after_first c b ds r small same e =
    let whole : b ∷ encode_utf8_all ds ≡ b ∷ r = rw (same, encode_ascii b small) at e in
    cc

first_char : (c b : ℕ) (ds r : List ℕ) → b < 128 → encode_utf8 c ++ encode_utf8_all ds ≡ b ∷ r
    → 0 < length (encode_utf8 c) → c ≡ b
first_char c b ds r small e some = inside_one c (encode_utf8_all ds) (b ∷ r) 0 (sym e) some small

pub tail_part : (b : ℕ) (r : List ℕ) → b < 128 → ((c : ℕ) → 0 < length (encode_utf8 c))
    → IsClearPart (b ∷ r) → IsClearPart r
tail_part b r small some ([], all, e) = absurd cc
tail_part b r small some (c ∷ ds, all, e) =
    let q = and_parts (is_part_char c) (list_all is_part_char ds) all in
    (ds, q.1, after_first c b ds r small (first_char c b ds r small e (some c)) e)
