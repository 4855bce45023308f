-- Colours are clear parts that read back.
use Rattle.std.proofs.Common.{◌≡◌, ℕ, ◌+◌, ◌*◌, ◌/◌, ◌%◌, ◌<◌, ◌==◌, ◌&&◌, not, Bool, true, false, List, [], ◌∷◌, ◌++◌, map, codes, Some, refl, ap}
use Rattle.std.proofs.Common.{◌∙◌, arith, append_assoc}
use Rattle.std.proofs.lemmas.Bool.{and_parts}
use Rattle.std.specs.Fmt.{digit_glyph, decimal}
use Rattle.std.specs.List.{flat_map, list_all}
use Rattle.base64.specs.Tables.{all_below}
use Rattle.base64.proofs.Tables.{all_below_at}
use Rattle.esc_values.specs.Clear.{IsClearPart, AreClearParts}
use Rattle.esc_values.proofs.Clear.PlainPartsAreClear.{is_part_plain, plain_part, all_append}
use Rattle.esc_values.proofs.Clear.CutAtCharacter.{free_passes, cut_there}
use Rattle.esc_osc_values.proofs.Found.{is_found, found}
use Rattle.esc_osc_values.proofs.Numerals.{byte_back, byte_part}
use Rattle.esc_values.specs.Cuts.{cut_at}
use Rattle.esc_osc_values.specs.Colors.{hex_of, channel_of, rgb_of, color_from, spec_of, colors_of, pairs_of, hex4, spec_text, pair_text}
use Rattle.esc_osc_values.specs.WritableValues.{IsColor, AreColors, ArePairs}
use Rattle.esc_osc_values.specs.declared.change_color_pair.ChangeColorPair.{ChangeColorPair}
use Rattle.esc_osc_values.specs.declared.color_or_query.ColorOrQuery.{ColorOrQuery}
use Rattle.esc_osc_values.specs.declared.color_or_query.ColorOrQuery.TheVariants.{Color, Query}

-- a digit that is written is read
abbrev reads_digit : ℕ → Bool
reads_digit d = is_found d (hex_of (digit_glyph false d))

digits : all_below reads_digit 16 ≡ true
digits = refl

digit_back : (d : ℕ) → d < 16 → hex_of (digit_glyph false d) ≡ Some d
digit_back d small =
    found d (hex_of (digit_glyph false d)) (all_below_at reads_digit 16 d digits small)

-- the number that four digits make
abbrev of_four : ℕ → ℕ → ℕ → ℕ → ℕ
of_four a b c d = (((0 + a) * 16 + b) * 16 + c) * 16 + d

four_back : (a b c d : ℕ) → a < 16 → b < 16 → c < 16 → d < 16
    → channel_of (digit_glyph false a ∷ digit_glyph false b ∷ digit_glyph false c
    ∷ digit_glyph false d ∷ []) ≡ Some (65535 * of_four a b c d / 65535)
four_back a b c d h i j k = rw (digit_back a h, digit_back b i, digit_back c j, digit_back d k) refl

channel_back : (n : ℕ) → n < 65536 → channel_of (hex4 n) ≡ Some n
channel_back n small =
    let all : of_four (n / 4096) (n / 256 % 16) (n / 16 % 16) (n % 16) ≡ n = omega arith in
    let one : 65535 * n / 65535 ≡ n = omega arith in
    four_back (n / 4096) (n / 256 % 16) (n / 16 % 16) (n % 16) (omega arith) (omega arith)
    (omega arith) (omega arith)
    ∙ ap (λ v. Some (65535 * v / 65535)) all ∙ ap Some one

-- a digit is a plain character, and no `/`
abbrev is_glyph : ℕ → Bool
is_glyph c = is_part_plain c && not (c == 0x2f)

abbrev glyph_test : ℕ → Bool
glyph_test d = is_glyph (digit_glyph false d)

glyphs : all_below glyph_test 16 ≡ true
glyphs = refl

glyph : (d : ℕ) → d < 16 → is_glyph (digit_glyph false d) ≡ true
glyph d small = all_below_at glyph_test 16 d glyphs small

four : (a b c d : ℕ) → is_glyph a ≡ true → is_glyph b ≡ true → is_glyph c ≡ true → is_glyph d ≡ true
    → list_all is_glyph (a ∷ b ∷ c ∷ d ∷ []) ≡ true
four a b c d h i j k = rw (h, i, j, k) refl

hex4_glyphs : (n : ℕ) → n < 65536 → list_all is_glyph (hex4 n) ≡ true
hex4_glyphs n small =
    four (digit_glyph false (n / 4096)) (digit_glyph false (n / 256 % 16))
    (digit_glyph false (n / 16 % 16)) (digit_glyph false (n % 16))
    (glyph (n / 4096) (omega arith)) (glyph (n / 256 % 16) (omega arith))
    (glyph (n / 16 % 16) (omega arith)) (glyph (n % 16) (omega arith))

glyphs_plain : (t : List ℕ) → list_all is_glyph t ≡ true → list_all is_part_plain t ≡ true
glyphs_plain [] h = refl
glyphs_plain (c ∷ t) h =
    let q = and_parts (is_glyph c) (list_all is_glyph t) h in
    let k = and_parts (is_part_plain c) (not (c == 0x2f)) q.0 in
    rw (k.0, glyphs_plain t q.1) refl

cut_at_first : (p rest : List ℕ) → list_all is_glyph p ≡ true
    → cut_at 0x2f (p ++ 0x2f ∷ rest) ≡ Some (p, rest)
cut_at_first p rest h = cut_there 0x2f p rest (free_passes 0x2f is_glyph refl p h)

rgb_of_three : (r g b : List ℕ) → list_all is_glyph r ≡ true → list_all is_glyph g ≡ true
    → rgb_of (r ++ 0x2f ∷ (g ++ 0x2f ∷ b)) ≡ color_from r g b
rgb_of_three r g b h k = rw (cut_at_first r (g ++ 0x2f ∷ b) h, cut_at_first g b k) refl

three_back : (r g b : ℕ) → r < 65536 → g < 65536 → b < 65536
    → color_from (hex4 r) (hex4 g) (hex4 b) ≡ Some (Color (record { red = r; green = g; blue = b }))
three_back r g b h i j = rw (channel_back r h, channel_back g i, channel_back b j) refl

pub spec_back : (c : ColorOrQuery) → IsColor c → spec_of (spec_text c) ≡ Some c
spec_back (Color c) h =
    rgb_of_three (hex4 c.red) (hex4 c.green) (hex4 c.blue) (hex4_glyphs c.red h.0)
    (hex4_glyphs c.green h.1)
    ∙ three_back c.red c.green c.blue h.0 h.1 h.2
spec_back Query h = refl

rgb_plain : (r g b : List ℕ) → list_all is_part_plain r ≡ true → list_all is_part_plain g ≡ true
    → list_all is_part_plain b ≡ true
    → list_all is_part_plain (codes "rgb:" ++ r ++ 0x2f ∷ (g ++ 0x2f ∷ b)) ≡ true
rgb_plain r g b h i j =
    all_append is_part_plain (codes "rgb:") (r ++ 0x2f ∷ (g ++ 0x2f ∷ b)) refl
    (all_append is_part_plain r (0x2f ∷ (g ++ 0x2f ∷ b)) h
    (all_append is_part_plain (codes "/") (g ++ 0x2f ∷ b) refl
    (all_append is_part_plain g (0x2f ∷ b) i (all_append is_part_plain (codes "/") b refl j))))

pub spec_part : (c : ColorOrQuery) → IsColor c → IsClearPart (spec_text c)
spec_part (Color c) h =
    plain_part (spec_text (Color c)) (rgb_plain (hex4 c.red) (hex4 c.green) (hex4 c.blue)
    (glyphs_plain (hex4 c.red) (hex4_glyphs c.red h.0))
    (glyphs_plain (hex4 c.green) (hex4_glyphs c.green h.1))
    (glyphs_plain (hex4 c.blue) (hex4_glyphs c.blue h.2)))
spec_part Query h = plain_part (codes "?") refl

pub specs_are_parts : (cs : List ColorOrQuery) → AreColors cs → AreClearParts (map spec_text cs)
specs_are_parts [] h = tt
specs_are_parts (c ∷ cs) h = (spec_part c h.0, specs_are_parts cs h.1)

pub colors_back : (cs : List ColorOrQuery) → AreColors cs → colors_of (map spec_text cs) ≡ Some cs
colors_back [] h = refl
colors_back (c ∷ cs) h = rw (spec_back c h.0, colors_back cs h.1) refl

-- the parts of a pair
abbrev pub two_parts : ChangeColorPair → List (List ℕ)
two_parts p = decimal p.palette_index ∷ spec_text p.color ∷ []

pub two_are_parts : (ps : List ChangeColorPair) → ArePairs ps
    → AreClearParts (flat_map two_parts ps)
two_are_parts [] h = tt
two_are_parts (p ∷ ps) h =
    (byte_part p.palette_index h.0.0, (spec_part p.color h.0.1, two_are_parts ps h.1))

pub pairs_back : (ps : List ChangeColorPair) → ArePairs ps
    → pairs_of (flat_map two_parts ps) ≡ Some ps
pairs_back [] h = refl
pairs_back (p ∷ ps) h =
    rw (byte_back p.palette_index h.0.0, spec_back p.color h.0.1, pairs_back ps h.1) refl

regroup : (a b x : List ℕ) → (0x3b ∷ (a ++ 0x3b ∷ b)) ++ x ≡ (0x3b ∷ a) ++ ((0x3b ∷ b) ++ x)
regroup a b x = ap (λ t. 0x3b ∷ t) (append_assoc a (0x3b ∷ b) x)

-- each pair after a `;` is its two parts after a `;` each
pub pairs_joined : (ps : List ChangeColorPair)
    → flat_map (λ p. 0x3b ∷ pair_text p) ps ≡ flat_map (λ q. 0x3b ∷ q) (flat_map two_parts ps)
pairs_joined [] = refl
pairs_joined (p ∷ ps) =
    ap (λ t. (0x3b ∷ pair_text p) ++ t) (pairs_joined ps)
    ∙ regroup (decimal p.palette_index) (spec_text p.color)
    (flat_map (λ q. 0x3b ∷ q) (flat_map two_parts ps))
