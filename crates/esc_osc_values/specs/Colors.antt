-- Colours: how they are read and written.
use Rattle.std.specs.Prelude.{ℕ, ◌-◌, ◌*◌, ◌/◌, ◌%◌, ◌^◌, ◌+◌, ◌==◌, nat_lt, nat_le, nat_eq, ◌&&◌, false, if◌then◌else◌, List, [], ◌∷◌, ◌++◌, length}
use Rattle.std.specs.Prelude.{take, drop, codes, Option, Some, None}
use Rattle.std.specs.Char.{digit_value}
use Rattle.std.specs.Cmp.Lexicographic.{pointwise}
use Rattle.std.specs.Fmt.{digit_glyph, decimal}
use Rattle.std.specs.List.{starts_with}
use Rattle.std.specs.Option.{option_map}
use Rattle.esc_values.specs.Cuts.{cut_at}
use Rattle.esc_values.specs.Scalars.{and_then, some_if, number_of}
use Rattle.esc_osc_values.specs.declared.color_or_query.ColorOrQuery.{ColorOrQuery}
use Rattle.esc_osc_values.specs.declared.color_or_query.ColorOrQuery.TheVariants.{Color, Query}
use Rattle.esc_osc_values.specs.declared.change_color_pair.ChangeColorPair.{ChangeColorPair}

-- four lower-case hexadecimal digits
abbrev pub hex4 : ℕ → List ℕ
hex4 n = digit_glyph false (n / 4096) ∷ digit_glyph false (n / 256 % 16)
    ∷ digit_glyph false (n / 16 % 16)
    ∷ digit_glyph false (n % 16) ∷ []

-- a colour, or `?`
abbrev pub spec_text : ColorOrQuery → List ℕ
spec_text (Color c) = codes "rgb:" ++ hex4 c.red ++ 0x2f ∷ (hex4 c.green ++ 0x2f ∷ hex4 c.blue)
spec_text Query = codes "?"

-- a place of the palette and its colour
abbrev pub pair_text : ChangeColorPair → List ℕ
pair_text p = decimal p.palette_index ++ 0x3b ∷ spec_text p.color

-- one hexadecimal digit, in either case
abbrev pub hex_of : ℕ → Option ℕ
hex_of c = some_if (nat_lt (digit_value c) 16) (digit_value c)

-- the number of hexadecimal digits that follow those of n
abbrev pub hex_after : ℕ → List ℕ → Option ℕ
hex_after n [] = Some n
hex_after n (d ∷ ds) = and_then (hex_of d) (λ v. hex_after (n * 16 + v) ds)

-- one to four hexadecimal digits, scaled to 16 bits and rounded down
abbrev pub channel_of : List ℕ → Option ℕ
channel_of ds = if nat_lt 0 (length ds) && nat_le (length ds) 4
    then option_map (λ v. 65535 * v / (16 ^ length ds - 1)) (hex_after 0 ds) else None

-- three channels
abbrev pub color_from : List ℕ → List ℕ → List ℕ → Option ColorOrQuery
color_from r g b =
    and_then (channel_of r)
    (λ red. and_then (channel_of g) (λ green.
    option_map (λ blue. Color (record { red = red; green = green; blue = blue }))
    (channel_of b)))

-- channels with `/` between them
abbrev pub rgb_of : List ℕ → Option ColorOrQuery
rgb_of bs = and_then (cut_at 0x2f bs) (λ (p : List ℕ
    × List ℕ). and_then (cut_at 0x2f p.1) (λ (q : List ℕ × List ℕ). color_from p.0 q.0 q.1))

-- six digits, two a channel
abbrev pub sharp_of : List ℕ → Option ColorOrQuery
sharp_of bs =
    if length bs == 6 then color_from (take 2 bs) (take 2 (drop 2 bs)) (drop 4 bs) else None

-- a colour: `rgb:` or `#` and its channels; or `?`
abbrev pub spec_of : List ℕ → Option ColorOrQuery
spec_of bs = if pointwise nat_eq bs (codes "?") then Some Query
    else if starts_with nat_eq bs (codes "rgb:") then rgb_of (drop 4 bs)
    else if starts_with nat_eq bs (codes "#") then sharp_of (drop 1 bs)
    else None

-- every part a colour
abbrev pub colors_of : List (List ℕ) → Option (List ColorOrQuery)
colors_of [] = Some []
colors_of (p ∷ ps) = and_then (spec_of p) (λ c. option_map (λ more. c ∷ more) (colors_of ps))

-- pairs of a number and a colour; a last lone part is dropped unread
abbrev pub pairs_of : List (List ℕ) → Option (List ChangeColorPair)
pairs_of [] = Some []
pairs_of (i ∷ []) = Some []
pairs_of (i ∷ s ∷ ps) = and_then (number_of 8 i) (λ n. and_then (spec_of s) (λ c.
    option_map (λ more. record { palette_index = n; color = c } ∷ more) (pairs_of ps)))
