-- A rendition and its entries: how they are read, and their one normal spelling.
use Rattle.std.specs.Prelude.{ℕ, ◌==◌, ◌||◌, ◌<◌, Bool, false, pos, negsuc, nat_le, if◌then◌else◌, List, [], ◌∷◌, Option, Some, None}
use Rattle.std.specs.Option.{option_map}
use Rattle.esc_values.specs.Scalars.{and_then, some_if}
use Rattle.esc_values.specs.declared.csi_param.CsiParam.{CsiParam}
use Rattle.esc_values.specs.declared.csi_param.CsiParam.TheVariants.{Integer, P}
use Rattle.esc_sequences.specs.declared.underline.Underline.{Underline as UnderlineKind}
use Rattle.esc_sequences.specs.declared.underline.Underline.TheVariants as underline
use Rattle.typed_functions.specs.declared.color_spec.ColorSpec.{ColorSpec}
use Rattle.typed_functions.specs.declared.color_spec.ColorSpec.TheVariants as color
use Rattle.typed_functions.specs.declared.rendition.Rendition.{Rendition}
use Rattle.typed_functions.specs.declared.rendition.Rendition.TheVariants.{Reset, Underline, Foreground, Background, UnderlineColor}
use Rattle.typed_functions.specs.Numbers.{number_rendition, number_of}

-- a number of at most 255
abbrev pub byte_of : CsiParam → Option ℕ
byte_of (Integer (pos n)) = some_if (nat_le n 255) n
byte_of (Integer (negsuc n)) = None
byte_of (P b) = None

-- it is this byte
abbrev pub is_byte : ℕ → CsiParam → Bool
is_byte s (Integer n) = false
is_byte s (P b) = b == s

-- the number after a separator, at most 255, and the rest
abbrev pub byte_after : ℕ → List CsiParam → Option (ℕ × List CsiParam)
byte_after s [] = None
byte_after s (m ∷ []) = None
byte_after s (m ∷ e ∷ es) =
    if is_byte s m then option_map (λ n. (n, es)) (byte_of e) else None

-- x, if nothing follows
abbrev pub at_end : {X : Type 0} → List CsiParam → X → Option X
at_end [] x = Some x
at_end (e ∷ es) x = None

-- `n` of the palette
abbrev pub indexed_color : ℕ → List CsiParam → Option ColorSpec
indexed_color s es = and_then (byte_after s es) (λ n. at_end n.1 (color.PaletteIndex n.0))

-- `r;g;b`, and the rest
abbrev pub three : ℕ → List CsiParam → Option ((ℕ × ℕ × ℕ) × List CsiParam)
three s es =
    and_then (byte_after s es) (λ r.
    and_then (byte_after s r.1) (λ g.
    and_then (byte_after s g.1) (λ b. Some ((r.0, g.0, b.0), b.1))))

abbrev pub after_number : List CsiParam → List CsiParam
after_number [] = []
after_number (Integer n ∷ es) = es
after_number (P b ∷ es) = P b ∷ es

-- the rest after a field, if one comes: a colon, and a number or nothing
abbrev pub after_field : List CsiParam → List CsiParam
after_field [] = []
after_field (m ∷ es) = if is_byte 0x3a m then after_number es else m ∷ es

-- `r;g;b` alone
abbrev pub bare_direct : ℕ → List CsiParam → Option ColorSpec
bare_direct s es = and_then (three s es) (λ c. at_end c.1 (color.TrueColor c.0))

-- The same after the field of a colour space, which may be empty, and before at most three fields;
-- the second is a tolerance and the third the tolerance's colour space (ITU-T T.416, 13.1.8): they
-- say nothing of the colour.
abbrev pub direct_in_space : List CsiParam → Option ColorSpec
direct_in_space es =
    and_then (three 0x3a (after_field es)) (λ c.
    at_end (after_field (after_field (after_field c.1))) (color.TrueColor c.0))

-- the first, or else the second
abbrev pub or_else : {X : Type 0} → Option X → Option X → Option X
or_else None y = y
or_else (Some x) y = Some x

-- `r;g;b`, or with colons as T.416 has it
abbrev pub direct : ℕ → List CsiParam → Option ColorSpec
direct s es =
    or_else (bare_direct s es) (if s == 0x3a then direct_in_space es else None)

-- the colour by the entries after 38, 48 or 58, with this separator: `5;n` or `2;r;g;b`
abbrev pub color_with : ℕ → List CsiParam → Option ColorSpec
color_with s es =
    and_then (byte_after s es) (λ k. if k.0 == 5 then indexed_color s k.1
    else if k.0 == 2 then direct s k.1 else None)

-- the same, with `;` or with `:`
abbrev pub color_of : List CsiParam → Option ColorSpec
color_of es = or_else (color_with 0x3b es) (color_with 0x3a es)

-- the kinds of underlines by the number after `4:`
abbrev pub underline_at : ℕ → Option UnderlineKind
underline_at k = if k == 0 then Some underline.None
    else if k == 1 then Some underline.Single
    else if k == 2 then Some underline.Double
    else if k == 3 then Some underline.Curly
    else if k == 4 then Some underline.Dotted
    else if k == 5 then Some underline.Dashed
    else None

-- the number of a kind
abbrev pub underline_number : UnderlineKind → ℕ
underline_number underline.None = 0
underline_number underline.Single = 1
underline_number underline.Double = 2
underline_number underline.Curly = 3
underline_number underline.Dotted = 4
underline_number underline.Dashed = 5

-- the underline by the entries after 4
abbrev pub underline_kind : List CsiParam → Option UnderlineKind
underline_kind es =
    and_then (byte_after 0x3a es) (λ k. and_then (at_end k.1 k.0) underline_at)

-- 38, 48 and 58, which a colour follows
abbrev pub is_target : ℕ → Bool
is_target n = (n == 38) || (n == 48) || (n == 58)

abbrev pub on_target : ℕ → ColorSpec → Rendition
on_target n c = if n == 38 then Foreground c else if n == 48 then Background c
    else UnderlineColor c

-- the rendition of a number and the entries after it
abbrev pub with_more : ℕ → List CsiParam → Option Rendition
with_more n [] = number_rendition n
with_more n (m ∷ es) = if n == 4 then option_map Underline (underline_kind (m ∷ es))
    else if is_target n then option_map (on_target n) (color_of (m ∷ es))
    else None

-- the rendition of its entries, which have no `;` after them: none is a reset
abbrev pub rendition_of : List CsiParam → Option Rendition
rendition_of [] = Some Reset
rendition_of (e ∷ es) = and_then (byte_of e) (λ n. with_more n es)

-- ---- the normal spelling

abbrev pub number : ℕ → CsiParam
number n = Integer (pos n)

-- a colour that has no number of its own, after its target, with this separator
abbrev pub color_entries : ℕ → ℕ → ColorSpec → List CsiParam
color_entries t s color.Default = []
color_entries t s (color.PaletteIndex n) = number t ∷ P s ∷ number 5 ∷ P s ∷ number n ∷ []
color_entries t s (color.TrueColor c) = number t ∷ P s ∷ number 2
    ∷ P s ∷ number c.0 ∷ P s ∷ number c.1 ∷ P s ∷ number c.2 ∷ []

-- the same for a rendition that has no number of its own
abbrev pub more_entries : Rendition → List CsiParam
more_entries (Underline k) = number 4 ∷ P 0x3a ∷ number (underline_number k) ∷ []
more_entries (Foreground c) = color_entries 38 0x3b c
more_entries (Background c) = color_entries 48 0x3b c
more_entries (UnderlineColor c) = color_entries 58 0x3a c
more_entries _ = []

abbrev pub normal_by : Option ℕ → Rendition → List CsiParam
normal_by (Some n) r = number n ∷ []
normal_by None r = more_entries r

-- One number, if one asks for it, and 0 for a reset; `4:3` to `4:5`; and `38;5;n`, `38;2;r;g;b` and
-- the same for 48. After 58 there are colons, since a terminal that does not know them would take
-- the numbers after `;` for renditions.
abbrev pub normal_params : Rendition → List CsiParam
normal_params r = normal_by (number_of r) r

-- numbers of a colour are at most 255
abbrev pub IsColor : ColorSpec → Type 0
IsColor color.Default = Unit {0}
IsColor (color.PaletteIndex n) = n < 256
IsColor (color.TrueColor c) = (c.0 < 256) × (c.1 < 256) × (c.2 < 256)

abbrev pub IsRendition : Rendition → Type 0
IsRendition (Foreground c) = IsColor c
IsRendition (Background c) = IsColor c
IsRendition (UnderlineColor c) = IsColor c
IsRendition _ = Unit {0}

abbrev pub AreRenditions : List Rendition → Type 0
AreRenditions [] = Unit {0}
AreRenditions (r ∷ rs) = IsRendition r × AreRenditions rs
