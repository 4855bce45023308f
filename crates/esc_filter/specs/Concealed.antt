-- Renditions that conceal text.
use Rattle.std.specs.Prelude.{ℕ, zero, suc, ℤ, pos, negsuc, Bool, true, false, not, ◌==◌, ◌&&◌, ◌||◌, if◌then◌else◌, List, [], ◌∷◌, drop, Option, Some, None, is_some}
use Rattle.std.specs.List.{list_any}
use Rattle.esc_values.specs.declared.csi_param.CsiParam.{CsiParam}
use Rattle.esc_values.specs.declared.csi_param.CsiParam.TheVariants.{Integer, P}

-- a parameter that is this number
abbrev pub is_number : ℕ → CsiParam → Bool
is_number k (Integer (pos n)) = n == k
is_number k (Integer (negsuc n)) = false
is_number k (P b) = false

-- 8: concealed characters (ECMA-48, 8.3.117)
abbrev pub is_conceal : CsiParam → Bool
is_conceal e = is_number 8 e

-- the colour of characters, of their background or of a line under them, with numbers after it
abbrev pub begins_color : CsiParam → Bool
begins_color e = is_number 38 e || (is_number 48 e || is_number 58 e)

-- the number that comes first, after `;`
abbrev pub first_number : List CsiParam → Option ℤ
first_number (P b ∷ Integer n ∷ es) = if b == 0x3b then Some n else None
first_number _ = None

abbrev pub number_at : ℕ → List CsiParam → Option ℤ
number_at i es = first_number (drop i es)

abbrev pub has_number : ℕ → List CsiParam → Bool
has_number i es = is_some (number_at i es)

-- the number of parameters in `;5;n` (a colour of the palette) and in `;2;r;g;b`
abbrev pub length_by : Option ℤ → List CsiParam → ℕ
length_by None es = 0
length_by (Some (negsuc n)) es = 0
length_by (Some (pos n)) es =
    if (n == 5) && has_number 2 es then 4
    else if (n == 2)
    && (has_number 2 es && (has_number 4 es && has_number 6 es)) then 8 else 0

abbrev pub color_length : List CsiParam → ℕ
color_length es = length_by (number_at 0 es) es

-- a colon has the number after it
abbrev pub part_length : CsiParam → List CsiParam → ℕ
part_length (P b) (Integer n ∷ es) = if b == 0x3a then 1 else 0
part_length _ _ = 0

abbrev pub begins_part : List CsiParam → Bool
begins_part (P b ∷ es) = b == 0x3a
begins_part _ = false

-- how many of the parameters after this one belong to it
abbrev pub length_of : CsiParam → List CsiParam → ℕ
length_of e es = if begins_color e then color_length es else part_length e es

-- a colour that is not whole: terminals differ in which numbers they take for it
abbrev pub breaks_off : CsiParam → List CsiParam → Bool
breaks_off e es = begins_color e && ((color_length es == 0) && not (begins_part es))

-- Whether a rendition with these parameters, but for the first n, may conceal text: one of them is
-- 8, and belongs to none before it, or comes after a colour that is not whole.
abbrev pub conceals_after : ℕ → List CsiParam → Bool
conceals_after n [] = false
conceals_after (suc n) (e ∷ es) = conceals_after n es
conceals_after zero (e ∷ es) =
    if is_conceal e then true
    else if breaks_off e es then list_any is_conceal es
    else conceals_after (length_of e es) es

abbrev pub conceals : List CsiParam → Bool
conceals es = conceals_after 0 es
