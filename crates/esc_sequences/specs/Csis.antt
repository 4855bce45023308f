-- Control sequences: how they are read and written.
use Rattle.std.specs.Prelude.{ℕ, ℤ, ◌≡◌, ◌≤◌, Bool, true, false, not, ◌==◌, ◌&&◌, pos, negsuc, if◌then◌else◌, List, [], ◌∷◌, ◌++◌, length, codes}
use Rattle.std.specs.Prelude.{Option, Some, None, unwrap_or}
use Rattle.std.specs.Char.{encode_utf8}
use Rattle.std.specs.List.{list_all, slice_split}
use Rattle.std.specs.Option.{option_map}
use Rattle.esc_sequences.specs.declared.csi.CSI.{CSI}
use Rattle.esc_sequences.specs.declared.csi.CSI.TheVariants as csi
use Rattle.esc_values.specs.declared.csi_param.CsiParam.{CsiParam}
use Rattle.esc_values.specs.declared.csi_param.CsiParam.TheVariants.{Integer, P}
use Rattle.esc_sequences.specs.declared.intensity.Intensity.TheVariants as intensity
use Rattle.esc_sequences.specs.declared.sgr.Sgr.{Sgr}
use Rattle.esc_sequences.specs.declared.sgr.Sgr.TheVariants.{Reset, Intensity, Italic, Underline}
use Rattle.esc_sequences.specs.declared.underline.Underline.TheVariants as underline
use Rattle.esc_values.specs.Params.{is_body_byte, is_csi_body, csi_params, csi_params_text}

-- a control sequence, without its place in memory: a rendition, or parameters, whether there are
-- more, and a final byte
pub data CsiValue : Type 0 where
  sgr : Sgr → CsiValue
  unspecified : List CsiParam → Bool → ℕ → CsiValue

abbrev pub csi_value : {A : Type 0} → CSI A → CsiValue
csi_value (csi.Sgr s) = sgr s
csi_value (csi.Unspecified u) = unspecified u.params u.parameters_truncated u.control

-- the renditions by their numbers
abbrev pub sgr_of_number : ℕ → Option Sgr
sgr_of_number n = if n == 0 then Some Reset
    else if n == 1 then Some (Intensity intensity.Bold)
    else if n == 2 then Some (Intensity intensity.Half)
    else if n == 22 then Some (Intensity intensity.Normal)
    else if n == 3 then Some (Italic true)
    else if n == 23 then Some (Italic false)
    else if n == 4 then Some (Underline underline.Single)
    else if n == 21 then Some (Underline underline.Double)
    else if n == 24 then Some (Underline underline.None)
    else None

abbrev pub sgr_at : ℤ → Option Sgr
sgr_at (pos n) = sgr_of_number n
sgr_at (negsuc n) = None

-- the kinds of underlines by the number after `4:`
abbrev pub kind_of : ℕ → Option Sgr
kind_of n = if n == 0 then Some (Underline underline.None)
    else if n == 1 then Some (Underline underline.Single)
    else if n == 2 then Some (Underline underline.Double)
    else if n == 3 then Some (Underline underline.Curly)
    else if n == 4 then Some (Underline underline.Dotted)
    else if n == 5 then Some (Underline underline.Dashed)
    else None

abbrev pub underline_sgr : CsiParam → Option Sgr
underline_sgr (Integer (pos n)) = kind_of n
underline_sgr (Integer (negsuc n)) = None
underline_sgr (P b) = None

-- the rendition of an item: nothing, a number, or `4:` and a number
abbrev pub rendition : List CsiParam → Option Sgr
rendition [] = Some Reset
rendition (Integer n ∷ []) = sgr_at n
rendition (Integer (pos n) ∷ P b ∷ k ∷ []) = if (n == 4) && (b == 0x3a) then underline_sgr k
    else None
rendition _ = None

abbrev pub put_first : Option Sgr → Option (List CsiValue) → Option (List CsiValue)
put_first None more = None
put_first (Some s) more = option_map (λ vs. sgr s ∷ vs) more

-- the renditions of these items, if each item is one
abbrev pub renditions : List (List CsiParam) → Option (List CsiValue)
renditions [] = Some []
renditions (i ∷ is) = put_first (rendition i) (renditions is)

-- `;` comes between items
abbrev pub is_separator : CsiParam → Bool
is_separator (Integer n) = false
is_separator (P b) = b == 0x3b

-- The values of parameters, of whether there were more of them, and of a final byte: with the final
-- byte `m`, if none was left out and the items between `;` are all renditions, these; else one
-- sequence as it is. No parameter is one empty item.
abbrev pub csi_of : List CsiParam → Bool → ℕ → List CsiValue
csi_of params truncated control =
    let whole = unspecified params truncated control ∷ [] in
    if (control == 0x6d)
    && not truncated then unwrap_or (renditions (slice_split is_separator params)) whole else
    whole

-- the number of a rendition
abbrev pub sgr_body : Sgr → List ℕ
sgr_body Reset = codes "0"
sgr_body (Intensity intensity.Bold) = codes "1"
sgr_body (Intensity intensity.Half) = codes "2"
sgr_body (Intensity intensity.Normal) = codes "22"
sgr_body (Italic true) = codes "3"
sgr_body (Italic false) = codes "23"
sgr_body (Underline underline.None) = codes "24"
sgr_body (Underline underline.Single) = codes "4"
sgr_body (Underline underline.Double) = codes "21"
sgr_body (Underline underline.Curly) = codes "4:3"
sgr_body (Underline underline.Dotted) = codes "4:4"
sgr_body (Underline underline.Dashed) = codes "4:5"

-- the text of a rendition
abbrev pub sgr_text : Sgr → List ℕ
sgr_text s = 0x1b ∷ 0x5b ∷ (sgr_body s ++ 0x6d ∷ [])

-- the bytes between `ESC [` and the final byte
abbrev pub csi_body : CsiValue → List ℕ
csi_body (sgr s) = sgr_body s
csi_body (unspecified es more f) = csi_params_text es

-- the text of a control sequence
abbrev pub csi_text : CsiValue → List ℕ
csi_text (sgr s) = sgr_text s
csi_text (unspecified es more f) = 0x1b ∷ 0x5b ∷ (csi_params_text es ++ encode_utf8 f)

-- the body of a control sequence with no parameter left out
abbrev pub IsWholeBody : List ℕ → Type 0
IsWholeBody x = (list_all is_body_byte x ≡ true) × (is_csi_body x ≡ true)
    × (length (csi_params x) ≤ 256)

-- the value's text is one control sequence with this final byte, which is read as this one value
abbrev pub ReadsBack : ℕ → CsiValue → Type 0
ReadsBack f v = (csi_text v ≡ 0x1b ∷ 0x5b ∷ (csi_body v ++ f ∷ [])) × IsWholeBody (csi_body v)
    × (csi_of (csi_params (csi_body v)) false f ≡ v ∷ [])

abbrev pub ReadBack : ℕ → List CsiValue → Type 0
ReadBack f [] = Unit {0}
ReadBack f (v ∷ vs) = ReadsBack f v × ReadBack f vs
