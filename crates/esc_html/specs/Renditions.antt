-- The renditions that are control sequences by themselves, and those that logs have most.
use Rattle.std.specs.Prelude.{ℕ, ◌≡◌, Bool, true, false, List, [], ◌∷◌}
use Rattle.esc_values.specs.declared.csi_param.CsiParam.{CsiParam}
use Rattle.esc_values.specs.declared.csi_param.CsiParam.TheVariants.{Integer}
use Rattle.esc_html.specs.Marks.{Pen, function_step, restyles}
use Rattle.esc_html.specs.Plain.{marking}
use Rattle.esc_html.specs.declared.renditions.Common.{Common}
use Rattle.esc_html.specs.declared.renditions.Common.TheVariants as common
use Rattle.esc_sequences.specs.Csis.{CsiValue, csi_of}
use Rattle.esc_sequences.specs.declared.sgr.Sgr.{Sgr}
use Rattle.esc_sequences.specs.declared.sgr.Sgr.TheVariants as sgr
use Rattle.typed_functions.specs.declared.rendition.Rendition.{Rendition}
use Rattle.typed_functions.specs.declared.rendition.Rendition.TheVariants.{Reset, Intensity, Italic, Underline, AnsiForeground}
use Rattle.esc_style.specs.Looks.{look_by}
use Rattle.typed_functions.specs.Functions.{of_csi}

-- the same as one of all
abbrev pub rendition_of : Sgr → Rendition
rendition_of sgr.Reset = Reset
rendition_of (sgr.Intensity i) = Intensity i
rendition_of (sgr.Italic b) = Italic b
rendition_of (sgr.Underline u) = Underline u

-- the parameters of a control sequence are one number
abbrev pub is_number : List CsiParam → Bool
is_number (Integer n ∷ []) = true
is_number _ = false

-- one that logs have most, as one of all
abbrev pub rendition_by : Common → Rendition
rendition_by common.Reset = Reset
rendition_by (common.Color c) = AnsiForeground c
rendition_by (common.Marked m) = marking m

-- a control sequence of these parameters is one value, which asks for this rendition alone
abbrev pub AsksFor : List CsiParam → Bool → ℕ → Rendition → Type 0
AsksFor es t f r = (v : CsiValue) × (csi_of es t f ≡ v ∷ [])
    × ((p : Pen) → restyles (look_by p.look r) ≡ function_step p (of_csi v))
