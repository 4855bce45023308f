-- The renditions that are known to be on, if they are noted.
use Rattle.std.specs.Prelude.{ℕ, ◌==◌, ◌&&◌, Bool, true, false, if◌then◌else◌, List, [], ◌∷◌, Option, None, Some}
use Rattle.std.specs.List.{list_all}
use Rattle.std.specs.Option.{option_map}
use Rattle.esc_values.specs.declared.csi_param.CsiParam.{CsiParam}
use Rattle.esc_sequences.specs.Csis.{CsiValue, sgr, unspecified}
use Rattle.esc_sequences.specs.declared.sgr.Sgr.{Sgr}
use Rattle.esc_sequences.specs.declared.sgr.Sgr.TheVariants as sgr_variant
use Rattle.esc_actions.specs.Values.{Value, csi}
use Rattle.esc_pen.specs.Pens.{pen_by, pen_by_all, plain_pen}
use Rattle.esc_pen.specs.Texts.{pen_text}
use Rattle.esc_pen.specs.declared.pen.Pen.{Pen}
use Rattle.typed_functions.specs.Selections.{selections}
use Rattle.typed_functions.specs.declared.rendition.Rendition.{Rendition}
use Rattle.typed_functions.specs.declared.rendition.Rendition.TheVariants as rendition
use Rattle.esc_filter.specs.Rules.{is_plain_param}

-- none are at the start; they are noted if lines are streams of their own
abbrev pub start_pen : Bool → Option Pen
start_pen true = Some plain_pen
start_pen false = None

-- the rendition that it is
abbrev pub rendition_of : Sgr → Rendition
rendition_of sgr_variant.Reset = rendition.Reset
rendition_of (sgr_variant.Intensity i) = rendition.Intensity i
rendition_of (sgr_variant.Italic b) = rendition.Italic b
rendition_of (sgr_variant.Underline u) = rendition.Underline u

-- after a rendition, and after those of these parameters
abbrev pub pen_with : Rendition → Option Pen → Option Pen
pen_with r p = option_map (λ q. pen_by q r) p

abbrev pub pen_selected : List CsiParam → Option Pen → Option Pen
pen_selected es p = option_map (λ q. pen_by_all q (selections es)) p

-- after a control sequence: graphic renditions change it, and no other does
abbrev pub pen_after_body : List CsiParam → ℕ → Option Pen → Option Pen
pen_after_body es f p =
    if (f == 0x6d) && list_all is_plain_param es then pen_selected es p else p

abbrev pub pen_after_sequence : CsiValue → Option Pen → Option Pen
pen_after_sequence (sgr s) p = pen_with (rendition_of s) p
pen_after_sequence (unspecified es more f) p = pen_after_body es f p

-- after a control sequence; its final byte says whether it is renditions
abbrev pub pen_after_final : List CsiParam → ℕ → Option Pen → Option Pen
pen_after_final es f p = if f == 0x6d then pen_selected es p else p

-- after a value, and after values, one after another
abbrev pub pen_after_value : {A : Type 0} → Value A → Option Pen → Option Pen
pen_after_value (csi c) p = pen_after_sequence c p
pen_after_value _ p = p

abbrev pub pen_after : {A : Type 0} → List (Value A) → Option Pen → Option Pen
pen_after [] p = p
pen_after (v ∷ vs) p = pen_after vs (pen_after_value v p)

-- the control sequences that make it
abbrev pub text_of_pen : Option Pen → List ℕ
text_of_pen None = []
text_of_pen (Some p) = pen_text p
