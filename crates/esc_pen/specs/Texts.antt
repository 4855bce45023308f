-- The control sequences that make a pen of a plain one.
use Rattle.std.specs.Prelude.{ℕ, ◌+◌, ◌/◌, ◌%◌, Bool, true, false, nat_lt, if◌then◌else◌, List, [], ◌∷◌, ◌++◌, codes}
use Rattle.esc_sequences.specs.declared.underline.Underline.{Underline}
use Rattle.esc_sequences.specs.declared.underline.Underline.TheVariants as underline
use Rattle.typed_functions.specs.Numbers.{ansi_color_number}
use Rattle.typed_functions.specs.declared.blink.Blink.{Blink}
use Rattle.typed_functions.specs.declared.blink.Blink.TheVariants as blink
use Rattle.typed_functions.specs.declared.color_spec.ColorSpec.{ColorSpec}
use Rattle.typed_functions.specs.declared.color_spec.ColorSpec.TheVariants as color
use Rattle.esc_pen.specs.declared.ink.Ink.{Ink}
use Rattle.esc_pen.specs.declared.ink.Ink.TheVariants as ink
use Rattle.esc_pen.specs.declared.pen.Pen.{Pen}

-- a control sequence of this body
abbrev pub sequence : List ℕ → List ℕ
sequence x = 0x1b ∷ 0x5b ∷ (x ++ 0x6d ∷ [])

-- one that is written if b holds
abbrev pub flag_text : Bool → List ℕ → List ℕ
flag_text b x = if b then sequence x else []

-- the sequences for bold and for faint
abbrev pub intensity_text : Bool → Bool → List ℕ
intensity_text false false = []
intensity_text true false = sequence (codes "1")
intensity_text false true = sequence (codes "2")
intensity_text true true = sequence (codes "1") ++ sequence (codes "2")

abbrev pub underline_text : Underline → List ℕ
underline_text underline.None = []
underline_text underline.Single = sequence (codes "4")
underline_text underline.Double = sequence (codes "21")
underline_text underline.Curly = sequence (codes "4:3")
underline_text underline.Dotted = sequence (codes "4:4")
underline_text underline.Dashed = sequence (codes "4:5")

abbrev pub blink_text : Blink → List ℕ
blink_text blink.None = []
blink_text blink.Slow = sequence (codes "5")
blink_text blink.Rapid = sequence (codes "6")

abbrev pub flags_text : Pen → List ℕ
flags_text p = flag_text p.italic (codes "3")
    ++ (flag_text p.inverse (codes "7")
    ++ (flag_text p.concealed (codes "8")
    ++ (flag_text p.strikethrough (codes "9")
    ++ flag_text p.overline (codes "53"))))

-- a number of at most 255, in as many digits as it has
abbrev pub number_text : ℕ → List ℕ
number_text n =
    if nat_lt n 10 then (0x30 + n) ∷ []
    else if nat_lt n 100 then (0x30 + n / 10) ∷ (0x30 + n % 10) ∷ []
    else (0x30 + n / 100) ∷ (0x30 + n / 10 % 10) ∷ (0x30 + n % 10) ∷ []

-- 30 to 37 and 90 to 97 for characters, 40 to 47 and 100 to 107 for the background
abbrev pub named_number : ℕ → ℕ → ℕ
named_number base n = if nat_lt n 8 then base + n else base + 52 + n

-- three intensities, with this separator before each
abbrev pub rgb_text : ℕ → ℕ × ℕ × ℕ → List ℕ
rgb_text s c =
    s ∷ (number_text c.0 ++ (s ∷ (number_text c.1 ++ (s ∷ number_text c.2))))

-- a colour without a name after this number, with this separator
abbrev pub color_text : List ℕ → ℕ → ColorSpec → List ℕ
color_text t s color.Default = []
color_text t s (color.PaletteIndex n) = sequence (t ++ (s ∷ 0x35 ∷ s ∷ number_text n))
color_text t s (color.TrueColor c) = sequence (t ++ (s ∷ 0x32 ∷ rgb_text s c))

abbrev pub ink_text : ℕ → List ℕ → Ink → List ℕ
ink_text base t (ink.Named c) = sequence (number_text (named_number base (ansi_color_number c)))
ink_text base t (ink.Other c) = color_text t 0x3b c

-- its colours; after 58 there are colons, since a terminal that does not know them would take the
-- numbers after `;` for renditions
abbrev pub colors_text : Pen → List ℕ
colors_text p = ink_text 30 (codes "38") p.foreground
    ++ (ink_text 40 (codes "48") p.background ++ color_text (codes "58") 0x3a p.underline_color)

-- a sequence for each rendition that holds, and nothing for a plain pen
abbrev pub pen_text : Pen → List ℕ
pen_text p = intensity_text p.bold p.faint
    ++ (underline_text p.underline ++ (blink_text p.blink ++ (flags_text p ++ colors_text p)))
