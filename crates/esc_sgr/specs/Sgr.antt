-- The control sequence that makes a look (ECMA-48, 8.3.117, SGR; xterm's list, "Character
-- Attributes (SGR)").
use Rattle.std.specs.Prelude.{ℕ, ◌+◌, ◌==◌, nat_lt, Bool, true, false, ◌&&◌, if◌then◌else◌, List, [], ◌∷◌, ◌++◌, codes}
use Rattle.std.specs.Bool.{beq}
use Rattle.std.specs.Fmt.{decimal}
use Rattle.esc_style.specs.declared.color.Color.{Color}
use Rattle.esc_style.specs.declared.color.Color.TheVariants as color
use Rattle.esc_style.specs.declared.look.Look.{Look}
use Rattle.esc_sequences.specs.declared.underline.Underline.{Underline}
use Rattle.esc_sequences.specs.declared.underline.Underline.TheVariants as underline
use Rattle.typed_functions.specs.Numbers.{ansi_color_number}

-- a number more
abbrev pub number_text : ℕ → List ℕ
number_text n = 0x3b ∷ decimal n

abbrev pub underline_text : Underline → List ℕ
underline_text underline.None = []
underline_text underline.Single = codes ";4"
underline_text underline.Double = codes ";21"
underline_text underline.Curly = codes ";4:3"
underline_text underline.Dotted = codes ";4:4"
underline_text underline.Dashed = codes ";4:5"

abbrev pub flag_text : Bool → List ℕ → List ℕ
flag_text b t = if b then t else []

-- bold characters may be faint too
abbrev pub weight_text : Bool → Bool → List ℕ
weight_text bold faint = flag_text bold (codes ";1") ++ flag_text faint (codes ";2")

abbrev pub flags_text : Look → List ℕ
flags_text l = flag_text l.italic (codes ";3")
    ++ (flag_text l.blink (codes ";5")
    ++ (flag_text l.inverse (codes ";7")
    ++ (flag_text l.concealed (codes ";8")
    ++ (flag_text l.strikethrough (codes ";9")
    ++ flag_text l.overline (codes ";53")))))

-- a colour that has a name: 30 to 37 and 90 to 97 for characters, 40 to 47 and 100 to 107 around
-- them
abbrev pub named_number : ℕ → ℕ → ℕ
named_number base n = if nat_lt n 8 then base + n else base + 52 + n

abbrev pub rgb_text : ℕ × ℕ × ℕ → List ℕ
rgb_text c = number_text c.0 ++ (number_text c.1 ++ number_text c.2)

abbrev pub color_text : ℕ → List ℕ → List ℕ → Color → List ℕ
color_text base entry direct color.Default = []
color_text base entry direct (color.Named c) =
    number_text (named_number base (ansi_color_number c))
color_text base entry direct (color.Palette n) = entry ++ number_text n
color_text base entry direct (color.Direct c) = direct ++ rgb_text c

abbrev pub underline_color_text : Color → List ℕ
underline_color_text color.Default = []
underline_color_text (color.Named c) = codes ";58;5" ++ number_text (ansi_color_number c)
underline_color_text (color.Palette n) = codes ";58;5" ++ number_text n
underline_color_text (color.Direct c) = codes ";58;2" ++ rgb_text c

abbrev pub colors_text : Look → List ℕ
colors_text l = color_text 30 (codes ";38;5") (codes ";38;2") l.foreground
    ++ (color_text 40 (codes ";48;5") (codes ";48;2") l.background
    ++ underline_color_text l.underline_color)

-- the text that makes the look, whatever held before
abbrev pub look_text : Look → List ℕ
look_text l = 0x1b ∷ codes "[0"
    ++ (weight_text l.bold l.faint ++ (underline_text l.underline
    ++ (flags_text l ++ (colors_text l ++ codes "m"))))

-- ---- whether two looks are the same

abbrev pub underline_code : Underline → ℕ
underline_code underline.None = 0
underline_code underline.Single = 1
underline_code underline.Double = 2
underline_code underline.Curly = 3
underline_code underline.Dotted = 4
underline_code underline.Dashed = 5

abbrev pub same_flags : Look → Look → Bool
same_flags a b = beq a.bold b.bold && beq a.faint b.faint && beq a.italic b.italic
    && beq a.blink b.blink && beq a.inverse b.inverse && beq a.concealed b.concealed
    && beq a.strikethrough b.strikethrough && beq a.overline b.overline

abbrev pub is_default : Color → Bool
is_default color.Default = true
is_default _ = false

abbrev pub is_named : ℕ → Color → Bool
is_named n (color.Named c) = n == ansi_color_number c
is_named n _ = false

abbrev pub is_entry : ℕ → Color → Bool
is_entry n (color.Palette m) = n == m
is_entry n _ = false

abbrev pub is_direct : ℕ × ℕ × ℕ → Color → Bool
is_direct a (color.Direct c) = a.0 == c.0 && a.1 == c.1 && a.2 == c.2
is_direct a _ = false

abbrev pub same_color : Color → Color → Bool
same_color color.Default c = is_default c
same_color (color.Named a) c = is_named (ansi_color_number a) c
same_color (color.Palette n) c = is_entry n c
same_color (color.Direct a) c = is_direct a c

abbrev pub same_look : Look → Look → Bool
same_look a b = underline_code a.underline == underline_code b.underline && same_flags a b
    && same_color a.foreground b.foreground && same_color a.background b.background
    && same_color a.underline_color b.underline_color

-- the text that makes a look when another holds: nothing, if they are the same
abbrev pub change_text : Look → Look → List ℕ
change_text a b = if same_look a b then [] else look_text b
