-- The sequence that makes a look is a rendition.
use Rattle.std.proofs.Common.{ℕ, ◌≡◌, Bool, true, false, List, ◌∷◌, ◌++◌, codes, refl, sym, ap, ◌∙◌, append_assoc}
use Rattle.std.specs.List.{list_all}
use Rattle.esc_sequences.specs.declared.underline.Underline.{Underline}
use Rattle.esc_sequences.specs.declared.underline.Underline.TheVariants as underline
use Rattle.esc_values.specs.Params.{is_csi_parameter}
use Rattle.typed_functions.specs.Numbers.{ansi_color_number}
use Rattle.esc_style.specs.declared.color.Color.{Color}
use Rattle.esc_style.specs.declared.color.Color.TheVariants as color
use Rattle.esc_style.specs.declared.look.Look.{Look}
use Rattle.esc_filter.specs.Tokens.{IsRendition}
use Rattle.esc_filter.proofs.Renditions.NumbersHaveNoSign.{decimal_digits}
use Rattle.esc_filter.proofs.ByLine.DataHasNoFeed.{both}
use Rattle.esc_sgr.specs.Sgr.{color_text, colors_text, flag_text, flags_text, look_text, named_number, number_text, rgb_text, underline_color_text, underline_text, weight_text}

abbrev AreDigits : List ℕ → Type 0
AreDigits t = list_all is_csi_parameter t ≡ true

two : (x y : List ℕ) → AreDigits x → AreDigits y → AreDigits (x ++ y)
two x y h k = both is_csi_parameter x y h k

weight_digits : (h i : Bool) → AreDigits (weight_text h i)
weight_digits true true = refl
weight_digits true false = refl
weight_digits false true = refl
weight_digits false false = refl

underline_digits : (u : Underline) → AreDigits (underline_text u)
underline_digits underline.None = refl
underline_digits underline.Single = refl
underline_digits underline.Double = refl
underline_digits underline.Curly = refl
underline_digits underline.Dotted = refl
underline_digits underline.Dashed = refl

flag_digits : (b : Bool) (t : List ℕ) → AreDigits t → AreDigits (flag_text b t)
flag_digits true t h = h
flag_digits false t h = refl

flags_digits : (l : Look) → AreDigits (flags_text l)
flags_digits l =
    two (flag_text l.italic (codes ";3")) _ (flag_digits l.italic (codes ";3") refl)
    (two (flag_text l.blink (codes ";5")) _ (flag_digits l.blink (codes ";5") refl)
    (two (flag_text l.inverse (codes ";7")) _ (flag_digits l.inverse (codes ";7") refl)
    (two (flag_text l.concealed (codes ";8")) _ (flag_digits l.concealed (codes ";8") refl)
    (two (flag_text l.strikethrough (codes ";9")) _
    (flag_digits l.strikethrough (codes ";9") refl)
    (flag_digits l.overline (codes ";53") refl)))))

number_digits : (n : ℕ) → AreDigits (number_text n)
number_digits n = decimal_digits n

rgb_digits : (c : ℕ × ℕ × ℕ) → AreDigits (rgb_text c)
rgb_digits c =
    two (number_text c.0) (number_text c.1 ++ number_text c.2) (number_digits c.0)
    (two (number_text c.1) (number_text c.2) (number_digits c.1) (number_digits c.2))

color_digits : (base : ℕ) (s t : List ℕ) (c : Color) → AreDigits s → AreDigits t
    → AreDigits (color_text base s t c)
color_digits base s t color.Default h k = refl
color_digits base s t (color.Named c) h k =
    number_digits (named_number base (ansi_color_number c))
color_digits base s t (color.Palette n) h k = two s (number_text n) h (number_digits n)
color_digits base s t (color.Direct c) h k = two t (rgb_text c) k (rgb_digits c)

underline_color_digits : (c : Color) → AreDigits (underline_color_text c)
underline_color_digits color.Default = refl
underline_color_digits (color.Named c) =
    two (codes ";58;5") (number_text (ansi_color_number c)) refl
    (number_digits (ansi_color_number c))
underline_color_digits (color.Palette n) =
    two (codes ";58;5") (number_text n) refl (number_digits n)
underline_color_digits (color.Direct c) = two (codes ";58;2") (rgb_text c) refl (rgb_digits c)

colors_digits : (l : Look) → AreDigits (colors_text l)
colors_digits l =
    two (color_text 30 (codes ";38;5") (codes ";38;2") l.foreground) _
    (color_digits 30 (codes ";38;5") (codes ";38;2") l.foreground refl refl)
    (two (color_text 40 (codes ";48;5") (codes ";48;2") l.background) _
    (color_digits 40 (codes ";48;5") (codes ";48;2") l.background refl refl)
    (underline_color_digits l.underline_color))

rejoined : (a b c d m : List ℕ)
    → a ++ (b ++ (c ++ (d ++ m))) ≡ (a ++ (b ++ (c ++ d))) ++ m
rejoined a b c d m =
    ap (λ t. a ++ (b ++ t)) (sym (append_assoc c d m))
    ∙ ap (λ t. a ++ t) (sym (append_assoc b (c ++ d) m))
    ∙ sym (append_assoc a (b ++ (c ++ d)) m)

pub look_rendition : (l : Look) → IsRendition (look_text l)
look_rendition l =
    let a = weight_text l.bold l.faint in
    let b = underline_text l.underline in
    let c = flags_text l in
    let d = colors_text l in (
      0x30 ∷ (a ++ (b ++ (c ++ d))),
      two a (b ++ (c ++ d)) (weight_digits l.bold l.faint)
          (two b (c ++ d) (underline_digits l.underline)
          (two c d (flags_digits l) (colors_digits l))),
      ap (λ t. 0x1b ∷ 0x5b ∷ 0x30 ∷ t) (rejoined a b c d (codes "m")),
    )
