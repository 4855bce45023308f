-- How long parts are.
use Rattle.std.proofs.Common.{ℕ, ◌≡◌, ◌≤◌, ◌+◌, ◌*◌, ◌/◌, ◌%◌, nat_lt, Bool, true, false, ◌||◌, ◌==◌, if◌then◌else◌, inl, inr, List, [], ◌∷◌, ◌++◌, codes, length, Option, Some, None, refl, ap, ◌∙◌, subst, arith}
use Rattle.std.specs.Char.{encode_utf8}
use Rattle.std.specs.List.{flat_map}
use Rattle.std.proofs.lemmas.Bool.{cases_Bool, leb-true}
use Rattle.std.proofs.lemmas.Grind.{flat_map-append}
use Rattle.std.proofs.lemmas.List.{append-nil, length-append}
use Rattle.std.proofs.lemmas.Str.{len_utf8_bounds, length-encode}
use Rattle.esc_html.specs.Inline.{background_style as around_style, background_text, color_style, colors_text, declared_as, decoration_style, decoration_text, foreground_text, inline_text, is_underlined, keywords_text, kind_text, lines_text, rgb_of, slant_text, weight_text}
use Rattle.esc_html.specs.Shades.{around_rgb, text_rgb}
use Rattle.esc_html.specs.PageParts.{attribute_text, attributes_text, class_attribute, escape, escape_text, escape_value, needs_reference, page_part_text, reference_text, span, style_attribute}
use Rattle.esc_html.proofs.Texts.EscapedBytesAreUtf8.{referenced, unreferenced}
use Rattle.esc_html.specs.Names.{more_span_names, span_name, span_names}
use Rattle.esc_style.specs.Classes.{color_name, index_digits, two_digits}
use Rattle.esc_style.specs.Looks.{background_class, background_style, class_if, foreground_class, foreground_style, look_classes, look_styles, values_of, seen_foreground, shown_background, underline_class, underline_color_class, underline_color_style}
use Rattle.esc_style.specs.Styles.{style_text, styles_text}
use Rattle.esc_style.specs.declared.class.Class.{Class}
use Rattle.esc_style.specs.declared.class.Class.TheVariants as class
use Rattle.esc_style.specs.declared.color.Color.{Color}
use Rattle.esc_style.specs.declared.color.Color.TheVariants.{Default, Named, Palette, Direct}
use Rattle.esc_style.specs.declared.look.Look.{Look}
use Rattle.esc_style.specs.declared.style.Style.{Style}
use Rattle.esc_sequences.specs.declared.underline.Underline.{Underline}
use Rattle.esc_sequences.specs.declared.underline.Underline.TheVariants as underline
use Rattle.typed_functions.specs.declared.ansi_color.AnsiColor.{AnsiColor}
use Rattle.typed_functions.specs.declared.ansi_color.AnsiColor.TheVariants as ansi

-- ---- characters

reference_size : (c : ℕ) → length (reference_text c) ≤ 6
reference_size c = by (c == 0x26) (c == 0x3c) (c == 0x3e)
  where
    by : (x y z : Bool) → length (if x then codes "&amp;" else if y then codes "&lt;"
        else if z then codes "&gt;" else codes "&quot;") ≤ 6
    by true y z = leb-true 5 6 refl
    by false true z = leb-true 4 6 refl
    by false false true = leb-true 4 6 refl
    by false false false = leb-true 6 6 refl

escape_size : (mark c : ℕ) → length (escape mark c) ≤ 6
escape_size mark c = by (c == 0x26 || c == 0x3c || c == mark)
  where
    by : (b : Bool) → length (if b then reference_text c else c ∷ []) ≤ 6
    by true = reference_size c
    by false = leb-true 1 6 refl

-- how many bytes an address takes in the value of an attribute
abbrev pub value_size : List ℕ → ℕ
value_size a = length (flat_map escape_value a)

pub value_added : (s t : List ℕ) → value_size (s ++ t) ≡ value_size s + value_size t
value_added s t = ap length (flat_map-append escape_value s t)
    ∙ length-append (flat_map escape_value s) (flat_map escape_value t)

pub value_small : (a : List ℕ) → value_size a ≤ 6 * length a
value_small [] = leb-true 0 0 refl
value_small (c ∷ a) =
    omega (
      arith,
      length-append (escape_value c) (flat_map escape_value a),
      escape_size 0x22 c,
      value_small a,
    )

pub char_size : (c : ℕ) → length (flat_map escape_text (encode_utf8 c)) ≤ 6
char_size c = elim (cases_Bool (needs_reference c)) [
  | inl held ↦ subst (λ x. length x ≤ 6) (referenced c held) (reference_size c)
  | inr not ↦ subst (λ x. length x ≤ 6) (unreferenced c not)
      (omega (arith, length-encode c, (len_utf8_bounds c).1))
]

-- ---- names of classes

color_size : (c : AnsiColor) → length (color_name c) ≤ 14
color_size ansi.Black = leb-true 5 14 refl
color_size ansi.Red = leb-true 3 14 refl
color_size ansi.Green = leb-true 5 14 refl
color_size ansi.Yellow = leb-true 6 14 refl
color_size ansi.Blue = leb-true 4 14 refl
color_size ansi.Magenta = leb-true 7 14 refl
color_size ansi.Cyan = leb-true 4 14 refl
color_size ansi.White = leb-true 5 14 refl
color_size ansi.BrightBlack = leb-true 12 14 refl
color_size ansi.BrightRed = leb-true 10 14 refl
color_size ansi.BrightGreen = leb-true 12 14 refl
color_size ansi.BrightYellow = leb-true 13 14 refl
color_size ansi.BrightBlue = leb-true 11 14 refl
color_size ansi.BrightMagenta = leb-true 14 14 refl
color_size ansi.BrightCyan = leb-true 11 14 refl
color_size ansi.BrightWhite = leb-true 12 14 refl

-- a name with the space before it
abbrev name_size : Option Class → ℕ
name_size None = 0
name_size (Some c) = 1 + length (span_name c)

abbrev names_size : List Class → ℕ
names_size [] = 0
names_size (c ∷ cs) = (1 + length (span_name c)) + names_size cs

names_next : (o : Option Class) (os : List (Option Class))
    → names_size (values_of (o ∷ os)) ≡ name_size o + names_size (values_of os)
names_next None os = omega arith
names_next (Some c) os = refl

more_size : (cs : List Class) → length (more_span_names cs) ≡ names_size cs
more_size [] = refl
more_size (c ∷ cs) =
    omega (arith, length-append (span_name c) (more_span_names cs), more_size cs)

value_in : (n v : List ℕ) (k : ℕ) → length (codes "=\"") ≡ 2 → length n ≡ k
    → length (attributes_text ((n, v) ∷ [])) ≡ 4 + k + length v
value_in n v k two h =
    let q = length-append v (codes "\"") in
    let r = length-append (codes "=\"") (v ++ codes "\"") in
    let s = length-append n (codes "=\"" ++ (v ++ codes "\"")) in
    let one : length (codes "\"") ≡ 1 = refl in
    ap length (append-nil (attribute_text (n, v))) ∙ omega (arith, q, r, s, one, two, h)

classes_size : (cs : List Class)
    → length (attributes_text (class_attribute cs)) ≤ 9 + names_size cs
classes_size [] = leb-true 0 9 refl
classes_size (c ∷ cs) =
    omega (
      arith,
      value_in (codes "class") (span_names (c ∷ cs)) 5 refl refl,
      length-append (span_name c) (more_span_names cs),
      more_size cs,
    )

-- ---- styles

abbrev declared_size : Option Style → ℕ
declared_size None = 0
declared_size (Some s) = length (style_text s)

abbrev all_declared_size : List Style → ℕ
all_declared_size [] = 0
all_declared_size (s ∷ ss) = length (style_text s) + all_declared_size ss

declared_next : (o : Option Style) (os : List (Option Style))
    → all_declared_size (values_of (o ∷ os)) ≡ declared_size o + all_declared_size (values_of os)
declared_next None os = omega arith
declared_next (Some s) os = refl

styles_text_size : (ss : List Style) → length (styles_text ss) ≡ all_declared_size ss
styles_text_size [] = refl
styles_text_size (s ∷ ss) =
    omega (arith, length-append (style_text s) (styles_text ss), styles_text_size ss)

styles_size : (ss : List Style)
    → length (attributes_text (style_attribute ss)) ≤ 9 + all_declared_size ss
styles_size [] = leb-true 0 9 refl
styles_size (s ∷ ss) =
    omega (
      arith,
      value_in (codes "style") (styles_text (s ∷ ss)) 5 refl refl,
      styles_text_size (s ∷ ss),
    )

-- ---- the slots of a look

underline_size : (u : Underline) → name_size (underline_class u) ≤ 20
underline_size underline.None = leb-true 0 20 refl
underline_size underline.Single = leb-true 13 20 refl
underline_size underline.Double = leb-true 20 20 refl
underline_size underline.Curly = leb-true 19 20 refl
underline_size underline.Dotted = leb-true 20 20 refl
underline_size underline.Dashed = leb-true 20 20 refl

if_size : (b : Bool) (c : Class) (n : ℕ) → 1 + length (span_name c) ≤ n
    → name_size (class_if b c) ≤ n
if_size true c n h = h
if_size false c n h = omega arith

named_size : (t : List ℕ) (c : AnsiColor) → length t ≡ 6
    → 1 + length (t ++ (color_name c ++ [])) ≤ 21
named_size t c h =
    omega (
      arith,
      length-append t (color_name c ++ []),
      ap length (append-nil (color_name c)),
      color_size c,
      h,
    )

digits_size : (n : ℕ) → length (index_digits n) ≤ 3
digits_size n = by (nat_lt n 100)
  where
    by : (b : Bool) → length (if b then two_digits n
        else (0x30 + n / 100 % 10) ∷ two_digits n) ≤ 3
    by true = leb-true 2 3 refl
    by false = leb-true 3 3 refl

entry_size : (t : List ℕ) (n : ℕ) → length t ≡ 6 → 1 + length (t ++ index_digits n) ≤ 10
entry_size t n h = omega (arith, length-append t (index_digits n), digits_size n, h)

foreground_size : (c : Color)
    → name_size (foreground_class c) + declared_size (foreground_style c) ≤ 21
foreground_size Default = leb-true 0 21 refl
foreground_size (Named n) = omega (arith, named_size (codes "es-fg-") n refl)
foreground_size (Palette n) = omega (arith, entry_size (codes "es-fg-") n refl)
foreground_size (Direct d) = leb-true 14 21 refl

background_size : (c : Color)
    → name_size (background_class c) + declared_size (background_style c) ≤ 25
background_size Default = leb-true 0 25 refl
background_size (Named n) = omega (arith, named_size (codes "es-bg-") n refl)
background_size (Palette n) = omega (arith, entry_size (codes "es-bg-") n refl)
background_size (Direct d) = leb-true 25 25 refl

line_size : (c : Color)
    → name_size (underline_color_class c) + declared_size (underline_color_style c) ≤ 30
line_size Default = leb-true 0 30 refl
line_size (Named n) = omega (arith, named_size (codes "es-ul-") n refl)
line_size (Palette n) = omega (arith, entry_size (codes "es-ul-") n refl)
line_size (Direct d) = leb-true 30 30 refl

-- the classes of a look but those of its colours
marks_size : (h i : Bool) (u : Underline) (a b c d e f : Bool) (rest : List (Option Class))
    → names_size (values_of (class_if h class.Bold ∷ class_if i class.Faint
    ∷ class_if a class.Italic ∷ underline_class u
    ∷ class_if b class.Blink ∷ class_if c class.Inverse ∷ class_if d class.Concealed
    ∷ class_if e class.Strikethrough ∷ class_if f class.Overline ∷ rest))
    ≤ 109 + names_size (values_of rest)
marks_size h i u a b c d e f rest =
    let x0 = class_if f class.Overline ∷ rest in
    let x1 = class_if e class.Strikethrough ∷ x0 in
    let x2 = class_if d class.Concealed ∷ x1 in
    let x3 = class_if c class.Inverse ∷ x2 in
    let x4 = class_if b class.Blink ∷ x3 in
    let x5 = underline_class u ∷ x4 in
    let x6 = class_if a class.Italic ∷ x5 in
    let x7 = class_if i class.Faint ∷ x6 in
    omega (
      arith,
      names_next (class_if h class.Bold) x7,
      names_next (class_if i class.Faint) x6,
      names_next (class_if a class.Italic) x5,
      names_next (underline_class u) x4,
      names_next (class_if b class.Blink) x3,
      names_next (class_if c class.Inverse) x2,
      names_next (class_if d class.Concealed) x1,
      names_next (class_if e class.Strikethrough) x0,
      names_next (class_if f class.Overline) rest,
      if_size h class.Bold 8 (leb-true 8 8 refl),
      if_size i class.Faint 9 (leb-true 9 9 refl),
      underline_size u,
      if_size a class.Italic 10 (leb-true 10 10 refl),
      if_size b class.Blink 9 (leb-true 9 9 refl),
      if_size c class.Inverse 11 (leb-true 11 11 refl),
      if_size d class.Concealed 13 (leb-true 13 13 refl),
      if_size e class.Strikethrough 17 (leb-true 17 17 refl),
      if_size f class.Overline 12 (leb-true 12 12 refl),
    )

colors_size : (a b c : Color)
    → names_size
    (values_of (foreground_class a ∷ background_class b ∷ underline_color_class c ∷ []))
    + all_declared_size (values_of (foreground_style a ∷ background_style b
    ∷ underline_color_style c ∷ [])) ≤ 76
colors_size a b c =
    omega (
      arith,
      names_next (foreground_class a) (background_class b ∷ underline_color_class c ∷ []),
      names_next (background_class b) (underline_color_class c ∷ []),
      names_next (underline_color_class c) [],
      declared_next (foreground_style a) (background_style b ∷ underline_color_style c ∷ []),
      declared_next (background_style b) (underline_color_style c ∷ []),
      declared_next (underline_color_style c) [],
      foreground_size a,
      background_size b,
      line_size c,
    )

tag_size : (x y : List (List ℕ × List ℕ))
    → length (codes "<span" ++ (attributes_text (x ++ y) ++ codes ">"))
    ≡ 6 + length (attributes_text x) + length (attributes_text y)
tag_size x y =
    let e = ap length (flat_map-append attribute_text x y)
    ∙ length-append (attributes_text x) (attributes_text y) in
    let five : length (codes "<span") ≡ 5 = refl in
    let one : length (codes ">") ≡ 1 = refl in
    omega (
      arith,
      e,
      length-append (codes "<span") (attributes_text (x ++ y) ++ codes ">"),
      length-append (attributes_text (x ++ y)) (codes ">"),
      five,
      one,
    )

class_span_size : (l : Look) → length (page_part_text (span false l)) ≤ 231
class_span_size l =
    let cs = values_of (look_classes l) in
    let ss = values_of (look_styles l) in
    let rest = foreground_class (seen_foreground l) ∷ background_class (shown_background l)
    ∷ underline_color_class l.underline_color ∷ [] in
    omega (
      arith,
      tag_size (class_attribute cs) (style_attribute ss),
      classes_size cs,
      styles_size ss,
      marks_size l.bold l.faint l.underline l.italic l.blink l.inverse l.concealed
          l.strikethrough l.overline rest,
      colors_size (seen_foreground l) (shown_background l) l.underline_color,
    )

-- ---- declarations alone

weight_size : (h i : Bool) → length (weight_text h i) ≤ 29
weight_size true true = leb-true 29 29 refl
weight_size true false = leb-true 17 29 refl
weight_size false true = leb-true 12 29 refl
weight_size false false = leb-true 0 29 refl

slant_size : (b : Bool) → length (slant_text b) ≤ 18
slant_size true = leb-true 18 18 refl
slant_size false = leb-true 0 18 refl

lines_size : (u t o b : Bool) → length (lines_text u t o b) ≤ 60
lines_size true true true true = leb-true 60 60 refl
lines_size true true true false = leb-true 54 60 refl
lines_size true true false true = leb-true 51 60 refl
lines_size true true false false = leb-true 45 60 refl
lines_size true false true true = leb-true 47 60 refl
lines_size true false true false = leb-true 41 60 refl
lines_size true false false true = leb-true 38 60 refl
lines_size true false false false = leb-true 32 60 refl
lines_size false true true true = leb-true 50 60 refl
lines_size false true true false = leb-true 44 60 refl
lines_size false true false true = leb-true 41 60 refl
lines_size false true false false = leb-true 35 60 refl
lines_size false false true true = leb-true 37 60 refl
lines_size false false true false = leb-true 31 60 refl
lines_size false false false true = leb-true 28 60 refl
lines_size false false false false = leb-true 0 60 refl

kind_size : (u : Underline) → length (kind_text u) ≤ 29
kind_size underline.None = leb-true 0 29 refl
kind_size underline.Single = leb-true 0 29 refl
kind_size underline.Double = leb-true 29 29 refl
kind_size underline.Curly = leb-true 27 29 refl
kind_size underline.Dotted = leb-true 29 29 refl
kind_size underline.Dashed = leb-true 29 29 refl

keywords_size : (l : Look) → length (keywords_text l) ≤ 136
keywords_size l =
    let w = weight_text l.bold l.faint in
    let s = slant_text l.italic in
    let n = lines_text (is_underlined l.underline) l.strikethrough l.overline l.blink in
    let k = kind_text l.underline in
    omega (
      arith,
      length-append w (s ++ (n ++ k)),
      length-append s (n ++ k),
      length-append n k,
      weight_size l.bold l.faint,
      slant_size l.italic,
      lines_size (is_underlined l.underline) l.strikethrough l.overline l.blink,
      kind_size l.underline,
    )

-- a colour that is declared, or a keyword in its place
shade_size : (f : ℕ × ℕ × ℕ → Style) (t : List ℕ) (o : Option (ℕ × ℕ × ℕ)) (n : ℕ)
    → ((c : ℕ × ℕ × ℕ) → length (style_text (f c)) ≤ n) → length t ≤ n
    → length (declared_as f t o) ≤ n
shade_size f t None n h k = k
shade_size f t (Some c) n h k = h c

keyword_size : (b : Bool) (t : List ℕ) (n : ℕ) → length t ≤ n
    → length (if b then t else []) ≤ n
keyword_size true t n h = h
keyword_size false t n h = omega arith

fore_text_size : (b i : Bool) (t g : Color) → length (foreground_text b i t g) ≤ 18
fore_text_size true i t g = leb-true 18 18 refl
fore_text_size false i t g =
    shade_size color_style (if i then codes "color:Canvas;" else []) (text_rgb i t g) 18
    (λ c. leb-true 14 18 refl)
    (keyword_size i (codes "color:Canvas;") 18 (leb-true 13 18 refl))

back_text_size : (i : Bool) (t g : Color) → length (background_text i t g) ≤ 28
back_text_size i t g =
    shade_size around_style (if i then codes "background-color:CanvasText;" else [])
    (around_rgb t g) 28 (λ c. leb-true 25 28 refl)
    (keyword_size i (codes "background-color:CanvasText;") 28 (leb-true 28 28 refl))

line_text_size : (c : Color) → length (decoration_text c) ≤ 30
line_text_size c =
    shade_size decoration_style [] (rgb_of c) 30 (λ c. leb-true 30 30 refl) (leb-true 0 30 refl)

colors_text_size : (l : Look) → length (colors_text l) ≤ 76
colors_text_size l =
    let t = seen_foreground l in
    let g = shown_background l in
    let f = foreground_text l.concealed l.inverse t g in
    let b = background_text l.inverse t g in
    let d = decoration_text l.underline_color in
    omega (
      arith,
      length-append f (b ++ d),
      length-append b d,
      fore_text_size l.concealed l.inverse t g,
      back_text_size l.inverse t g,
      line_text_size l.underline_color,
    )

inline_span_size : (l : Look) → length (page_part_text (span true l)) ≤ 231
inline_span_size l =
    omega (
      arith,
      tag_size ((codes "style", inline_text l) ∷ []) [],
      value_in (codes "style") (inline_text l) 5 refl refl,
      length-append (keywords_text l) (colors_text l),
      keywords_size l,
      colors_text_size l,
    )

-- a start tag of a span
pub span_size : (i : Bool) (l : Look) → length (page_part_text (span i l)) ≤ 231
span_size true l = inline_span_size l
span_size false l = class_span_size l
