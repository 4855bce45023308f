-- The tokenizer reads the text of parts as their tokens.
use Rattle.std.proofs.Common.{ℕ, ◌≡◌, ◌<◌, ◌+◌, ◌/◌, ◌%◌, Bool, true, false, not, nat_le, nat_lt, ◌&&◌, ◌||◌, ◌==◌, if◌then◌else◌, inl, inr, List, [], ◌∷◌, ◌++◌, codes, map, Option, Some, None, refl, ap, sym, ◌∙◌, append_assoc, arith}
use Rattle.std.specs.List.{flat_map, list_all}
use Rattle.std.proofs.lemmas.Bool.Decides.{nat_tests}
use Rattle.std.proofs.lemmas.Grind.{flat_map-append}
use Rattle.std.proofs.lemmas.Bool.{eqb-true, cases_Bool, and_parts, not-true}
use Rattle.std.proofs.lemmas.List.Folds.{list_all-append}
use Rattle.std.proofs.lemmas.List.{append-nil}
use Rattle.typed_functions.specs.declared.ansi_color.AnsiColor.{AnsiColor}
use Rattle.typed_functions.specs.declared.ansi_color.AnsiColor.TheVariants as ansi
use Rattle.esc_html.specs.Names.{more_span_names, span_name, span_names}
use Rattle.esc_style.specs.Classes.{class_name, color_name, index_digits, index_of, index_text, stem, two_digits}
use Rattle.esc_style.specs.Colors.{color_code, hex_byte, hex_digit}
use Rattle.esc_style.specs.Looks.{look_classes, look_styles, values_of, seen_foreground, shown_background}
use Rattle.esc_style.specs.Styles.{style_color, style_property, style_text, styles_text}
use Rattle.esc_style.specs.declared.color.Color.{Color}
use Rattle.esc_style.specs.declared.look.Look.{Look}
use Rattle.esc_style.specs.declared.style.Style.{Style}
use Rattle.esc_style.specs.declared.style.Style.TheVariants as style
use Rattle.esc_sequences.specs.declared.underline.Underline.{Underline as UnderlineKind}
use Rattle.esc_sequences.specs.declared.underline.Underline.TheVariants as underline
use Rattle.esc_html.specs.Inline.{background_style, background_text, color_style, colors_text, declared_as, decoration_style, decoration_text, foreground_text, inline_text, is_underlined, keywords_text, kind_text, lines_text, rgb_of, slant_text, weight_text}
use Rattle.esc_html.specs.Shades.{around_rgb, text_rgb}
use Rattle.esc_html.specs.PageParts.{PagePart, text, span, span_end, link, link_end, escape, escape_text, escape_value, page_part_text, html_text, page_part_tokens, tokens_of, is_kept, is_kept_page_part, attribute_text, attributes_text, class_attribute, style_attribute}
use Rattle.esc_html.specs.Tokens.{Tag, character, start_tag, data_state, value, after_value, with_attribute, tokens_from, normal_line_ends, tokens}
use Rattle.esc_style.specs.declared.class.Class.{Class}
use Rattle.esc_style.specs.declared.class.Class.TheVariants.{Background, Blink, Bold, Concealed, CurlyUnderline, DashedUnderline, DottedUnderline, DoubleUnderline, Faint, Foreground, Inverse, Italic, Overline, PaletteBackground, PaletteForeground, PaletteUnderline, Strikethrough, Underline, UnderlineColor}

-- ---- text

text_char : (c : ℕ) (r : List ℕ)
    → tokens_from data_state (escape_text c ++ r) ≡ character c ∷ tokens_from data_state r
text_char c r =
    elim (cases_Bool (c == 0x26)) [
      | inl held ↦ let same : c ≡ 0x26 = eqb-true c 0x26 held in rw same refl
      | inr amp ↦ elim (cases_Bool (c == 0x3c)) [
        | inl held ↦ let same : c ≡ 0x3c = eqb-true c 0x3c held in rw same refl
        | inr less ↦ elim (cases_Bool (c == 0x3e)) [
          | inl held ↦ let same : c ≡ 0x3e = eqb-true c 0x3e held in rw same refl
          | inr more ↦ rw (amp, less, more) (rw (amp, less) refl)
        ]
      ]
    ]

text_chars : (t r : List ℕ)
    → tokens_from data_state (flat_map escape_text t ++ r)
    ≡ map character t ++ tokens_from data_state r
text_chars [] r = refl
text_chars (c ∷ t) r =
    ap (tokens_from data_state) (append_assoc (escape_text c) (flat_map escape_text t) r)
    ∙ text_char c (flat_map escape_text t ++ r)
    ∙ ap (λ ts. character c ∷ ts) (text_chars t r)

-- ---- the value of an attribute

value_char : (t : Tag) (n v : List ℕ) (c : ℕ) (r : List ℕ) → is_kept c ≡ true
    → tokens_from (value t n v) (escape_value c ++ r) ≡ tokens_from (value t n (v ++ c ∷ [])) r
value_char t n v c r h =
    let nul = not-true (c == 0) (and_parts (not (c == 0)) (not (c == 0x0d)) h).0 in
    elim (cases_Bool (c == 0x26)) [
      | inl held ↦ let same : c ≡ 0x26 = eqb-true c 0x26 held in rw same refl
      | inr amp ↦ elim (cases_Bool (c == 0x3c)) [
        | inl held ↦ let same : c ≡ 0x3c = eqb-true c 0x3c held in rw same refl
        | inr less ↦ elim (cases_Bool (c == 0x22)) [
          | inl held ↦ let same : c ≡ 0x22 = eqb-true c 0x22 held in rw same refl
          | inr quote ↦ rw (amp, less, quote) (rw (quote, amp, nul) refl)
        ]
      ]
    ]

value_chars : (t : Tag) (n v a r : List ℕ) → list_all is_kept a ≡ true
    → tokens_from (value t n v) (flat_map escape_value a ++ r) ≡ tokens_from (value t n (v ++ a)) r
value_chars t n v [] r h = ap (λ w. tokens_from (value t n w) r) (sym (append-nil v))
value_chars t n v (c ∷ a) r h =
    let q = and_parts (is_kept c) (list_all is_kept a) h in
    ap (tokens_from (value t n v)) (append_assoc (escape_value c) (flat_map escape_value a) r)
    ∙ value_char t n v c (flat_map escape_value a ++ r) q.0
    ∙ value_chars t n (v ++ c ∷ []) a r q.1
    ∙ ap (λ w. tokens_from (value t n w) r) (append_assoc v (c ∷ []) a)

-- ---- names of classes

abbrev pub is_low : ℕ → Bool
is_low c = nat_le c 127 && not (c == 0x0a)

abbrev pub is_name_char : ℕ → Bool
is_name_char c = is_kept c && (not (c == 0x22) && (not (c == 0x26) && is_low c))

pub name_chars : (t : Tag) (n v x r : List ℕ) → list_all is_name_char x ≡ true
    → tokens_from (value t n v) (x ++ r) ≡ tokens_from (value t n (v ++ x)) r
name_chars t n v [] r h = ap (λ w. tokens_from (value t n w) r) (sym (append-nil v))
name_chars t n v (c ∷ x) r h =
    let q = and_parts (is_name_char c) (list_all is_name_char x) h in
    let k = and_parts (is_kept c) (not (c == 0x22) && (not (c == 0x26) && is_low c)) q.0 in
    let o = and_parts (not (c == 0x22)) (not (c == 0x26) && is_low c) k.1 in
    let nul = not-true (c == 0) (and_parts (not (c == 0)) (not (c == 0x0d)) k.0).0 in
    let quote = not-true (c == 0x22) o.0 in
    let amp = not-true (c == 0x26) (and_parts (not (c == 0x26)) (is_low c) o.1).0 in
    rw (quote, amp, nul) (name_chars t n (v ++ c ∷ []) x r q.1
    ∙ ap (λ w. tokens_from (value t n w) r) (append_assoc v (c ∷ []) x))

color_plain : (c : AnsiColor) → list_all is_name_char (color_name c) ≡ true
color_plain ansi.Black = refl
color_plain ansi.Red = refl
color_plain ansi.Green = refl
color_plain ansi.Yellow = refl
color_plain ansi.Blue = refl
color_plain ansi.Magenta = refl
color_plain ansi.Cyan = refl
color_plain ansi.White = refl
color_plain ansi.BrightBlack = refl
color_plain ansi.BrightRed = refl
color_plain ansi.BrightGreen = refl
color_plain ansi.BrightYellow = refl
color_plain ansi.BrightBlue = refl
color_plain ansi.BrightMagenta = refl
color_plain ansi.BrightCyan = refl
color_plain ansi.BrightWhite = refl

both_plain : (x y : List ℕ) → list_all is_name_char x ≡ true → list_all is_name_char y ≡ true
    → list_all is_name_char (x ++ y) ≡ true
both_plain x y h k = rw (list_all-append is_name_char x y, h, k) refl

stem_plain : (c : Class) → list_all is_name_char (stem c) ≡ true
stem_plain Bold = refl
stem_plain Faint = refl
stem_plain Italic = refl
stem_plain Underline = refl
stem_plain DoubleUnderline = refl
stem_plain CurlyUnderline = refl
stem_plain DottedUnderline = refl
stem_plain DashedUnderline = refl
stem_plain Blink = refl
stem_plain Inverse = refl
stem_plain Concealed = refl
stem_plain Strikethrough = refl
stem_plain Overline = refl
stem_plain (Foreground c) = color_plain c
stem_plain (Background c) = color_plain c
stem_plain (UnderlineColor c) = color_plain c
stem_plain (PaletteForeground n) = refl
stem_plain (PaletteBackground n) = refl
stem_plain (PaletteUnderline n) = refl

digit_plain : (n : ℕ) → n < 10 → is_name_char (0x30 + n) ≡ true
digit_plain n h = grind (arith, nat_tests)

pub digits_plain : (n : ℕ) → list_all is_name_char (index_digits n) ≡ true
digits_plain n =
    by (nat_lt n 100) (digit_plain (n / 100 % 10) (omega arith))
    (digit_plain (n / 10 % 10) (omega arith)) (digit_plain (n % 10) (omega arith))
  where
    by : (b : Bool) → is_name_char (0x30 + n / 100 % 10) ≡ true
        → is_name_char (0x30 + n / 10 % 10) ≡ true → is_name_char (0x30 + n % 10) ≡ true
        → list_all is_name_char (if b then two_digits n
        else (0x30 + n / 100 % 10) ∷ two_digits n) ≡ true
    by true h k l = rw (k, l) refl
    by false h k l = rw (h, k, l) refl

index_plain : (o : Option ℕ) → list_all is_name_char (index_text o) ≡ true
index_plain None = refl
index_plain (Some n) = digits_plain n

name_plain : (c : Class) → list_all is_name_char (class_name c) ≡ true
name_plain c =
    both_plain (stem c) (index_text (index_of c)) (stem_plain c) (index_plain (index_of c))

span_plain : (c : Class) → list_all is_name_char (span_name c) ≡ true
span_plain c = name_plain c

more_plain : (cs : List Class) → list_all is_name_char (more_span_names cs) ≡ true
more_plain [] = refl
more_plain (c ∷ cs) =
    rw (
      list_all-append is_name_char (span_name c) (more_span_names cs),
      span_plain c,
      more_plain cs,
    ) refl

pub names_plain : (cs : List Class) → list_all is_name_char (span_names cs) ≡ true
names_plain [] = refl
names_plain (c ∷ cs) =
    rw (
      list_all-append is_name_char (span_name c) (more_span_names cs),
      span_plain c,
      more_plain cs,
    ) refl

-- ---- styles

hex_plain : (n : ℕ) → n < 16 → is_name_char (hex_digit n) ≡ true
hex_plain n h = grind (arith, nat_tests)

byte_plain : (n : ℕ) → list_all is_name_char (hex_byte n) ≡ true
byte_plain n =
    rw (hex_plain (n / 16 % 16) (omega arith), hex_plain (n % 16) (omega arith)) refl

pub code_plain : (c : ℕ × ℕ × ℕ) → list_all is_name_char (color_code c) ≡ true
code_plain c =
    rw (
      list_all-append is_name_char (hex_byte c.0) (hex_byte c.1 ++ (hex_byte c.2 ++ 0x3b ∷ [])),
      list_all-append is_name_char (hex_byte c.1) (hex_byte c.2 ++ 0x3b ∷ []),
      list_all-append is_name_char (hex_byte c.2) (0x3b ∷ []),
      byte_plain c.0,
      byte_plain c.1,
      byte_plain c.2,
    ) refl

property_plain : (s : Style) → list_all is_name_char (style_property s) ≡ true
property_plain (style.Color r g b) = refl
property_plain (style.BackgroundColor r g b) = refl
property_plain (style.TextDecorationColor r g b) = refl

style_plain : (s : Style) → list_all is_name_char (style_text s) ≡ true
style_plain s =
    rw (
      list_all-append is_name_char (style_property s) (color_code (style_color s)),
      property_plain s,
      code_plain (style_color s),
    ) refl

pub styles_plain : (ss : List Style) → list_all is_name_char (styles_text ss) ≡ true
styles_plain [] = refl
styles_plain (s ∷ ss) =
    rw (
      list_all-append is_name_char (style_text s) (styles_text ss),
      style_plain s,
      styles_plain ss,
    ) refl

-- ---- declarations alone

if_plain : (b : Bool) (x : List ℕ) → list_all is_name_char x ≡ true
    → list_all is_name_char (if b then x else []) ≡ true
if_plain true x h = h
if_plain false x h = refl

weight_plain : (h i : Bool) → list_all is_name_char (weight_text h i) ≡ true
weight_plain true true = refl
weight_plain true false = refl
weight_plain false true = refl
weight_plain false false = refl

kind_plain : (u : UnderlineKind) → list_all is_name_char (kind_text u) ≡ true
kind_plain underline.None = refl
kind_plain underline.Single = refl
kind_plain underline.Double = refl
kind_plain underline.Curly = refl
kind_plain underline.Dotted = refl
kind_plain underline.Dashed = refl

lines_plain : (u t o b : Bool) → list_all is_name_char (lines_text u t o b) ≡ true
lines_plain true true true true = refl
lines_plain true true true false = refl
lines_plain true true false true = refl
lines_plain true true false false = refl
lines_plain true false true true = refl
lines_plain true false true false = refl
lines_plain true false false true = refl
lines_plain true false false false = refl
lines_plain false true true true = refl
lines_plain false true true false = refl
lines_plain false true false true = refl
lines_plain false true false false = refl
lines_plain false false true true = refl
lines_plain false false true false = refl
lines_plain false false false true = refl
lines_plain false false false false = refl

keywords_plain : (l : Look) → list_all is_name_char (keywords_text l) ≡ true
keywords_plain l =
    let lines = lines_text (is_underlined l.underline) l.strikethrough l.overline l.blink in
    both_plain (weight_text l.bold l.faint)
    (slant_text l.italic ++ (lines ++ kind_text l.underline))
    (weight_plain l.bold l.faint)
    (both_plain (slant_text l.italic) (lines ++ kind_text l.underline)
    (if_plain l.italic (codes "font-style:italic;") refl)
    (both_plain lines (kind_text l.underline)
    (lines_plain (is_underlined l.underline) l.strikethrough l.overline l.blink)
    (kind_plain l.underline)))

declared_plain : (f : ℕ × ℕ × ℕ → Style) (t : List ℕ) (c : Option (ℕ × ℕ × ℕ))
    → list_all is_name_char t ≡ true → list_all is_name_char (declared_as f t c) ≡ true
declared_plain f t None h = h
declared_plain f t (Some c) h = style_plain (f c)

foreground_plain : (b i : Bool) (t g : Color)
    → list_all is_name_char (foreground_text b i t g) ≡ true
foreground_plain true i t g = refl
foreground_plain false i t g =
    declared_plain color_style (if i then codes "color:Canvas;" else []) (text_rgb i t g)
    (if_plain i (codes "color:Canvas;") refl)

background_plain : (i : Bool) (t g : Color)
    → list_all is_name_char (background_text i t g) ≡ true
background_plain i t g =
    declared_plain background_style (if i then codes "background-color:CanvasText;" else [])
    (around_rgb t g) (if_plain i (codes "background-color:CanvasText;") refl)

colors_plain : (l : Look) → list_all is_name_char (colors_text l) ≡ true
colors_plain l =
    let t = seen_foreground l in
    let g = shown_background l in
    let fore = foreground_text l.concealed l.inverse t g in
    let back = background_text l.inverse t g in
    let line = decoration_text l.underline_color in
    both_plain fore (back ++ line) (foreground_plain l.concealed l.inverse t g)
    (both_plain back line (background_plain l.inverse t g)
    (declared_plain decoration_style [] (rgb_of l.underline_color) refl))

pub inline_plain : (l : Look) → list_all is_name_char (inline_text l) ≡ true
inline_plain l =
    both_plain (keywords_text l) (colors_text l) (keywords_plain l) (colors_plain l)

-- ---- spans

abbrev begun : List ℕ → Tag
begun n = record { is_end = false; name = n; attributes = [] }

value_reads : (t : Tag) (n v r : List ℕ) → list_all is_name_char v ≡ true
    → tokens_from (value t n []) (v ++ (0x22 ∷ r))
    ≡ tokens_from (after_value (with_attribute t n v)) r
value_reads t n v r h = name_chars t n [] v (0x22 ∷ r) h

regrouped : (v a g r : List ℕ)
    → (((v ++ codes "\"") ++ a) ++ g) ++ r ≡ v ++ (0x22 ∷ (a ++ (g ++ r)))
regrouped v a g r =
    append_assoc ((v ++ codes "\"") ++ a) g r
    ∙ append_assoc (v ++ codes "\"") a (g ++ r)
    ∙ append_assoc v (codes "\"") (a ++ (g ++ r))

-- the value of a last attribute
last_reads : (t : Tag) (n v r : List ℕ) → list_all is_name_char v ≡ true
    → tokens_from (value t n []) ((((v ++ codes "\"") ++ []) ++ codes ">") ++ r)
    ≡ tokens_from (after_value (with_attribute t n v)) (0x3e ∷ r)
last_reads t n v r h =
    ap (tokens_from (value t n [])) (regrouped v [] (codes ">") r) ∙ value_reads t n v (0x3e ∷ r) h

span_reads : (cs : List Class) (ss : List Style) (r : List ℕ)
    → tokens_from data_state
    ((codes "<span" ++ (attributes_text (class_attribute cs ++ style_attribute ss) ++ codes ">"))
    ++ r)
    ≡ start_tag (codes "span") (class_attribute cs ++ style_attribute ss)
    ∷ tokens_from data_state r
span_reads [] [] r = refl
span_reads (c ∷ cs) [] r =
    last_reads (begun (codes "span")) (codes "class") (span_names (c ∷ cs)) r
    (names_plain (c ∷ cs))
span_reads [] (s ∷ ss) r =
    last_reads (begun (codes "span")) (codes "style") (styles_text (s ∷ ss)) r
    (styles_plain (s ∷ ss))
span_reads (c ∷ cs) (s ∷ ss) r =
    let t = begun (codes "span") in
    let v = span_names (c ∷ cs) in
    ap (tokens_from (value t (codes "class") []))
    (regrouped v (attributes_text (style_attribute (s ∷ ss))) (codes ">") r)
    ∙ value_reads t (codes "class") v
    (attributes_text (style_attribute (s ∷ ss)) ++ (codes ">" ++ r)) (names_plain (c ∷ cs))
    ∙ ap (tokens_from (value (with_attribute t (codes "class") v) (codes "style") []))
    (sym (append_assoc ((styles_text (s ∷ ss) ++ codes "\"") ++ []) (codes ">") r))
    ∙ last_reads (with_attribute t (codes "class") v) (codes "style") (styles_text (s ∷ ss)) r
    (styles_plain (s ∷ ss))

-- ---- parts

pub page_part_reads : (p : PagePart) (r : List ℕ) → is_kept_page_part p ≡ true
    → tokens_from data_state (page_part_text p ++ r) ≡ page_part_tokens p
    ++ tokens_from data_state r
page_part_reads (text t) r h = text_chars t r
page_part_reads (span true l) r h =
    last_reads (begun (codes "span")) (codes "style") (inline_text l) r (inline_plain l)
page_part_reads (span false l) r h =
    span_reads (values_of (look_classes l)) (values_of (look_styles l)) r
page_part_reads span_end r h = refl
page_part_reads (link a) r h =
    ap (tokens_from (value (begun (codes "a")) (codes "href") []))
    (append_assoc (flat_map escape_value a) (codes "\" rel=\"nofollow noopener noreferrer\">") r)
    ∙ value_chars (begun (codes "a")) (codes "href") [] a
    (codes "\" rel=\"nofollow noopener noreferrer\">" ++ r) h
page_part_reads link_end r h = refl

all_read : (ps : List PagePart) → list_all is_kept_page_part ps ≡ true
    → tokens_from data_state (html_text ps) ≡ tokens_of ps
all_read [] h = refl
all_read (p ∷ ps) h =
    let q = and_parts (is_kept_page_part p) (list_all is_kept_page_part ps) h in
    page_part_reads p (html_text ps) q.0 ∙ ap (λ ts. page_part_tokens p ++ ts) (all_read ps q.1)

-- ---- newlines

pub kept_same : (s : List ℕ) → list_all is_kept s ≡ true → normal_line_ends false s ≡ s
kept_same [] h = refl
kept_same (c ∷ s) h =
    let q = and_parts (is_kept c) (list_all is_kept s) h in
    let other = not-true (c == 0x0d) (and_parts (not (c == 0)) (not (c == 0x0d)) q.0).1 in
    rw other (ap (λ x. c ∷ x) (kept_same s q.1))

pub all_joined : {X : Type 0} (f : X → List ℕ) (test : X → Bool)
    → ((x : X) → test x ≡ true → list_all is_kept (f x) ≡ true) → (xs : List X)
    → list_all test xs ≡ true → list_all is_kept (flat_map f xs) ≡ true
all_joined f test k [] h = refl
all_joined f test k (x ∷ xs) h =
    let q = and_parts (test x) (list_all test xs) h in
    rw (list_all-append is_kept (f x) (flat_map f xs), k x q.0, all_joined f test k xs q.1) refl

kept_escaped : (mark c : ℕ) → is_kept c ≡ true → list_all is_kept (escape mark c) ≡ true
kept_escaped mark c h = by (c == 0x26 || c == 0x3c || c == mark) (c == 0x26) (c == 0x3c) (c == 0x3e)
  where
    by : (e x y z : Bool) → list_all is_kept (if e then (if x then codes "&amp;"
        else if y then codes "&lt;" else if z then codes "&gt;" else codes "&quot;")
        else c ∷ []) ≡ true
    by true true y z = refl
    by true false true z = refl
    by true false false true = refl
    by true false false false = refl
    by false x y z = rw h refl

pub name_kept : (x : List ℕ) → list_all is_name_char x ≡ true → list_all is_kept x ≡ true
name_kept [] h = refl
name_kept (c ∷ x) h =
    let q = and_parts (is_name_char c) (list_all is_name_char x) h in
    let k = and_parts (is_kept c) (not (c == 0x22) && (not (c == 0x26) && is_low c)) q.0 in
    rw (k.0, name_kept x q.1) refl

quoted_kept : (v : List ℕ) → list_all is_name_char v ≡ true
    → list_all is_kept (v ++ codes "\"") ≡ true
quoted_kept v h = rw (list_all-append is_kept v (codes "\""), name_kept v h) refl

classes_kept : (cs : List Class)
    → list_all is_kept (attributes_text (class_attribute cs)) ≡ true
classes_kept [] = refl
classes_kept (c ∷ cs) =
    let v = span_names (c ∷ cs) in
    ap (λ x. list_all is_kept (codes " class=\"" ++ x)) (append-nil (v ++ codes "\""))
    ∙ quoted_kept v (names_plain (c ∷ cs))

styles_kept : (ss : List Style)
    → list_all is_kept (attributes_text (style_attribute ss)) ≡ true
styles_kept [] = refl
styles_kept (s ∷ ss) =
    let v = styles_text (s ∷ ss) in
    ap (λ x. list_all is_kept (codes " style=\"" ++ x)) (append-nil (v ++ codes "\""))
    ∙ quoted_kept v (styles_plain (s ∷ ss))

span_kept : (cs : List Class) (ss : List Style)
    → list_all is_kept
    (codes "<span" ++ (attributes_text (class_attribute cs ++ style_attribute ss) ++ codes ">"))
    ≡ true
span_kept cs ss =
    rw (
      flat_map-append attribute_text (class_attribute cs) (style_attribute ss),
      list_all-append is_kept (attributes_text (class_attribute cs)
          ++ attributes_text (style_attribute ss)) (codes ">"),
      list_all-append is_kept (attributes_text (class_attribute cs))
          (attributes_text (style_attribute ss)),
      classes_kept cs,
      styles_kept ss,
    ) refl

inline_kept : (l : Look) → list_all is_kept
    (codes "<span" ++ (attributes_text ((codes "style", inline_text l) ∷ []) ++ codes ">")) ≡ true
inline_kept l =
    rw (
      append-nil (inline_text l ++ codes "\""),
      list_all-append is_kept (inline_text l ++ codes "\"") (codes ">"),
      quoted_kept (inline_text l) (inline_plain l),
    ) refl

pub page_part_kept : (p : PagePart) → is_kept_page_part p ≡ true
    → list_all is_kept (page_part_text p) ≡ true
page_part_kept (text t) h = all_joined escape_text is_kept (kept_escaped 0x3e) t h
page_part_kept (span true l) h = inline_kept l
page_part_kept (span false l) h = span_kept (values_of (look_classes l)) (values_of (look_styles l))
page_part_kept span_end h = refl
page_part_kept (link a) h =
    rw (
      list_all-append is_kept (flat_map escape_value a)
          (codes "\" rel=\"nofollow noopener noreferrer\">"),
      all_joined escape_value is_kept (kept_escaped 0x22) a h,
    ) refl
page_part_kept link_end h = refl

pub page_parts_read_back : (ps : List PagePart) → list_all is_kept_page_part ps ≡ true
    → tokens (html_text ps) ≡ tokens_of ps
page_parts_read_back ps h =
    ap (tokens_from data_state)
    (kept_same (html_text ps) (all_joined page_part_text is_kept_page_part page_part_kept ps h))
    ∙ all_read ps h
