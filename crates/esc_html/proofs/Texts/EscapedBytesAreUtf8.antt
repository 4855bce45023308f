-- The UTF-8 of the text that is written for characters is the text that is written for their UTF-8.
use Rattle.std.proofs.Common.{ℕ, ◌≡◌, ◌<◌, Bool, true, false, nat_le, ◌==◌, inl, inr, List, [], ◌∷◌, ◌++◌, codes, map, get_or, if◌then◌else◌, not, ◌&&◌, refl, ap, sym, ◌∙◌, arith}
use Rattle.std.specs.Char.{encode_utf8}
use Rattle.std.specs.List.{flat_map, list_all}
use Rattle.std.specs.Str.{encode_utf8_all}
use Rattle.std.proofs.lemmas.Bool.{cases_Bool, and_parts, leb-true, true≢false}
use Rattle.std.proofs.lemmas.Grind.{flat_map-append}
use Rattle.std.proofs.lemmas.List.Folds.{list_all-append}
use Rattle.std.proofs.lemmas.List.{append-nil}
use Rattle.std.proofs.lemmas.Str.{encode_ascii, encodes-append, inside_one}
use Rattle.memchr.specs.Find.{is_byte3}
use Rattle.esc_html.specs.Names.{span_names}
use Rattle.esc_style.specs.Classes.{index_digits}
use Rattle.esc_style.specs.Colors.{color_code, is_small}
use Rattle.esc_style.specs.Looks.{look_classes, look_styles, values_of}
use Rattle.esc_style.specs.Styles.{styles_text}
use Rattle.esc_style.specs.declared.class.Class.{Class}
use Rattle.esc_style.specs.declared.look.Look.{Look}
use Rattle.esc_style.specs.declared.style.Style.{Style}
use Rattle.esc_html.specs.Inline.{inline_text}
use Rattle.esc_html.specs.PageParts.{PagePart, text, span, span_end, link, link_end, utf8_part, escape, escape_text, escape_value, needs_reference, html_text, page_part_text, reference_text, is_kept, attribute_text, attributes_text, class_attribute, style_attribute}
use Rattle.esc_html.proofs.Texts.PartsReadAsTokens.{code_plain, digits_plain, inline_plain, is_low, is_name_char, names_plain, styles_plain}
use Rattle.esc_html.proofs.Texts.RunsAreEscaped.{escape_none, mark_small}

literal : (t : List ℕ) → list_all is_small t ≡ true → encode_utf8_all t ≡ t
literal [] h = refl
literal (c ∷ t) h =
    let q = and_parts (is_small c) (list_all is_small t) h in
    let low = leb-true c 127 q.0 in
    rw (encode_ascii c (omega arith), literal t q.1) refl

reference_plain : (c : ℕ) → encode_utf8_all (reference_text c) ≡ reference_text c
reference_plain c = literal (reference_text c) (by (c == 0x26) (c == 0x3c) (c == 0x3e))
  where
    by : (x y z : Bool) → list_all is_small (if x then codes "&amp;" else if y then codes "&lt;"
        else if z then codes "&gt;" else codes "&quot;") ≡ true
    by true y z = refl
    by false true z = refl
    by false false true = refl
    by false false false = refl

escape_one : (mark c : ℕ) → mark < 128
    → encode_utf8_all (escape mark c) ≡ flat_map (escape mark) (encode_utf8 c)
escape_one mark c small =
    elim (cases_Bool (is_byte3 0x26 0x3c mark c)) [
      | inl held ↦ let low = mark_small mark c small held in
          let is : escape mark c ≡ reference_text c = rw held refl in
          ap encode_utf8_all is ∙ reference_plain c ∙ sym (append-nil (reference_text c))
          ∙ ap (λ y. y ++ []) (sym is) ∙ ap (flat_map (escape mark)) (sym (encode_ascii c low))
      | inr failed ↦ let is : escape mark c ≡ c ∷ [] = rw failed refl in
          ap encode_utf8_all is ∙ append-nil (encode_utf8 c)
          ∙ sym (escape_none mark (encode_utf8 c) (λ k l m p.
          let low = mark_small mark (get_or (encode_utf8 c) k 0) small p in
          let same = inside_one c [] (encode_utf8 c) k (sym (append-nil (encode_utf8 c))) m low in
          true≢false (sym p ∙ ap (is_byte3 0x26 0x3c mark) (sym same) ∙ failed)))
    ]

-- the text that a character is written as
pub referenced : (c : ℕ) → needs_reference c ≡ true
    → reference_text c ≡ flat_map escape_text (encode_utf8 c)
referenced c h =
    let is : escape 0x3e c ≡ reference_text c = rw h refl in
    sym (reference_plain c) ∙ ap encode_utf8_all (sym is) ∙ escape_one 0x3e c (omega arith)

pub unreferenced : (c : ℕ) → needs_reference c ≡ false
    → encode_utf8 c ≡ flat_map escape_text (encode_utf8 c)
unreferenced c h =
    let is : escape 0x3e c ≡ c ∷ [] = rw h refl in
    sym (append-nil (encode_utf8 c)) ∙ ap encode_utf8_all (sym is)
    ∙ escape_one 0x3e c (omega arith)

escape_all : (mark : ℕ) (t : List ℕ) → mark < 128
    → encode_utf8_all (flat_map (escape mark) t) ≡ flat_map (escape mark) (encode_utf8_all t)
escape_all mark [] small = refl
escape_all mark (c ∷ t) small =
    encodes-append (escape mark c) (flat_map (escape mark) t)
    ∙ ap (λ x. x ++ encode_utf8_all (flat_map (escape mark) t)) (escape_one mark c small)
    ∙ ap (λ y. flat_map (escape mark) (encode_utf8 c) ++ y) (escape_all mark t small)
    ∙ sym (flat_map-append (escape mark) (encode_utf8 c) (encode_utf8_all t))

pub name_small : (x : List ℕ) → list_all is_name_char x ≡ true → list_all is_small x ≡ true
name_small [] h = refl
name_small (c ∷ x) h =
    let q = and_parts (is_name_char c) (list_all is_name_char x) h in
    let k = and_parts (is_kept c) (not (c == 0x22) && (not (c == 0x26) && is_low c)) q.0 in
    let o = and_parts (not (c == 0x22)) (not (c == 0x26) && is_low c) k.1 in
    let l = and_parts (not (c == 0x26)) (is_low c) o.1 in
    rw ((and_parts (nat_le c 127) (not (c == 0x0a)) l.1).0, name_small x q.1) refl

pub code_small : (c : ℕ × ℕ × ℕ) → list_all is_small (color_code c) ≡ true
code_small c = name_small (color_code c) (code_plain c)

pub digits_small : (n : ℕ) → list_all is_small (index_digits n) ≡ true
digits_small n = name_small (index_digits n) (digits_plain n)

-- a tag around a value
around : (l x y t : List ℕ) → list_all is_small l ≡ true → list_all is_small t ≡ true
    → encode_utf8_all x ≡ y → encode_utf8_all (l ++ (x ++ t)) ≡ l ++ (y ++ t)
around l x y t h k e =
    encodes-append l (x ++ t) ∙ ap (λ z. z ++ encode_utf8_all (x ++ t)) (literal l h)
    ∙ ap (λ z. l ++ z) (encodes-append x t ∙ ap (λ z. z ++ encode_utf8_all t) e
    ∙ ap (λ z. y ++ z) (literal t k))

-- ---- spans

quoted_small : (v : List ℕ) → list_all is_name_char v ≡ true
    → list_all is_small (v ++ codes "\"") ≡ true
quoted_small v h = rw (list_all-append is_small v (codes "\""), name_small v h) refl

classes_small : (cs : List Class)
    → list_all is_small (attributes_text (class_attribute cs)) ≡ true
classes_small [] = refl
classes_small (c ∷ cs) =
    let v = span_names (c ∷ cs) in
    ap (λ x. list_all is_small (codes " class=\"" ++ x)) (append-nil (v ++ codes "\""))
    ∙ quoted_small v (names_plain (c ∷ cs))

styles_small : (ss : List Style)
    → list_all is_small (attributes_text (style_attribute ss)) ≡ true
styles_small [] = refl
styles_small (s ∷ ss) =
    let v = styles_text (s ∷ ss) in
    ap (λ x. list_all is_small (codes " style=\"" ++ x)) (append-nil (v ++ codes "\""))
    ∙ quoted_small v (styles_plain (s ∷ ss))

span_small : (cs : List Class) (ss : List Style)
    → list_all is_small
    (codes "<span" ++ (attributes_text (class_attribute cs ++ style_attribute ss) ++ codes ">"))
    ≡ true
span_small cs ss =
    rw (
      flat_map-append attribute_text (class_attribute cs) (style_attribute ss),
      list_all-append is_small (attributes_text (class_attribute cs)
          ++ attributes_text (style_attribute ss)) (codes ">"),
      list_all-append is_small (attributes_text (class_attribute cs))
          (attributes_text (style_attribute ss)),
      classes_small cs,
      styles_small ss,
    ) refl

inline_small : (l : Look) → list_all is_small
    (codes "<span" ++ (attributes_text ((codes "style", inline_text l) ∷ []) ++ codes ">")) ≡ true
inline_small l =
    rw (
      append-nil (inline_text l ++ codes "\""),
      list_all-append is_small (inline_text l ++ codes "\"") (codes ">"),
      quoted_small (inline_text l) (inline_plain l),
    ) refl

page_part_encoded : (p : PagePart) → encode_utf8_all (page_part_text p)
    ≡ page_part_text (utf8_part p)
page_part_encoded (text t) = escape_all 0x3e t (omega arith)
page_part_encoded (span true l) = literal (page_part_text (span true l)) (inline_small l)
page_part_encoded (span false l) =
    literal (page_part_text (span false l))
    (span_small (values_of (look_classes l)) (values_of (look_styles l)))
page_part_encoded span_end = literal (codes "</span>") refl
page_part_encoded (link a) =
    around (codes "<a href=\"") (flat_map escape_value a)
    (flat_map escape_value (encode_utf8_all a)) (codes "\" rel=\"nofollow noopener noreferrer\">") refl refl
    (escape_all 0x22 a (omega arith))
page_part_encoded link_end = literal (codes "</a>") refl

pub page_parts_encoded : (ps : List PagePart) → encode_utf8_all (html_text ps)
    ≡ html_text (map utf8_part ps)
page_parts_encoded [] = refl
page_parts_encoded (p ∷ ps) =
    encodes-append (page_part_text p) (html_text ps)
    ∙ ap (λ x. x ++ encode_utf8_all (html_text ps)) (page_part_encoded p)
    ∙ ap (λ y. page_part_text (utf8_part p) ++ y) (page_parts_encoded ps)
