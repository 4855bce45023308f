-- The parts of which a text in HTML is made, the text that they are written as, and the tokens that
-- a browser reads. The characters are those of Unicode or, in the same way, the bytes of UTF-8.
use Rattle.std.specs.Prelude.{ℕ, ◌==◌, Bool, true, false, not, ◌&&◌, ◌||◌, if◌then◌else◌, List, [], ◌∷◌, ◌++◌, codes, map}
use Rattle.std.specs.List.{flat_map, list_all}
use Rattle.std.specs.Str.{encode_utf8_all}
use Rattle.esc_style.specs.Looks.{look_classes, look_styles, values_of}
use Rattle.esc_style.specs.Styles.{styles_text}
use Rattle.esc_html.specs.Inline.{inline_text}
use Rattle.esc_html.specs.Names.{span_names}
use Rattle.esc_html.specs.Tokens.{Token, character, start_tag, end_tag}
use Rattle.esc_style.specs.declared.class.Class.{Class}
use Rattle.esc_style.specs.declared.look.Look.{Look}
use Rattle.esc_style.specs.declared.style.Style.{Style}

pub data PagePart : Type 0 where
  -- characters
  text : List ℕ → PagePart
  -- a span of this look begins, in declarations alone or with classes
  span : Bool → Look → PagePart
  -- it ends
  span_end : PagePart
  -- a link to this address begins
  link : List ℕ → PagePart
  -- it ends
  link_end : PagePart

-- the character reference of `&`, `<`, `>` and `"`
abbrev pub reference_text : ℕ → List ℕ
reference_text c = if c == 0x26 then codes "&amp;"
    else if c == 0x3c then codes "&lt;"
    else if c == 0x3e then codes "&gt;"
    else codes "&quot;"

-- the text of a character, if `&`, `<` and this one have to be references
abbrev pub escape : ℕ → ℕ → List ℕ
escape mark c = if c == 0x26 || c == 0x3c || c == mark then reference_text c else c ∷ []

-- in text: `>` too (13.3, escaping a string)
abbrev pub needs_reference : ℕ → Bool
needs_reference c = c == 0x26 || c == 0x3c || c == 0x3e

abbrev pub escape_text : ℕ → List ℕ
escape_text c = escape 0x3e c

-- in an attribute's value between double quotes: `"` too
abbrev pub escape_value : ℕ → List ℕ
escape_value c = escape 0x22 c

-- the attributes of a span: its declarations alone; or its classes if there are some, and its
-- styles if there are some
abbrev pub class_attribute : List Class → List (List ℕ × List ℕ)
class_attribute [] = []
class_attribute (c ∷ cs) = (codes "class", span_names (c ∷ cs)) ∷ []

abbrev pub style_attribute : List Style → List (List ℕ × List ℕ)
style_attribute [] = []
style_attribute (s ∷ ss) = (codes "style", styles_text (s ∷ ss)) ∷ []

abbrev pub span_attributes : Bool → Look → List (List ℕ × List ℕ)
span_attributes true l = (codes "style", inline_text l) ∷ []
span_attributes false l = class_attribute (values_of (look_classes l))
    ++ style_attribute (values_of (look_styles l))

-- attributes in a tag, each after a space
abbrev pub attribute_text : List ℕ × List ℕ → List ℕ
attribute_text a = 0x20 ∷ (a.0 ++ (codes "=\"" ++ (a.1 ++ codes "\"")))

abbrev pub attributes_text : List (List ℕ × List ℕ) → List ℕ
attributes_text xs = flat_map attribute_text xs

-- the text of a part
abbrev pub page_part_text : PagePart → List ℕ
page_part_text (text t) = flat_map escape_text t
page_part_text (span b l) = codes "<span" ++ (attributes_text (span_attributes b l) ++ codes ">")
page_part_text span_end = codes "</span>"
page_part_text (link a) =
    codes "<a href=\"" ++ (flat_map escape_value a ++ codes "\" rel=\"nofollow noopener noreferrer\">")
page_part_text link_end = codes "</a>"

abbrev pub html_text : List PagePart → List ℕ
html_text ps = flat_map page_part_text ps

-- the tokens that a part is
abbrev pub page_part_tokens : PagePart → List Token
page_part_tokens (text t) = map character t
page_part_tokens (span b l) = start_tag (codes "span") (span_attributes b l) ∷ []
page_part_tokens span_end = end_tag (codes "span") ∷ []
page_part_tokens (link a) = start_tag (codes "a")
    ((codes "href", a) ∷ (codes "rel", codes "nofollow noopener noreferrer") ∷ []) ∷ []
page_part_tokens link_end = end_tag (codes "a") ∷ []

abbrev pub tokens_of : List PagePart → List Token
tokens_of ps = flat_map page_part_tokens ps

-- a character that HTML keeps as it is: not NUL, and no carriage return
abbrev pub is_kept : ℕ → Bool
is_kept c = not (c == 0) && not (c == 0x0d)

-- and one that ends no line
abbrev pub is_unbroken : ℕ → Bool
is_unbroken c = is_kept c && not (c == 0x0a)

-- the characters of a part are kept
abbrev pub is_kept_page_part : PagePart → Bool
is_kept_page_part (text t) = list_all is_kept t
is_kept_page_part (span b l) = true
is_kept_page_part span_end = true
is_kept_page_part (link a) = list_all is_kept a
is_kept_page_part link_end = true

-- an open element: a span or a link
pub data Open : Type 0 where
  open_span : Open
  open_link : Open

-- whether a link is open
abbrev pub has_link : List Open → Bool
has_link [] = false
has_link (open_span ∷ os) = has_link os
has_link (open_link ∷ os) = true

-- Each span and link that began ends, the last one first, if these are open at the beginning; and
-- no link begins in a link.
abbrev pub nests : List Open → List PagePart → Bool
nests [] [] = true
nests (o ∷ os) [] = false
nests os (text t ∷ ps) = nests os ps
nests os (span b l ∷ ps) = nests (open_span ∷ os) ps
nests os (link a ∷ ps) = not (has_link os) && nests (open_link ∷ os) ps
nests (open_span ∷ os) (span_end ∷ ps) = nests os ps
nests (open_link ∷ os) (link_end ∷ ps) = nests os ps
nests _ _ = false

-- a part of characters as one of the bytes of their UTF-8
abbrev pub utf8_part : PagePart → PagePart
utf8_part (text t) = text (encode_utf8_all t)
utf8_part (span b l) = span b l
utf8_part span_end = span_end
utf8_part (link a) = link (encode_utf8_all a)
utf8_part link_end = link_end
