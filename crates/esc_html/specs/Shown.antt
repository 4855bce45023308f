-- The characters that a page shows, each with the elements that are open around it.
use Rattle.std.specs.Prelude.{ℕ, ◌≡◌, Bool, true, false, List, [], ◌∷◌, ◌++◌, codes, map, Option, Some, None}
use Rattle.std.specs.Char.{encode_utf8}
use Rattle.std.specs.List.{All, flat_map}
use Rattle.esc_actions.specs.Meaning.{meaning_within}
use Rattle.esc_html.specs.Bounds.{IsBounded}
use Rattle.esc_html.specs.Listed.{IsListed, closes}
use Rattle.esc_style.specs.Looks.{is_plain}
use Rattle.esc_html.specs.Marks.{Pen, marks, plain_pen}
use Rattle.esc_html.specs.Pages.{closing_text, page_text}
use Rattle.esc_html.specs.PageParts.{span_attributes}
use Rattle.esc_html.specs.Tokens.{Token, character, start_tag, end_tag, stray, tokens}
use Rattle.esc_style.specs.declared.look.Look.{Look}
use Rattle.esc_html.specs.declared.layout.Layout.{Layout}

-- the name of an element, and its attributes with their values
abbrev pub Element : Type 0
Element = List ℕ × List (List ℕ × List ℕ)

-- each character of these tokens, with the elements that are open around it, the inner one first,
-- if these are open before
abbrev pub shown_characters : List Element → List Token → List (ℕ × List Element)
shown_characters es [] = []
shown_characters es (character c ∷ ts) = (c, es) ∷ shown_characters es ts
shown_characters es (start_tag n attributes ∷ ts) = shown_characters ((n, attributes) ∷ es) ts
shown_characters [] (end_tag n ∷ ts) = shown_characters [] ts
shown_characters (e ∷ es) (end_tag n ∷ ts) = shown_characters es ts
shown_characters es (stray ∷ ts) = shown_characters es ts

-- the elements of a pen: a span if the look is not plain, in a link if there is one
abbrev pub link_elements : Option (List ℕ) → List Element
link_elements None = []
link_elements (Some a) =
    (codes "a", (codes "href", a) ∷ (codes "rel", codes "nofollow noopener noreferrer") ∷ []) ∷ []

abbrev pub span_elements_unless : Bool → Bool → Look → List Element
span_elements_unless b true l = []
span_elements_unless b false l = (codes "span", span_attributes b l) ∷ []

abbrev pub elements : Pen → List Element
elements p = span_elements_unless p.inline (is_plain p.look) p.look ++ link_elements p.link

-- the bytes of a character, each in the elements of its pen
abbrev pub marked_bytes : ℕ × Pen → List (ℕ × List Element)
marked_bytes m = map (λ b. (b, elements m.1)) (encode_utf8 m.0)

-- The facts about the text t of a page that was made of the stream s, with the tags that close it:
pub record IsPage (A : Type 0) (limit : Option ℕ) (y : Layout) (s t : List ℕ) : Type 0 where
  -- it is that text
  pub text : t ≡ page_text A limit y s ++ closing_text A limit y s
  -- a browser's tokenizer reads nothing but characters, spans of looks, and links to safe addresses
  pub listed : All IsListed (tokens t)
  -- each start tag has its end tag, the last one first
  pub closes : closes [] (tokens t) ≡ true
  -- it shows exactly the characters of the stream, with their looks and links
  pub shows : shown_characters [] (tokens t)
      ≡ flat_map marked_bytes
      (marks {A = A} y.per_line (plain_pen y.inline) (meaning_within limit s))
  -- and it is at most 150 times as long as the stream, and 150 bytes more
  pub bounded : IsBounded s t
