-- The characters that a page shows with each line in an element.
use Rattle.std.specs.Prelude.{ℕ, ◌≡◌, ◌≤◌, ◌+◌, ◌*◌, ◌==◌, ◌⊎◌, true, if◌then◌else◌, List, [], ◌∷◌, ◌++◌, codes, length, Option}
use Rattle.std.specs.List.{All, flat_map}
use Rattle.esc_actions.specs.Meaning.{meaning_within}
use Rattle.esc_html.specs.Lines.{feeds, in_lines, next_number, numeral}
use Rattle.esc_html.specs.Listed.{IsListed, closes}
use Rattle.esc_html.specs.Marks.{marks, plain_pen}
use Rattle.esc_html.specs.Pages.{closing_text, page_text}
use Rattle.esc_html.specs.Shown.{Element, marked_bytes, shown_characters}
use Rattle.esc_html.specs.Tokens.{Token, character, start_tag, end_tag, stray, tokens}
use Rattle.esc_html.specs.declared.layout.Layout.{Layout}

-- the id of a line
abbrev pub line_id : ℕ → List ℕ
line_id n = 0x4c ∷ numeral n

-- the attributes of the element of a line, and of the link to it
abbrev pub line_attributes : ℕ → List (List ℕ × List ℕ)
line_attributes n = (codes "class", codes "es-line") ∷ (codes "id", line_id n) ∷ []

abbrev pub number_attributes : ℕ → List (List ℕ × List ℕ)
number_attributes n = (codes "href", 0x23 ∷ line_id n) ∷ (codes "tabindex", codes "-1")
    ∷ (codes "aria-hidden", codes "true") ∷ []

-- the start tag of a line, or of the link to one
abbrev pub IsLineTag : Token → Type 0
IsLineTag (start_tag n attributes) = (k : ℕ)
    × (((n ≡ codes "span") × (attributes ≡ line_attributes k))
    ⊎ ((n ≡ codes "a") × (attributes ≡ number_attributes k)))
IsLineTag (character c) = ⊥
IsLineTag (end_tag n) = ⊥
IsLineTag stray = ⊥

-- a token of a page, or such a tag
abbrev pub IsListedInLines : Token → Type 0
IsListedInLines t = IsListed t ⊎ IsLineTag t

abbrev pub line_element : ℕ → Element
line_element n = (codes "span", line_attributes n)

-- characters, each with the elements around it, and around these the element of its line; this
-- number is that of the first
abbrev pub with_lines : ℕ → List (ℕ × List Element) → List (ℕ × List Element)
with_lines n [] = []
with_lines n (m ∷ ms) = (m.0, m.1 ++ line_element n ∷ [])
    ∷ with_lines (if m.0 == 0x0a then next_number n else n) ms

-- The facts about the text t of a page that was made of the stream s, with each line in an element,
-- the first of which has the number n:
pub record IsLinedPage (A : Type 0) (limit : Option ℕ) (n : ℕ) (y : Layout) (s t : List ℕ)
    : Type 0 where
  -- it is that text
  pub text : t ≡ in_lines n (page_text A limit y s ++ closing_text A limit y s)
  -- a browser's tokenizer reads nothing but the tokens of a page, and the tags of lines
  pub listed : All IsListedInLines (tokens t)
  -- each start tag has its end tag, the last one first
  pub closes : closes [] (tokens t) ≡ true
  -- it shows exactly the characters of the stream, with their looks and links, in their lines
  pub shows : shown_characters [] (tokens t)
      ≡ with_lines n (flat_map marked_bytes
      (marks {A = A} y.per_line (plain_pen y.inline) (meaning_within limit s)))
  -- and it is at most 150 times as long as the stream, and 126 bytes more for each line
  pub bounded : length t ≤ 150 * length s + 150
      + 126 * (feeds (page_text A limit y s ++ closing_text A limit y s) + 1)
