-- The tokens that a page may hold: characters, and the two elements of parts with their attributes.
use Rattle.std.specs.Prelude.{ℕ, ◌≡◌, ◌⊎◌, Bool, true, false, not, ◌&&◌, ◌||◌, List, [], ◌∷◌, codes}
use Rattle.std.specs.Str.{bytes_eq}
use Rattle.esc_html.specs.Addresses.{is_safe_address}
use Rattle.esc_html.specs.PageParts.{PagePart, text, span, span_attributes, span_end, link, link_end}
use Rattle.esc_html.specs.Tokens.{Token, character, start_tag, end_tag, stray}
use Rattle.esc_style.specs.declared.look.Look.{Look}

-- a span of a look: declarations of fixed lists; or names of the list of classes, and colours by
-- numbers; alone
abbrev pub IsSpan : List ℕ → List (List ℕ × List ℕ) → Type 0
IsSpan n attributes = (n ≡ codes "span")
    × ((inline : Bool) × (l : Look) × (attributes ≡ span_attributes inline l))

-- a link to a safe address, which says nothing of this page to the one that it leads to
abbrev pub IsLink : List ℕ → List (List ℕ × List ℕ) → Type 0
IsLink n attributes = (n ≡ codes "a") × ((a : List ℕ) × (is_safe_address a ≡ true)
    × (attributes ≡ (codes "href", a) ∷ (codes "rel", codes "nofollow noopener noreferrer") ∷ []))

-- a character, a tag of a span or a tag of a link
abbrev pub IsListed : Token → Type 0
IsListed (character c) = Unit {0}
IsListed (start_tag n attributes) = IsSpan n attributes ⊎ IsLink n attributes
IsListed (end_tag n) = (n ≡ codes "span") ⊎ (n ≡ codes "a")
IsListed stray = ⊥

-- a link of the part leads to a safe address
abbrev pub is_safe_page_part : PagePart → Bool
is_safe_page_part (text t) = true
is_safe_page_part (span b l) = true
is_safe_page_part span_end = true
is_safe_page_part (link a) = is_safe_address a
is_safe_page_part link_end = true

-- whether a link is open, by the names of the elements that are
abbrev pub has_open_link : List (List ℕ) → Bool
has_open_link [] = false
has_open_link (n ∷ ns) = bytes_eq n (codes "a") || has_open_link ns

-- Each start tag has its end tag, the last one first, if these elements are open at the beginning;
-- and no link begins in a link, which would end the outer one (13.2.6.4.7).
abbrev pub closes : List (List ℕ) → List Token → Bool
closes [] [] = true
closes (n ∷ ns) [] = false
closes ns (character c ∷ ts) = closes ns ts
closes ns (start_tag n attributes ∷ ts) = not (bytes_eq n (codes "a") && has_open_link ns)
    && closes (n ∷ ns) ts
closes [] (end_tag m ∷ ts) = false
closes (n ∷ ns) (end_tag m ∷ ts) = bytes_eq n m && closes ns ts
closes ns (stray ∷ ts) = false
