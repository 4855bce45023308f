-- The tokens that are read from parts are on the list, and nest if the parts do.
use Rattle.std.proofs.Common.{ℕ, ◌≡◌, ◌&&◌, not, true, inl, inr, List, [], ◌∷◌, ◌++◌, codes, map, refl, ap, sym, ◌∙◌, subst}
use Rattle.std.specs.List.{All, list_all}
use Rattle.std.proofs.lemmas.Bool.{and_parts}
use Rattle.std.proofs.lemmas.List.Elements.{All-append, All-cons, All-nil}
use Rattle.esc_html.specs.Listed.{IsListed, closes, has_open_link, is_safe_page_part}
use Rattle.esc_html.specs.PageParts.{Open, PagePart, text, span, span_end, link, link_end, open_span, open_link, html_text, is_kept_page_part, has_link, nests, page_part_tokens, span_attributes, tokens_of}
use Rattle.esc_html.specs.Tokens.{Token, character, start_tag, end_tag, tokens}
use Rattle.esc_html.proofs.Texts.PartsReadAsTokens.{page_parts_read_back}

characters_listed : (t : List ℕ) → All IsListed (map character t)
characters_listed [] = All-nil IsListed
characters_listed (c ∷ t) = All-cons IsListed (character c) (map character t) tt
    (characters_listed t)

one_listed : (t : Token) → IsListed t → All IsListed (t ∷ [])
one_listed t h = All-cons IsListed t [] h (All-nil IsListed)

page_part_listed : (p : PagePart) → is_safe_page_part p ≡ true → All IsListed (page_part_tokens p)
page_part_listed (text t) h = characters_listed t
page_part_listed (span b l) h =
    one_listed (start_tag (codes "span") (span_attributes b l)) (inl (refl, (b, l, refl)))
page_part_listed span_end h = one_listed (end_tag (codes "span")) (inl refl)
page_part_listed (link a) h =
    one_listed (start_tag (codes "a")
    ((codes "href", a) ∷ (codes "rel", codes "nofollow noopener noreferrer") ∷ []))
    (inr (refl, (a, h, refl)))
page_part_listed link_end h = one_listed (end_tag (codes "a")) (inr refl)

all_listed : (ps : List PagePart) → list_all is_safe_page_part ps ≡ true
    → All IsListed (tokens_of ps)
all_listed [] h = All-nil IsListed
all_listed (p ∷ ps) h =
    let q = and_parts (is_safe_page_part p) (list_all is_safe_page_part ps) h in
    All-append IsListed (page_part_tokens p) (tokens_of ps) (page_part_listed p q.0)
    (all_listed ps q.1)

pub page_parts_are_listed : (ps : List PagePart) → list_all is_kept_page_part ps ≡ true
    → list_all is_safe_page_part ps ≡ true → All IsListed (tokens (html_text ps))
page_parts_are_listed ps h k =
    subst (All IsListed) (sym (page_parts_read_back ps h)) (all_listed ps k)

-- ---- nesting

abbrev name_of : Open → List ℕ
name_of open_span = codes "span"
name_of open_link = codes "a"

past_text : (ns : List (List ℕ)) (t : List ℕ) (ts : List Token)
    → closes ns (map character t ++ ts) ≡ closes ns ts
past_text [] [] ts = refl
past_text [] (c ∷ t) ts = past_text [] t ts
past_text (n ∷ ns) [] ts = refl
past_text (n ∷ ns) (c ∷ t) ts = past_text (n ∷ ns) t ts

links_open : (os : List Open) → has_open_link (map name_of os) ≡ has_link os
links_open [] = refl
links_open (open_span ∷ os) = links_open os
links_open (open_link ∷ os) = refl

-- a link begins
link_begins : (os : List Open) (ps : List PagePart)
    → not (has_link os) && nests (open_link ∷ os) ps ≡ true
    → (nests (open_link ∷ os) ps ≡ true
    → closes (map name_of (open_link ∷ os)) (tokens_of ps) ≡ true)
    → not (has_open_link (map name_of os))
    && closes (map name_of (open_link ∷ os)) (tokens_of ps) ≡ true
link_begins os ps h k =
    let q = and_parts (not (has_link os)) (nests (open_link ∷ os) ps) h in
    rw (links_open os, q.0, k q.1) refl

all_close : (os : List Open) (ps : List PagePart) → nests os ps ≡ true
    → closes (map name_of os) (tokens_of ps) ≡ true
all_close [] [] h = refl
all_close (o ∷ os) [] h = absurd cc
all_close [] (text t ∷ ps) h = past_text [] t (tokens_of ps) ∙ all_close [] ps h
all_close (o ∷ os) (text t ∷ ps) h =
    past_text (map name_of (o ∷ os)) t (tokens_of ps) ∙ all_close (o ∷ os) ps h
all_close [] (span b l ∷ ps) h = all_close (open_span ∷ []) ps h
all_close (o ∷ os) (span b l ∷ ps) h = all_close (open_span ∷ o ∷ os) ps h
all_close [] (link a ∷ ps) h = link_begins [] ps h (all_close (open_link ∷ []) ps)
all_close (o ∷ os) (link a ∷ ps) h =
    link_begins (o ∷ os) ps h (all_close (open_link ∷ o ∷ os) ps)
all_close [] (span_end ∷ ps) h = absurd cc
all_close (open_span ∷ os) (span_end ∷ ps) h = all_close os ps h
all_close (open_link ∷ os) (span_end ∷ ps) h = absurd cc
all_close [] (link_end ∷ ps) h = absurd cc
all_close (open_span ∷ os) (link_end ∷ ps) h = absurd cc
all_close (open_link ∷ os) (link_end ∷ ps) h = all_close os ps h

pub page_parts_close : (ps : List PagePart) → list_all is_kept_page_part ps ≡ true → nests [] ps
    ≡ true
    → closes [] (tokens (html_text ps)) ≡ true
page_parts_close ps h k = ap (closes []) (page_parts_read_back ps h) ∙ all_close [] ps k
