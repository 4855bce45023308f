-- The HTML of a stream that goes on.
use Rattle.std.proofs.Common.{ℕ, ◌≡◌, List, [], ◌++◌, Option, ap, sym, ◌∙◌}
use Rattle.std.proofs.lemmas.Grind.{flat_map-append}
use Rattle.esc_actions.proofs.Meaning.MeaningsJoin.{meaning_more, meaning_nil}
use Rattle.esc_actions.specs.Meaning.{meaning_within, yield_within}
use Rattle.esc_html.proofs.Parts.PartsNestAndClose.{parts_more}
use Rattle.esc_html.specs.Pages.{first_state, page_text, page_parts_from, state_from}
use Rattle.esc_html.specs.PageParts.{html_text, page_part_text}
use Rattle.esc_html.specs.declared.layout.Layout.{Layout}

-- the text that more bytes add to it
abbrev pub text_more : Type 0 → Option ℕ → Layout → List ℕ → List ℕ → List ℕ
text_more A limit y s b = html_text (page_parts_from {A = A} y.per_line
    (state_from {A = A} y.per_line (first_state y.inline) (meaning_within limit s))
    (yield_within limit s b))

pub page_longer : (A : Type 0) (limit : Option ℕ) (y : Layout) (s b : List ℕ)
    → page_text A limit y (s ++ b) ≡ page_text A limit y s ++ text_more A limit y s b
page_longer A limit y s b =
    let us = meaning_within {A = A} limit s in
    let vs = yield_within {A = A} limit s b in
    let pl = y.per_line in
    let first = first_state y.inline in
    ap (λ ws. html_text (page_parts_from pl first ws)) (sym (meaning_more {A = A} limit s b))
    ∙ ap html_text (parts_more pl first us vs)
    ∙ flat_map-append page_part_text (page_parts_from pl first us)
    (page_parts_from pl (state_from pl first us) vs)

pub page_of_nothing : (A : Type 0) (limit : Option ℕ) (y : Layout) → page_text A limit y [] ≡ []
page_of_nothing A limit y =
    ap (λ ws. html_text (page_parts_from y.per_line (first_state y.inline) ws))
    (meaning_nil {A = A} limit)
