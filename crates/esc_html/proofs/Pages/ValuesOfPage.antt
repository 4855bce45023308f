-- The values that a page was given.
use Rattle.std.proofs.Common.{ℕ, ◌≡◌, List, [], ◌∷◌, ◌++◌, Option, Some, inl, inr, ap, sym, subst, ◌∙◌, append_assoc, append-nil, refl, true}
use Rattle.std.specs.List.{FoldsTo}
use Rattle.std.proofs.lemmas.Grind.{flat_map-append}
use Rattle.esc_actions.proofs.Meaning.MeaningsJoin.{meaning_more}
use Rattle.esc_actions.specs.Meaning.{meaning_within, yield_within}
use Rattle.esc_actions.specs.Values.{Value, value_of, print, string, control, esc, csi, osc, kitty, sixel, termcap, short, enter, datum, exit}
use Rattle.esc_actions.specs.declared.action.Action.{Action}
use Rattle.esc_parse.specs.Images.{is_image}
use Rattle.esc_parse.specs.Given.{At, StopsAt}
use Rattle.esc_html.specs.Bounds.{IsBoundedPagePart}
use Rattle.esc_html.specs.Fed.{Adds, Takes, HasConsumed, closing_of, state_of, text_of}
use Rattle.esc_html.specs.Marks.{nothing, step_of}
use Rattle.esc_html.specs.Pages.{closing_parts, closing_text, first_state, page_text, page_parts_by, page_parts_from, state_by, state_from, state_of_stream}
use Rattle.esc_html.specs.PageParts.{html_text, page_part_text}
use Rattle.esc_html.specs.declared.html_writer.HtmlWriter.{HtmlWriter}
use Rattle.esc_html.specs.declared.layout.Layout.{Layout}
use Rattle.esc_html.specs.declared.page.Page.{Page}
use Rattle.esc_html.proofs.Lengths.PageIsBounded.{page_part_bounded}
use Rattle.esc_html.proofs.Parts.PartsNestAndClose.{parts_more, state_more}

pub takes_all : {A : Type 0} (p : Page A) (vs : List (Value A)) (q : Page A)
    → FoldsTo (At value_of Takes) p vs q
    → (text_of q ≡ text_of p ++ html_text (page_parts_from p.layout.per_line (state_of p) vs))
    × (state_of q ≡ state_from p.layout.per_line (state_of p) vs) × (q.layout ≡ p.layout)
takes_all p [] q e = (
  ap text_of (sym e) ∙ sym (append-nil (text_of p)),
  ap state_of (sym e),
  ap (λ x. x.layout) (sym e),
)
takes_all p (v ∷ vs) q (j, (a, is, w), rest) =
    let s = step_of (state_of p).pen v in
    let l = p.layout.per_line in
    let k = subst (λ x. Adds p (step_of (state_of p).pen x) j) is w in
    let line = ap (λ y. y.per_line) k.layout in
    let r = takes_all j vs q rest in (
      r.0 ∙ ap (λ t. t ++ html_text (page_parts_from j.layout.per_line (state_of j) vs)) k.text
          ∙ append_assoc (text_of p) (html_text (page_parts_by l (state_of p) s))
          (html_text (page_parts_from j.layout.per_line (state_of j) vs))
          ∙ ap (λ m. text_of p ++ (html_text (page_parts_by l (state_of p) s)
          ++ html_text (page_parts_from m (state_of j) vs))) line
          ∙ ap (λ g. text_of p ++ (html_text (page_parts_by l (state_of p) s)
          ++ html_text (page_parts_from l g vs))) k.state
          ∙ ap (λ t. text_of p ++ t) (sym (flat_map-append page_part_text
          (page_parts_by l (state_of p) s) (page_parts_from l (state_by l (state_of p) s) vs))),
      r.1 ∙ ap (λ m. state_from m (state_of j) vs) line
          ∙ ap (λ g. state_from l g vs) k.state,
      r.2 ∙ k.layout,
    )

pub fed_more : {A : Type 0} (limit : Option ℕ) (y : Layout) (s b : List ℕ) (p q : Page A)
    → text_of p ≡ [] → state_of p ≡ state_of_stream A limit y s → p.layout ≡ y
    → FoldsTo (At value_of Takes) p (yield_within limit s b) q
    → (state_of q ≡ state_of_stream A limit y (s ++ b)) × (q.layout ≡ y)
    × (page_text A limit y (s ++ b) ≡ page_text A limit y s ++ text_of q)
    × IsBoundedPagePart b (text_of q)
fed_more {A} limit y s b p q none at same f =
    let us = meaning_within {A = A} limit s in
    let vs = yield_within {A = A} limit s b in
    let pl = y.per_line in
    let first = first_state y.inline in
    let line = ap (λ z. z.per_line) same in
    let r = takes_all p vs q f in
    let more = sym (meaning_more {A = A} limit s b) in
    let text = r.0 ∙ ap (λ t. t ++ html_text (page_parts_from p.layout.per_line (state_of p) vs))
    none
    ∙ ap (λ l. html_text (page_parts_from l (state_of p) vs)) line
    ∙ ap (λ g. html_text (page_parts_from pl g vs)) at in (
      r.1 ∙ ap (λ l. state_from l (state_of p) vs) line ∙ ap (λ g. state_from pl g vs) at
          ∙ sym (state_more pl first us vs) ∙ ap (state_from pl first) (sym more),
      r.2 ∙ same,
      ap (λ ws. html_text (page_parts_from pl first ws)) more
          ∙ ap html_text (parts_more pl first us vs)
          ∙ flat_map-append page_part_text (page_parts_from pl first us)
          (page_parts_from pl (state_from pl first us) vs)
          ∙ ap (λ x. page_text A limit y s ++ x) (sym text),
      subst (IsBoundedPagePart b) (sym text) (page_part_bounded A limit y s b),
    )

-- the tags that close those of a writer
pub closing_same : {A : Type 0} (limit : ℕ) (y : Layout) (s : List ℕ) (w : HtmlWriter A)
    → HasConsumed limit y s w → closing_of w ≡ closing_text A (Some limit) y s
closing_same limit y s w h = ap (λ g. html_text (closing_parts g)) h.state

-- a giver that stops at a value, or by itself, was refused memory
pub stops_refused : {P V : Type 0} (own why : Type 0) (R Q : P → V → P → Type 0)
    → (own → why) → ((p : P) (v : V) (q : P) → Q p v q → why)
    → (p : P) (vs : List V) (q : P) → StopsAt own R Q p vs q → why
stops_refused own why R Q k says p [] q e = k e.0
stops_refused own why R Q k says p (v ∷ vs) q (inl e) = k e.0
stops_refused own why R Q k says p (v ∷ vs) q (inr (inl z)) = says p v q z
stops_refused own why R Q k says p (v ∷ vs) q (inr (inr (mid, t, rest))) =
    stops_refused own why R Q k says mid vs q rest

-- ---- images

pub adds_nothing : {A : Type 0} (p : Page A) → Adds p nothing p
adds_nothing p = record {
  text = sym (append-nil (text_of p));
  state = refl;
  layout = refl;
}

image_adds : {A : Type 0} (p : Page A) (v : Value A) → is_image v ≡ true
    → Adds p (step_of (state_of p).pen v) p
image_adds p (kitty i) h = adds_nothing p
image_adds p (sixel s) h = adds_nothing p
image_adds p (print c) h = absurd cc
image_adds p (string t) h = absurd cc
image_adds p (control c) h = absurd cc
image_adds p (esc e) h = absurd cc
image_adds p (csi c) h = absurd cc
image_adds p (osc c) h = absurd cc
image_adds p (termcap ns) h = absurd cc
image_adds p (short s) h = absurd cc
image_adds p (enter e) h = absurd cc
image_adds p (datum b) h = absurd cc
image_adds p exit h = absurd cc

pub image_dropped : {A : Type 0} (p : Page A) (a : Action A) → is_image (value_of a) ≡ true
    → Takes p a p
image_dropped p a h = image_adds p (value_of a) h
