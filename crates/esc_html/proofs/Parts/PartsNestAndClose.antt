-- The parts of a stream nest and close, and show its characters with their looks and links.
use Rattle.std.proofs.Common.{ℕ, ◌≡◌, Bool, true, false, List, [], ◌∷◌, ◌++◌, Option, Some, None, is_some, map, refl, ap, sym, ◌∙◌, append_assoc, append-nil}
use Rattle.std.specs.Char.{encode_utf8}
use Rattle.std.specs.List.{flat_map}
use Rattle.std.proofs.lemmas.Grind.{flat_map-append}
use Rattle.esc_actions.specs.Values.{Value}
use Rattle.esc_style.specs.Looks.{is_plain}
use Rattle.esc_html.specs.Marks.{Pen, Step, restyles, redirects, shows, nothing, ends_line, marked_character, marks, pen_after, pen_at, pen_by, step_of, with_look}
use Rattle.esc_html.specs.Pages.{State, after_character, before_character, closing_parts, closing, link_end_if, link_opening, opening, page_parts_by, page_parts_from, span_closing, span_end_unless, span_unless, state_by, state_from, without_span}
use Rattle.esc_html.specs.PageParts.{Open as OpenTag, PagePart, nests, open_link, open_span, page_part_tokens, text, tokens_of}
use Rattle.esc_html.specs.Shown.{Element, elements, link_elements, marked_bytes, shown_characters, span_elements_unless}
use Rattle.esc_html.specs.Tokens.{Token, character}
use Rattle.esc_style.specs.declared.look.Look.{Look}
use Rattle.esc_html.specs.declared.tags.Tags.{Tags}
use Rattle.esc_html.specs.declared.tags.Tags.TheVariants.{Closed, Link, Open}

-- ---- one list of values after another

pub state_more : {A : Type 0} (pl : Bool) (g : State) (vs ws : List (Value A))
    → state_from pl g (vs ++ ws) ≡ state_from pl (state_from pl g vs) ws
state_more pl g [] ws = refl
state_more pl g (v ∷ vs) ws = state_more pl (state_by pl g (step_of g.pen v)) vs ws

pub parts_more : {A : Type 0} (pl : Bool) (g : State) (vs ws : List (Value A))
    → page_parts_from pl g (vs ++ ws)
    ≡ page_parts_from pl g vs ++ page_parts_from pl (state_from pl g vs) ws
parts_more pl g [] ws = refl
parts_more pl g (v ∷ vs) ws =
    let s = step_of g.pen v in
    ap (λ ps. page_parts_by pl g s ++ ps) (parts_more pl (state_by pl g s) vs ws)
    ∙ sym (append_assoc (page_parts_by pl g s) (page_parts_from pl (state_by pl g s) vs)
    (page_parts_from pl (state_from pl (state_by pl g s) vs) ws))

-- ---- nesting

abbrev span_open_unless : Bool → List OpenTag
span_open_unless true = []
span_open_unless false = open_span ∷ []

abbrev link_open_if : Bool → List OpenTag
link_open_if true = open_link ∷ []
link_open_if false = []

abbrev open_tags : Tags → Pen → List OpenTag
open_tags Closed p = []
open_tags Link p = link_open_if (is_some p.link)
open_tags Open p = span_open_unless (is_plain p.look) ++ link_open_if (is_some p.link)

abbrev nesting : State → List OpenTag
nesting g = open_tags g.tags g.pen

nests_span : (i b k : Bool) (l : Look) (ps : List PagePart)
    → nests (link_open_if k) (span_unless i b l ++ ps)
    ≡ nests (span_open_unless b ++ link_open_if k) ps
nests_span i true true l ps = refl
nests_span i true false l ps = refl
nests_span i false true l ps = refl
nests_span i false false l ps = refl

nests_open : (i b : Bool) (k : Option (List ℕ)) (l : Look) (ps : List PagePart)
    → nests [] ((link_opening k ++ span_unless i b l) ++ ps)
    ≡ nests (span_open_unless b ++ link_open_if (is_some k)) ps
nests_open i true None l ps = refl
nests_open i false None l ps = refl
nests_open i true (Some a) l ps = refl
nests_open i false (Some a) l ps = refl

nests_link_end : (k : Bool) (ps : List PagePart)
    → nests (link_open_if k) (link_end_if k ++ ps) ≡ nests [] ps
nests_link_end true ps = refl
nests_link_end false ps = refl

nests_span_end : (b k : Bool) (ps : List PagePart)
    → nests (span_open_unless b ++ link_open_if k) (span_end_unless b ++ ps)
    ≡ nests (link_open_if k) ps
nests_span_end true true ps = refl
nests_span_end true false ps = refl
nests_span_end false true ps = refl
nests_span_end false false ps = refl

nests_close : (b k : Bool) (ps : List PagePart)
    → nests (span_open_unless b ++ link_open_if k) ((span_end_unless b ++ link_end_if k) ++ ps)
    ≡ nests [] ps
nests_close true true ps = refl
nests_close true false ps = refl
nests_close false true ps = refl
nests_close false false ps = refl

nests_text : (os : List OpenTag) (t : List ℕ) (ps : List PagePart)
    → nests os (text t ∷ ps) ≡ nests os ps
nests_text [] t ps = refl
nests_text (o ∷ os) t ps = refl

nests_opened : (t : Tags) (p : Pen) (ps : List PagePart)
    → nests (open_tags t p) (opening t p ++ ps) ≡ nests (open_tags Open p) ps
nests_opened Closed p ps = nests_open p.inline (is_plain p.look) p.link p.look ps
nests_opened Link p ps = nests_span p.inline (is_plain p.look) (is_some p.link) p.look ps
nests_opened Open p ps = refl

nests_closed : (t : Tags) (p : Pen) (ps : List PagePart)
    → nests (open_tags t p) (closing t p ++ ps) ≡ nests [] ps
nests_closed Closed p ps = refl
nests_closed Link p ps = nests_link_end (is_some p.link) ps
nests_closed Open p ps = nests_close (is_plain p.look) (is_some p.link) ps

nests_restyled : (t : Tags) (p : Pen) (l : Look) (ps : List PagePart)
    → nests (open_tags t p) (span_closing t p ++ ps)
    ≡ nests (open_tags (without_span t) (with_look p l)) ps
nests_restyled Closed p l ps = refl
nests_restyled Link p l ps = refl
nests_restyled Open p l ps = nests_span_end (is_plain p.look) (is_some p.link) ps

nests_before : (e : Bool) (g : State) (ps : List PagePart)
    → nests (nesting g) (before_character e g ++ ps) ≡ nests (nesting (after_character e g)) ps
nests_before true g ps = nests_closed g.tags g.pen ps
nests_before false g ps = nests_opened g.tags g.pen ps

nests_step : (pl : Bool) (g : State) (s : Step) (ps : List PagePart)
    → nests (nesting g) (page_parts_by pl g s ++ ps) ≡ nests (nesting (state_by pl g s)) ps
nests_step pl g (restyles l) ps = nests_restyled g.tags g.pen l ps
nests_step pl g (redirects k) ps = nests_closed g.tags g.pen ps
nests_step pl g (shows c) ps =
    let e = ends_line pl c in
    ap (nests (nesting g)) (append_assoc (before_character e g) (text (encode_utf8 c) ∷ []) ps)
    ∙ nests_before e g (text (encode_utf8 c) ∷ ps)
    ∙ nests_text (nesting (after_character e g)) (encode_utf8 c) ps
nests_step pl g nothing ps = refl

pub pages_nest : {A : Type 0} (pl : Bool) (g : State) (vs : List (Value A))
    → nests (nesting g) (page_parts_from pl g vs ++ closing_parts (state_from pl g vs)) ≡ true
pages_nest pl g [] =
    ap (nests (nesting g)) (sym (append-nil (closing_parts g))) ∙ nests_closed g.tags g.pen []
pages_nest pl g (v ∷ vs) =
    let s = step_of g.pen v in
    let rest = page_parts_from pl (state_by pl g s) vs in
    let last = closing_parts (state_from pl (state_by pl g s) vs) in
    ap (nests (nesting g)) (append_assoc (page_parts_by pl g s) rest last)
    ∙ nests_step pl g s (rest ++ last) ∙ pages_nest pl (state_by pl g s) vs

-- ---- the characters that are shown

abbrev open_elements : Tags → Pen → List Element
open_elements Closed p = []
open_elements Link p = link_elements p.link
open_elements Open p = elements p

abbrev elements_at : State → List Element
elements_at g = open_elements g.tags g.pen

shown_span : (i b : Bool) (k : Option (List ℕ)) (l : Look) (ts : List Token)
    → shown_characters (link_elements k) (tokens_of (span_unless i b l) ++ ts)
    ≡ shown_characters (span_elements_unless i b l ++ link_elements k) ts
shown_span i true k l ts = refl
shown_span i false k l ts = refl

shown_open : (i b : Bool) (k : Option (List ℕ)) (l : Look) (ts : List Token)
    → shown_characters [] (tokens_of (link_opening k ++ span_unless i b l) ++ ts)
    ≡ shown_characters (span_elements_unless i b l ++ link_elements k) ts
shown_open i true None l ts = refl
shown_open i false None l ts = refl
shown_open i true (Some a) l ts = refl
shown_open i false (Some a) l ts = refl

shown_link_end : (k : Option (List ℕ)) (ts : List Token)
    → shown_characters (link_elements k) (tokens_of (link_end_if (is_some k)) ++ ts)
    ≡ shown_characters [] ts
shown_link_end None ts = refl
shown_link_end (Some a) ts = refl

shown_span_end : (i b : Bool) (k : Option (List ℕ)) (l : Look) (ts : List Token)
    → shown_characters (span_elements_unless i b l ++ link_elements k)
    (tokens_of (span_end_unless b) ++ ts)
    ≡ shown_characters (link_elements k) ts
shown_span_end i true k l ts = refl
shown_span_end i false k l ts = refl

shown_close : (i b : Bool) (k : Option (List ℕ)) (l : Look) (ts : List Token)
    → shown_characters (span_elements_unless i b l ++ link_elements k)
    (tokens_of (span_end_unless b ++ link_end_if (is_some k)) ++ ts)
    ≡ shown_characters [] ts
shown_close i true None l ts = refl
shown_close i false None l ts = refl
shown_close i true (Some a) l ts = refl
shown_close i false (Some a) l ts = refl

shown_text : (es : List Element) (t : List ℕ) (ts : List Token)
    → shown_characters es (map character t ++ ts) ≡ map (λ b. (b, es)) t ++ shown_characters es ts
shown_text es [] ts = refl
shown_text es (c ∷ t) ts = ap (λ x. (c, es) ∷ x) (shown_text es t ts)

shown_opened : (t : Tags) (p : Pen) (ts : List Token)
    → shown_characters (open_elements t p) (tokens_of (opening t p) ++ ts)
    ≡ shown_characters (elements p) ts
shown_opened Closed p ts = shown_open p.inline (is_plain p.look) p.link p.look ts
shown_opened Link p ts = shown_span p.inline (is_plain p.look) p.link p.look ts
shown_opened Open p ts = refl

shown_closed : (t : Tags) (p : Pen) (ts : List Token)
    → shown_characters (open_elements t p) (tokens_of (closing t p) ++ ts) ≡ shown_characters [] ts
shown_closed Closed p ts = refl
shown_closed Link p ts = shown_link_end p.link ts
shown_closed Open p ts = shown_close p.inline (is_plain p.look) p.link p.look ts

shown_restyled : (t : Tags) (p : Pen) (l : Look) (ts : List Token)
    → shown_characters (open_elements t p) (tokens_of (span_closing t p) ++ ts)
    ≡ shown_characters (open_elements (without_span t) (with_look p l)) ts
shown_restyled Closed p l ts = refl
shown_restyled Link p l ts = refl
shown_restyled Open p l ts = shown_span_end p.inline (is_plain p.look) p.link p.look ts

shown_before : (e : Bool) (g : State) (ts : List Token)
    → shown_characters (elements_at g) (tokens_of (before_character e g) ++ ts)
    ≡ shown_characters (elements_at (after_character e g)) ts
shown_before true g ts = shown_closed g.tags g.pen ts
shown_before false g ts = shown_opened g.tags g.pen ts

marked_same : (e : Bool) (g : State) (c : ℕ)
    → map (λ b. (b, elements_at (after_character e g))) (encode_utf8 c)
    ≡ marked_bytes (c, pen_at e g.pen) ++ []
marked_same true g c = sym (append-nil (map (λ b. (b, [])) (encode_utf8 c)))
marked_same false g c = sym (append-nil (map (λ b. (b, elements g.pen)) (encode_utf8 c)))

shown_character : (e : Bool) (g : State) (c : ℕ) (ts : List Token)
    → shown_characters (elements_at g)
    (tokens_of (before_character e g ++ text (encode_utf8 c) ∷ []) ++ ts)
    ≡ (marked_bytes (c, pen_at e g.pen) ++ [])
    ++ shown_characters (elements_at (after_character e g)) ts
shown_character e g c ts =
    let t = encode_utf8 c in
    let es = elements_at (after_character e g) in
    ap (λ x. shown_characters (elements_at g) (x ++ ts))
    (flat_map-append page_part_tokens (before_character e g) (text t ∷ []))
    ∙ ap (shown_characters (elements_at g))
    (append_assoc (tokens_of (before_character e g)) (map character t ++ []) ts)
    ∙ shown_before e g ((map character t ++ []) ++ ts)
    ∙ ap (λ x. shown_characters es (x ++ ts)) (append-nil (map character t))
    ∙ shown_text es t ts ∙ ap (λ x. x ++ shown_characters es ts) (marked_same e g c)

shown_step : (pl : Bool) (g : State) (s : Step) (ts : List Token)
    → shown_characters (elements_at g) (tokens_of (page_parts_by pl g s) ++ ts)
    ≡ flat_map marked_bytes (marked_character pl g.pen s)
    ++ shown_characters (elements_at (state_by pl g s)) ts
shown_step pl g (restyles l) ts = shown_restyled g.tags g.pen l ts
shown_step pl g (redirects k) ts = shown_closed g.tags g.pen ts
shown_step pl g (shows c) ts = shown_character (ends_line pl c) g c ts
shown_step pl g nothing ts = refl

after_same : (e : Bool) (g : State) → (after_character e g).pen ≡ pen_after e g.pen
after_same true g = refl
after_same false g = refl

pen_same : (pl : Bool) (g : State) (s : Step) → (state_by pl g s).pen ≡ pen_by pl g.pen s
pen_same pl g (restyles l) = refl
pen_same pl g (redirects k) = refl
pen_same pl g (shows c) = after_same (ends_line pl c) g
pen_same pl g nothing = refl

pub pages_show : {A : Type 0} (pl : Bool) (g : State) (vs : List (Value A))
    → shown_characters (elements_at g)
    (tokens_of (page_parts_from pl g vs ++ closing_parts (state_from pl g vs)))
    ≡ flat_map marked_bytes (marks pl g.pen vs)
pages_show pl g [] =
    ap (shown_characters (elements_at g)) (sym (append-nil (tokens_of (closing_parts g))))
    ∙ shown_closed g.tags g.pen []
pages_show pl g (v ∷ vs) =
    let s = step_of g.pen v in
    let rest = page_parts_from pl (state_by pl g s) vs in
    let last = closing_parts (state_from pl (state_by pl g s) vs) in
    ap (λ ps. shown_characters (elements_at g) (tokens_of ps))
    (append_assoc (page_parts_by pl g s) rest last)
    ∙ ap (shown_characters (elements_at g))
    (flat_map-append page_part_tokens (page_parts_by pl g s) (rest ++ last))
    ∙ shown_step pl g s (tokens_of (rest ++ last))
    ∙ ap (λ x. flat_map marked_bytes (marked_character pl g.pen s) ++ x)
    (pages_show pl (state_by pl g s) vs
    ∙ ap (λ p. flat_map marked_bytes (marks pl p vs)) (pen_same pl g s))
    ∙ sym (flat_map-append marked_bytes (marked_character pl g.pen s)
    (marks pl (pen_by pl g.pen s) vs))
