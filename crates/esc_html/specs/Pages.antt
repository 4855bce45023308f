-- The parts of a stream.
use Rattle.std.specs.Prelude.{ℕ, Bool, true, false, List, [], ◌∷◌, ◌++◌, Option, Some, None, is_some}
use Rattle.std.specs.Char.{encode_utf8}
use Rattle.esc_actions.specs.Meaning.{meaning_within}
use Rattle.esc_actions.specs.Values.{Value}
use Rattle.esc_style.specs.Looks.{is_plain}
use Rattle.esc_html.specs.Marks.{Pen, Step, restyles, redirects, shows, nothing, ends_line, next_line, plain_pen, step_of, with_link, with_look}
use Rattle.esc_html.specs.PageParts.{PagePart, html_text, link, link_end, span, span_end, text}
use Rattle.esc_style.specs.declared.look.Look.{Look}
use Rattle.esc_html.specs.declared.layout.Layout.{Layout}
use Rattle.esc_html.specs.declared.tags.Tags.{Tags}
use Rattle.esc_html.specs.declared.tags.Tags.TheVariants.{Closed, Link, Open}

-- the state of a page: the pen, and which tags of it are open
pub record State : Type 0 where
  pub pen : Pen
  pub tags : Tags

abbrev pub first_state : Bool → State
first_state b = record {
  pen = plain_pen b;
  tags = Closed;
}

abbrev pub link_opening : Option (List ℕ) → List PagePart
link_opening None = []
link_opening (Some a) = link a ∷ []

abbrev pub link_end_if : Bool → List PagePart
link_end_if true = link_end ∷ []
link_end_if false = []

-- a span, if the look is not plain
abbrev pub span_unless : Bool → Bool → Look → List PagePart
span_unless b true l = []
span_unless b false l = span b l ∷ []

abbrev pub span_end_unless : Bool → List PagePart
span_end_unless true = []
span_end_unless false = span_end ∷ []

-- The tags of a pen: a link, and in it a span. The tags that open those that are not open:
abbrev pub opening : Tags → Pen → List PagePart
opening Closed p = link_opening p.link ++ span_unless p.inline (is_plain p.look) p.look
opening Link p = span_unless p.inline (is_plain p.look) p.look
opening Open p = []

-- the tags that close those that are open
abbrev pub closing : Tags → Pen → List PagePart
closing Closed p = []
closing Link p = link_end_if (is_some p.link)
closing Open p = span_end_unless (is_plain p.look) ++ link_end_if (is_some p.link)

-- and the tags that close the span alone, so that the link stays open
abbrev pub span_closing : Tags → Pen → List PagePart
span_closing Closed p = []
span_closing Link p = []
span_closing Open p = span_end_unless (is_plain p.look)

abbrev pub without_span : Tags → Tags
without_span Closed = Closed
without_span Link = Link
without_span Open = Link

abbrev pub opening_tags : State → List PagePart
opening_tags g = opening g.tags g.pen

abbrev pub closing_parts : State → List PagePart
closing_parts g = closing g.tags g.pen

abbrev pub span_closed : State → List PagePart
span_closed g = span_closing g.tags g.pen

-- the same, but for the tags that are open
abbrev pub with_tags : State → Tags → State
with_tags g t = record g { tags = t }

-- the state after a character: at the end of a line the tags are closed, and else they are open
abbrev pub after_character : Bool → State → State
after_character true g = record {
  pen = next_line g.pen;
  tags = Closed;
}
after_character false g = with_tags g Open

-- the tags before it
abbrev pub before_character : Bool → State → List PagePart
before_character true g = closing_parts g
before_character false g = opening_tags g

-- the parts of a step
abbrev pub page_parts_by : Bool → State → Step → List PagePart
page_parts_by per_line g (restyles l) = span_closed g
page_parts_by per_line g (redirects k) = closing_parts g
page_parts_by per_line g (shows c) =
    before_character (ends_line per_line c) g ++ text (encode_utf8 c) ∷ []
page_parts_by per_line g nothing = []

-- the state after it
abbrev pub state_by : Bool → State → Step → State
state_by per_line g (restyles l) = record {
  pen = with_look g.pen l;
  tags = without_span g.tags;
}
state_by per_line g (redirects k) = record {
  pen = with_link g.pen k;
  tags = Closed;
}
state_by per_line g (shows c) = after_character (ends_line per_line c) g
state_by per_line g nothing = g

-- the parts of values, and the state after them
abbrev pub page_parts_from : {A : Type 0} → Bool → State → List (Value A) → List PagePart
page_parts_from per_line g [] = []
page_parts_from per_line g (v ∷ vs) =
    page_parts_by per_line g (step_of g.pen v)
    ++ page_parts_from per_line (state_by per_line g (step_of g.pen v)) vs

abbrev pub state_from : {A : Type 0} → Bool → State → List (Value A) → State
state_from per_line g [] = g
state_from per_line g (v ∷ vs) = state_from per_line (state_by per_line g (step_of g.pen v)) vs

-- those of a stream, if no more than the limit is kept of a segment
abbrev pub page_parts_of : Type 0 → Option ℕ → Layout → List ℕ → List PagePart
page_parts_of A limit y s =
    page_parts_from {A = A} y.per_line (first_state y.inline) (meaning_within limit s)

abbrev pub state_of_stream : Type 0 → Option ℕ → Layout → List ℕ → State
state_of_stream A limit y s =
    state_from {A = A} y.per_line (first_state y.inline) (meaning_within limit s)

-- its text, while it may go on
abbrev pub page_text : Type 0 → Option ℕ → Layout → List ℕ → List ℕ
page_text A limit y s = html_text (page_parts_of A limit y s)

-- the tags that close those that are open after it
abbrev pub closing_text : Type 0 → Option ℕ → Layout → List ℕ → List ℕ
closing_text A limit y s = html_text (closing_parts (state_of_stream A limit y s))
