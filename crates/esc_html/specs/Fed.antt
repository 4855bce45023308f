-- The bytes that a page was fed.
use Rattle.std.specs.Prelude.{ℕ, ◌≡◌, ◌==◌, Bool, not, false, List, [], ◌∷◌, ◌++◌, Some}
use Rattle.std.specs.List.{flat_map}
use Rattle.esc_actions.specs.Values.{value_of}
use Rattle.esc_actions.specs.declared.action.Action.{Action}
use Rattle.esc_parse.specs.Fed.{IsBroken as IsBrokenParser, ParserHasConsumedWithin}
use Rattle.esc_html.specs.Bounds.{IsBoundedPagePart}
use Rattle.esc_html.specs.Marks.{Step, step_of}
use Rattle.esc_html.specs.Pages.{State, closing_parts, opening_tags, page_text, page_parts_by, state_by, state_of_stream}
use Rattle.esc_html.specs.PageParts.{escape_text, html_text}
use Rattle.esc_html.specs.declared.html_writer.HtmlWriter.{HtmlWriter}
use Rattle.esc_html.specs.declared.layout.Layout.{Layout}
use Rattle.esc_html.specs.declared.page.Page.{Page}
use Rattle.esc_html.specs.declared.tags.Tags.TheVariants.{Open}

-- the state of a page
abbrev pub state_of : {A : Type 0} → Page A → State
state_of p = record {
  pen = record {
    look = p.look.look;
    link = p.link;
    lines = p.lines;
    inline = p.layout.inline;
  };
  tags = p.tags;
}

-- its text
abbrev pub text_of : {A : Type 0} → Page A → List ℕ
text_of p = p.html

-- a page with more text, before which the tags are opened
abbrev pub with_text : {A : Type 0} → Page A → List ℕ → Page A
with_text p [] = p
with_text p (b ∷ t) = record p {
  html = p.html ++ (html_text (opening_tags (state_of p)) ++ flat_map escape_text (b ∷ t));
  tags = Open;
}

-- the layout stays, and the look
abbrev pub Stays : {A : Type 0} → Page A → Page A → Type 0
Stays p q = (q.layout ≡ p.layout) × (q.look ≡ p.look)

-- any character but DEL, for which terminals show nothing
abbrev pub is_visible : ℕ → Bool
is_visible c = not (c == 0x7f)

-- a step adds its parts to the text
pub record Adds {A : Type 0} (p : Page A) (s : Step) (q : Page A) : Type 0 where
  pub text : text_of q ≡ text_of p ++ html_text (page_parts_by p.layout.per_line (state_of p) s)
  pub state : state_of q ≡ state_by p.layout.per_line (state_of p) s
  pub layout : q.layout ≡ p.layout

-- an action adds the parts of its value
abbrev pub Takes : {A : Type 0} → Page A → Action A → Page A → Type 0
Takes p a q = Adds p (step_of (state_of p).pen (value_of a)) q

-- with classes, and each line by itself or not
abbrev pub with_classes : Bool → Layout
with_classes per_line = record {
  per_line = per_line;
  inline = false;
}

-- the writer was fed these bytes, and writes in this layout
pub record HasConsumed {A : Type 0} (limit : ℕ) (y : Layout) (s : List ℕ)
    (w : HtmlWriter A) : Type 0 where
  pub parser : ParserHasConsumedWithin (Some limit) s w.parser
  pub state : state_of w.page ≡ state_of_stream A (Some limit) y s
  pub layout : w.page.layout ≡ y

-- an earlier call was refused memory
abbrev pub IsBroken : {A : Type 0} → HtmlWriter A → Type 0
IsBroken w = IsBrokenParser w.parser

-- the text that the bytes fed last added
abbrev pub added_by : {A : Type 0} → HtmlWriter A → List ℕ
added_by w = text_of w.page

-- the tags that close those that are open
abbrev pub closing_of : {A : Type 0} → HtmlWriter A → List ℕ
closing_of w = html_text (closing_parts (state_of w.page))

-- this holds for each stream that the writer may have been fed
abbrev pub After : {A : Type 0} → HtmlWriter A → (ℕ → Layout → List ℕ → Type 0) → Type 0
After w C = (limit : ℕ) (y : Layout) (s : List ℕ) → HasConsumed limit y s w → C limit y s

-- the writer, which was fed s, was fed b too, and has the text that b adds, which is bounded
abbrev pub TakesIn : {A : Type 0} → ℕ → Layout → List ℕ → List ℕ → HtmlWriter A → Type 0
TakesIn {A} limit y s b w = HasConsumed limit y (s ++ b) w
    × (page_text A (Some limit) y (s ++ b) ≡ page_text A (Some limit) y s ++ added_by w)
    × IsBoundedPagePart b (added_by w)
