-- The bytes that a page in chunks was fed.
use Rattle.std.specs.Prelude.{ℕ, ◌≡◌, Bool, List, ◌++◌, Some}
use Rattle.std.specs.Global.{Global}
use Rattle.esc_html.specs.Pages.{closing_text}
use Rattle.esc_html.specs.Shown.{IsPage}
use Rattle.esc_html.specs.declared.layout.Layout.{Layout}
use Rattle.esc_calls.specs.InChunks.{Keeps, text_of}
use Rattle.esc_calls.specs.Kept.{page_in}
use Rattle.esc_calls.specs.PageStates.{IsFed, open_page}
use Rattle.esc_calls.specs.declared.in_chunks.InChunks.{InChunks}

-- the layout that these two say
abbrev pub layout_of : Bool → Bool → Layout
layout_of per_line is_inline = record {
  per_line = per_line;
  inline = is_inline;
}

-- it has begun, within this limit and in this layout, was fed these bytes, and its stream has not
-- ended
abbrev pub PageHasConsumed : ℕ → Layout → List ℕ → InChunks → Type 0
PageHasConsumed limit y s = Keeps page_in (IsFed limit y s)

-- The stream s has ended.
pub record Closes (limit : ℕ) (y : Layout) (s : List ℕ) (p : InChunks) : Type 0 where
  -- its text is the tags that close those that s left open
  pub text : text_of p ≡ closing_text Global (Some limit) y s
  -- and with it the texts of all chunks are a page: a browser's tokenizer reads nothing but
  -- characters, spans of looks and links to safe addresses, and shows the characters that the
  -- stream prints
  pub page : IsPage Global (Some limit) y s (open_page limit y s ++ text_of p)
