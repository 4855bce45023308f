-- The bytes that a page was fed, within a limit and in a layout.
use Rattle.std.specs.Prelude.{ℕ, ◌≡◌, false, List, ◌++◌, Some}
use Rattle.std.specs.Global.{Global}
use Rattle.esc_html.specs.Fed.{HasConsumed}
use Rattle.esc_html.specs.Pages.{page_text}
use Rattle.esc_html.specs.declared.layout.Layout.{Layout}
use Rattle.esc_calls.specs.Kept.{state_text}
use Rattle.esc_calls.specs.declared.page_state.PageState.{PageState}

-- it was fed these bytes, and its stream has not ended
abbrev pub IsFed : ℕ → Layout → List ℕ → PageState → Type 0
IsFed limit y s p = HasConsumed {A = Global} limit y s p.writer × (p.has_ended ≡ false)

-- the page of a stream that goes on
abbrev pub open_page : ℕ → Layout → List ℕ → List ℕ
open_page limit y = page_text Global (Some limit) y

-- it was fed b after s, and has the text that b adds
abbrev pub IsFedMore : ℕ → Layout → List ℕ → List ℕ → PageState → Type 0
IsFedMore limit y s b p = IsFed limit y (s ++ b) p
    × (open_page limit y (s ++ b) ≡ open_page limit y s ++ state_text p)
