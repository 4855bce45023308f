-- The state that a stream in chunks keeps.
use Rattle.std.specs.Prelude.{ℕ, if◌then◌else◌, List, [], Option, None, Some}
use Rattle.std.specs.Global.{Global}
use Rattle.esc_filter.specs.Fed.{added_by as added_by_filter}
use Rattle.esc_filter.specs.declared.filter.Filter.{Filter}
use Rattle.esc_filter.specs.declared.policy.Policy.{Policy}
use Rattle.esc_html.specs.Fed.{added_by as added_by_page, closing_of}
use Rattle.esc_normal.specs.Normalising.{added_by as added_by_form}
use Rattle.esc_normal.specs.declared.normaliser.Normaliser.{Normaliser}
use Rattle.esc_calls.specs.declared.kept.Kept.{Kept}
use Rattle.esc_calls.specs.declared.kept.Kept.TheVariants as kept
use Rattle.esc_calls.specs.SanitizerStates.{state_text as sanitizer_text}
use Rattle.esc_calls.specs.Sanitizers.{Sanitizing}
use Rattle.esc_calls.specs.declared.page_state.PageState.{PageState}
use Rattle.esc_calls.specs.declared.sanitizer_state.SanitizerState.{SanitizerState}
use Rattle.esc_calls.specs.declared.screen_state.ScreenState.{ScreenState}

-- the text of a page: the text that the last chunk added, or the tags that close it
abbrev pub state_text : PageState → List ℕ
state_text p = if p.has_ended then closing_of p.writer else added_by_page p.writer

-- the text that the last call added
abbrev pub kept_text : Kept → List ℕ
kept_text (kept.Filter f) = added_by_filter f
kept_text (kept.Page p) = state_text p
kept_text (kept.Normal n) = added_by_form n
kept_text (kept.Sanitizer z) = sanitizer_text z
kept_text (kept.Screen x) = []

-- the filter, the page, the normaliser, the sanitizer and the screen that is kept, if it is one
abbrev pub filter_in : Option Kept → Option (Filter Policy Global)
filter_in None = None
filter_in (Some (kept.Filter f)) = Some f
filter_in (Some (kept.Page p)) = None
filter_in (Some (kept.Normal n)) = None
filter_in (Some (kept.Sanitizer z)) = None
filter_in (Some (kept.Screen x)) = None

abbrev pub page_in : Option Kept → Option PageState
page_in None = None
page_in (Some (kept.Filter f)) = None
page_in (Some (kept.Page p)) = Some p
page_in (Some (kept.Normal n)) = None
page_in (Some (kept.Sanitizer z)) = None
page_in (Some (kept.Screen x)) = None

abbrev pub normaliser_in : Option Kept → Option (Normaliser Global)
normaliser_in None = None
normaliser_in (Some (kept.Filter f)) = None
normaliser_in (Some (kept.Page p)) = None
normaliser_in (Some (kept.Normal n)) = Some n
normaliser_in (Some (kept.Sanitizer z)) = None
normaliser_in (Some (kept.Screen x)) = None

abbrev pub sanitizer_state_in : Option Kept → Option SanitizerState
sanitizer_state_in None = None
sanitizer_state_in (Some (kept.Filter f)) = None
sanitizer_state_in (Some (kept.Page p)) = None
sanitizer_state_in (Some (kept.Normal n)) = None
sanitizer_state_in (Some (kept.Sanitizer z)) = Some z
sanitizer_state_in (Some (kept.Screen x)) = None

abbrev pub sanitizer_in : Option Kept → Option Sanitizing
sanitizer_in None = None
sanitizer_in (Some (kept.Filter f)) = None
sanitizer_in (Some (kept.Page p)) = None
sanitizer_in (Some (kept.Normal n)) = None
sanitizer_in (Some (kept.Sanitizer z)) = Some z.sanitizer
sanitizer_in (Some (kept.Screen x)) = None

abbrev pub screen_in : Option Kept → Option ScreenState
screen_in None = None
screen_in (Some (kept.Filter f)) = None
screen_in (Some (kept.Page p)) = None
screen_in (Some (kept.Normal n)) = None
screen_in (Some (kept.Sanitizer z)) = None
screen_in (Some (kept.Screen x)) = Some x
