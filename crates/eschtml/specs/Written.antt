-- The output for a stream.
use Rattle.std.specs.Prelude.{ℕ, ◌≡◌, Bool, true, false, not, ◌&&◌, ◌||◌, if◌then◌else◌, List, ◌++◌, Option, None, Some, is_some, max}
use Rattle.esc_actions.specs.Values.{Value, csi}
use Rattle.esc_decode.specs.Decodings.{decoded_stream}
use Rattle.esc_filter.specs.Passing.{closed_text, passed_text}
use Rattle.esc_filter.specs.Rules.{admits}
use Rattle.esc_filter.specs.declared.policy.Policy.TheVariants.{Screen}
use Rattle.esc_html.specs.LinedPages.{IsLinedPage}
use Rattle.esc_html.specs.Lines.{in_lines, lined_page}
use Rattle.esc_html.specs.Marks.{is_shown}
use Rattle.esc_html.specs.Pages.{closing_text, page_text}
use Rattle.esc_html.specs.Shown.{IsPage}
use Rattle.esc_html.specs.declared.layout.Layout.{Layout}
use Rattle.line_collapse.specs.Fed.{final_after, left_after}
use Rattle.line_collapse.specs.Windows.{Size, window_size}
use Rattle.esc_style.specs.Looks.{look_after, plain_look}
use Rattle.esc_style.specs.declared.look.Look.{Look}
use Rattle.caret_notation.specs.Revealed.{revealed_as, revealed_whole_as}
use Rattle.caret_notation.specs.declared.marking.Marking.TheVariants.{Reversed}
use Rattle.eschtml.specs.Joined.{text_without_pairs}
use Rattle.eschtml.specs.declared.options.Options.{Options}

-- ---- pages

-- if lines are elements, no tag goes on over lines
abbrev pub layout_by : Option ℕ → Layout → Layout
layout_by None y = y
layout_by (Some n) y = record y { per_line = true }

-- the text of a page that goes on, and of one that has ended, with its lines in elements; this is
-- the number of the first
abbrev pub going_by : Option ℕ → List ℕ → List ℕ
going_by None t = t
going_by (Some n) t = lined_page n false t

abbrev pub ended_by : Option ℕ → List ℕ → List ℕ
ended_by None t = t
ended_by (Some n) t = in_lines n t

-- the HTML of a stream that has ended
abbrev pub page_of : Type 0 → ℕ → Layout → List ℕ → List ℕ
page_of A limit y s = page_text A (Some limit) y s ++ closing_text A (Some limit) y s

abbrev pub html_of : Type 0 → Options → List ℕ → List ℕ
html_of A o s = ended_by o.first (page_of A o.limit (layout_by o.first o.layout) s)

-- The text t is the HTML of the stream s: if it has ended, a page, with its lines in elements or
-- not.
abbrev pub IsPageBy : Type 0 → Option ℕ → ℕ → Layout → List ℕ → List ℕ → Type 0
IsPageBy A None limit y s t = IsPage A (Some limit) y s t
IsPageBy A (Some n) limit y s t = IsLinedPage A (Some limit) n y s t

-- And if it goes on, the first part of one.
abbrev pub IsHtml : Type 0 → Options → Bool → List ℕ → List ℕ → Type 0
IsHtml A o true s t = IsPageBy A o.first o.limit (layout_by o.first o.layout) s t
IsHtml A o false s t =
    t ≡ going_by o.first (page_text A (Some o.limit) (layout_by o.first o.layout) s)

-- ---- the text that shows actions that are left out

-- a look that text has which is shown, or which is not seen
abbrev pub has_disguise : Look → Bool
has_disguise l = l.inverse || l.concealed

-- a look that has both, and one whose reverse video was ended, but not by a reset
abbrev pub disguised_look : Look
disguised_look = record plain_look { inverse = true; concealed = true }

abbrev pub is_uncovered : Look → Bool
is_uncovered l = l.concealed && not l.inverse

-- a control sequence after which plain text is in reverse video, as shown text is, or concealed; or
-- one that ends reverse video, as the end of shown text does
abbrev pub disguises : {A : Type 0} → Value A → Bool
disguises (csi c) =
    has_disguise (look_after plain_look c) || is_uncovered (look_after disguised_look c)
disguises _ = false

-- actions that stay as they are: those that a page shows, and if the final lines are shown, those
-- that change the screen too; but for those that disguise
abbrev pub is_kept : {A : Type 0} → Bool → Value A → Bool
is_kept moves v = not (disguises v) && (is_shown v || (moves && admits Screen v))

-- a stream that goes on; or, if the actions that are left out are shown, its revealed text, in
-- reverse video, which goes on over neighbours
abbrev pub going_in : Type 0 → Bool → ℕ → Bool → List ℕ → List ℕ
going_in A shows limit moves s =
    if shows then text_without_pairs
    (revealed_as {A = A} Reversed false limit (is_kept moves) s) else s

-- the same for one that has ended
abbrev pub whole_in : Type 0 → Bool → ℕ → Bool → List ℕ → List ℕ
whole_in A shows limit moves s =
    if shows then text_without_pairs
    (revealed_whole_as {A = A} Reversed false limit (is_kept moves) s) else s

-- for the text that the stream becomes by its encoding
abbrev pub seen_by : Type 0 → Options → Bool → Bool → List ℕ → List ℕ
seen_by A o moves true s = whole_in A o.shows o.limit moves (decoded_stream o.encoding s)
seen_by A o moves false s = going_in A o.shows o.limit moves (decoded_stream o.encoding s)

-- ---- the final lines

-- a screen of so many rows, and of as many columns as the options say
abbrev pub size_of : Options → ℕ → Size
size_of o n = window_size (max n 1) o.columns

-- the text of the actions of a stream that change the screen, for one that goes on, and for one
-- that has ended
abbrev pub screen_text : Type 0 → ℕ → List ℕ → List ℕ
screen_text A limit s = passed_text {A = A} (Some limit) (admits Screen) s

abbrev pub whole_screen : Type 0 → ℕ → List ℕ → List ℕ
whole_screen A limit s = closed_text {A = A} (Some limit) (admits Screen) s

-- the stream; or, if so many rows may be written again, the final lines of the text that changes
-- the screen
abbrev pub shown_of : Type 0 → Options → Option ℕ → Bool → List ℕ → List ℕ
shown_of A o None b s = s
shown_of A o (Some n) true s = left_after A (size_of o n) (whole_screen A o.limit) s
shown_of A o (Some n) false s = final_after A (size_of o n) (screen_text A o.limit) s

-- the text that becomes HTML, of a stream that goes on or has ended
abbrev pub content_by : Type 0 → Options → Option ℕ → Bool → List ℕ → List ℕ
content_by A o rows b s = shown_of A o rows b (seen_by A o (is_some rows) b s)

-- ---- the output

-- the text of a stream that has ended
abbrev pub html_with : Type 0 → Options → Option ℕ → List ℕ → List ℕ
html_with A o rows s = html_of A o (content_by A o rows true s)

abbrev pub html_by : Type 0 → Options → List ℕ → List ℕ
html_by A o s = html_with A o o.rows s

-- the text t is the HTML of the stream s, by these options
abbrev pub IsHtmlWith : Type 0 → Options → Option ℕ → Bool → List ℕ → List ℕ → Type 0
IsHtmlWith A o rows b s t = IsHtml A o b (content_by A o rows b s) t

abbrev pub IsHtmlBy : Type 0 → Options → Bool → List ℕ → List ℕ → Type 0
IsHtmlBy A o b s t = IsHtmlWith A o o.rows b s t
