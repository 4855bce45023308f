-- The renditions that go on over a line feed, and the stream in which they are written again.
use Rattle.std.specs.Prelude.{ℕ, ◌≡◌, Bool, true, false, not, ◌&&◌, if◌then◌else◌, List, [], ◌∷◌, ◌++◌, IsTrue, Option}
use Rattle.std.specs.Str.{IsUtf8}
use Rattle.esc_actions.specs.Values.{Value}
use Rattle.esc_filter.specs.Closing.{after_values, joined_lists}
use Rattle.esc_filter.specs.Known.{ArePassedRenditions, IsPassedText}
use Rattle.esc_filter.specs.Lines.{IsLine, closed_by_lines_as, content, ends_line, is_line_feed, lines, passed_of_content, text_by_lines_as}
use Rattle.esc_filter.specs.Terminal.{as_at_start}
use Rattle.esc_filter.specs.declared.guard.Guard.{Guard}
use Rattle.esc_filter.specs.declared.terminal.Terminal.{Terminal}
use Rattle.esc_filter.specs.Pens.{pen_after, start_pen, text_of_pen}
use Rattle.esc_pen.specs.declared.pen.Pen.{Pen}

-- the control sequences that make the renditions which are on, if any may be
abbrev pub opening : Terminal → Option Pen → List ℕ
opening t p = if t.rendition then text_of_pen p else []

-- those that these values leave on
abbrev pub opening_left : {A : Type 0} → List (Value A) → List ℕ
opening_left vs = opening (after_values vs as_at_start) (pen_after vs (start_pen true))

-- those that a line with this content leaves on
abbrev pub opening_of : {A : Type 0} → Guard → ℕ → (Value A → Bool) → List ℕ → List ℕ
opening_of u limit admits x = opening_left (passed_of_content u limit admits x)

-- a line in which nothing comes before its line feed
abbrev pub is_blank : List ℕ → Bool
is_blank [] = false
is_blank (b ∷ s) = is_line_feed b

-- those that are on after lines, if these were before them: a blank line leaves them
abbrev pub opening_after : {A : Type 0} → Guard → ℕ → (Value A → Bool) → List ℕ → List (List ℕ)
    → List ℕ
opening_after u limit admits o [] = o
opening_after u limit admits o (l ∷ ls) =
    opening_after u limit admits
    (if is_blank l then o else opening_of u limit admits (content l)) ls

-- those that are on after the lines of a stream, if they are written again
abbrev pub opening_at : {A : Type 0} → Bool → Guard → ℕ → (Value A → Bool) → List ℕ → List ℕ
opening_at true u limit admits d = opening_after u limit admits [] (lines d)
opening_at false u limit admits d = []

-- those that are written before the byte b, after the stream d: at the beginning of a line that is
-- not blank
abbrev pub opening_before : {A : Type 0} → Bool → Guard → ℕ → (Value A → Bool) → List ℕ → ℕ
    → List ℕ
opening_before k u limit admits d b =
    if ends_line true d && not (is_line_feed b) then opening_at k u limit admits d else []

-- The stream d, and then bytes; each line but a blank one begins with the renditions that the lines
-- before it, as they are written, leave on; or, if k is false, the bytes as they came
abbrev pub resumed_from : {A : Type 0} → Bool → Guard → ℕ → (Value A → Bool) → List ℕ → List ℕ
    → List ℕ
resumed_from k u limit admits d [] = d
resumed_from k u limit admits d (b ∷ s) =
    resumed_from k u limit admits (d ++ (opening_before k u limit admits d b ++ b ∷ [])) s

abbrev pub resumed_stream : {A : Type 0} → Bool → Guard → ℕ → (Value A → Bool) → List ℕ → List ℕ
resumed_stream k u limit admits s = resumed_from k u limit admits [] s

-- The text that is written for a stream whose lines are streams of their own, and begin with the
-- renditions that go on; and for one that has ended.
abbrev pub resumed_text : {A : Type 0} → Bool → Guard → ℕ → (Value A → Bool) → List ℕ → List ℕ
resumed_text {A} k u limit admits s =
    text_by_lines_as {A = A} u limit admits (resumed_stream k u limit admits s)

abbrev pub resumed_closed : {A : Type 0} → Bool → Guard → ℕ → (Value A → Bool) → List ℕ → List ℕ
resumed_closed {A} k u limit admits s =
    closed_by_lines_as {A = A} u limit admits (resumed_stream k u limit admits s)

-- holds of lines that have ended, none of which leaves renditions on, if none were on before them
abbrev pub AreQuiet : {A : Type 0} → Guard → ℕ → (Value A → Bool) → List (List ℕ) → Type 0
AreQuiet u limit admits [] = Unit {0}
AreQuiet u limit admits (l ∷ ls) =
    IsLine l × (opening_after u limit admits [] (l ∷ []) ≡ []) × AreQuiet u limit admits ls

-- a stream of such lines
abbrev pub IsQuiet : {A : Type 0} → Guard → ℕ → (Value A → Bool) → List ℕ → Type 0
IsQuiet u limit admits s =
    (ls : List (List ℕ)) × (s ≡ joined_lists ls) × AreQuiet u limit admits ls

-- whatever is written for deceiving text, and whatever the limit is
abbrev pub LeavesNone : {A : Type 0} → (Value A → Bool) → List ℕ → Type 0
LeavesNone admits s = (u : Guard) (limit : ℕ) → IsQuiet u limit admits s

-- Lines that have ended, in UTF-8, which are written as they are if all text passes, and, if r,
-- also all renditions, and which leave none on
abbrev pub ArePlainLines : Type 0 → Bool → List ℕ → Type 0
ArePlainLines A r s = IsUtf8 s × (ends_line true s ≡ true)
    × ((u : Guard) (limit : ℕ) (admits : Value A → Bool) → IsPassedText admits
    → (IsTrue r → ArePassedRenditions admits)
    → (text_by_lines_as u limit admits s ≡ s) × IsQuiet u limit admits s)
